-- Where a session stops, over plain variables.
use Rattle.std.proofs.Common.{◌≡◌, ◌≤◌, ◌<◌, ◌+◌, inl, inr, ℕ, Bool, true, false, cond, List, [], ◌∷◌, ◌++◌, Option, None, Some, Result, Ok, Err, OnErr, IfErr, IsErrAnd, refl, arith, append_assoc, append-nil, take, drop, get_or, length, ap, subst, sym, ◌∙◌}
use Rattle.txs_outside.specs.declared.sut.SutEntry.{SutEntry}
use Rattle.txs_outside.specs.Causes.{Rose-before, Rose-after}
use Rattle.txs_outside.specs.Known.{Grows, Adds, Grows-none, Grows-then, Adds-none, Adds-then}
use Rattle.txs_drive.specs.declared.driver.Stop.{Stop}
use Rattle.txs_drive.specs.declared.driver.Stop.TheVariants as stop
use Rattle.txs_session.specs.declared.doing.Doing.{Doing}
use Rattle.txs_session.specs.declared.doing.Doing.TheVariants.{Say}
use Rattle.txs_drive.specs.declared.feed.Read.{Read}
use Rattle.txs_drive.specs.declared.feed.Read.TheVariants as read
use Rattle.txs_words.specs.declared.model.Model.{Model}
use Rattle.txs_session.specs.declared.note.Note.{Note}
use Rattle.txs_session.specs.Lines.{line_of}
use Rattle.txs_session.specs.Session.{Run, State, dialled_of}
use Rattle.txs_session.specs.Ready.{IsFresh}
use Rattle.txs_drive.specs.Course.{Event, dials, stays, lines_in, notes_in, text_of, hung_after, calls_in, due_in}
use Rattle.txs_drive.specs.Cut.{Torn, IsUnheeded, dialled_by}
use Rattle.txs_drive.specs.inner.CarriedOut.{HasNoFeed, joined, CarriedOut, LinesCarriedOut}
use Rattle.txs_drive.specs.inner.Stopped.{Stopped, StoppedInBytes}
use Rattle.txs_drive.proofs.Courses.{leads_then, lines_in-append, notes_in-append, text_of-append, hung_after-append, calls_in-append, any_cases, stays_then}
use Rattle.txs_drive.proofs.Feeding.{all-append, joined-append, take_step, take_rest}
use Rattle.txs_drive.proofs.Told.{unheeded_undue}

-- ---- answers and failures

pub on_err : {A E P : Type 0} (r : Result A E) → P → OnErr r P
on_err (Ok x) p = tt
on_err (Err e) p = p

pub if_err : {A E : Type 0} (P Q : E → Type 0) (e : E) (r : Result A E) → IsErrAnd r Q → ((y : E) → Q y → y ≡ e) → P e → IfErr r P
if_err P Q e (Ok x) h k p = tt
if_err P Q e (Err y) h k p = subst P (sym (k y h)) p

pub ok_no_stop : {A : Type 0} (x : A) → Ok x ≡ Err stop.Sink → ⊥
ok_no_stop x e = cc

-- a read that gave bytes did not fail
pub bytes_no_fault : {E : Type 0} (r : Read) (p : List ℕ) → r ≡ read.Bytes p → ◌≡◌ {A = Result Read E} (Ok r) (Ok read.Failed) → ⊥
bytes_no_fault r p e f = cc

-- ---- a session that stops

-- before anything was done
pub stopped_here : (m : Model) (s : State) (n : ℕ) (k : Option (List ℕ)) (u : Option (List SutEntry)) (h : Option ℕ) (f : ℕ) (lines : List (List ℕ))
    → due_in s.todo ≡ [] → n ≡ dialled_of s.run → Stopped stop.NoMemory m s n k k u u h h f f lines
stopped_here m s n k u h f lines z e = record {
  events = [];
  behind = lines;
  final = s;
  tail = [];
  unheeded = [];
  leads = stays;
  read = refl;
  unquit = refl;
  text = Grows-none k;
  torn = (refl, z);
  calls = Adds-none u;
  due = tt;
  hung = refl;
  later = omega arith;
  caused = λ x. absurd x;
  ends = e;
}

-- after a call that was answered
pub stopped_unheeded : (m : Model) (s : State) (n : ℕ) (k : Option (List ℕ)) (u0 u1 : Option (List SutEntry)) (h0 h1 : Option ℕ) (f0 f1 : ℕ) (e : Event)
    → IsUnheeded s (e ∷ []) → Adds u0 u1 (calls_in m (e ∷ []) h0) → h1 ≡ h0 → f0 ≤ f1 → n ≡ dialled_by (e ∷ []) (dialled_of s.run) → Stopped stop.NoMemory m s n k k u0 u1 h0 h1 f0 f1 []
stopped_unheeded m s n k u0 u1 h0 h1 f0 f1 e due a h l d = record {
  events = [];
  behind = [];
  final = s;
  tail = [];
  unheeded = e ∷ [];
  leads = stays;
  read = refl;
  unquit = refl;
  text = Grows-none k;
  torn = (refl, unheeded_undue s e due);
  calls = a;
  due = due;
  hung = h;
  later = l;
  caused = λ x. absurd x;
  ends = d;
}

-- in the midst of a line
pub stopped_torn : (m : Model) (s : State) (d : ℕ) (k0 k1 : Option (List ℕ)) (u : Option (List SutEntry)) (h : Option ℕ) (f : ℕ) (n : Note) (more : List Doing) (line : List ℕ)
    → s.todo ≡ Say n ∷ more → line ≡ line_of m n → Torn k0 k1 line → d ≡ dialled_of s.run → Stopped stop.Sink m s d k0 k1 u u h h f f []
stopped_torn m s d k0 k1 u h f n more line e is t q = record {
  events = [];
  behind = [];
  final = s;
  tail = t.0;
  unheeded = [];
  leads = stays;
  read = refl;
  unquit = refl;
  text = t.2;
  torn = (n, more, e, (t.1.0, sym is ∙ t.1.1, t.1.2));
  calls = Adds-none u;
  due = tt;
  hung = refl;
  later = omega arith;
  caused = λ x. absurd x;
  ends = q;
}

pub fresh_none : (r : Option Run) → IsFresh r → dialled_of r ≡ 0
fresh_none None h = refl
fresh_none (Some r) h = h.2

-- after the answer to a dial
pub dial_ends : (ok : Bool) (n d : ℕ) → n ≡ cond ok 1 0 → d ≡ 0 → n ≡ dialled_by (dials ok ∷ []) d
dial_ends true n d e z = e
dial_ends false n d e z = e ∙ sym z

calls_then : (m : Model) (a b c : List Event) (h0 h1 : Option ℕ) → h1 ≡ hung_after a h0 → calls_in m a h0 ++ calls_in m (b ++ c) h1 ≡ calls_in m ((a ++ b) ++ c) h0
calls_then m a b c h0 h1 e =
    ap (λ (h : Option ℕ). calls_in m a h0 ++ calls_in m (b ++ c) h) e
    ∙ (sym (calls_in-append m a (b ++ c) h0) ∙ ap (λ (z : List Event). calls_in m z h0) (sym (append_assoc a b c)))

text_then : (m : Model) (a b : List Event) (tail : List ℕ) → text_of m (notes_in a) ++ (text_of m (notes_in b) ++ tail) ≡ text_of m (notes_in (a ++ b)) ++ tail
text_then m a b tail =
    sym (append_assoc (text_of m (notes_in a)) (text_of m (notes_in b)) tail)
    ∙ ap (λ (z : List ℕ). z ++ tail) (sym (ap (text_of m) (notes_in-append a b) ∙ text_of-append m (notes_in a) (notes_in b)))

lines_then : (a b : List Event) (ls ms behind : List (List ℕ)) → lines_in a ≡ ls → ms ≡ lines_in b ++ behind → ls ++ ms ≡ lines_in (a ++ b) ++ behind
lines_then a b ls ms behind e f =
    ap (λ (z : List (List ℕ)). ls ++ z) f
    ∙ (ap (λ (z : List (List ℕ)). z ++ (lines_in b ++ behind)) (sym e)
    ∙ (sym (append_assoc (lines_in a) (lines_in b) behind) ∙ ap (λ (z : List (List ℕ)). z ++ behind) (sym (lines_in-append a b))))

-- one stretch, and then a stop
pub stopped_after : (x : Stop) (m : Model) (s t : State) (n : ℕ) (k0 k1 k2 : Option (List ℕ)) (u0 u1 u2 : Option (List SutEntry)) (h0 h1 h2 : Option ℕ) (f0 f1 f2 : ℕ) (ls ms : List (List ℕ))
    → CarriedOut m s t k0 k1 u0 u1 h0 h1 f0 f1 ls false → Stopped x m t n k1 k2 u1 u2 h1 h2 f1 f2 ms → Stopped x m s n k0 k2 u0 u2 h0 h2 f0 f2 (ls ++ ms)
stopped_after x m s t n k0 k1 k2 u0 u1 u2 h0 h1 h2 f0 f1 f2 ls ms a b = record {
  events = a.events ++ b.events;
  behind = b.behind;
  final = b.final;
  tail = b.tail;
  unheeded = b.unheeded;
  leads = leads_then m s t b.final a.events b.events a.leads b.leads;
  read = lines_then a.events b.events ls ms b.behind a.read b.read;
  unquit = stays_then a.events b.events (a.stays refl) b.unquit;
  text = subst (λ (z : List ℕ). Grows k0 k2 z) (text_then m a.events b.events b.tail)
      (Grows-then k0 k1 k2 (text_of m (notes_in a.events)) (text_of m (notes_in b.events) ++ b.tail) a.text b.text);
  torn = b.torn;
  calls = subst (λ (z : List SutEntry). Adds u0 u2 z) (calls_then m a.events b.events b.unheeded h0 h1 a.hung)
      (Adds-then u0 u1 u2 (calls_in m a.events h0) (calls_in m (b.events ++ b.unheeded) h1) a.calls b.calls);
  due = b.due;
  hung = b.hung ∙ (ap (hung_after b.events) a.hung ∙ sym (hung_after-append a.events b.events h0));
  later = omega (arith, a.later, b.later);
  caused = λ x. elim (any_cases a.events b.events x) [ inl l ↦ Rose-before f0 f1 f2 (a.caused l) b.later | inr r ↦ Rose-after f0 f1 f2 a.later (b.caused r) ];
  ends = b.ends;
}

-- ---- in the midst of bytes

-- at a line of which the feed was read
pub stopped_in_line : (x : Stop) (m : Model) (s : State) (n : ℕ) (k0 k1 : Option (List ℕ)) (u0 u1 : Option (List SutEntry)) (h0 h1 : Option ℕ) (f0 f1 : ℕ) (line : List ℕ) (b : ℕ)
    → b ≡ 10 → HasNoFeed line → Stopped x m s n k0 k1 u0 u1 h0 h1 f0 f1 (line ∷ []) → StoppedInBytes x m s n k0 k1 u0 u1 h0 h1 f0 f1 (line ++ b ∷ [])
stopped_in_line x m s n k0 k1 u0 u1 h0 h1 f0 f1 line b e nf y = record {
  lines = line ∷ [];
  rest = [];
  split = ap (λ (c : ℕ). line ++ c ∷ []) e ∙ sym (append-nil (line ++ 10 ∷ []));
  each = (nf, tt);
  stopped = y;
}

-- in the midst of a line
pub stopped_in_part : (m : Model) (s : State) (n : ℕ) (k : Option (List ℕ)) (u : Option (List SutEntry)) (h : Option ℕ) (f : ℕ) (bytes : List ℕ)
    → s.todo ≡ [] → n ≡ dialled_of s.run → StoppedInBytes stop.NoMemory m s n k k u u h h f f bytes
stopped_in_part m s n k u h f bytes z e = record {
  lines = [];
  rest = bytes;
  split = refl;
  each = tt;
  stopped = stopped_here m s n k u h f [] (ap due_in z) e;
}

-- before more bytes
pub stopped_in_more : (x : Stop) (m : Model) (s : State) (n : ℕ) (k0 k1 : Option (List ℕ)) (u0 u1 : Option (List SutEntry)) (h0 h1 : Option ℕ) (f0 f1 : ℕ) (bytes more : List ℕ)
    → StoppedInBytes x m s n k0 k1 u0 u1 h0 h1 f0 f1 bytes → StoppedInBytes x m s n k0 k1 u0 u1 h0 h1 f0 f1 (bytes ++ more)
stopped_in_more x m s n k0 k1 u0 u1 h0 h1 f0 f1 bytes more y = record {
  lines = y.lines;
  rest = y.rest ++ more;
  split = ap (λ (z : List ℕ). z ++ more) y.split ∙ append_assoc (joined y.lines) y.rest more;
  each = y.each;
  stopped = y.stopped;
}

-- after bytes whose lines were carried out
pub stopped_in_bytes_after : (x : Stop) (m : Model) (s t : State) (n : ℕ) (k0 k1 k2 : Option (List ℕ)) (u0 u1 u2 : Option (List SutEntry)) (h0 h1 h2 : Option ℕ) (f0 f1 f2 : ℕ) (bytes more pending : List ℕ)
    → LinesCarriedOut m s t k0 k1 u0 u1 h0 h1 f0 f1 bytes pending false → StoppedInBytes x m t n k1 k2 u1 u2 h1 h2 f1 f2 (pending ++ more) → StoppedInBytes x m s n k0 k2 u0 u2 h0 h2 f0 f2 (bytes ++ more)
stopped_in_bytes_after x m s t n k0 k1 k2 u0 u1 u2 h0 h1 h2 f0 f1 f2 bytes more pending a b = record {
  lines = a.lines ++ b.lines;
  rest = b.rest;
  split = ap (λ (z : List ℕ). z ++ more) a.split
      ∙ (append_assoc (joined a.lines) pending more
      ∙ (ap (λ (z : List ℕ). joined a.lines ++ z) b.split
      ∙ (sym (append_assoc (joined a.lines) (joined b.lines) b.rest) ∙ ap (λ (z : List ℕ). z ++ b.rest) (sym (joined-append a.lines b.lines)))));
  each = all-append HasNoFeed a.lines b.lines a.each b.each;
  stopped = stopped_after x m s t n k0 k1 k2 u0 u1 u2 h0 h1 h2 f0 f1 f2 a.lines b.lines a.went b.stopped;
}

-- in the midst of a read, at this byte
pub stopped_in_read : (x : Stop) (m : Model) (s t : State) (n : ℕ) (k0 k1 k2 : Option (List ℕ)) (u0 u1 u2 : Option (List SutEntry)) (h0 h1 h2 : Option ℕ) (f0 f1 f2 : ℕ) (p got : List ℕ) (i : ℕ) (pending : List ℕ)
    → i < length got → LinesCarriedOut m s t k0 k1 u0 u1 h0 h1 f0 f1 (p ++ take i got) pending false → StoppedInBytes x m t n k1 k2 u1 u2 h1 h2 f1 f2 (pending ++ get_or got i 0 ∷ [])
    → StoppedInBytes x m s n k0 k2 u0 u2 h0 h2 f0 f2 (p ++ got)
stopped_in_read x m s t n k0 k1 k2 u0 u1 u2 h0 h1 h2 f0 f1 f2 p got i pending h a b =
    subst (λ (z : List ℕ). StoppedInBytes x m s n k0 k2 u0 u2 h0 h2 f0 f2 z) (take_rest p got (i + 1))
    (stopped_in_more x m s n k0 k2 u0 u2 h0 h2 f0 f2 (p ++ take (i + 1) got) (drop (i + 1) got)
    (subst (λ (z : List ℕ). StoppedInBytes x m s n k0 k2 u0 u2 h0 h2 f0 f2 z) (take_step p got i h)
    (stopped_in_bytes_after x m s t n k0 k1 k2 u0 u1 u2 h0 h1 h2 f0 f1 f2 (p ++ take i got) (get_or got i 0 ∷ []) pending a b)))
