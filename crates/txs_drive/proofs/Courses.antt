-- How courses of the reference run go together, and what comes of them.
use Rattle.std.proofs.Common.{◌≡◌, ◌⊎◌, inl, inr, ℕ, Bool, true, false, List, [], ◌∷◌, ◌++◌, Option, refl, arith, append_assoc, append-nil, ap, subst, sym, ◌∙◌}
use Rattle.txs_outside.specs.declared.sut.SutEntry.{SutEntry}
use Rattle.txs_outside.specs.Causes.{Rose-before, Rose-after}
use Rattle.txs_outside.specs.Known.{Grows, Adds, Grows-none, Grows-then, Adds-none, Adds-then}
use Rattle.txs_session.specs.declared.doing.Doing.{Doing}
use Rattle.txs_session.specs.declared.doing.Doing.TheVariants.{Say, Dial, Wait, Send, HangUp, Idle, Quit}
use Rattle.txs_words.specs.declared.model.Model.{Model}
use Rattle.txs_session.specs.declared.note.Note.{Note}
use Rattle.txs_session.specs.Commands.{command_of}
use Rattle.txs_session.specs.Lines.{line_of}
use Rattle.txs_session.specs.Session.{State, Carries, done}
use Rattle.txs_drive.specs.Course.{Event, reads, does', dials, waits, sends, Leads, stays, reading, doing, dialling, waiting, sending, lines_in, notes_of, notes_in, text_of, has_quit, hung_by, hung_after, calls_in, AnyFailed}
use Rattle.txs_drive.specs.inner.CarriedOut.{CarriedOut, CallAnswered, IsLeft}

-- one course and then another
pub leads_then : (m : Model) (s t u : State) (a b : List Event) → Leads m s a t → Leads m t b u → Leads m s (a ++ b) u
leads_then m s t u a b stays k = k
leads_then m s t u a b (reading {es = es} line e c h) k = reading line e c (leads_then m _ t u es b h k)
leads_then m s t u a b (doing {es = es} d more e n h) k = doing d more e n (leads_then m _ t u es b h k)
leads_then m s t u a b (dialling {es = es} ok r e n h) k = dialling ok r e n (leads_then m _ t u es b h k)
leads_then m s t u a b (waiting {es = es} x r e n c h) k = waiting x r e n c (leads_then m _ t u es b h k)
leads_then m s t u a b (sending {es = es} v ok r e n h) k = sending v ok r e n (leads_then m _ t u es b h k)

pub lines_in-append : (a b : List Event) → lines_in (a ++ b) ≡ lines_in a ++ lines_in b
lines_in-append [] b = refl
lines_in-append (reads line ∷ a) b = ap (λ (q : List (List ℕ)). line ∷ q) (lines_in-append a b)
lines_in-append (does' d ∷ a) b = lines_in-append a b
lines_in-append (dials ok ∷ a) b = lines_in-append a b
lines_in-append (waits h ∷ a) b = lines_in-append a b
lines_in-append (sends v ok ∷ a) b = lines_in-append a b

pub notes_in-append : (a b : List Event) → notes_in (a ++ b) ≡ notes_in a ++ notes_in b
notes_in-append [] b = refl
notes_in-append (reads line ∷ a) b = notes_in-append a b
notes_in-append (does' d ∷ a) b = ap (λ (q : List Note). notes_of d ++ q) (notes_in-append a b) ∙ sym (append_assoc (notes_of d) (notes_in a) (notes_in b))
notes_in-append (dials ok ∷ a) b = notes_in-append a b
notes_in-append (waits h ∷ a) b = notes_in-append a b
notes_in-append (sends v ok ∷ a) b = notes_in-append a b

pub text_of-append : (m : Model) (a b : List Note) → text_of m (a ++ b) ≡ text_of m a ++ text_of m b
text_of-append m [] b = refl
text_of-append m (n ∷ a) b = ap (λ (q : List ℕ). line_of m n ++ q) (text_of-append m a b) ∙ sym (append_assoc (line_of m n) (text_of m a) (text_of m b))

pub hung_after-append : (a b : List Event) (h : Option ℕ) → hung_after (a ++ b) h ≡ hung_after b (hung_after a h)
hung_after-append [] b h = refl
hung_after-append (reads line ∷ a) b h = hung_after-append a b h
hung_after-append (does' d ∷ a) b h = hung_after-append a b (hung_by d h)
hung_after-append (dials ok ∷ a) b h = hung_after-append a b h
hung_after-append (waits x ∷ a) b h = hung_after-append a b h
hung_after-append (sends v ok ∷ a) b h = hung_after-append a b h

pub calls_in-append : (m : Model) (a b : List Event) (h : Option ℕ) → calls_in m (a ++ b) h ≡ calls_in m a h ++ calls_in m b (hung_after a h)
calls_in-append m [] b h = refl
calls_in-append m (reads line ∷ a) b h = calls_in-append m a b h
calls_in-append m (does' d ∷ a) b h = calls_in-append m a b (hung_by d h)
calls_in-append m (dials ok ∷ a) b h = ap (λ (q : List SutEntry). calls_in m (dials ok ∷ []) h ++ q) (calls_in-append m a b h)
calls_in-append m (waits x ∷ a) b h = ap (λ (q : List SutEntry). calls_in m (waits x ∷ []) h ++ q) (calls_in-append m a b h)
calls_in-append m (sends v ok ∷ a) b h = ap (λ (q : List SutEntry). calls_in m (sends v ok ∷ []) h ++ q) (calls_in-append m a b h)

pub any_cases : (a b : List Event) → AnyFailed (a ++ b) → AnyFailed a ⊎ AnyFailed b
any_cases [] b h = inr h
any_cases (e ∷ a) b (inl h) = inl (inl h)
any_cases (e ∷ a) b (inr h) = elim (any_cases a b h) [ inl l ↦ inl (inr l) | inr r ↦ inr r ]

any_front : (a b : List Event) → AnyFailed a → AnyFailed (a ++ b)
any_front [] b h = absurd h
any_front (e ∷ a) b (inl h) = inl h
any_front (e ∷ a) b (inr h) = inr (any_front a b h)

any_back : (a b : List Event) → AnyFailed b → AnyFailed (a ++ b)
any_back [] b h = h
any_back (e ∷ a) b h = inr (any_back a b h)

pub stays_then : (a b : List Event) → has_quit a ≡ false → has_quit b ≡ false → has_quit (a ++ b) ≡ false
stays_then [] b h k = k
stays_then (reads line ∷ a) b h k = stays_then a b h k
stays_then (does' (Say n) ∷ a) b h k = stays_then a b h k
stays_then (does' Dial ∷ a) b h k = stays_then a b h k
stays_then (does' Wait ∷ a) b h k = stays_then a b h k
stays_then (does' (Send v) ∷ a) b h k = stays_then a b h k
stays_then (does' HangUp ∷ a) b h k = stays_then a b h k
stays_then (does' Idle ∷ a) b h k = stays_then a b h k
stays_then (does' Quit ∷ a) b h k = cc
stays_then (dials ok ∷ a) b h k = stays_then a b h k
stays_then (waits x ∷ a) b h k = stays_then a b h k
stays_then (sends v ok ∷ a) b h k = stays_then a b h k

left_behind : (a b : List Event) → has_quit a ≡ false → IsLeft b → IsLeft (a ++ b)
left_behind a b n h = (a ++ h.0, ap (λ (q : List Event). a ++ q) h.1 ∙ sym (append_assoc a h.0 (does' Quit ∷ [])), stays_then a h.0 n h.2)

-- one stretch and then another
pub carried_out_then : (m : Model) (s t v : State) (k0 k1 k2 : Option (List ℕ)) (u0 u1 u2 : Option (List SutEntry)) (h0 h1 h2 : Option ℕ) (f0 f1 f2 : ℕ) (ls ms : List (List ℕ)) (q : Bool)
    → CarriedOut m s t k0 k1 u0 u1 h0 h1 f0 f1 ls false → CarriedOut m t v k1 k2 u1 u2 h1 h2 f1 f2 ms q → CarriedOut m s v k0 k2 u0 u2 h0 h2 f0 f2 (ls ++ ms) q
carried_out_then m s t v k0 k1 k2 u0 u1 u2 h0 h1 h2 f0 f1 f2 ls ms q a b = record {
  events = a.events ++ b.events;
  leads = leads_then m s t v a.events b.events a.leads b.leads;
  read = lines_in-append a.events b.events ∙ (ap (λ (z : List (List ℕ)). z ++ lines_in b.events) a.read ∙ ap (λ (z : List (List ℕ)). ls ++ z) b.read);
  text = subst (λ (z : List ℕ). Grows k0 k2 z) (sym (ap (text_of m) (notes_in-append a.events b.events) ∙ text_of-append m (notes_in a.events) (notes_in b.events)))
      (Grows-then k0 k1 k2 (text_of m (notes_in a.events)) (text_of m (notes_in b.events)) a.text b.text);
  calls = subst (λ (z : List SutEntry). Adds u0 u2 z) (sym (calls_in-append m a.events b.events h0))
      (Adds-then u0 u1 u2 (calls_in m a.events h0) (calls_in m b.events (hung_after a.events h0)) a.calls (subst (λ (h : Option ℕ). Adds u1 u2 (calls_in m b.events h)) a.hung b.calls));
  hung = b.hung ∙ (ap (hung_after b.events) a.hung ∙ sym (hung_after-append a.events b.events h0));
  later = omega (arith, a.later, b.later);
  caused = λ x. elim (any_cases a.events b.events x) [ inl l ↦ Rose-before f0 f1 f2 (a.caused l) b.later | inr r ↦ Rose-after f0 f1 f2 a.later (b.caused r) ];
  calm = λ n. b.calm (λ x. n (any_back a.events b.events x)) ∙ a.calm (λ x. n (any_front a.events b.events x));
  left = λ e. left_behind a.events b.events (a.stays refl) (b.left e);
  stays = λ e. stays_then a.events b.events (a.stays refl) (b.stays e);
}

-- a line was read
pub carried_out_line : (m : Model) (s t : State) (k : Option (List ℕ)) (u : Option (List SutEntry)) (h : Option ℕ) (f : ℕ) (line : List ℕ) → s.todo ≡ [] → Carries m (command_of m line) s t → CarriedOut m s t k k u u h h f f (line ∷ []) false
carried_out_line m s t k u h f line e c = record {
  events = reads line ∷ [];
  leads = reading line e c stays;
  read = refl;
  text = Grows-none k;
  calls = Adds-none u;
  hung = refl;
  later = omega arith;
  caused = λ x. elim x [ inl y ↦ absurd y | inr y ↦ absurd y ];
  calm = λ n. refl;
  left = λ x. cc;
  stays = λ _. refl;
}

-- the system was called
pub carried_out_call : (m : Model) (s t : State) (k : Option (List ℕ)) (u0 u1 : Option (List SutEntry)) (h0 h1 : Option ℕ) (f0 f1 : ℕ) → CallAnswered m s t u0 u1 h0 h1 f0 f1 → CarriedOut m s t k k u0 u1 h0 h1 f0 f1 [] false
carried_out_call m s t k u0 u1 h0 h1 f0 f1 c = record {
  events = c.event ∷ [];
  leads = c.leads;
  read = c.read;
  text = subst (λ (z : List Note). Grows k k (text_of m z)) (sym c.silent) (Grows-none k);
  calls = c.calls;
  hung = c.hung;
  later = c.later;
  caused = c.caused;
  calm = c.calm;
  left = λ x. cc;
  stays = λ _. c.stays;
}

-- a note was written
pub carried_out_say : (m : Model) (s t : State) (k0 k1 : Option (List ℕ)) (u : Option (List SutEntry)) (h : Option ℕ) (f : ℕ) (n : Note) (more : List Doing) (text : List ℕ)
    → s.todo ≡ Say n ∷ more → t ≡ done (Say n) more s → text ≡ line_of m n → Grows k0 k1 text → CarriedOut m s t k0 k1 u u h h f f [] false
carried_out_say m s t k0 k1 u h f n more text e d l w = record {
  events = does' (Say n) ∷ [];
  leads = doing (Say n) more e refl (subst (λ (x : State). Leads m (done (Say n) more s) [] x) (sym d) stays);
  read = refl;
  text = subst (λ (z : List ℕ). Grows k0 k1 z) (l ∙ sym (append-nil (line_of m n))) w;
  calls = Adds-none u;
  hung = refl;
  later = omega arith;
  caused = λ x. elim x [ inl y ↦ absurd y | inr y ↦ absurd y ];
  calm = λ n. refl;
  left = λ x. cc;
  stays = λ _. refl;
}

-- the ends were hung up
pub carried_out_hang_up : (m : Model) (s t : State) (k : Option (List ℕ)) (u0 u1 : Option (List SutEntry)) (h0 h1 : Option ℕ) (f0 f1 : ℕ) (more : List Doing)
    → s.todo ≡ HangUp ∷ more → t ≡ done HangUp more s → Adds u0 u1 [] → h1 ≡ hung_by HangUp h0 → f1 ≡ f0 → CarriedOut m s t k k u0 u1 h0 h1 f0 f1 [] false
carried_out_hang_up m s t k u0 u1 h0 h1 f0 f1 more e d a h f = record {
  events = does' HangUp ∷ [];
  leads = doing HangUp more e refl (subst (λ (x : State). Leads m (done HangUp more s) [] x) (sym d) stays);
  read = refl;
  text = Grows-none k;
  calls = a;
  hung = h;
  later = omega (arith, f);
  caused = λ x. elim x [ inl y ↦ absurd y | inr y ↦ absurd y ];
  calm = λ n. f;
  left = λ x. cc;
  stays = λ _. refl;
}

-- a command was carried out
pub carried_out_idle : (m : Model) (s t : State) (k : Option (List ℕ)) (u : Option (List SutEntry)) (h : Option ℕ) (f : ℕ) (more : List Doing)
    → s.todo ≡ Idle ∷ more → t ≡ done Idle more s → CarriedOut m s t k k u u h h f f [] false
carried_out_idle m s t k u h f more e d = record {
  events = does' Idle ∷ [];
  leads = doing Idle more e refl (subst (λ (x : State). Leads m (done Idle more s) [] x) (sym d) stays);
  read = refl;
  text = Grows-none k;
  calls = Adds-none u;
  hung = refl;
  later = omega arith;
  caused = λ x. elim x [ inl y ↦ absurd y | inr y ↦ absurd y ];
  calm = λ n. refl;
  left = λ x. cc;
  stays = λ _. refl;
}

-- the session ended
pub carried_out_quit : (m : Model) (s t : State) (k : Option (List ℕ)) (u : Option (List SutEntry)) (h : Option ℕ) (f : ℕ) (more : List Doing)
    → s.todo ≡ Quit ∷ more → t ≡ done Quit more s → CarriedOut m s t k k u u h h f f [] true
carried_out_quit m s t k u h f more e d = record {
  events = does' Quit ∷ [];
  leads = doing Quit more e refl (subst (λ (x : State). Leads m (done Quit more s) [] x) (sym d) stays);
  read = refl;
  text = Grows-none k;
  calls = Adds-none u;
  hung = refl;
  later = omega arith;
  caused = λ x. elim x [ inl y ↦ absurd y | inr y ↦ absurd y ];
  calm = λ n. refl;
  left = λ x. ([], refl, refl);
  stays = λ x. cc;
}

-- nothing happened
pub carried_out_nothing : (m : Model) (s : State) (k : Option (List ℕ)) (u : Option (List SutEntry)) (h : Option ℕ) (f : ℕ) → CarriedOut m s s k k u u h h f f [] false
carried_out_nothing m s k u h f = record {
  events = [];
  leads = stays;
  read = refl;
  text = Grows-none k;
  calls = Adds-none u;
  hung = refl;
  later = omega arith;
  caused = λ x. absurd x;
  calm = λ n. refl;
  left = λ x. cc;
  stays = λ _. refl;
}
