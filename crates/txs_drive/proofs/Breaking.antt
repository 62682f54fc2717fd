-- The commands of a source that are carried out up to some place, and the session that is cut short there.
use Rattle.std.proofs.Common.{◌≡◌, ◌≤◌, ◌+◌, inl, inr, ℕ, Bool, true, List, [], ◌++◌, Option, length, refl, sym, ◌∙◌, ap, append-nil, append_assoc, subst, arith, length-append}
use Rattle.std.specs.List.{AllByRecursion}
use Rattle.txs_outside.specs.declared.sut.SutEntry.{SutEntry}
use Rattle.txs_outside.specs.Causes.{Rose}
use Rattle.txs_outside.specs.Known.{Grows, Loses, Tells, Adds, Grows-then, Adds-then}
use Rattle.txs_drive.specs.declared.driver.Stop.{Stop}
use Rattle.txs_drive.specs.declared.driver.Stop.TheVariants as stop
use Rattle.txs_words.specs.declared.model.Model.{Model}
use Rattle.txs_session.specs.Session.{State, at_start, dialled_of}
use Rattle.txs_drive.specs.Course.{lines_in, notes_in, text_of, hung_after, calls_in, sent_in, told_in, due_in}
use Rattle.txs_drive.specs.Served.{Ending, open', end, command_lines, last_part, last_of}
use Rattle.txs_drive.specs.Cut.{Cut, by_sink, by_memory, CutShort, Torn, IsTail, IsTold, no_memory, dialled_by}
use Rattle.txs_drive.specs.inner.CarriedOut.{HasNoFeed, joined}
use Rattle.txs_drive.specs.inner.Stopped.{IsRest, Stopped, StoppedInBytes, StoppedInCommands}
use Rattle.txs_drive.proofs.Courses.{hung_after-append}
use Rattle.txs_drive.proofs.Feeding.{commands_joined, commands_part}
use Rattle.txs_drive.proofs.Losing.{loses_then, loses_all}
use Rattle.txs_drive.proofs.Talking.{Talked}
use Rattle.txs_drive.proofs.Told.{sent_told, all_told}
use Rattle.txs_drive.proofs.Noted.{link_failed}
use Rattle.txs_drive.proofs.Hanging.{hung_once_cut}
use Rattle.txs_drive.proofs.Stops.{stopped_here, stopped_after, stopped_in_bytes_after}

lines_read : (e : Ending) (bytes rest : List ℕ) (lines : List (List ℕ)) → bytes ≡ joined lines ++ rest → AllByRecursion HasNoFeed lines → command_lines bytes e ≡ lines ++ command_lines rest e
lines_read e bytes rest lines split each = ap (λ (b : List ℕ). command_lines b e) split ∙ commands_joined e lines rest each

-- between two reads
pub broke_read : (m : Model) (t : State) (d : ℕ) (g0 g1 g2 l0 l1 l2 : Option (List ℕ)) (at_end : Bool) (k0 k1 : Option (List ℕ)) (u0 u1 : Option (List SutEntry)) (h0 h1 : Option ℕ) (f0 f1 n : ℕ) (pending bytes : List ℕ)
    → Talked m t g0 g1 l0 l1 k0 k1 u0 u1 h0 h1 f0 f1 n pending → Grows g1 g2 bytes → Loses l1 l2 bytes → n ≤ 16777216 → length bytes + n ≤ 16777217 → t.todo ≡ [] → d ≡ dialled_of t.run
    → StoppedInCommands stop.NoMemory m d g0 g2 l0 l2 at_end k0 k1 u0 u1 h0 h1 f0 f1
broke_read m t d g0 g1 g2 l0 l1 l2 at_end k0 k1 u0 u1 h0 h1 f0 f1 n pending bytes x g lo within most z e = record {
  given = x.given ++ bytes;
  commands = x.given;
  unread = bytes;
  ending = open';
  lines = x.took.lines ++ command_lines pending open';
  behind = [];
  gave = Grows-then g0 g1 g2 x.given bytes x.gave g;
  lost = loses_then l0 l1 l2 x.given bytes x.lost lo;
  split = refl;
  within = omega (arith, x.count, within);
  most = omega (arith, length-append x.given bytes, x.count, most);
  ended = inl refl;
  read = lines_read open' x.given pending x.took.lines x.took.split x.took.each ∙ sym (append-nil (x.took.lines ++ command_lines pending open'));
  stopped = stopped_after stop.NoMemory m at_start t d k0 k1 k1 u0 u1 u1 h0 h1 h1 f0 f1 f1 x.took.lines (command_lines pending open') x.took.went (stopped_here m t d k1 u1 h1 f1 (command_lines pending open') (ap due_in z) e);
}

-- in the midst of the bytes of a read
pub broke_bytes : (y : Stop) (m : Model) (t : State) (d : ℕ) (g0 g1 g2 l0 l1 l2 : Option (List ℕ)) (at_end : Bool) (k0 k1 k2 : Option (List ℕ)) (u0 u1 u2 : Option (List SutEntry)) (h0 h1 h2 : Option ℕ) (f0 f1 f2 n : ℕ) (pending got : List ℕ)
    → Talked m t g0 g1 l0 l1 k0 k1 u0 u1 h0 h1 f0 f1 n pending → Grows g1 g2 got → Loses l1 l2 got → n + length got ≤ 16777216 → StoppedInBytes y m t d k1 k2 u1 u2 h1 h2 f1 f2 (pending ++ got)
    → StoppedInCommands y m d g0 g2 l0 l2 at_end k0 k2 u0 u2 h0 h2 f0 f2
broke_bytes y m t d g0 g1 g2 l0 l1 l2 at_end k0 k1 k2 u0 u1 u2 h0 h1 h2 f0 f1 f2 n pending got x g lo within s =
    let all = stopped_in_bytes_after y m at_start t d k0 k1 k2 u0 u1 u2 h0 h1 h2 f0 f1 f2 x.given got pending x.took s in
    record {
      given = x.given ++ got;
      commands = x.given ++ got;
      unread = [];
      ending = open';
      lines = all.lines;
      behind = command_lines all.rest open';
      gave = Grows-then g0 g1 g2 x.given got x.gave g;
      lost = loses_then l0 l1 l2 x.given got x.lost lo;
      split = sym (append-nil (x.given ++ got));
      within = omega (arith, length-append x.given got, x.count, within);
      most = omega (arith, length-append x.given got, x.count, within);
      ended = inl refl;
      read = lines_read open' (x.given ++ got) all.rest all.lines all.split all.each;
      stopped = all.stopped;
    }

-- in the last line
pub broke_last : (y : Stop) (m : Model) (t : State) (d : ℕ) (g0 g1 g2 l0 l1 l2 : Option (List ℕ)) (at_end : Bool) (k0 k1 k2 : Option (List ℕ)) (u0 u1 u2 : Option (List SutEntry)) (h0 h1 h2 : Option ℕ) (f0 f1 f2 n : ℕ) (pending line : List ℕ)
    → Talked m t g0 g1 l0 l1 k0 k1 u0 u1 h0 h1 f0 f1 n pending → Grows g1 g2 [] → Loses l1 l2 [] → n ≤ 16777216 → HasNoFeed pending → (at_end ≡ true) × Tells l1 [] → line ≡ pending
    → Stopped y m t d k1 k2 u1 u2 h1 h2 f1 f2 (last_part end line)
    → StoppedInCommands y m d g0 g2 l0 l2 at_end k0 k2 u0 u2 h0 h2 f0 f2
broke_last y m t d g0 g1 g2 l0 l1 l2 at_end k0 k1 k2 u0 u1 u2 h0 h1 h2 f0 f1 f2 n pending line x g lo within nf ended e s = record {
  given = x.given ++ [];
  commands = x.given ++ [];
  unread = [];
  ending = end;
  lines = x.took.lines ++ last_part end line;
  behind = [];
  gave = Grows-then g0 g1 g2 x.given [] x.gave g;
  lost = loses_then l0 l1 l2 x.given [] x.lost lo;
  split = sym (append-nil (x.given ++ []));
  within = omega (arith, length-append x.given [], x.count, within);
  most = omega (arith, length-append x.given [], x.count, within);
  ended = inr (refl, ended.0, refl, loses_all l0 l1 x.given x.lost ended.1);
  read = ap (λ (b : List ℕ). command_lines b end) (append-nil x.given)
      ∙ (lines_read end x.given pending x.took.lines x.took.split x.took.each
      ∙ (ap (λ (l : List (List ℕ)). x.took.lines ++ l) (commands_part end pending nf)
      ∙ (ap (λ (z : List ℕ). x.took.lines ++ last_part end z) (sym e) ∙ sym (append-nil (x.took.lines ++ last_part end line)))));
  stopped = stopped_after y m at_start t d k0 k1 k2 u0 u1 u2 h0 h1 h2 f0 f1 f2 x.took.lines (last_part end line) x.took.went s;
}

-- ---- the session

lines_cut : (e : Ending) (commands : List ℕ) (lines a b c : List (List ℕ)) → command_lines commands e ≡ lines ++ a → lines ≡ b ++ c → command_lines commands e ≡ b ++ (c ++ a)
lines_cut e commands lines a b c h k = h ∙ (ap (λ (z : List (List ℕ)). z ++ a) k ∙ append_assoc b c a)

-- the ends that are dialled were hung up after it
cut_short : (y : Stop) (cut : Cut) (m : Model) (d : ℕ) (g0 g1 l0 l1 : Option (List ℕ)) (at_end : Bool) (k0 k1 k2 : Option (List ℕ)) (u0 u1 u2 : Option (List SutEntry)) (h0 h1 h2 : Option ℕ) (f0 f1 f2 : ℕ) (tail : List ℕ)
    → (x : StoppedInCommands y m d g0 g1 l0 l1 at_end k0 k1 u0 u1 h0 h1 f0 f1) → Adds u1 u2 [] → h2 ≡ hung_after (last_of d) h1 → f2 ≡ f1
    → Grows k0 k2 (text_of m (notes_in x.stopped.events) ++ tail) → IsTail cut m x.stopped.final tail
    → IsTold cut x.stopped.final (sent_in x.stopped.events) (told_in (notes_in x.stopped.events))
    → CutShort cut m g0 g1 l0 l1 at_end k0 k2 u0 u2 h0 h2 f0 f2
cut_short y cut m d g0 g1 l0 l1 at_end k0 k1 k2 u0 u1 u2 h0 h1 h2 f0 f1 f2 tail x a h e text torn told =
    let s = x.stopped in
    record {
      given = x.given;
      commands = x.commands;
      unread = x.unread;
      ending = x.ending;
      events = s.events;
      behind = s.behind ++ x.behind;
      final = s.final;
      tail = tail;
      unheeded = s.unheeded;
      gave = x.gave;
      lost = x.lost;
      split = x.split;
      within = x.within;
      most = x.most;
      ended = x.ended;
      leads = s.leads;
      lines = lines_cut x.ending x.commands x.lines x.behind (lines_in s.events) s.behind x.read s.read;
      unquit = s.unquit;
      text = text;
      torn = torn;
      calls = subst (λ (z : List SutEntry). Adds u0 u2 z) (append-nil (calls_in m (s.events ++ s.unheeded) h0)) (Adds-then u0 u1 u2 (calls_in m (s.events ++ s.unheeded) h0) [] s.calls a);
      due = s.due;
      hang_ups = h ∙ (ap (hung_after (last_of d)) s.hung
          ∙ (ap (λ (n : ℕ). hung_after (last_of n) (hung_after s.events h0)) s.ends
          ∙ sym (hung_after-append s.events (last_of (dialled_by s.unheeded (dialled_of s.final.run))) h0)));
      told = told;
      once = hung_once_cut m s.final s.events s.unheeded s.leads s.due;
      later = omega (arith, s.later, e);
      link = λ n. subst (λ (z : ℕ). Rose f0 z) (sym e) (s.caused (link_failed m s.final s.events s.leads n));
    }

-- the sink failed at a line of the session
pub cut_by_note : (y : Stop) → y ≡ stop.Sink → (m : Model) (d : ℕ) (g0 g1 l0 l1 : Option (List ℕ)) (at_end : Bool) (k0 k1 : Option (List ℕ)) (u0 u1 u2 : Option (List SutEntry)) (h0 h1 h2 : Option ℕ) (f0 f1 f2 : ℕ)
    → StoppedInCommands y m d g0 g1 l0 l1 at_end k0 k1 u0 u1 h0 h1 f0 f1 → Adds u1 u2 [] → h2 ≡ hung_after (last_of d) h1 → f2 ≡ f1
    → CutShort by_sink m g0 g1 l0 l1 at_end k0 k1 u0 u2 h0 h2 f0 f2
cut_by_note y is m d g0 g1 l0 l1 at_end k0 k1 u0 u1 u2 h0 h1 h2 f0 f1 f2 x a h e =
    cut_short y by_sink m d g0 g1 l0 l1 at_end k0 k1 k1 u0 u1 u2 h0 h1 h2 f0 f1 f2 x.stopped.tail x a h e x.stopped.text
    (inl (subst (λ (z : Stop). IsRest z m x.stopped.final x.stopped.tail) is x.stopped.torn))
    (sent_told m at_start x.stopped.final x.stopped.events x.stopped.leads)

text_whole : (k0 k1 k2 : Option (List ℕ)) (text tail more : List ℕ) → tail ≡ [] → Grows k0 k1 (text ++ tail) → Grows k1 k2 more → Grows k0 k2 (text ++ more)
text_whole k0 k1 k2 text tail more e h k =
    Grows-then k0 k1 k2 text more (subst (λ (z : List ℕ). Grows k0 k1 z) (ap (λ (z : List ℕ). text ++ z) e ∙ append-nil text) h) k

-- memory ran out, and NOMEM was written
pub cut_by_want : (y : Stop) → y ≡ stop.NoMemory → (m : Model) (d : ℕ) (g0 g1 l0 l1 : Option (List ℕ)) (at_end : Bool) (k0 k1 k2 : Option (List ℕ)) (u0 u1 u2 : Option (List SutEntry)) (h0 h1 h2 : Option ℕ) (f0 f1 f2 : ℕ)
    → StoppedInCommands y m d g0 g1 l0 l1 at_end k0 k1 u0 u1 h0 h1 f0 f1 → Adds u1 u2 [] → h2 ≡ hung_after (last_of d) h1 → f2 ≡ f1 → Grows k1 k2 no_memory
    → CutShort by_memory m g0 g1 l0 l1 at_end k0 k2 u0 u2 h0 h2 f0 f2
cut_by_want y is m d g0 g1 l0 l1 at_end k0 k1 k2 u0 u1 u2 h0 h1 h2 f0 f1 f2 x a h e g =
    cut_short y by_memory m d g0 g1 l0 l1 at_end k0 k1 k2 u0 u1 u2 h0 h1 h2 f0 f1 f2 no_memory x a h e
    (text_whole k0 k1 k2 (text_of m (notes_in x.stopped.events)) x.stopped.tail no_memory (subst (λ (z : Stop). IsRest z m x.stopped.final x.stopped.tail) is x.stopped.torn).0 x.stopped.text g) refl
    (all_told m x.stopped.final x.stopped.events x.stopped.leads (subst (λ (z : Stop). IsRest z m x.stopped.final x.stopped.tail) is x.stopped.torn).1)

-- memory ran out, and the sink failed at NOMEM
pub cut_by_both : (y : Stop) → y ≡ stop.NoMemory → (m : Model) (d : ℕ) (g0 g1 l0 l1 : Option (List ℕ)) (at_end : Bool) (k0 k1 k2 : Option (List ℕ)) (u0 u1 u2 : Option (List SutEntry)) (h0 h1 h2 : Option ℕ) (f0 f1 f2 : ℕ)
    → StoppedInCommands y m d g0 g1 l0 l1 at_end k0 k1 u0 u1 h0 h1 f0 f1 → Adds u1 u2 [] → h2 ≡ hung_after (last_of d) h1 → f2 ≡ f1 → Torn k1 k2 no_memory
    → CutShort by_sink m g0 g1 l0 l1 at_end k0 k2 u0 u2 h0 h2 f0 f2
cut_by_both y is m d g0 g1 l0 l1 at_end k0 k1 k2 u0 u1 u2 h0 h1 h2 f0 f1 f2 x a h e t =
    cut_short y by_sink m d g0 g1 l0 l1 at_end k0 k1 k2 u0 u1 u2 h0 h1 h2 f0 f1 f2 t.0 x a h e
    (text_whole k0 k1 k2 (text_of m (notes_in x.stopped.events)) x.stopped.tail t.0 (subst (λ (z : Stop). IsRest z m x.stopped.final x.stopped.tail) is x.stopped.torn).0 x.stopped.text t.2) (inr t.1)
    (sent_told m at_start x.stopped.final x.stopped.events x.stopped.leads)
