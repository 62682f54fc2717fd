-- What was read of a source, and what came of it.
use Rattle.std.proofs.Common.{◌≡◌, ◌≤◌, ◌<◌, ◌+◌, ℕ, Bool, true, false, List, [], ◌∷◌, ◌++◌, Option, length, refl, sym, ◌∙◌, ap, append-nil, subst, arith, length-append}
use Rattle.txs_outside.specs.declared.sut.SutEntry.{SutEntry}
use Rattle.txs_outside.specs.Known.{Grows, Loses, Tells, Grows-none, Grows-then}
use Rattle.txs_words.specs.declared.model.Model.{Model}
use Rattle.txs_drive.specs.declared.feed.Finish.{Finish}
use Rattle.txs_drive.specs.declared.feed.Finish.TheVariants as finish
use Rattle.txs_session.specs.Session.{State, at_start}
use Rattle.txs_drive.specs.Course.{Event, lines_in}
use Rattle.txs_drive.specs.Served.{Ending, open', end, fault, limit, command_lines, last_part}
use Rattle.txs_drive.specs.inner.CarriedOut.{HasNoFeed, joined, LinesCarriedOut, BytesCarriedOut, LastLineCarriedOut, CommandsCarriedOut}
use Rattle.txs_drive.proofs.Courses.{carried_out_then}
use Rattle.txs_drive.proofs.Losing.{loses_none, loses_then, loses_all}
use Rattle.txs_drive.proofs.Feeding.{no_line_carried_out, lines_carried_out_then, commands_joined, commands_part}

-- these bytes were given, their lines were carried out, and the rest is pending
pub record Talked (m : Model) (t : State) (g0 g1 l0 l1 : Option (List ℕ)) (k0 k1 : Option (List ℕ)) (u0 u1 : Option (List SutEntry)) (h0 h1 : Option ℕ) (f0 f1 : ℕ) (taken : ℕ) (pending : List ℕ) : Type 0 where
  pub given : List ℕ
  pub gave : Grows g0 g1 given
  pub lost : Loses l0 l1 given
  pub count : length given ≡ taken
  pub took : LinesCarriedOut m at_start t k0 k1 u0 u1 h0 h1 f0 f1 given pending false

-- nothing was read yet
pub talked_begin : (m : Model) (s : State) (g0 l0 k : Option (List ℕ)) (u : Option (List SutEntry)) (h : Option ℕ) (f : ℕ) (pending : List ℕ) → s ≡ at_start → pending ≡ [] → Talked m s g0 g0 l0 l0 k k u u h h f f 0 pending
talked_begin m s g0 l0 k u h f pending e n = record {
  given = [];
  gave = Grows-none g0;
  lost = loses_none l0;
  count = refl;
  took = subst (λ (p : List ℕ). LinesCarriedOut m at_start s k k u u h h f f [] p false) (sym n) (subst (λ (t : State). LinesCarriedOut m at_start t k k u u h h f f [] [] false) (sym e) (no_line_carried_out m at_start k u h f []));
}

-- bytes were read, and their lines were carried out
pub talked_on : (m : Model) (t v : State) (g0 g1 g2 l0 l1 l2 k0 k1 k2 : Option (List ℕ)) (u0 u1 u2 : Option (List SutEntry)) (h0 h1 h2 : Option ℕ) (f0 f1 f2 n i : ℕ) (pending got later : List ℕ)
    → Talked m t g0 g1 l0 l1 k0 k1 u0 u1 h0 h1 f0 f1 n pending → Grows g1 g2 got → Loses l1 l2 got → i ≡ n + length got → BytesCarriedOut m t v k1 k2 u1 u2 h1 h2 f1 f2 (pending ++ got) later false
    → Talked m v g0 g2 l0 l2 k0 k2 u0 u2 h0 h2 f0 f2 i later
talked_on m t v g0 g1 g2 l0 l1 l2 k0 k1 k2 u0 u1 u2 h0 h1 h2 f0 f1 f2 n i pending got later x g lo e y = record {
  given = x.given ++ got;
  gave = Grows-then g0 g1 g2 x.given got x.gave g;
  lost = loses_then l0 l1 l2 x.given got x.lost lo;
  count = omega (arith, length-append x.given got, x.count, e);
  took = subst (λ (r : List ℕ). LinesCarriedOut m at_start v k0 k2 u0 u2 h0 h2 f0 f2 (x.given ++ got) r false) (y.2 refl)
      (lines_carried_out_then m at_start t v k0 k1 k2 u0 u1 u2 h0 h1 h2 f0 f1 f2 x.given got pending y.0 false x.took y.1);
}

-- the lines of what was taken
command_lines_read : (e : Ending) (bytes rest : List ℕ) (lines : List (List ℕ)) (events : List Event) → bytes ≡ joined lines ++ rest → lines_in events ≡ lines → command_lines (joined lines ++ rest) e ≡ lines ++ command_lines rest e
    → command_lines bytes e ≡ lines_in events ++ command_lines rest e
command_lines_read e bytes rest lines events split read c = ap (λ (b : List ℕ). command_lines b e) split ∙ (c ∙ ap (λ (l : List (List ℕ)). l ++ command_lines rest e) (sym read))

-- a `quit` was met among the bytes of a read
pub conversed_quit : (m : Model) (t v : State) (g0 g1 g2 l0 l1 l2 : Option (List ℕ)) (at_end : Bool) (k0 k1 k2 : Option (List ℕ)) (u0 u1 u2 : Option (List SutEntry)) (h0 h1 h2 : Option ℕ) (f0 f1 f2 n : ℕ) (pending got later : List ℕ)
    → Talked m t g0 g1 l0 l1 k0 k1 u0 u1 h0 h1 f0 f1 n pending → Grows g1 g2 got → Loses l1 l2 got → n + length got ≤ 16777216 → v.todo ≡ [] → BytesCarriedOut m t v k1 k2 u1 u2 h1 h2 f1 f2 (pending ++ got) later true
    → CommandsCarriedOut m finish.Quit v g0 g2 l0 l2 at_end k0 k2 u0 u2 h0 h2 f0 f2
conversed_quit m t v g0 g1 g2 l0 l1 l2 at_end k0 k1 k2 u0 u1 u2 h0 h1 h2 f0 f1 f2 n pending got later x g lo within idle y =
    let took = lines_carried_out_then m at_start t v k0 k1 k2 u0 u1 u2 h0 h1 h2 f0 f1 f2 x.given got pending y.0 true x.took y.1 in
    record {
      given = x.given ++ got;
      commands = x.given ++ got;
      ending = open';
      quits = true;
      events = took.went.events;
      behind = command_lines y.0 open';
      gave = Grows-then g0 g1 g2 x.given got x.gave g;
      lost = loses_then l0 l1 l2 x.given got x.lost lo;
      split = (refl, omega (arith, length-append x.given got, x.count, within));
      ended = λ e. cc;
      leads = took.went.leads;
      lines = command_lines_read open' (x.given ++ got) y.0 took.lines took.went.events took.split took.went.read (commands_joined open' took.lines y.0 took.each);
      rests = (idle, (took.went.left refl).0, (took.went.left refl).1, (took.went.left refl).2);
      text = took.went.text;
      calls = took.went.calls;
      hung = took.went.hung;
      later = took.went.later;
      caused = took.went.caused;
      calm = took.went.calm;
      status = λ failed. refl;
    }

-- the source failed
pub conversed_fault : (m : Model) (t : State) (g0 g1 g2 l0 l1 l2 : Option (List ℕ)) (at_end : Bool) (k0 k1 : Option (List ℕ)) (u0 u1 : Option (List SutEntry)) (h0 h1 : Option ℕ) (f0 f1 n : ℕ) (pending : List ℕ)
    → Talked m t g0 g1 l0 l1 k0 k1 u0 u1 h0 h1 f0 f1 n pending → Grows g1 g2 [] → Loses l1 l2 [] → n ≤ 16777216 → HasNoFeed pending → t.todo ≡ []
    → CommandsCarriedOut m finish.Failed t g0 g2 l0 l2 at_end k0 k1 u0 u1 h0 h1 f0 f1
conversed_fault m t g0 g1 g2 l0 l1 l2 at_end k0 k1 u0 u1 h0 h1 f0 f1 n pending x g lo within nf idle = record {
  given = x.given ++ [];
  commands = x.given ++ [];
  ending = fault;
  quits = false;
  events = x.took.went.events;
  behind = [];
  gave = Grows-then g0 g1 g2 x.given [] x.gave g;
  lost = loses_then l0 l1 l2 x.given [] x.lost lo;
  split = (refl, omega (arith, length-append x.given [], x.count, within));
  ended = λ e. cc;
  leads = x.took.went.leads;
  lines = ap (λ (b : List ℕ). command_lines b fault) (append-nil x.given)
      ∙ (command_lines_read fault x.given pending x.took.lines x.took.went.events x.took.split x.took.went.read (commands_joined fault x.took.lines pending x.took.each)
      ∙ ap (λ (l : List (List ℕ)). lines_in x.took.went.events ++ l) (commands_part fault pending nf));
  rests = (idle, refl, x.took.went.stays refl);
  text = x.took.went.text;
  calls = x.took.went.calls;
  hung = x.took.went.hung;
  later = x.took.went.later;
  caused = x.took.went.caused;
  calm = x.took.went.calm;
  status = λ failed. refl;
}

one_byte : (xs : List ℕ) → 0 < length xs → length xs ≤ 1 → (b : ℕ) × (xs ≡ b ∷ [])
one_byte [] h k = absurd (omega (arith, h))
one_byte (b ∷ []) h k = (b, refl)
one_byte (b ∷ c ∷ xs) h k = absurd (omega (arith, k))

-- one byte past the limit was read
pub conversed_limit : (m : Model) (t : State) (g0 g1 g2 l0 l1 l2 : Option (List ℕ)) (at_end : Bool) (k0 k1 : Option (List ℕ)) (u0 u1 : Option (List SutEntry)) (h0 h1 : Option ℕ) (f0 f1 n : ℕ) (pending got : List ℕ)
    → Talked m t g0 g1 l0 l1 k0 k1 u0 u1 h0 h1 f0 f1 n pending → Grows g1 g2 got → Loses l1 l2 got → n ≡ 16777216 → 0 < length got → length got ≤ 1 → HasNoFeed pending → t.todo ≡ []
    → CommandsCarriedOut m finish.TooLong t g0 g2 l0 l2 at_end k0 k1 u0 u1 h0 h1 f0 f1
conversed_limit m t g0 g1 g2 l0 l1 l2 at_end k0 k1 u0 u1 h0 h1 f0 f1 n pending got x g lo full some most nf idle =
    let b = one_byte got some most in
    record {
      given = x.given ++ got;
      commands = x.given;
      ending = limit;
      quits = false;
      events = x.took.went.events;
      behind = [];
      gave = Grows-then g0 g1 g2 x.given got x.gave g;
      lost = loses_then l0 l1 l2 x.given got x.lost lo;
      split = (b.0, ap (λ (z : List ℕ). x.given ++ z) b.1, x.count ∙ full);
      ended = λ e. cc;
      leads = x.took.went.leads;
      lines = command_lines_read limit x.given pending x.took.lines x.took.went.events x.took.split x.took.went.read (commands_joined limit x.took.lines pending x.took.each)
          ∙ ap (λ (l : List (List ℕ)). lines_in x.took.went.events ++ l) (commands_part limit pending nf);
      rests = (idle, refl, x.took.went.stays refl);
      text = x.took.went.text;
      calls = x.took.went.calls;
      hung = x.took.went.hung;
      later = x.took.went.later;
      caused = x.took.went.caused;
      calm = x.took.went.calm;
      status = λ failed. refl;
    }

end_lines : (given pending line : List ℕ) (lines : List (List ℕ)) (events : List Event) → given ≡ joined lines ++ pending → command_lines (joined lines ++ pending) end ≡ lines ++ command_lines pending end
    → command_lines pending end ≡ last_part end pending → line ≡ pending → lines_in events ≡ lines ++ last_part end line → command_lines (given ++ []) end ≡ lines_in events ++ []
end_lines given pending line lines events split c part e read =
    ap (λ (b : List ℕ). command_lines b end) (append-nil given) ∙ (ap (λ (b : List ℕ). command_lines b end) split ∙ (c
    ∙ (ap (λ (l : List (List ℕ)). lines ++ l) part ∙ (ap (λ (z : List ℕ). lines ++ last_part end z) (sym e) ∙ (sym read ∙ sym (append-nil (lines_in events)))))))

-- the source ended, and the last line was carried out
pub conversed_end : (m : Model) (t v : State) (g0 g1 g2 l0 l1 l2 : Option (List ℕ)) (at_end : Bool) (k0 k1 k2 : Option (List ℕ)) (u0 u1 u2 : Option (List SutEntry)) (h0 h1 h2 : Option ℕ) (f0 f1 f2 n : ℕ) (pending line : List ℕ) (f : Finish)
    → Talked m t g0 g1 l0 l1 k0 k1 u0 u1 h0 h1 f0 f1 n pending → Grows g1 g2 [] → Loses l1 l2 [] → n ≤ 16777216 → HasNoFeed pending → v.todo ≡ [] → (at_end ≡ true) × Tells l1 [] → line ≡ pending
    → LastLineCarriedOut m t v k1 k2 u1 u2 h1 h2 f1 f2 line f → CommandsCarriedOut m f v g0 g2 l0 l2 at_end k0 k2 u0 u2 h0 h2 f0 f2
conversed_end m t v g0 g1 g2 l0 l1 l2 at_end k0 k1 k2 u0 u1 u2 h0 h1 h2 f0 f1 f2 n pending line finish.Quit x g lo within nf idle ended e y =
    let all = carried_out_then m at_start t v k0 k1 k2 u0 u1 u2 h0 h1 h2 f0 f1 f2 x.took.lines (last_part end line) true x.took.went y.0 in
    record {
      given = x.given ++ [];
      commands = x.given ++ [];
      ending = end;
      quits = true;
      events = all.events;
      behind = [];
      gave = Grows-then g0 g1 g2 x.given [] x.gave g;
      lost = loses_then l0 l1 l2 x.given [] x.lost lo;
      split = (refl, omega (arith, length-append x.given [], x.count, within));
      ended = λ _. (ended.0, loses_all l0 l1 x.given x.lost ended.1);
      leads = all.leads;
      lines = end_lines x.given pending line x.took.lines all.events x.took.split (commands_joined end x.took.lines pending x.took.each) (commands_part end pending nf) e all.read;
      rests = (idle, (all.left refl).0, (all.left refl).1, (all.left refl).2);
      text = all.text;
      calls = all.calls;
      hung = all.hung;
      later = all.later;
      caused = all.caused;
      calm = all.calm;
      status = λ failed. refl;
    }
conversed_end m t v g0 g1 g2 l0 l1 l2 at_end k0 k1 k2 u0 u1 u2 h0 h1 h2 f0 f1 f2 n pending line finish.End x g lo within nf idle ended e y =
    let all = carried_out_then m at_start t v k0 k1 k2 u0 u1 u2 h0 h1 h2 f0 f1 f2 x.took.lines (last_part end line) false x.took.went y.0 in
    record {
      given = x.given ++ [];
      commands = x.given ++ [];
      ending = end;
      quits = false;
      events = all.events;
      behind = [];
      gave = Grows-then g0 g1 g2 x.given [] x.gave g;
      lost = loses_then l0 l1 l2 x.given [] x.lost lo;
      split = (refl, omega (arith, length-append x.given [], x.count, within));
      ended = λ _. (ended.0, loses_all l0 l1 x.given x.lost ended.1);
      leads = all.leads;
      lines = end_lines x.given pending line x.took.lines all.events x.took.split (commands_joined end x.took.lines pending x.took.each) (commands_part end pending nf) e all.read;
      rests = (idle, refl, all.stays refl);
      text = all.text;
      calls = all.calls;
      hung = all.hung;
      later = all.later;
      caused = all.caused;
      calm = all.calm;
      status = λ failed. refl;
    }
conversed_end m t v g0 g1 g2 l0 l1 l2 at_end k0 k1 k2 u0 u1 u2 h0 h1 h2 f0 f1 f2 n pending line finish.Failed x g lo within nf idle ended e y = absurd y.1
conversed_end m t v g0 g1 g2 l0 l1 l2 at_end k0 k1 k2 u0 u1 u2 h0 h1 h2 f0 f1 f2 n pending line finish.TooLong x g lo within nf idle ended e y = absurd y.1
