-- A session whose commands came to their end is one that the reference run has.
use Rattle.std.proofs.Common.{◌≡◌, ℕ, Bool, List, [], Option, Some, sym, ◌∙◌, ap, append-nil, subst, arith}
use Rattle.txs_outside.specs.Causes.{Rose}
use Rattle.txs_outside.specs.Known.{Adds, Adds-then}
use Rattle.txs_outside.specs.declared.sut.SutEntry.{SutEntry}
use Rattle.txs_words.specs.declared.model.Model.{Model}
use Rattle.txs_drive.specs.declared.feed.Finish.{Finish}
use Rattle.txs_session.specs.Session.{State, at_start, dialled_of}
use Rattle.txs_drive.specs.Course.{notes_in, has_fail, hung_after, calls_in, due_in}
use Rattle.txs_drive.specs.Served.{Served, last_of}
use Rattle.txs_drive.specs.inner.CarriedOut.{CommandsCarriedOut, code_of}
use Rattle.txs_drive.proofs.Courses.{hung_after-append}
use Rattle.txs_drive.proofs.Told.{all_told}
use Rattle.txs_drive.proofs.Noted.{failed_says, link_failed}
use Rattle.txs_drive.proofs.Linked.{rested, failed_linked}
use Rattle.txs_drive.proofs.Hanging.{hung_once}

pub served : (m : Model) (f : Finish) (t : State) (g0 g1 l0 l1 : Option (List ℕ)) (at_end : Bool) (k0 k1 : Option (List ℕ)) (u0 u1 u2 : Option (List SutEntry)) (h0 h1 h2 : Option ℕ) (f0 f1 f2 code : ℕ)
    → CommandsCarriedOut m f t g0 g1 l0 l1 at_end k0 k1 u0 u1 h0 h1 f0 f1 → Adds u1 u2 [] → h2 ≡ hung_after (last_of (dialled_of t.run)) h1 → f2 ≡ f1 → code ≡ code_of f t.has_failed
    → Served m g0 g1 l0 l1 at_end k0 k1 u0 u2 h0 h2 f0 f2 code
served m f t g0 g1 l0 l1 at_end k0 k1 u0 u1 u2 h0 h1 h2 f0 f1 f2 code x a h e c = record {
  given = x.given;
  commands = x.commands;
  ending = x.ending;
  quits = x.quits;
  events = x.events;
  behind = x.behind;
  final = t;
  gave = x.gave;
  lost = x.lost;
  split = x.split;
  ended = x.ended;
  leads = x.leads;
  lines = x.lines;
  rests = x.rests;
  text = x.text;
  calls = subst (λ (z : List SutEntry). Adds u0 u2 z) (append-nil (calls_in m x.events h0)) (Adds-then u0 u1 u2 (calls_in m x.events h0) [] x.calls a);
  hang_ups = h ∙ (ap (hung_after (last_of (dialled_of t.run))) x.hung ∙ sym (hung_after-append x.events (last_of (dialled_of t.run)) h0));
  told = all_told m t x.events x.leads (ap due_in (rested x.quits t x.behind x.events x.rests));
  once = hung_once m t x.events x.leads;
  later = omega (arith, x.later, e);
  link = λ n. subst (λ (z : ℕ). Rose f0 z) (sym e) (x.caused (link_failed m t x.events x.leads n));
  linked = failed_linked m at_start t x.events x.leads (rested x.quits t x.behind x.events x.rests);
  unlinked = λ n. e ∙ x.calm (λ y. n (failed_linked m at_start t x.events x.leads (rested x.quits t x.behind x.events x.rests) y));
  status = x.status (has_fail (notes_in x.events)) ∙ ap (λ (z : ℕ). Some z) (sym (c ∙ ap (code_of f) (failed_says m at_start t x.events x.leads)));
}
