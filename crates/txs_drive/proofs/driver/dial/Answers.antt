use Rattle.std.proofs.Common.{◌≡◌, ◌∷◌, ◌∙◌, [], List, Bool, is_ok, length, refl, ap, subst, sym}
use Rattle.txs_outside.specs.Known.{Adds}
use Rattle.txs_outside.specs.declared.sut.SutEntry.{SutEntry}
use Rattle.txs_outside.specs.declared.sut.SutCall.TheVariants.{Dial}
use Rattle.txs_outside.specs.declared.ends.Ends.{Ends}
use Rattle.txs_drive.specs.Course.{entry, ends_of, dials, due_in}
use Rattle.txs_session.specs.Ready.{state_of}
use Rattle.txs_drive.proofs.Calls.{called_dial, err_of, ok_of, dial_ready}
use Rattle.txs_drive.proofs.Stops.{on_err, stopped_here, stopped_unheeded, fresh_none, dial_ends}
use Rattle.txs_drive.proofs.Told.{dial_undue}
use Rattle.txs_drive.proofs.driver.dial.Goals as goal

pub returns-clause-called : goal.returns-clause-called
returns-clause-called g c =
    let ok : c.is_ok-ok.result ≡ is_ok c.dial.result = c.is_ok-ok.ensures.value in
    let added : entry (g.U.Sut.hang_ups c.args.sut.now) (Dial c.in_ok-ends.ends (is_ok c.dial.result)) ∷ [] ≡ entry (g.U.Sut.hang_ups c.args.sut.now) (Dial (ends_of c.args.model.now) c.is_ok-ok.result) ∷ []
    = ap (λ (e : Ends). entry (g.U.Sut.hang_ups c.args.sut.now) (Dial e (is_ok c.dial.result)) ∷ []) c.in_ok-ends.ensures
    ∙ ap (λ (b : Bool). entry (g.U.Sut.hang_ups c.args.sut.now) (Dial (ends_of c.args.model.now) b) ∷ []) (sym ok) in
    called_dial c.args.model.now (state_of c.args.session.now) (state_of c.after_dial.new.self) _ _ _ _ _ _ c.is_ok-ok.result c.requires.due c.in_ok-after_dial.ensures.told
    (subst (λ (x : List SutEntry). Adds (g.U.Sut.calls c.args.sut.now) (g.U.Sut.calls c.dial.new.self) x) added c.dial.ensures.calls)
    c.dial.ensures.hang_ups c.dial.ensures.cause.later (λ e. c.dial.ensures.cause.failed (err_of c.dial.result (sym ok ∙ e))) (λ e. ok_of c.dial.result c.is_ok-ok.result ok e c.dial.ensures.calm)

pub returns-clause-ready : goal.returns-clause-ready
returns-clause-ready g c = record {
  kept = c.in_ok-after_dial.ensures.kept c.args.model.now c.requires.ready.kept;
  plain = c.in_ok-after_dial.ensures.plain c.requires.ready.plain;
  dialled = dial_ready c.is_ok-ok.result c.dial.result _ _ _ c.is_ok-ok.ensures.value c.dial.ensures.dialled (ap (λ (e : Ends). length e.list) c.in_ok-ends.ensures) c.in_ok-after_dial.ensures.ends;
}

pub returns-in_err-ends-clause-stopped : goal.returns-in_err-ends-clause-stopped
returns-in_err-ends-clause-stopped g c k = on_err c.from_residual.result (stopped_here c.args.model.now (state_of c.args.session.now) _ k _ _ _ [] (ap due_in c.requires.due) refl)

pub returns-in_err-after_dial-clause-stopped : goal.returns-in_err-after_dial-clause-stopped
returns-in_err-after_dial-clause-stopped g c k =
    let ok : c.is_ok-ok.result ≡ is_ok c.dial.result = c.is_ok-ok.ensures.value in
    let added : entry (g.U.Sut.hang_ups c.args.sut.now) (Dial c.in_ok-ends.ends (is_ok c.dial.result)) ∷ [] ≡ entry (g.U.Sut.hang_ups c.args.sut.now) (Dial (ends_of c.args.model.now) c.is_ok-ok.result) ∷ []
    = ap (λ (e : Ends). entry (g.U.Sut.hang_ups c.args.sut.now) (Dial e (is_ok c.dial.result)) ∷ []) c.in_ok-ends.ensures
    ∙ ap (λ (b : Bool). entry (g.U.Sut.hang_ups c.args.sut.now) (Dial (ends_of c.args.model.now) b) ∷ []) (sym ok) in
    on_err c.from_residual-in_err-after_dial.result (stopped_unheeded c.args.model.now (state_of c.args.session.now) _ k _ _ _ _ _ _ (dials c.is_ok-ok.result) c.requires.due
    (subst (λ (x : List SutEntry). Adds (g.U.Sut.calls c.args.sut.now) (g.U.Sut.calls c.dial.new.self) x) added c.dial.ensures.calls)
    c.dial.ensures.hang_ups c.dial.ensures.cause.later (dial_ends c.is_ok-ok.result _ _ c.after_dial.ensures.ends (fresh_none _ c.requires.fresh)))

pub returns-clause-undue : goal.returns-clause-undue
returns-clause-undue g c = dial_undue c.is_ok-ok.result (state_of c.args.session.now).run (state_of c.args.session.now) (state_of c.after_dial.new.self) c.in_ok-after_dial.ensures.told
