use Rattle.std.proofs.Common.{◌≡◌, ◌∷◌, ◌∙◌, [], List, ℕ, Bool, is_ok, ap, subst, sym, FitsSigned}
use Rattle.std.specs.Int.{w128}
use Rattle.std.proofs.lemmas.Int.{to_z-of_z}
use Rattle.txs_outside.specs.Known.{Adds}
use Rattle.txs_outside.specs.declared.sut.SutEntry.{SutEntry}
use Rattle.txs_outside.specs.declared.sut.SutCall.TheVariants.{Send}
use Rattle.txs_drive.specs.Course.{entry}
use Rattle.txs_session.specs.Lines.{sent_line}
use Rattle.txs_session.specs.Ready.{state_of}
use Rattle.txs_drive.proofs.Calls.{called_send, err_of, ok_of}
use Rattle.txs_drive.proofs.driver.transmit.Goals as goal

pub returns-clause-called : goal.returns-clause-called
returns-clause-called g c m =
    let fits : FitsSigned w128 c.args.value = c.ranges.value in
    let ok : c.is_ok-ok.result ≡ is_ok c.send.result = c.is_ok-ok.ensures.value in
    let line : c.as_bytes.result.now ≡ sent_line c.args.value = c.as_bytes.ensures.value ∙ c.requires.line in
    let added : entry (g.U.Sut.hang_ups c.args.sut.now) (Send 0 c.as_bytes.result.now (is_ok c.send.result)) ∷ [] ≡ entry (g.U.Sut.hang_ups c.args.sut.now) (Send 0 (sent_line c.args.value) c.is_ok-ok.result) ∷ []
    = ap (λ (x : List ℕ). entry (g.U.Sut.hang_ups c.args.sut.now) (Send 0 x (is_ok c.send.result)) ∷ []) line
    ∙ ap (λ (b : Bool). entry (g.U.Sut.hang_ups c.args.sut.now) (Send 0 (sent_line c.args.value) b) ∷ []) (sym ok) in
    called_send m (state_of c.args.session.now) (state_of c.after_send.new.self) _ _ _ _ _ _ c.args.value c.is_ok-ok.result c.requires.due (simp to_z-of_z at c.after_send.ensures.told)
    (subst (λ (x : List SutEntry). Adds (g.U.Sut.calls c.args.sut.now) (g.U.Sut.calls c.send.new.self) x) added c.send.ensures.calls)
    c.send.ensures.hang_ups c.send.ensures.cause.later (λ e. c.send.ensures.cause.failed (err_of c.send.result (sym ok ∙ e))) (λ e. ok_of c.send.result c.is_ok-ok.result ok e c.send.ensures.calm)
