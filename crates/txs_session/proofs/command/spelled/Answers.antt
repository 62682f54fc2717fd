use Rattle.std.proofs.Common.{[], refl, sym, FitsSigned, rules}
use Rattle.std.specs.Int.{w128}
use Rattle.std.proofs.lemmas.Int.{to_z-of_z}
use Rattle.txs_values.specs.Value.{integer}
use Rattle.txs_values.specs.Reading.{read_text}
use Rattle.txs_session.proofs.Spelled.{number_of-none}
use Rattle.txs_session.proofs.command.spelled.Goals as goal

pub returns-in-Ok : goal.returns-in-Ok
returns-in-Ok c =
    let fits : FitsSigned w128 c.in-Ok.number = search rules in
    let read = (c.in-Ok.ensures.ok [] _).0 refl in
    simp to_z-of_z (simp read)

pub returns-in-Err : goal.returns-in-Err
returns-in-Err c = sym (number_of-none (read_text [] integer c.args.bytes.now) (λ n e. let same = (c.in-Err.ensures.ok [] n).1 e in cc))
