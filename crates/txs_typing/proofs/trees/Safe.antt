-- What is well typed is safe.
use Rattle.std.proofs.Common.{List, []}
use Rattle.txs_values.specs.Value.{Ty, Value, HaveTypes}
use Rattle.txs_terms.specs.Expr.{Expr, put, filled}
use Rattle.txs_terms.specs.Eval.{height_limit}
use Rattle.txs_terms.specs.Typed.{Of}
use Rattle.txs_terms.specs.Defs.{Definitions, bodies, signatures_of, AreDefined}
use Rattle.txs_terms.proofs.typing.Putting.{put_typed, filled_all}
use Rattle.txs_terms.proofs.typing.Runs.{run_right, run_typed}
use Rattle.txs_typing.specs.Answer.{IsSafe}

pub typed_is_safe : (d : Definitions) (types : List Ty) (e : Expr) (t : Ty) → AreDefined d → Of d.table (signatures_of d) types [] e t → IsSafe d types e t
typed_is_safe d types e t ok h = record {
  never_wrong = λ vs have. run_right (bodies d) (signatures_of d) ok.typed (put (filled vs) e) t height_limit 0 (closed vs have);
  gives = λ vs have v n q. run_typed (bodies d) (signatures_of d) ok.typed (put (filled vs) e) t height_limit 0 (closed vs have) v n q;
}
  where
    closed : (vs : List Value) → HaveTypes d.table vs types → Of d.table (signatures_of d) [] [] (put (filled vs) e) t
    closed vs have = put_typed d.table (signatures_of d) h (filled vs) [] (filled_all d.table (signatures_of d) vs types have)
