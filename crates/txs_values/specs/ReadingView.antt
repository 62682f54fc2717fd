-- What a result of the program says of an outcome.
use Rattle.std.specs.Prelude.{◌≡◌, ℕ}
use Rattle.txs_values.specs.declared.reading.Stop.{Stop}
use Rattle.txs_values.specs.declared.reading.Stop.TheVariants.{At, NoMemory}
use Rattle.txs_values.specs.declared.reading.Kind.{Kind}
use Rattle.txs_values.specs.declared.reading.Kind.TheVariants.{Wrong, Past, Deep, Broken}
use Rattle.txs_values.specs.declared.refusal.ReadValueFault.{ReadValueFault}
use Rattle.txs_values.specs.declared.refusal.ReadValueFault.TheVariants.{NotText, WrongForm, Range, TooDeep}
use Rattle.txs_values.specs.Reading.{Outcome, stop}

abbrev pub Stopped : {A : Type 0} → Stop → Outcome A → Type 0
Stopped (At k n) o = o ≡ stop k n
Stopped NoMemory o = Unit {0}

-- what a caller is told of it
abbrev pub fault_of : Kind → ℕ → ReadValueFault
fault_of Wrong n = WrongForm n
fault_of Past n = Range n
fault_of Deep n = TooDeep n
fault_of Broken n = NotText
