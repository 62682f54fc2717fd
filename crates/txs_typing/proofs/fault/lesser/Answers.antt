use Rattle.std.proofs.Common.{rules, sym, true≢false}
use Rattle.txs_typing.specs.inner.Told.{memory_first, left_first, right_first}
use Rattle.txs_typing.proofs.fault.lesser.Goals as goal

pub returns-then-is_before : goal.returns-then-is_before
returns-then-is_before c = right_first c.in-Some-Some.x c.in-Some-Some.y (search rules) (search rules) (search rules)

pub returns-else-is_before : goal.returns-else-is_before
returns-else-is_before c = left_first c.in-Some-Some.x c.in-Some-Some.y (search rules) (search rules) (λ p. true≢false (sym (c.if-is_before.ensures.1 p)))

pub returns-in_default : goal.returns-in_default
returns-in_default c = memory_first

pub returns-in_default-2 : goal.returns-in_default-2
returns-in_default-2 c = memory_first
