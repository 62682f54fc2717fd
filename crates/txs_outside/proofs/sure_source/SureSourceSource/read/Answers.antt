use Rattle.std.proofs.Common.{◌≡◌, ℕ, List, ◌++◌, take, drop, ◌∙◌, ap, sym}
use Rattle.txs_outside.specs.Memory.{SureSourceState}
use Rattle.txs_outside.proofs.Fronts.{left_on, given_on}
use Rattle.txs_outside.proofs.sure_source.SureSourceSource.read.Goals as goal

-- the bytes copied are a front of those left
copied : (c : goal.After-self-1) → take c.copy_front-len.result c.copy_front-len.new.buf ≡ take c.copy_front-len.result (drop c.self.inside.at c.self.inside.bytes)
copied c = cc (ap (λ (b : List ℕ). take c.copy_front-len.result (drop c.self.inside.at b)) c.as_slice.ensures, ap (λ (b : List ℕ). take c.copy_front-len.result b) c.split_at.ensures.back, c.copy_front-len.ensures.copied)

pub returns-clause-left : goal.returns-clause-left
returns-clause-left c = sym (ap (λ (s : SureSourceState). s.left) c.self.view_is) ∙ left_on c.self.inside.at c.copy_front-len.result c.self.inside.bytes _ (copied c)

pub returns-clause-given : goal.returns-clause-given
returns-clause-given c = given_on c.self.inside.at c.copy_front-len.result c.self.inside.bytes _ (copied c) ∙ ap (λ (s : SureSourceState). s.given ++ take c.copy_front-len.result c.copy_front-len.new.buf) c.self.view_is
