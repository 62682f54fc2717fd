-- How large a tree is: what falls in each recursion over it.
use Rattle.std.proofs.Common.{◌≡◌, ◌+◌, ◌≤◌, ◌<◌, ℕ, zero, suc, List, [], ◌∷◌, length, map, get_or, ap, ◌∙◌, arith}
use Rattle.txs_syntax.specs.declared.ast.Op.{Op}
use Rattle.txs_syntax.specs.declared.ast.Name.{Name}
use Rattle.txs_syntax.specs.declared.ast.Ast.{Ast}
use Rattle.txs_syntax.specs.declared.ast.Binding.{Binding}
use Rattle.txs_syntax.specs.declared.ast.Ast.TheVariants as tree
use Rattle.txs_syntax.specs.declared.ast.Ast.TheOpen.{Ast-F}
use Rattle.txs_typing.specs.Elaborates.{folded}
use Rattle.txs_typing.proofs.trees.Folds.{fold_call, fold_negate, fold_binary, fold_group, fold_if, fold_let}

abbrev pub total : List ℕ → ℕ
total [] = 0
total (n ∷ ns) = n + total ns

-- one level, whose parts are so large
abbrev pub weight_step : Ast-F ℕ ℕ → ℕ
weight_step (Ast-F.Number at n) = 2
weight_step (Ast-F.Text at s) = 2
weight_step (Ast-F.Name x) = 2
weight_step (Ast-F.Call x es) = 2 + total es
weight_step (Ast-F.Negate at a) = 2 + a
weight_step (Ast-F.Binary o a b) = 2 + (a + b)
weight_step (Ast-F.Group at a) = 2 + a
weight_step (Ast-F.If at p a b) = 2 + (p + (a + b))
weight_step (Ast-F.Let at bs b) = 2 + (total bs + b)

unfoldable pub weight : Ast → ℕ
weight = folded ℕ weight_step

unfoldable pub weights : List Ast → ℕ
weights args = total (map weight args)

unfoldable pub weights_of : List Binding → ℕ
weights_of bs = total (map (λ (b : Binding). weight b.value) bs)

pub weight_call : (a : Ast) (x : Name) (args : List Ast) → a ≡ tree.Call x args → weight a ≡ 2 + weights args
unfolding weight weights
weight_call a x args h = ap weight h ∙ fold_call ℕ weight_step x args

pub weight_negate : (a : Ast) (at : ℕ) (b : Ast) → a ≡ tree.Negate at b → weight a ≡ 2 + weight b
unfolding weight
weight_negate a at b h = ap weight h ∙ fold_negate ℕ weight_step at b

pub weight_binary : (a : Ast) (o : Op) (b c : Ast) → a ≡ tree.Binary o b c → weight a ≡ 2 + (weight b + weight c)
unfolding weight
weight_binary a o b c h = ap weight h ∙ fold_binary ℕ weight_step o b c

pub weight_group : (a : Ast) (at : ℕ) (b : Ast) → a ≡ tree.Group at b → weight a ≡ 2 + weight b
unfolding weight
weight_group a at b h = ap weight h ∙ fold_group ℕ weight_step at b

pub weight_if : (a : Ast) (at : ℕ) (b c d : Ast) → a ≡ tree.If at b c d → weight a ≡ 2 + (weight b + (weight c + weight d))
unfolding weight
weight_if a at b c d h = ap weight h ∙ fold_if ℕ weight_step at b c d

pub weight_let : (a : Ast) (at : ℕ) (bs : List Binding) (c : Ast) → a ≡ tree.Let at bs c → weight a ≡ 2 + (weights_of bs + weight c)
unfolding weight weights_of
weight_let a at bs c h = ap weight h ∙ fold_let ℕ weight_step at bs c

pub weight_of_one : (args : List Ast) (i : ℕ) (d : Ast) → i < length args → weight (get_or args i d) ≤ weights args
unfolding weights
weight_of_one [] i d h = absurd (omega (arith, h))
weight_of_one (a ∷ args) zero d h = omega arith
weight_of_one (a ∷ args) (suc i) d h = let r = weight_of_one args i d (omega (arith, h)) in omega (arith, r)

pub weight_of_value : (bs : List Binding) (i : ℕ) (d : Binding) → i < length bs → weight ((get_or bs i d).value) ≤ weights_of bs
unfolding weights_of
weight_of_value [] i d h = absurd (omega (arith, h))
weight_of_value (b ∷ bs) zero d h = omega arith
weight_of_value (b ∷ bs) (suc i) d h = let r = weight_of_value bs i d (omega (arith, h)) in omega (arith, r)
