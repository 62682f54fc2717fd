-- What a fold of a tree is, one lemma a form.
use Rattle.std.proofs.Common.{◌≡◌, ℕ, ℤ, List, [], ◌∷◌, map, refl, sym, ap, ◌∙◌}
use Rattle.txs_syntax.specs.declared.ast.Name.{Name}
use Rattle.txs_syntax.specs.declared.ast.Op.{Op}
use Rattle.txs_syntax.specs.declared.ast.Ast.{Ast}
use Rattle.txs_syntax.specs.declared.ast.Binding.{Binding}
use Rattle.txs_syntax.specs.declared.ast.Ast.TheVariants as tree
use Rattle.txs_syntax.specs.declared.ast.Ast.TheOpen.{Ast-F}
use Rattle.txs_syntax.specs.declared.ast.Ast.TheFolds.{fold-Binding, fold-roll-Ast, fold_out-Binding}
use Rattle.txs_typing.specs.Elaborates.{value_step, folded}

pub fold_number : (A : Type 0) (step : Ast-F A A → A) (at : ℕ) (n : ℤ) → folded A step (tree.Number at n) ≡ step (Ast-F.Number at n)
fold_number A step at n = ap (folded A step) (sym (tree.rolls-Number at n)) ∙ fold-roll-Ast A A step value_step (Ast-F.Number at n)

pub fold_text : (A : Type 0) (step : Ast-F A A → A) (at : ℕ) (s : List ℕ) → folded A step (tree.Text at s) ≡ step (Ast-F.Text at s)
fold_text A step at s = ap (folded A step) (sym (tree.rolls-Text at s)) ∙ fold-roll-Ast A A step value_step (Ast-F.Text at s)

pub fold_name : (A : Type 0) (step : Ast-F A A → A) (x : Name) → folded A step (tree.Name x) ≡ step (Ast-F.Name x)
fold_name A step x = ap (folded A step) (sym (tree.rolls-Name x)) ∙ fold-roll-Ast A A step value_step (Ast-F.Name x)

pub fold_call : (A : Type 0) (step : Ast-F A A → A) (x : Name) (es : List Ast) → folded A step (tree.Call x es) ≡ step (Ast-F.Call x (map (folded A step) es))
fold_call A step x es = ap (folded A step) (sym (tree.rolls-Call x es)) ∙ fold-roll-Ast A A step value_step (Ast-F.Call x es)

pub fold_binary : (A : Type 0) (step : Ast-F A A → A) (o : Op) (a b : Ast)
    → folded A step (tree.Binary o a b) ≡ step (Ast-F.Binary o (folded A step a) (folded A step b))
fold_binary A step o a b = ap (folded A step) (sym (tree.rolls-Binary o a b)) ∙ fold-roll-Ast A A step value_step (Ast-F.Binary o a b)

pub fold_group : (A : Type 0) (step : Ast-F A A → A) (at : ℕ) (a : Ast) → folded A step (tree.Group at a) ≡ step (Ast-F.Group at (folded A step a))
fold_group A step at a = ap (folded A step) (sym (tree.rolls-Group at a)) ∙ fold-roll-Ast A A step value_step (Ast-F.Group at a)

pub fold_if : (A : Type 0) (step : Ast-F A A → A) (at : ℕ) (p a b : Ast)
    → folded A step (tree.If at p a b) ≡ step (Ast-F.If at (folded A step p) (folded A step a) (folded A step b))
fold_if A step at p a b = ap (folded A step) (sym (tree.rolls-If at p a b)) ∙ fold-roll-Ast A A step value_step (Ast-F.If at p a b)

pub fold_negate : (A : Type 0) (step : Ast-F A A → A) (at : ℕ) (a : Ast) → folded A step (tree.Negate at a) ≡ step (Ast-F.Negate at (folded A step a))
fold_negate A step at a = ap (folded A step) (sym (tree.rolls-Negate at a)) ∙ fold-roll-Ast A A step value_step (Ast-F.Negate at a)

-- a binding is what its value is
fold_bindings : (A : Type 0) (step : Ast-F A A → A) (bs : List Binding) → map (fold-Binding A A step value_step) bs ≡ map (λ (b : Binding). folded A step b.value) bs
fold_bindings A step [] = refl
fold_bindings A step (b ∷ bs) = ap (λ x. x ∷ map (fold-Binding A A step value_step) bs) (fold_out-Binding A A step value_step b) ∙ ap (λ l. folded A step b.value ∷ l) (fold_bindings A step bs)

pub fold_let : (A : Type 0) (step : Ast-F A A → A) (at : ℕ) (bs : List Binding) (c : Ast)
    → folded A step (tree.Let at bs c) ≡ step (Ast-F.Let at (map (λ (b : Binding). folded A step b.value) bs) (folded A step c))
fold_let A step at bs c =
    ap (folded A step) (sym (tree.rolls-Let at bs c)) ∙ (fold-roll-Ast A A step value_step (Ast-F.Let at bs c)
    ∙ ap (λ l. step (Ast-F.Let at l (folded A step c))) (fold_bindings A step bs))
