-- The readers of the grammar's lines are sound.
use Rattle.std.proofs.Common.{◌≡◌, ℕ, zero, suc, ◌<◌, ◌≤◌, true, List, [], ◌∷◌, ◌++◌, length, Some, pos, refl, ap, subst, arith, append_assoc, length-append}
use Rattle.std.proofs.lemmas.List.{append-nil}
use Rattle.std.proofs.lemmas.Bool.{eqb-true}
use Rattle.txs_lexer.specs.declared.token.Token.{Token}
use Rattle.txs_lexer.specs.declared.token.Kind.{Kind}
use Rattle.txs_lexer.specs.declared.token.Kind.TheVariants.{Name, Word, Number, Quoted, Symbol}
use Rattle.txs_syntax.specs.declared.ast.Op.{Op}
use Rattle.txs_syntax.specs.declared.ast.Ast.{Ast}
use Rattle.txs_syntax.specs.declared.ast.Ast.TheVariants as tree
use Rattle.txs_syntax.specs.Grammar.{Tokens, Marked, tokens_of, Signs, sign_of, IsSymbol, IsWord, expr, un, prim, SpellsAt, or_none, and_none, compare_none, join_none, sums, products, sum_one, product_one, plain, number}
use Rattle.txs_syntax.specs.Places.{Shallow}
use Rattle.txs_parse_expr.specs.Reader.{Outcome, ok, bad, deep, after, Reader, symbol_kind, is_symbol, word_kind, is_word, on, on_sign, right, chain, many}
use Rattle.txs_parse_expr.proofs.Sound.{Found, Sound, sound_map, sound_after, sound_within, after_found, sound_ok, sound_same, found_on, sound_sign}

kind_symbol : (n : ℕ) (k : Kind) → symbol_kind n k ≡ true → k ≡ Symbol n
kind_symbol n (Symbol s) e = ap Symbol (eqb-true s n e)
kind_symbol n (Word w) e = cc
kind_symbol n (Name x) e = cc
kind_symbol n (Number i) e = cc
kind_symbol n (Quoted s) e = cc

pub symbol_is : (n : ℕ) (c : Token) → is_symbol n c ≡ true → IsSymbol n c
symbol_is n c e = kind_symbol n c.kind e

kind_word : (n : ℕ) (k : Kind) → word_kind n k ≡ true → k ≡ Word n
kind_word n (Symbol s) e = cc
kind_word n (Word w) e = ap Word (eqb-true w n e)
kind_word n (Name x) e = cc
kind_word n (Number i) e = cc
kind_word n (Quoted s) e = cc

pub word_is : (n : ℕ) (c : Token) → is_word n c ≡ true → IsWord n c
word_is n c e = kind_word n c.kind e

-- ---- the shortest of each layer

abbrev pub made : Kind → Token
made k = record { kind = k; from = 0; to = 0 }

abbrev pub zero_token : Token
zero_token = made (Number (pos 0))

abbrev pub zero_tree : Ast
zero_tree = tree.Number 0 (pos 0)

pub zero_prim : (d : ℕ) → SpellsAt prim d zero_tree ((d, zero_token) ∷ [])
zero_prim d = number zero_token (pos 0) refl

pub up_expr : {d : ℕ} {a : Ast} {u : Marked} → SpellsAt un d a u → SpellsAt expr d a u
up_expr s = or_none (and_none (compare_none (join_none (sums (sum_one (products (product_one s)))))))

pub zero_expr : (d : ℕ) → SpellsAt expr d zero_tree ((d, zero_token) ∷ [])
zero_expr d = up_expr (plain (zero_prim d))

module _ (limit : ℕ) where
  -- ---- a right operand

  module _ (d : ℕ) (signs : Signs) (lower again : Reader) (L G R : Ast → Marked → Type 0) (l : d < limit)
      (none : (a : Ast) (u : Marked) → L a u → R a u)
      (some : (a b : Ast) (u v : Marked) (o : Op) (c : Token) → sign_of signs c ≡ Some o → L a u → G b v → R (tree.Binary o a b) (u ++ (d, c) ∷ v)) where
    pub sound_right : Sound limit lower L → Sound limit again G → Sound limit (right signs lower again) R
    sound_right first second =
        sound_after limit lower (λ a ts1. on_sign signs ts1 (λ o ts2. after (again ts2) (λ b ts3. ok (tree.Binary o a b) ts3)) (ok a ts1)) L R first
        (λ a u s. sound_sign limit d signs (λ o ts2. after (again ts2) (λ b ts3. ok (tree.Binary o a b) ts3)) (ok a) (λ b v. R b (u ++ v)) l
        (λ c o e. sound_after limit again (λ b ts3. ok (tree.Binary o a b) ts3) G (λ b v. R b (u ++ ((d, c) ∷ v))) second
        (λ b v t. sound_ok limit (tree.Binary o a b) (λ x w. R x (u ++ ((d, c) ∷ (v ++ w)))) (rw append-nil (some a b u v o c e s t)))
        (λ b v t. (tree.Binary o a b, [], rw append-nil (some a b u v o c e s t))))
        (sound_ok limit a (λ b v. R b (u ++ v)) (rw append-nil (none a u s))))
        (λ a u s. (a, [], rw append-nil (none a u s)))

  -- ---- a chain of operands, the last at depth d

  module _ (d : ℕ) (signs : Signs) (operand : Reader) (again : Ast → Reader) (G T : Ast → Marked → Type 0) (l : d < limit) where
    pub sound_chain : Sound limit operand G
        → (a : Ast) (u : Marked) → T a u
        → ((b : Ast) (v : Marked) (o : Op) (c : Token) → sign_of signs c ≡ Some o → G b v → T (tree.Binary o a b) (u ++ (d, c) ∷ v))
        → ((b : Ast) (v : Marked) (o : Op) (c : Token) → sign_of signs c ≡ Some o → G b v → Shallow limit v
        → Sound limit (again (tree.Binary o a b)) (λ x w. T x ((u ++ (d, c) ∷ v) ++ w)))
        → Sound limit (chain signs operand again a) (λ b v. T b (u ++ v))
    sound_chain first a u s some next =
        sound_sign limit d signs (λ o ts1. after (operand ts1) (λ b ts2. again (tree.Binary o a b) ts2)) (ok a) (λ b v. T b (u ++ v)) l
        (λ c o e. sound_within limit operand (λ b ts2. again (tree.Binary o a b) ts2) G (λ b v. T b (u ++ ((d, c) ∷ v))) first
        (λ b v t h. sound_map limit (again (tree.Binary o a b)) (λ x w. T x ((u ++ (d, c) ∷ v) ++ w)) (λ x w. T x (u ++ ((d, c) ∷ (v ++ w))))
        (λ x w y. subst (T x) (append_assoc u ((d, c) ∷ v) w) y) (next b v o c e t h))
        (λ b v t. (tree.Binary o a b, [], rw append-nil (some b v o c e t))))
        (sound_ok limit a (λ b v. T b (u ++ v)) (rw append-nil s))

  -- ---- several items

  module _ {A : Type 0} (item : Tokens → Outcome A) (separator : ℕ)
      (shorter : (ts : Tokens) (x : A) (r : Tokens) → item ts ≡ ok x r → length r ≤ length ts) where
    abbrev after_item : (Tokens → Outcome (List A)) → A → Tokens → Outcome (List A)
    after_item rest x ts1 = on (is_symbol separator) ts1 (λ ts2. after (rest ts2) (λ xs ts3. ok (x ∷ xs) ts3)) (ok (x ∷ []) ts1)

    same_rest : (p q : Tokens → Outcome (List A)) (x : A) (r : Tokens) → ((c : Token) (v : Tokens) → r ≡ c ∷ v → p v ≡ q v)
        → after_item p x r ≡ after_item q x r
    same_rest p q x [] h = refl
    same_rest p q x (c ∷ v) h = let e : p v ≡ q v = h c v refl in rw e refl

    same_after : (p q : Tokens → Outcome (List A)) (n : ℕ) (o : Outcome A) → ((x : A) (r : Tokens) → o ≡ ok x r → length r ≤ n)
        → ((v : Tokens) → length v < n → p v ≡ q v) → after o (after_item p) ≡ after o (after_item q)
    same_after p q n (ok x r) h g = same_rest p q x r (λ c v e. g v (let k = h x r refl in let j : length r ≡ suc (length v) = ap length e in omega arith))
    same_after p q n (bad r) h g = refl
    same_after p q n (deep r) h g = refl

    many_fuel : (n k : ℕ) (ts : Tokens) → length ts < n → length ts < k → many item separator n ts ≡ many item separator k ts
    many_fuel zero k ts h j = absurd (omega arith)
    many_fuel (suc n) zero ts h j = absurd (omega arith)
    many_fuel (suc n) (suc k) ts h j =
        same_after (many item separator n) (many item separator k) (length ts) (item ts) (shorter ts) (λ v g. many_fuel n k v (omega arith) (omega arith))

    abbrev pub all : Tokens → Outcome (List A)
    all ts = many item separator (suc (length ts)) ts

    pub all_is : (ts : Tokens) → all ts ≡ after (item ts) (after_item all)
    all_is ts = same_after (many item separator (length ts)) all (length ts) (item ts) (shorter ts) (λ v g. many_fuel (length ts) (suc (length v)) v g (omega arith))

    module _ (d : ℕ) (S : A → Marked → Type 0) (T : List A → Marked → Type 0) (l : (a : A) (u : Marked) → S a u → Shallow limit u → d < limit) (sound : Sound limit item S)
        (one : (a : A) (u : Marked) → S a u → T (a ∷ []) u)
        (next : (a : A) (xs : List A) (u v : Marked) (c : Token) → IsSymbol separator c → S a u → T xs v → T (a ∷ xs) (u ++ (d, c) ∷ v)) where
      all_found : (n : ℕ) (ts : Tokens) → length ts < n → Found limit all T ts (all ts)
      all_found zero ts h = absurd (omega arith)
      all_found (suc n) ts h =
          sound_same limit all (λ w. after (item w) (after_item all)) T ts (λ w f. all_is w)
          (after_found limit item (after_item all) S T ts (item ts) (sound ts)
          (λ a u r e s sh. found_on limit d (is_symbol separator) (λ c ts2. after (all ts2) (λ xs ts3. ok (a ∷ xs) ts3)) (ok (a ∷ [])) (λ b v. T b (u ++ v)) (l a u s sh)
          (sound_ok limit (a ∷ []) (λ b v. T b (u ++ v)) (rw append-nil (one a u s))) r
          (λ c v q p.
          let is : IsSymbol separator c = symbol_is separator c p in
          let short : length v < n = (let x = ap length e in let y = ap length q in omega (arith, length-append (tokens_of u) r)) in
          after_found limit all (λ ys ts3. ok (a ∷ ys) ts3) T (λ b w. T b (u ++ ((d, c) ∷ w))) v (all v) (all_found n v short)
          (λ xs w r2 e2 t sh2. sound_ok limit (a ∷ xs) (λ b z. T b (u ++ ((d, c) ∷ (w ++ z)))) (rw append-nil (next a xs u w c is s t)) r2)
          (λ xs w t. (a ∷ xs, [], rw append-nil (next a xs u w c is s t)))))
          (λ a u s. (a ∷ [], [], rw append-nil (one a u s))))

      pub sound_all : Sound limit all T
      sound_all ts = all_found (suc (length ts)) ts (omega arith)
