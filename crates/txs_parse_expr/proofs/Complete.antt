-- What is spelled is read, up to its first token that is too deep.
use Rattle.std.proofs.Common.{◌≡◌, ℕ, zero, suc, ◌-◌, ◌<◌, ◌≤◌, true, false, ◌⊎◌, inl, inr, List, [], ◌∷◌, ◌++◌, length, Some, None, refl, sym, ap, subst, ◌∙◌, arith, append_assoc, length-append}
use Rattle.txs_lexer.specs.declared.token.Token.{Token}
use Rattle.txs_lexer.specs.declared.token.Kind.TheVariants.{Name}
use Rattle.txs_lexer.specs.declared.symbol.TheConstants.{MINUS, IS, OPEN, CLOSE, COMMA, SEMICOLON}
use Rattle.txs_lexer.specs.declared.word.TheConstants.{IN, NI, LET, IF, THEN, ELSE, FI}
use Rattle.txs_syntax.specs.declared.ast.Op.{Op}
use Rattle.txs_syntax.specs.declared.ast.Ast.{Ast}
use Rattle.txs_syntax.specs.declared.ast.Ast.TheVariants as tree
use Rattle.txs_syntax.specs.declared.ast.Binding.{Binding}
use Rattle.txs_syntax.specs.Grammar.{Tokens, Marked, tokens_of, Signs, sign_of, or_signs, and_signs, compare_signs, join_signs, sum_signs, product_signs, IsSymbol, IsWord, Layer, expr, conj, cmp, cat, sum, prod, un, prim, named, SpellsAt, or_none, or_more, and_none, and_more, compare_none, compare_two, join_none, join_more, sums, products, Sums, sum_one, sum_more, Products, product_one, product_more, negated, plain, number, text, name, call_none, call_some, group, choose, bind, AllAt, last, more, BindAt, one_bind, BindsAt, last_bind, more_binds}
use Rattle.txs_syntax.specs.Places.{Shallow}
use Rattle.txs_parse_expr.specs.Reader.{Outcome, ok, deep, after, Reader, is_symbol, is_word, on, expect, on_sign, right, many, where_room, group_at, if_at, let_at, bind_at, prim_at, full_at, readers}
use Rattle.txs_parse_expr.proofs.Sound.{tokens_append, tokens_more, shallow_append}
use Rattle.txs_parse_expr.proofs.Closing.{Stops, or_closes, and_closes, compare_closes, join_closes, sum_closes, product_closes, stops_close, stops_comma, stops_semicolon, stops_word, no_sign, prod_of_sum, un_of_prod, sum_of_cat, cat_of_cmp, cmp_of_conj, conj_of_expr, not_close, not_minus}
use Rattle.txs_parse_expr.proofs.First.{First, first, first_all, first_below, binds_below}

abbrev pub read : Layer → ℕ → Reader
read expr left = (readers left).expr
read conj left = (readers left).conj
read cmp left = (readers left).cmp
read cat left = (readers left).cat
read sum left = (readers left).sum
read prod left = (readers left).prod
read un left = (readers left).un
read prim zero = full_at
read prim (suc left) = prim_at (readers left)

read_full : (layer : Layer) → read layer zero ≡ full_at
read_full expr = refl
read_full conj = refl
read_full cmp = refl
read_full cat = refl
read_full sum = refl
read_full prod = refl
read_full un = refl
read_full prim = refl

un_minus : (left : ℕ) (c : Token) (ts : Tokens) → IsSymbol MINUS c → read un (suc left) (c ∷ ts) ≡ after (read un left ts) (λ a ts2. ok (tree.Negate c.from a) ts2)
un_minus left c ts e = rw e refl

prim_group : (left : ℕ) (c : Token) (ts : Tokens) → IsSymbol OPEN c → read prim (suc left) (c ∷ ts) ≡ group_at (readers left) c.from ts
prim_group left c ts e = rw e refl

prim_if : (left : ℕ) (c : Token) (ts : Tokens) → IsWord IF c → read prim (suc left) (c ∷ ts) ≡ if_at (readers left) c.from ts
prim_if left c ts e = rw e refl

prim_let : (left : ℕ) (c : Token) (ts : Tokens) → IsWord LET c → read prim (suc left) (c ∷ ts) ≡ let_at (readers left) c.from ts
prim_let left c ts e = rw e refl

bind_value : (left : ℕ) (c i : Token) (x : List ℕ) (ts : Tokens) → c.kind ≡ Name x → IsSymbol IS i
    → bind_at (readers (suc left)) (c ∷ i ∷ ts) ≡ after (read expr (suc left) ts) (λ y ts2. ok (record { name = named c x; value = y }) ts2)
bind_value left c i x ts e f = rw (e, f) refl

sums_end : (k : ℕ) (a : Ast) (r : Tokens) → Stops sum r → (readers k).sums a r ≡ ok a r
sums_end zero a r h = refl
sums_end (suc k) a [] h = refl
sums_end (suc k) a (c ∷ r) h = rw h.1 refl

prods_end : (k : ℕ) (a : Ast) (r : Tokens) → Stops prod r → (readers k).prods a r ≡ ok a r
prods_end zero a r h = refl
prods_end (suc k) a [] h = refl
prods_end (suc k) a (c ∷ r) h = rw h.1 refl

module _ (limit : ℕ) where
  -- the reader stopped at the first token of u that is too deep
  pub record Sinks {A : Type 0} (o : Outcome A) (u : Marked) (r : Tokens) : Type 0 where
    pub before : Marked
    pub depth : ℕ
    pub token : Token
    pub rest : Marked
    pub is : u ≡ before ++ (depth, token) ∷ rest
    pub shallow : Shallow limit before
    pub many : limit ≤ depth
    pub stops : o ≡ deep (token ∷ (tokens_of rest ++ r))

  -- u is read, and r is left; or some token of it is too deep
  abbrev pub Ends : {A : Type 0} → Outcome A → A → Marked → Tokens → Type 0
  Ends o a u r = ((o ≡ ok a r) × Shallow limit u) ⊎ Sinks o u r

  sinks_before : {A : Type 0} (o : Outcome A) (u w : Marked) (r : Tokens) → Shallow limit u → Sinks o w r → Sinks o (u ++ w) r
  sinks_before o u w r h x = record {
    before = u ++ x.before;
    depth = x.depth;
    token = x.token;
    rest = x.rest;
    is = ap (λ v. u ++ v) x.is ∙ sym (append_assoc u x.before ((x.depth, x.token) ∷ x.rest));
    shallow = shallow_append limit u x.before h x.shallow;
    many = x.many;
    stops = x.stops;
  }

  sinks_more : {A : Type 0} (o : Outcome A) (u w : Marked) (r : Tokens) → Sinks o u (tokens_of w ++ r) → Sinks o (u ++ w) r
  sinks_more o u w r x = record {
    before = x.before;
    depth = x.depth;
    token = x.token;
    rest = x.rest ++ w;
    is = ap (λ v. v ++ w) x.is ∙ append_assoc x.before ((x.depth, x.token) ∷ x.rest) w;
    shallow = x.shallow;
    many = x.many;
    stops = x.stops ∙ ap (λ v. deep (x.token ∷ v)) (sym (tokens_more x.rest w r));
  }

  sinks_after : {A B : Type 0} (o : Outcome A) (go : A → Tokens → Outcome B) (u : Marked) (r : Tokens) → Sinks o u r → Sinks (after o go) u r
  sinks_after o go u r x = record {
    before = x.before;
    depth = x.depth;
    token = x.token;
    rest = x.rest;
    is = x.is;
    shallow = x.shallow;
    many = x.many;
    stops = ap (λ y. after y go) x.stops;
  }

  sinks_first : {A : Type 0} (o : Outcome A) (d : ℕ) (c : Token) (v : Marked) (r : Tokens) → limit ≤ d → o ≡ deep (c ∷ (tokens_of v ++ r)) → Sinks o ((d, c) ∷ v) r
  sinks_first o d c v r l e = record { before = []; depth = d; token = c; rest = v; is = refl; shallow = tt; many = l; stops = e }

  ends_before : {A : Type 0} (o : Outcome A) (b : A) (u v : Marked) (r : Tokens) → Shallow limit u → Ends o b v r → Ends o b (u ++ v) r
  ends_before o b u v r h (inl e) = inl (e.0, shallow_append limit u v h e.1)
  ends_before o b u v r h (inr x) = inr (sinks_before o u v r h x)

  ends_token : {A : Type 0} (o : Outcome A) (b : A) (d : ℕ) (c : Token) (v : Marked) (r : Tokens) → d < limit → Ends o b v r → Ends o b ((d, c) ∷ v) r
  ends_token o b d c v r l h = ends_before o b ((d, c) ∷ []) v r (l, tt) h

  -- what is read first, and then what follows it
  ends_after : {A B : Type 0} (o : Outcome A) (go : A → Tokens → Outcome B) (a : A) (b : B) (u v : Marked) (r : Tokens)
      → Ends o a u (tokens_of v ++ r) → (Shallow limit u → Ends (go a (tokens_of v ++ r)) b v r) → Ends (after o go) b (u ++ v) r
  ends_after o go a b u v r (inl e) h =
      subst (λ p. Ends p b (u ++ v) r) (sym (ap (λ y. after y go) e.0)) (ends_before (go a (tokens_of v ++ r)) b u v r e.1 (h e.1))
  ends_after o go a b u v r (inr x) h = inr (sinks_more (after o go) u v r (sinks_after o go u (tokens_of v ++ r) x))

  pub ends_then : {A B : Type 0} (f : Tokens → Outcome A) (go : A → Tokens → Outcome B) (a : A) (b : B) (u v : Marked) (r : Tokens)
      → Ends (f (tokens_of u ++ (tokens_of v ++ r))) a u (tokens_of v ++ r) → (Shallow limit u → Ends (go a (tokens_of v ++ r)) b v r)
      → Ends (after (f (tokens_of (u ++ v) ++ r)) go) b (u ++ v) r
  ends_then f go a b u v r first next =
      subst (λ ts. Ends (after (f ts) go) b (u ++ v) r) (sym (tokens_more u v r)) (ends_after (f (tokens_of u ++ (tokens_of v ++ r))) go a b u v r first next)

  -- and nothing follows
  pub ends_done : {A B : Type 0} (o : Outcome A) (go : A → Tokens → Outcome B) (a : A) (b : B) (u : Marked) (r : Tokens)
      → Ends o a u r → go a r ≡ ok b r → Ends (after o go) b u r
  ends_done o go a b u r (inl e) h = inl (ap (λ y. after y go) e.0 ∙ h, e.1)
  ends_done o go a b u r (inr x) h = inr (sinks_after o go u r x)

  pub ends_same : {A : Type 0} (o p : Outcome A) (b : A) (v : Marked) (r : Tokens) → o ≡ p → Ends p b v r → Ends o b v r
  ends_same o p b v r e h = subst (λ q. Ends q b v r) (sym e) h

  complete_zero : (layer : Layer) (d : ℕ) (a : Ast) (u : Marked) → First d u → limit ≤ d → (r : Tokens) → Ends (read layer zero (tokens_of u ++ r)) a u r
  complete_zero layer d a u f l r =
      let v : Marked = (d, f.token) ∷ f.rest in
      let q : full_at (tokens_of v ++ r) ≡ deep (f.token ∷ (tokens_of f.rest ++ r)) = (let k = f.begins in rw k refl) in
      let e : read layer zero (tokens_of v ++ r) ≡ deep (f.token ∷ (tokens_of f.rest ++ r)) = ap (λ g. g (tokens_of v ++ r)) (read_full layer) ∙ q in
      subst (λ w. Ends (read layer zero (tokens_of w ++ r)) a w r) (sym f.is) (inr (sinks_first (read layer zero (tokens_of v ++ r)) d f.token f.rest r l e))

  -- ---- operators

  sign_stop : {B : Type 0} (signs : Signs) (r : Tokens) → ((c : Token) (v : Tokens) → r ≡ c ∷ v → sign_of signs c ≡ None) → (go : Op → Tokens → B) (stop : B)
      → on_sign signs r go stop ≡ stop
  sign_stop signs [] h go stop = refl
  sign_stop signs (c ∷ v) h go stop = let q : sign_of signs c ≡ None = h c v refl in rw q refl

  -- a first operand alone
  right_none : (signs : Signs) (lower again : Reader) (a : Ast) (u : Marked) (r : Tokens) → ((c : Token) (v : Tokens) → r ≡ c ∷ v → sign_of signs c ≡ None)
      → Ends (lower (tokens_of u ++ r)) a u r → Ends (right signs lower again (tokens_of u ++ r)) a u r
  right_none signs lower again a u r h e =
      ends_done (lower (tokens_of u ++ r)) _ a a u r e (sign_stop signs r h (λ o ts2. after (again ts2) (λ b ts3. ok (tree.Binary o a b) ts3)) (ok a r))

  right_more : (signs : Signs) (lower again : Reader) (d : ℕ) (a b : Ast) (o : Op) (c : Token) (u v : Marked) (r : Tokens) → sign_of signs c ≡ Some o → d < limit
      → Ends (lower (tokens_of u ++ (c ∷ (tokens_of v ++ r)))) a u (c ∷ (tokens_of v ++ r)) → Ends (again (tokens_of v ++ r)) b v r
      → Ends (right signs lower again (tokens_of (u ++ (d, c) ∷ v) ++ r)) (tree.Binary o a b) (u ++ (d, c) ∷ v) r
  right_more signs lower again d a b o c u v r q l e f =
      ends_then lower (λ x ts1. on_sign signs ts1 (λ p ts2. after (again ts2) (λ y ts3. ok (tree.Binary p x y) ts3)) (ok x ts1)) a (tree.Binary o a b) u ((d, c) ∷ v) r e
      (λ h. rw q (ends_token (after (again (tokens_of v ++ r)) (λ y ts3. ok (tree.Binary o a y) ts3)) (tree.Binary o a b) d c v r l
      (ends_done (again (tokens_of v ++ r)) (λ y ts3. ok (tree.Binary o a y) ts3) b (tree.Binary o a b) v r f refl)))

  -- the reader came to the end of the operands so far, the last of them at depth k
  abbrev SumEnds : ℕ → ℕ → Ast → Marked → Tokens → Type 0
  SumEnds left k a u r =
      ((read sum left (tokens_of u ++ r) ≡ (readers (limit - k)).sums a r) × Shallow limit u) ⊎ Sinks (read sum left (tokens_of u ++ r)) u r

  abbrev ProductEnds : ℕ → ℕ → Ast → Marked → Tokens → Type 0
  ProductEnds left k a u r =
      ((read prod left (tokens_of u ++ r) ≡ (readers (limit - k)).prods a r) × Shallow limit u) ⊎ Sinks (read prod left (tokens_of u ++ r)) u r

  end_sum : (left k : ℕ) (a : Ast) (u : Marked) (r : Tokens) → SumEnds left k a u r → Stops sum r → Ends (read sum left (tokens_of u ++ r)) a u r
  end_sum left k a u r (inl p) s = inl (p.0 ∙ sums_end (limit - k) a r s, p.1)
  end_sum left k a u r (inr d) s = inr d

  end_prod : (left k : ℕ) (a : Ast) (u : Marked) (r : Tokens) → ProductEnds left k a u r → Stops prod r → Ends (read prod left (tokens_of u ++ r)) a u r
  end_prod left k a u r (inl p) s = inl (p.0 ∙ prods_end (limit - k) a r s, p.1)
  end_prod left k a u r (inr d) s = inr d

  sum_first : (left d : ℕ) (a : Ast) (u : Marked) (r : Tokens) → suc left ≡ limit - d → Ends (read prod (suc left) (tokens_of u ++ r)) a u r → SumEnds (suc left) d a u r
  sum_first left d a u r q (inl e) = inl (ap (λ y. after y (readers (suc left)).sums) e.0 ∙ ap (λ n. (readers n).sums a r) q, e.1)
  sum_first left d a u r q (inr x) = inr (sinks_after (read prod (suc left) (tokens_of u ++ r)) (readers (suc left)).sums u r x)

  product_first : (left d : ℕ) (a : Ast) (u : Marked) (r : Tokens) → suc left ≡ limit - d → Ends (read un (suc left) (tokens_of u ++ r)) a u r → ProductEnds (suc left) d a u r
  product_first left d a u r q (inl e) = inl (ap (λ y. after y (readers (suc left)).prods) e.0 ∙ ap (λ n. (readers n).prods a r) q, e.1)
  product_first left d a u r q (inr x) = inr (sinks_after (read un (suc left) (tokens_of u ++ r)) (readers (suc left)).prods u r x)

  sums_step : (k : ℕ) → k < limit → (a : Ast) (o : Op) (c : Token) (ts : Tokens) → sign_of sum_signs c ≡ Some o
      → (readers (limit - k)).sums a (c ∷ ts) ≡ after (read prod (limit - suc k) ts) (λ b ts2. (readers (limit - suc k)).sums (tree.Binary o a b) ts2)
  sums_step k l a o c ts q = let e : limit - k ≡ suc (limit - suc k) = omega arith in rw (e, q) refl

  prods_step : (k : ℕ) → k < limit → (a : Ast) (o : Op) (c : Token) (ts : Tokens) → sign_of product_signs c ≡ Some o
      → (readers (limit - k)).prods a (c ∷ ts) ≡ after (read un (limit - suc k) ts) (λ b ts2. (readers (limit - suc k)).prods (tree.Binary o a b) ts2)
  prods_step k l a o c ts q = let e : limit - k ≡ suc (limit - suc k) = omega arith in rw (e, q) refl

  sum_next : (left k : ℕ) (a b : Ast) (o : Op) (c : Token) (u v : Marked) (r : Tokens) → sign_of sum_signs c ≡ Some o → (Shallow limit u → k < limit)
      → SumEnds left k a u (c ∷ (tokens_of v ++ r)) → Ends (read prod (limit - suc k) (tokens_of v ++ r)) b v r
      → SumEnds left (suc k) (tree.Binary o a b) (u ++ (k, c) ∷ v) r
  sum_next left k a b o c u v r q l (inl p) (inl e) =
      inl (
        ap (read sum left) (tokens_more u ((k, c) ∷ v) r) ∙ (p.0 ∙ (sums_step k (l p.1) a o c (tokens_of v ++ r) q
            ∙ ap (λ y. after y (λ b ts2. (readers (limit - suc k)).sums (tree.Binary o a b) ts2)) e.0)),
        shallow_append limit u ((k, c) ∷ v) p.1 (l p.1, e.1),
      )
  sum_next left k a b o c u v r q l (inl p) (inr x) =
      let e = ap (read sum left) (tokens_more u ((k, c) ∷ v) r) ∙ (p.0 ∙ sums_step k (l p.1) a o c (tokens_of v ++ r) q) in
      let go = λ (b : Ast) (ts2 : Tokens). (readers (limit - suc k)).sums (tree.Binary o a b) ts2 in
      inr (subst (λ y. Sinks y (u ++ (k, c) ∷ v) r) (sym e)
      (sinks_before (after (read prod (limit - suc k) (tokens_of v ++ r)) go) u ((k, c) ∷ v) r p.1
      (sinks_before (after (read prod (limit - suc k) (tokens_of v ++ r)) go) ((k, c) ∷ []) v r (l p.1, tt)
      (sinks_after (read prod (limit - suc k) (tokens_of v ++ r)) go v r x))))
  sum_next left k a b o c u v r q l (inr x) h =
      inr (subst (λ y. Sinks y (u ++ (k, c) ∷ v) r) (sym (ap (read sum left) (tokens_more u ((k, c) ∷ v) r)))
      (sinks_more (read sum left (tokens_of u ++ (c ∷ (tokens_of v ++ r)))) u ((k, c) ∷ v) r x))

  product_next : (left k : ℕ) (a b : Ast) (o : Op) (c : Token) (u v : Marked) (r : Tokens) → sign_of product_signs c ≡ Some o → (Shallow limit u → k < limit)
      → ProductEnds left k a u (c ∷ (tokens_of v ++ r)) → Ends (read un (limit - suc k) (tokens_of v ++ r)) b v r
      → ProductEnds left (suc k) (tree.Binary o a b) (u ++ (k, c) ∷ v) r
  product_next left k a b o c u v r q l (inl p) (inl e) =
      inl (
        ap (read prod left) (tokens_more u ((k, c) ∷ v) r) ∙ (p.0 ∙ (prods_step k (l p.1) a o c (tokens_of v ++ r) q
            ∙ ap (λ y. after y (λ b ts2. (readers (limit - suc k)).prods (tree.Binary o a b) ts2)) e.0)),
        shallow_append limit u ((k, c) ∷ v) p.1 (l p.1, e.1),
      )
  product_next left k a b o c u v r q l (inl p) (inr x) =
      let e = ap (read prod left) (tokens_more u ((k, c) ∷ v) r) ∙ (p.0 ∙ prods_step k (l p.1) a o c (tokens_of v ++ r) q) in
      let go = λ (b : Ast) (ts2 : Tokens). (readers (limit - suc k)).prods (tree.Binary o a b) ts2 in
      inr (subst (λ y. Sinks y (u ++ (k, c) ∷ v) r) (sym e)
      (sinks_before (after (read un (limit - suc k) (tokens_of v ++ r)) go) u ((k, c) ∷ v) r p.1
      (sinks_before (after (read un (limit - suc k) (tokens_of v ++ r)) go) ((k, c) ∷ []) v r (l p.1, tt)
      (sinks_after (read un (limit - suc k) (tokens_of v ++ r)) go v r x))))
  product_next left k a b o c u v r q l (inr x) h =
      inr (subst (λ y. Sinks y (u ++ (k, c) ∷ v) r) (sym (ap (read prod left) (tokens_more u ((k, c) ∷ v) r)))
      (sinks_more (read prod left (tokens_of u ++ (c ∷ (tokens_of v ++ r)))) u ((k, c) ∷ v) r x))

  -- the last operand's depth
  shallow_after : (u v : Marked) → Shallow limit (u ++ v) → Shallow limit v
  shallow_after [] v h = h
  shallow_after (m ∷ u) v h = shallow_after u v h.1

  last_sum : {d k : ℕ} {a : Ast} {u : Marked} → Sums d k a u → Shallow limit u → k < limit
  last_sum {k = k} {u = u} (sum_one s) h = first_below limit k u (first s) h
  last_sum (sum_more {k = k} {u = u} {v = v} o c e s t) h = first_below limit (suc k) v (first t) (shallow_after u ((k, c) ∷ v) h).1

  last_product : {d k : ℕ} {a : Ast} {u : Marked} → Products d k a u → Shallow limit u → k < limit
  last_product {k = k} {u = u} (product_one s) h = first_below limit k u (first s) h
  last_product (product_more {k = k} {u = u} {v = v} o c e s t) h = first_below limit (suc k) v (first t) (shallow_after u ((k, c) ∷ v) h).1

  -- ---- single operands

  name_end : (left d : ℕ) (c : Token) (x : List ℕ) (r : Tokens) → c.kind ≡ Name x → d < limit → Stops prim r
      → Ends (read prim (suc left) (c ∷ r)) (tree.Name (named c x)) ((d, c) ∷ []) r
  name_end left d c x [] e l h = inl (rw e refl, (l, tt))
  name_end left d c x (k ∷ r) e l h = inl (rw (e, h) refl, (l, tt))

  room_end : (left d : ℕ) (c o k : Token) (x : List ℕ) (r : Tokens) → c.kind ≡ Name x → IsSymbol OPEN o → IsSymbol CLOSE k → left ≡ limit - suc d → d < limit
      → Ends (read prim (suc left) (c ∷ o ∷ k ∷ r)) (tree.Call (named c x) []) ((d, c) ∷ (d, o) ∷ (suc d, k) ∷ []) r
  room_end zero d c o k x r e f g q l =
      let p : read prim (suc zero) (c ∷ o ∷ k ∷ r) ≡ deep (k ∷ r) = rw (e, f, g) refl in
      inr (sinks_before (read prim (suc zero) (c ∷ o ∷ k ∷ r)) ((d, c) ∷ (d, o) ∷ []) ((suc d, k) ∷ []) r (l, (l, tt))
      (sinks_first (read prim (suc zero) (c ∷ o ∷ k ∷ r)) (suc d) k [] r (omega arith) p))
  room_end (suc left) d c o k x r e f g q l = inl (rw (e, f, g) refl, (l, (l, (omega arith, tt))))

  word_on : {B : Type 0} (w : ℕ) (d : ℕ) (c : Token) (go : Tokens → Outcome B) (b : B) (v : Marked) (r : Tokens) → is_word w c ≡ true → d < limit
      → Ends (go (tokens_of v ++ r)) b v r → Ends (expect (is_word w) (c ∷ (tokens_of v ++ r)) go) b ((d, c) ∷ v) r
  word_on w d c go b v r e l h = rw e (ends_token (go (tokens_of v ++ r)) b d c v r l h)

  word_end : {B : Type 0} (w : ℕ) (d : ℕ) (c : Token) (b : B) (r : Tokens) → is_word w c ≡ true → d < limit
      → Ends (expect (is_word w) (c ∷ r) (ok b)) b ((d, c) ∷ []) r
  word_end w d c b r e l = inl (rw e refl, (l, tt))

  symbol_on : {B : Type 0} (s : ℕ) (d : ℕ) (c : Token) (go : Tokens → Outcome B) (stop : Outcome B) (b : B) (v : Marked) (r : Tokens) → is_symbol s c ≡ true → d < limit
      → Ends (go (tokens_of v ++ r)) b v r → Ends (on (is_symbol s) (c ∷ (tokens_of v ++ r)) go stop) b ((d, c) ∷ v) r
  symbol_on s d c go stop b v r e l h = rw e (ends_token (go (tokens_of v ++ r)) b d c v r l h)

  symbol_end : {B : Type 0} (s : ℕ) (d : ℕ) (c : Token) (b : B) (r : Tokens) → is_symbol s c ≡ true → d < limit
      → Ends (expect (is_symbol s) (c ∷ r) (ok b)) b ((d, c) ∷ []) r
  symbol_end s d c b r e l = inl (rw e refl, (l, tt))

  some_arguments : {B : Type 0} (d : ℕ) (u : Marked) (r : Tokens) (go : Tokens → B) (stop : B) → First d u → on (is_symbol CLOSE) (tokens_of u ++ r) go stop ≡ stop
  some_arguments d u r go stop f =
      let k : is_symbol CLOSE f.token ≡ false = not_close f.token.kind f.begins in
      let q : on (is_symbol CLOSE) (f.token ∷ (tokens_of f.rest ++ r)) go stop ≡ stop = rw k refl in
      subst (λ w. on (is_symbol CLOSE) (tokens_of w ++ r) go stop ≡ stop) (sym f.is) q

  complete_call : (left d : ℕ) (c o k : Token) (x : List ℕ) (es : List Ast) (u : Marked) (r : Tokens) → c.kind ≡ Name x → IsSymbol OPEN o → IsSymbol CLOSE k
      → d < limit → AllAt (suc d) es u
      → Ends (many (read expr left) COMMA (suc (length (tokens_of u ++ (k ∷ r)))) (tokens_of u ++ (k ∷ r))) es u (k ∷ r)
      → Ends (read prim (suc left) (c ∷ o ∷ (tokens_of (u ++ (suc d, k) ∷ []) ++ r))) (tree.Call (named c x) es) ((d, c) ∷ (d, o) ∷ (u ++ (suc d, k) ∷ [])) r
  complete_call left d c o k x es u r e f g l s all =
      let ts : Tokens = tokens_of (u ++ (suc d, k) ∷ []) ++ r in
      let is : ts ≡ tokens_of u ++ (k ∷ r) = tokens_more u ((suc d, k) ∷ []) r in
      let body = λ (es : List Ast) (ts1 : Tokens). expect (is_symbol CLOSE) ts1 (λ ts2. ok (tree.Call (named c x) es) ts2) in
      let some = λ (ts : Tokens). after (many (read expr left) COMMA (suc (length ts)) ts) body in
      let p : read prim (suc left) (c ∷ o ∷ (tokens_of u ++ (k ∷ r))) ≡ some (tokens_of u ++ (k ∷ r)) =
      rw (e, f) (some_arguments (suc d) u (k ∷ r) (λ ts1. where_room (readers left).is_full (tokens_of u ++ (k ∷ r)) (ok (tree.Call (named c x) []) ts1)) (some (tokens_of u ++ (k ∷ r))) (first_all s)) in
      let y = ends_after (many (read expr left) COMMA (suc (length (tokens_of u ++ (k ∷ r)))) (tokens_of u ++ (k ∷ r))) body es (tree.Call (named c x) es) u ((suc d, k) ∷ []) r
      all
      (λ sh. symbol_end CLOSE (suc d) k (tree.Call (named c x) es) r (rw g refl) (first_below limit (suc d) u (first_all s) sh)) in
      let z = ends_same (read prim (suc left) (c ∷ o ∷ (tokens_of u ++ (k ∷ r)))) (some (tokens_of u ++ (k ∷ r))) (tree.Call (named c x) es) ((d, c) ∷ (d, o) ∷ (u ++ (suc d, k) ∷ [])) r p
      (ends_before (some (tokens_of u ++ (k ∷ r))) (tree.Call (named c x) es) ((d, c) ∷ (d, o) ∷ []) (u ++ (suc d, k) ∷ []) r (l, (l, tt)) y) in
      subst (λ us. Ends (read prim (suc left) (c ∷ o ∷ us)) (tree.Call (named c x) es) ((d, c) ∷ (d, o) ∷ (u ++ (suc d, k) ∷ [])) r) (sym is) z

  complete_let : (left d : ℕ) (l : Token) (bs : List Binding) (e : Ast) (u v : Marked) (i n : Token) (r : Tokens) → IsWord IN i → IsWord NI n → BindsAt (suc d) bs u
      → Ends (many (bind_at (readers left)) SEMICOLON (suc (length (tokens_of u ++ (i ∷ (tokens_of (v ++ (suc d, n) ∷ []) ++ r))))) (tokens_of u ++ (i ∷ (tokens_of (v ++ (suc d, n) ∷ []) ++ r)))) bs u (i ∷ (tokens_of (v ++ (suc d, n) ∷ []) ++ r))
      → Ends (read expr left (tokens_of v ++ (n ∷ r))) e v (n ∷ r)
      → Ends (after (many (bind_at (readers left)) SEMICOLON (suc (length (tokens_of (u ++ (suc d, i) ∷ (v ++ (suc d, n) ∷ [])) ++ r))) (tokens_of (u ++ (suc d, i) ∷ (v ++ (suc d, n) ∷ [])) ++ r))
      (λ cs ts1. expect (is_word IN) ts1 (λ ts2. after ((readers left).expr ts2) (λ e ts3. expect (is_word NI) ts3 (λ ts4. ok (tree.Let l.from cs e) ts4)))))
      (tree.Let l.from bs e) (u ++ (suc d, i) ∷ (v ++ (suc d, n) ∷ [])) r
  complete_let left d l bs e u v i n r g h s all body =
      let w : Marked = v ++ (suc d, n) ∷ [] in
      ends_then (λ ts. many (bind_at (readers left)) SEMICOLON (suc (length ts)) ts) _ bs (tree.Let l.from bs e) u ((suc d, i) ∷ w) r
      all
      (λ sh. word_on IN (suc d) i (λ ts2. after ((readers left).expr ts2) (λ e ts3. expect (is_word NI) ts3 (λ ts4. ok (tree.Let l.from bs e) ts4))) (tree.Let l.from bs e) w r (rw g refl) (binds_below limit s sh)
      (ends_then (read expr left) (λ x ts3. expect (is_word NI) ts3 (λ ts4. ok (tree.Let l.from bs x) ts4)) e (tree.Let l.from bs e) v ((suc d, n) ∷ []) r
      body
      (λ sv. word_end NI (suc d) n (tree.Let l.from bs e) r (rw h refl) (binds_below limit s sh))))

  mutual
    pub complete : {layer : Layer} {d : ℕ} {a : Ast} {u : Marked} → SpellsAt layer d a u → (left : ℕ) → left ≡ limit - d
        → (r : Tokens) → Stops layer r → Ends (read layer left (tokens_of u ++ r)) a u r
    complete {layer} {d} {a} {u} s zero q = λ r h. complete_zero layer d a u (first s) (omega arith) r
    complete (or_none {a = a} {u = u} s) (suc left) q =
        λ r h. right_none or_signs (read conj (suc left)) (read expr left) a u r (no_sign expr or_signs r (λ c k. k.1) h) (complete s (suc left) q r (conj_of_expr r h))
    complete (or_more {d = d} {a = a} {b = b} {u = u} {v = v} o c e s t) (suc left) q =
        λ r h. right_more or_signs (read conj (suc left)) (read expr left) d a b o c u v r e (omega arith) (complete s (suc left) q (c ∷ (tokens_of v ++ r)) (or_closes c o e)) (complete t left (omega arith) r h)
    complete (and_none {a = a} {u = u} s) (suc left) q =
        λ r h. right_none and_signs (read cmp (suc left)) (read conj left) a u r (no_sign conj and_signs r (λ c k. k.1) h) (complete s (suc left) q r (cmp_of_conj r h))
    complete (and_more {d = d} {a = a} {b = b} {u = u} {v = v} o c e s t) (suc left) q =
        λ r h. right_more and_signs (read cmp (suc left)) (read conj left) d a b o c u v r e (omega arith) (complete s (suc left) q (c ∷ (tokens_of v ++ r)) (and_closes c o e)) (complete t left (omega arith) r h)
    complete (compare_none {a = a} {u = u} s) (suc left) q =
        λ r h. right_none compare_signs (read cat (suc left)) (read cat left) a u r (no_sign cmp compare_signs r (λ c k. k.1) h) (complete s (suc left) q r (cat_of_cmp r h))
    complete (compare_two {d = d} {a = a} {b = b} {u = u} {v = v} o c e s t) (suc left) q =
        λ r h. right_more compare_signs (read cat (suc left)) (read cat left) d a b o c u v r e (omega arith) (complete s (suc left) q (c ∷ (tokens_of v ++ r)) (compare_closes c o e)) (complete t left (omega arith) r (cat_of_cmp r h))
    complete (join_none {a = a} {u = u} s) (suc left) q =
        λ r h. right_none join_signs (read sum (suc left)) (read cat left) a u r (no_sign cat join_signs r (λ c k. k.1) h) (complete s (suc left) q r (sum_of_cat r h))
    complete (join_more {d = d} {a = a} {b = b} {u = u} {v = v} o c e s t) (suc left) q =
        λ r h. right_more join_signs (read sum (suc left)) (read cat left) d a b o c u v r e (omega arith) (complete s (suc left) q (c ∷ (tokens_of v ++ r)) (join_closes c o e)) (complete t left (omega arith) r h)
    complete (sums {k = k} {a = a} {u = u} s) (suc left) q =
        λ r h. end_sum (suc left) k a u r (complete_sum s left q r (prod_of_sum r h)) h
    complete (products {k = k} {a = a} {u = u} s) (suc left) q =
        λ r h. end_prod (suc left) k a u r (complete_product s left q r (un_of_prod r h)) h
    complete (negated {d = d} {a = a} {u = u} c e s) (suc left) q =
        λ r h. ends_same (read un (suc left) (c ∷ (tokens_of u ++ r))) (after (read un left (tokens_of u ++ r)) (λ x ts2. ok (tree.Negate c.from x) ts2)) (tree.Negate c.from a) ((d, c) ∷ u) r
        (un_minus left c (tokens_of u ++ r) e) (ends_token (after (read un left (tokens_of u ++ r)) (λ x ts2. ok (tree.Negate c.from x) ts2)) (tree.Negate c.from a) d c u r (omega arith)
        (ends_done (read un left (tokens_of u ++ r)) (λ x ts2. ok (tree.Negate c.from x) ts2) a (tree.Negate c.from a) u r (complete s left (omega arith) r h) refl))
    complete (plain {a = a} {u = u} s) (suc left) q =
        λ r h. subst (λ o. Ends o a u r) (sym (not_minus s r _ (read prim (suc left) (tokens_of u ++ r)))) (complete s (suc left) q r h)
    complete (number c n e) (suc left) q = λ r h. inl (rw e refl, (omega arith, tt))
    complete (text c s e) (suc left) q = λ r h. inl (rw e refl, (omega arith, tt))
    complete (name {d = d} c x e) (suc left) q = λ r h. name_end left d c x r e (omega arith) h
    complete (call_none {d = d} c o k x e f g) (suc left) q = λ r h. room_end left d c o k x r e f g (omega arith) (omega arith)
    complete (call_some {d = d} {es = es} {u = u} c o k x e f g s) (suc left) q = λ r h. complete_call left d c o k x es u r e f g (omega arith) s
        (complete_all s left (omega arith) (suc (length (tokens_of u ++ (k ∷ r)))) r (omega (arith, length-append (tokens_of u) (k ∷ r))) k g)
    complete (group {d = d} {a = a} {u = u} o k e f s) (suc left) q =
        λ r h. let ts : Tokens = tokens_of (u ++ (suc d, k) ∷ []) ++ r in
        ends_same (read prim (suc left) (o ∷ ts)) (group_at (readers left) o.from ts) (tree.Group o.from a) ((d, o) ∷ (u ++ (suc d, k) ∷ [])) r
        (prim_group left o ts e) (ends_token (group_at (readers left) o.from ts) (tree.Group o.from a) d o (u ++ (suc d, k) ∷ []) r (omega arith)
        (ends_then (read expr left) (λ x ts1. expect (is_symbol CLOSE) ts1 (λ ts2. ok (tree.Group o.from x) ts2)) a (tree.Group o.from a) u ((suc d, k) ∷ []) r
        (complete s left (omega arith) (k ∷ r) (stops_close k r f))
        (λ sh. symbol_end CLOSE (suc d) k (tree.Group o.from a) r (rw f refl) (first_below limit (suc d) u (first s) sh))))
    complete (choose {d = d} {p = p} {a = a} {b = b} {u = u} {v = v} {w = w} i t l f e g h k x y z) (suc left) q =
        λ r st. let ts : Tokens = tokens_of (u ++ (suc d, t) ∷ (v ++ (suc d, l) ∷ (w ++ (suc d, f) ∷ []))) ++ r in
        ends_same (read prim (suc left) (i ∷ ts)) (if_at (readers left) i.from ts) (tree.If i.from p a b) ((d, i) ∷ (u ++ (suc d, t) ∷ (v ++ (suc d, l) ∷ (w ++ (suc d, f) ∷ [])))) r
        (prim_if left i ts e) (ends_token (if_at (readers left) i.from ts) (tree.If i.from p a b) d i (u ++ (suc d, t) ∷ (v ++ (suc d, l) ∷ (w ++ (suc d, f) ∷ []))) r (omega arith)
        (ends_then (read expr left) _ p (tree.If i.from p a b) u ((suc d, t) ∷ (v ++ (suc d, l) ∷ (w ++ (suc d, f) ∷ []))) r
        (complete x left (omega arith) (t ∷ (tokens_of (v ++ (suc d, l) ∷ (w ++ (suc d, f) ∷ [])) ++ r)) (stops_word THEN t (tokens_of (v ++ (suc d, l) ∷ (w ++ (suc d, f) ∷ [])) ++ r) g))
        (λ sh. word_on THEN (suc d) t (λ ts2. after (read expr left ts2) (λ x ts3. expect (is_word ELSE) ts3 (λ ts4. after (read expr left ts4) (λ j ts5. expect (is_word FI) ts5 (λ ts6. ok (tree.If i.from p x j) ts6))))) (tree.If i.from p a b) (v ++ (suc d, l) ∷ (w ++ (suc d, f) ∷ [])) r (rw g refl) (first_below limit (suc d) u (first x) sh)
        (ends_then (read expr left) _ a (tree.If i.from p a b) v ((suc d, l) ∷ (w ++ (suc d, f) ∷ [])) r
        (complete y left (omega arith) (l ∷ (tokens_of (w ++ (suc d, f) ∷ []) ++ r)) (stops_word ELSE l (tokens_of (w ++ (suc d, f) ∷ []) ++ r) h))
        (λ sv. word_on ELSE (suc d) l (λ ts4. after (read expr left ts4) (λ j ts5. expect (is_word FI) ts5 (λ ts6. ok (tree.If i.from p a j) ts6))) (tree.If i.from p a b) (w ++ (suc d, f) ∷ []) r (rw h refl) (first_below limit (suc d) u (first x) sh)
        (ends_then (read expr left) (λ j ts5. expect (is_word FI) ts5 (λ ts6. ok (tree.If i.from p a j) ts6)) b (tree.If i.from p a b) w ((suc d, f) ∷ []) r
        (complete z left (omega arith) (f ∷ r) (stops_word FI f r k))
        (λ sw. word_end FI (suc d) f (tree.If i.from p a b) r (rw k refl) (first_below limit (suc d) u (first x) sh))))))))
    complete (bind {d = d} {bs = bs} {e = e} {u = u} {v = v} l i n f g h s t) (suc left) q =
        λ r st. let ts : Tokens = tokens_of (u ++ (suc d, i) ∷ (v ++ (suc d, n) ∷ [])) ++ r in
        ends_same (read prim (suc left) (l ∷ ts)) (let_at (readers left) l.from ts) (tree.Let l.from bs e) ((d, l) ∷ (u ++ (suc d, i) ∷ (v ++ (suc d, n) ∷ []))) r
        (prim_let left l ts f) (ends_token (let_at (readers left) l.from ts) (tree.Let l.from bs e) d l (u ++ (suc d, i) ∷ (v ++ (suc d, n) ∷ [])) r (omega arith)
        (complete_let left d l bs e u v i n r g h s
        (complete_binds s left (omega arith) (suc (length (tokens_of u ++ (i ∷ (tokens_of (v ++ (suc d, n) ∷ []) ++ r))))) (tokens_of (v ++ (suc d, n) ∷ []) ++ r) (omega (arith, length-append (tokens_of u) (i ∷ (tokens_of (v ++ (suc d, n) ∷ []) ++ r)))) i g)
        (complete t left (omega arith) (n ∷ r) (stops_word NI n r h))))

    complete_sum : {d k : ℕ} {a : Ast} {u : Marked} → Sums d k a u → (left : ℕ) → suc left ≡ limit - d → (r : Tokens) → Stops prod r → SumEnds (suc left) k a u r
    complete_sum (sum_one {d = d} {a = a} {u = u} s) left q = λ r h. sum_first left d a u r q (complete s (suc left) q r h)
    complete_sum (sum_more {k = k} {a = a} {b = b} {u = u} {v = v} o c e s t) left q =
        λ r h. sum_next (suc left) k a b o c u v r e (last_sum s) (complete_sum s left q (c ∷ (tokens_of v ++ r)) (sum_closes c o e)) (complete t (limit - suc k) refl r h)

    complete_product : {d k : ℕ} {a : Ast} {u : Marked} → Products d k a u → (left : ℕ) → suc left ≡ limit - d → (r : Tokens) → Stops un r → ProductEnds (suc left) k a u r
    complete_product (product_one {d = d} {a = a} {u = u} s) left q = λ r h. product_first left d a u r q (complete s (suc left) q r h)
    complete_product (product_more {k = k} {a = a} {b = b} {u = u} {v = v} o c e s t) left q =
        λ r h. product_next (suc left) k a b o c u v r e (last_product s) (complete_product s left q (c ∷ (tokens_of v ++ r)) (product_closes c o e)) (complete t (limit - suc k) refl r h)

    complete_all : {d : ℕ} {es : List Ast} {u : Marked} → AllAt d es u → (left : ℕ) → left ≡ limit - d → (n : ℕ) (r : Tokens) → length (tokens_of u) < n
        → (k : Token) → IsSymbol CLOSE k → Ends (many (read expr left) COMMA n (tokens_of u ++ (k ∷ r))) es u (k ∷ r)
    complete_all s left q zero r h k g = absurd (omega arith)
    complete_all (last {e = e} {u = u} s) left q (suc n) r h k g =
        ends_done (read expr left (tokens_of u ++ (k ∷ r))) _ e (e ∷ []) u (k ∷ r) (complete s left q (k ∷ r) (stops_close k r g)) (rw g refl)
    complete_all (more {d = d} {e = e} {es = es} {u = u} {v = v} c f s t) left q (suc n) r h k g =
        let j : length (tokens_of v) < n = (let y = ap length (tokens_append u ((d, c) ∷ v)) in omega (arith, length-append (tokens_of u) (c ∷ tokens_of v))) in
        ends_then (read expr left) _ e (e ∷ es) u ((d, c) ∷ v) (k ∷ r)
        (complete s left q (c ∷ (tokens_of v ++ (k ∷ r))) (stops_comma c (tokens_of v ++ (k ∷ r)) f))
        (λ sh. symbol_on COMMA d c (λ ts2. after (many (read expr left) COMMA n ts2) (λ xs ts3. ok (e ∷ xs) ts3)) _ (e ∷ es) v (k ∷ r) (rw f refl) (first_below limit d u (first s) sh)
        (ends_done (many (read expr left) COMMA n (tokens_of v ++ (k ∷ r))) (λ xs ts3. ok (e ∷ xs) ts3) es (e ∷ es) v (k ∷ r) (complete_all t left q n r j k g) refl))

    complete_bind : {d : ℕ} {b : Binding} {u : Marked} → BindAt d b u → (left : ℕ) → left ≡ limit - d → (r : Tokens) → Stops expr r
        → Ends (bind_at (readers left) (tokens_of u ++ r)) b u r
    complete_bind (one_bind {d = d} {e = e} {u = u} c i x f g s) zero q =
        λ r h. inr (sinks_first (bind_at (readers zero) (c ∷ i ∷ (tokens_of u ++ r))) d c ((d, i) ∷ u) r (omega arith) (rw f refl))
    complete_bind (one_bind {d = d} {e = e} {u = u} c i x f g s) (suc left) q =
        λ r h. let p : Outcome Binding = after (read expr (suc left) (tokens_of u ++ r)) (λ y ts2. ok (record { name = named c x; value = y }) ts2) in
        ends_same (bind_at (readers (suc left)) (c ∷ i ∷ (tokens_of u ++ r))) p (record { name = named c x; value = e }) ((d, c) ∷ (d, i) ∷ u) r (bind_value left c i x (tokens_of u ++ r) f g)
        (ends_before p (record { name = named c x; value = e }) ((d, c) ∷ (d, i) ∷ []) u r (omega arith, (omega arith, tt))
        (ends_done (read expr (suc left) (tokens_of u ++ r)) (λ y ts2. ok (record { name = named c x; value = y }) ts2) e (record { name = named c x; value = e }) u r (complete s (suc left) q r h) refl))

    complete_binds : {d : ℕ} {bs : List Binding} {u : Marked} → BindsAt d bs u → (left : ℕ) → left ≡ limit - d → (n : ℕ) (r : Tokens) → length (tokens_of u) < n
        → (k : Token) → IsWord IN k → Ends (many (bind_at (readers left)) SEMICOLON n (tokens_of u ++ (k ∷ r))) bs u (k ∷ r)
    complete_binds s left q zero r h k g = absurd (omega arith)
    complete_binds (last_bind {b = b} {u = u} s) left q (suc n) r h k g =
        ends_done (bind_at (readers left) (tokens_of u ++ (k ∷ r))) _ b (b ∷ []) u (k ∷ r) (complete_bind s left q (k ∷ r) (stops_word IN k r g)) (rw g refl)
    complete_binds (more_binds {d = d} {b = b} {bs = bs} {u = u} {v = v} c f s t) left q (suc n) r h k g =
        let j : length (tokens_of v) < n = (let y = ap length (tokens_append u ((d, c) ∷ v)) in omega (arith, length-append (tokens_of u) (c ∷ tokens_of v))) in
        ends_then (bind_at (readers left)) _ b (b ∷ bs) u ((d, c) ∷ v) (k ∷ r)
        (complete_bind s left q (c ∷ (tokens_of v ++ (k ∷ r))) (stops_semicolon c (tokens_of v ++ (k ∷ r)) f))
        (λ sh. symbol_on SEMICOLON d c (λ ts2. after (many (bind_at (readers left)) SEMICOLON n ts2) (λ xs ts3. ok (b ∷ xs) ts3)) _ (b ∷ bs) v (k ∷ r) (rw f refl) (binds_below limit (last_bind s) sh)
        (ends_done (many (bind_at (readers left)) SEMICOLON n (tokens_of v ++ (k ∷ r))) (λ xs ts3. ok (b ∷ xs) ts3) bs (b ∷ bs) v (k ∷ r) (complete_binds t left q n r j k g) refl))
