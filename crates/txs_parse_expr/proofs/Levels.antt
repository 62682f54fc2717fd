-- Each level of the reader is sound.
use Rattle.std.proofs.Common.{◌≡◌, ℕ, zero, suc, ◌-◌, ◌<◌, ◌≤◌, Bool, true, false, eqb, ◌||◌, inl, inr, List, [], ◌∷◌, ◌++◌, length, refl, sym, ap, subst, ◌∙◌, arith, length-append}
use Rattle.std.proofs.lemmas.List.{append-nil}
use Rattle.std.proofs.lemmas.Bool.{eqb-true}
use Rattle.txs_lexer.specs.declared.token.Token.{Token}
use Rattle.txs_lexer.specs.declared.token.Kind.{Kind}
use Rattle.txs_lexer.specs.declared.token.Kind.TheVariants.{Name, Word, Number, Quoted, Symbol}
use Rattle.txs_lexer.specs.declared.symbol.TheConstants.{MINUS, IS, OPEN, CLOSE, COMMA, SEMICOLON}
use Rattle.txs_lexer.specs.declared.word.TheConstants.{IN, NI, LET, IF, THEN, ELSE, FI}
use Rattle.txs_syntax.specs.declared.ast.Ast.{Ast}
use Rattle.txs_syntax.specs.declared.ast.Ast.TheVariants as tree
use Rattle.txs_syntax.specs.Grammar.{Tokens, Marked, tokens_of, or_signs, and_signs, compare_signs, join_signs, sum_signs, product_signs, IsSymbol, IsWord, Layer, expr, conj, cmp, cat, sum, prod, un, prim, named, SpellsAt, or_none, or_more, and_none, and_more, compare_none, compare_two, join_none, join_more, sums, products, Sums, sum_one, sum_more, Products, product_one, product_more, negated, plain, number, text, name, call_none, call_some, group, choose, bind, AllAt, last, more, BindAt, one_bind, BindsAt, last_bind, more_binds}
use Rattle.txs_syntax.specs.Places.{Shallow}
use Rattle.txs_parse_expr.specs.Reader.{Outcome, ok, bad, deep, after, Reader, Readers, is_symbol, is_word, on, expect, many, call_at, group_at, if_at, value_at, bind_at, let_at, prim_at, un_at, prods_at, prod_at, sums_at, sum_at, cat_at, cmp_at, conj_at, expr_at, kind_begins, begins, full_at, full, level, readers}
use Rattle.txs_parse_expr.proofs.Sound.{Fits, BeginsIn, Got, Stuck, Found, Sound, sound_map, sound_after, sound_within, sound_ok, sound_bad, sound_taken, sound_same, sound_on, sound_expect}
use Rattle.txs_parse_expr.proofs.First.{first, first_all, first_below, binds_below}
use Rattle.txs_parse_expr.proofs.Lines.{symbol_is, word_is, made, zero_token, zero_tree, zero_prim, zero_expr, sound_right, sound_chain, sound_all}

abbrev closing : Token
closing = made (Symbol CLOSE)

-- a reader that is at a bad token
fits_bad : {A : Type 0} (f : Tokens → Outcome A) (c : Token) (ts : Tokens) → f [] ≡ bad [] → ((w : Tokens) → f (c ∷ w) ≡ bad (c ∷ w))
    → (w : Tokens) → Fits w (c ∷ ts) → f w ≡ bad w
fits_bad f c ts e h [] k = e
fits_bad f c ts e h (d ∷ w) (inl k) = cc
fits_bad f c ts e h (d ∷ w) (inr k) = let q : c ≡ d = cc in subst (λ x. f (x ∷ w) ≡ bad (x ∷ w)) q (h w)

fits_none : {A : Type 0} (f : Tokens → Outcome A) → f [] ≡ bad [] → (w : Tokens) → Fits w [] → f w ≡ bad w
fits_none f e [] k = e
fits_none f e (d ∷ w) (inl k) = cc
fits_none f e (d ∷ w) (inr k) = cc

-- ---- what an expression may begin with

begin_symbol : (d : ℕ) (c : Token) (s : ℕ) (t k : Bool) → c.kind ≡ Symbol s → eqb s MINUS ≡ t → eqb s OPEN ≡ k → (t || k) ≡ true
    → BeginsIn (SpellsAt un d) ((d, c) ∷ [])
begin_symbol d c s true k is e q h =
    (tree.Negate c.from zero_tree, (suc d, zero_token) ∷ [], negated c (is ∙ ap Symbol (eqb-true s MINUS e)) (plain (zero_prim (suc d))))
begin_symbol d c s false true is e q h =
    (tree.Group c.from zero_tree, (suc d, zero_token) ∷ (suc d, closing) ∷ [], plain (group c closing (is ∙ ap Symbol (eqb-true s OPEN q)) refl (zero_expr (suc d))))
begin_symbol d c s false false is e q h = cc

zero_bind : (d : ℕ) → BindAt d (record { name = named (made (Name [])) []; value = zero_tree }) ((d, made (Name [])) ∷ (d, made (Symbol IS)) ∷ (d, zero_token) ∷ [])
zero_bind d = one_bind (made (Name [])) (made (Symbol IS)) [] refl refl (zero_expr d)

begin_word : (d : ℕ) (c : Token) (s : ℕ) (t k : Bool) → c.kind ≡ Word s → eqb s LET ≡ t → eqb s IF ≡ k → (t || k) ≡ true
    → BeginsIn (SpellsAt un d) ((d, c) ∷ [])
begin_word d c s true k is e q h = (
  tree.Let c.from ((record { name = named (made (Name [])) []; value = zero_tree }) ∷ []) zero_tree,
  (suc d, made (Name [])) ∷ (suc d, made (Symbol IS)) ∷ (suc d, zero_token) ∷ (suc d, made (Word IN)) ∷ (suc d, zero_token) ∷ (suc d, made (Word NI)) ∷ [],
  plain (bind c (made (Word IN)) (made (Word NI)) (is ∙ ap Word (eqb-true s LET e)) refl refl (last_bind (zero_bind (suc d))) (zero_expr (suc d))),
)
begin_word d c s false true is e q h = (
  tree.If c.from zero_tree zero_tree zero_tree,
  (suc d, zero_token) ∷ (suc d, made (Word THEN)) ∷ (suc d, zero_token) ∷ (suc d, made (Word ELSE)) ∷ (suc d, zero_token) ∷ (suc d, made (Word FI)) ∷ [],
  plain (choose c (made (Word THEN)) (made (Word ELSE)) (made (Word FI)) (is ∙ ap Word (eqb-true s IF q)) refl refl refl (zero_expr (suc d)) (zero_expr (suc d)) (zero_expr (suc d))),
)
begin_word d c s false false is e q h = cc

begin_kind : (d : ℕ) (c : Token) (k : Kind) → c.kind ≡ k → kind_begins k ≡ true → BeginsIn (SpellsAt un d) ((d, c) ∷ [])
begin_kind d c (Symbol s) is h = begin_symbol d c s (eqb s MINUS) (eqb s OPEN) is refl refl h
begin_kind d c (Word w) is h = begin_word d c w (eqb w LET) (eqb w IF) is refl refl h
begin_kind d c (Name x) is h = (tree.Name (named c x), [], plain (name c x is))
begin_kind d c (Number n) is h = (tree.Number c.from n, [], plain (number c n is))
begin_kind d c (Quoted s) is h = (tree.Text c.from s, [], plain (text c s is))

zero_un : (d : ℕ) → BeginsIn (SpellsAt un d) []
zero_un d = (zero_tree, (d, zero_token) ∷ [], plain (zero_prim d))

module _ (limit : ℕ) where
  pub record SoundAll (d : ℕ) (within : Readers) : Type 0 where
    pub room : within.is_full ≡ true → limit ≤ d
    pub has_room : within.is_full ≡ false → d < limit
    pub expr_ok : Sound limit within.expr (SpellsAt expr d)
    pub conj_ok : Sound limit within.conj (SpellsAt conj d)
    pub cmp_ok : Sound limit within.cmp (SpellsAt cmp d)
    pub cat_ok : Sound limit within.cat (SpellsAt cat d)
    pub sum_ok : Sound limit within.sum (SpellsAt sum d)
    pub prod_ok : Sound limit within.prod (SpellsAt prod d)
    pub un_ok : Sound limit within.un (SpellsAt un d)
    pub sums_ok : d < limit → (from : ℕ) (a : Ast) (u : Marked) → Sums from d a u → Sound limit (within.sums a) (λ b v. SpellsAt sum from b (u ++ v))
    pub prods_ok : d < limit → (from : ℕ) (a : Ast) (u : Marked) → Products from d a u → Sound limit (within.prods a) (λ b v. SpellsAt prod from b (u ++ v))

  bad_token : {A : Type 0} (f : Tokens → Outcome A) (S : A → Marked → Type 0) (c : Token) (ts : Tokens) → f [] ≡ bad []
      → ((w : Tokens) → f (c ∷ w) ≡ bad (c ∷ w)) → BeginsIn S [] → Found limit f S (c ∷ ts) (f (c ∷ ts))
  bad_token f S c ts e h b = sound_same limit f bad S (c ∷ ts) (fits_bad f c ts e h) (sound_bad limit S b (c ∷ ts))

  bad_end : {A : Type 0} (f : Tokens → Outcome A) (S : A → Marked → Type 0) → f [] ≡ bad [] → BeginsIn S [] → Found limit f S [] (f [])
  bad_end f S e b = sound_same limit f bad S [] (fits_none f e) (sound_bad limit S b [])

  deep_token : {A : Type 0} (d : ℕ) (f : Tokens → Outcome A) (S : A → Marked → Type 0) (c : Token) (ts : Tokens) → limit ≤ d
      → ((w : Tokens) → f (c ∷ w) ≡ deep (c ∷ w)) → BeginsIn S ((d, c) ∷ []) → Found limit f S (c ∷ ts) (f (c ∷ ts))
  deep_token d f S c ts l h b =
      let x : Stuck limit f S (c ∷ ts) (c ∷ ts) = record { used = []; depth = d; token = c; rest = ts; split = refl; next = refl; many = l; begins = b; shallow = tt; local = h } in
      subst (Found limit f S (c ∷ ts)) (sym (h ts)) x

  -- ---- no construct may be open

  module _ (d : ℕ) (l : limit ≤ d) where
    full_found : (c : Token) (ts : Tokens) (t : Bool) → begins c ≡ t → Found limit full_at (SpellsAt un d) (c ∷ ts) (full_at (c ∷ ts))
    full_found c ts true e = deep_token d full_at (SpellsAt un d) c ts l (λ w. rw e refl) (begin_kind d c c.kind refl e)
    full_found c ts false e = bad_token full_at (SpellsAt un d) c ts refl (λ w. rw e refl) (zero_un d)

    full_un : Sound limit full_at (SpellsAt un d)
    full_un [] = bad_end full_at (SpellsAt un d) refl (zero_un d)
    full_un (c ∷ ts) = full_found c ts (begins c) refl

    full_all : SoundAll d full
    full_all =
        let p : Sound limit full_at (SpellsAt prod d) = sound_map limit full_at (SpellsAt un d) (SpellsAt prod d) (λ a u s. products (product_one s)) full_un in
        let s : Sound limit full_at (SpellsAt sum d) = sound_map limit full_at (SpellsAt prod d) (SpellsAt sum d) (λ a u s. sums (sum_one s)) p in
        let j : Sound limit full_at (SpellsAt cat d) = sound_map limit full_at (SpellsAt sum d) (SpellsAt cat d) (λ a u s. join_none s) s in
        let k : Sound limit full_at (SpellsAt cmp d) = sound_map limit full_at (SpellsAt cat d) (SpellsAt cmp d) (λ a u s. compare_none s) j in
        let n : Sound limit full_at (SpellsAt conj d) = sound_map limit full_at (SpellsAt cmp d) (SpellsAt conj d) (λ a u s. and_none s) k in
        let x : Sound limit full_at (SpellsAt expr d) = sound_map limit full_at (SpellsAt conj d) (SpellsAt expr d) (λ a u s. or_none s) n in
        record {
          room = λ e. l;
          has_room = λ e. cc;
          expr_ok = x;
          conj_ok = n;
          cmp_ok = k;
          cat_ok = j;
          sum_ok = s;
          prod_ok = p;
          un_ok = full_un;
          sums_ok = λ h. absurd (omega arith);
          prods_ok = λ h. absurd (omega arith);
        }

  -- ---- one level more

  pub shorter : {A : Type 0} (f : Tokens → Outcome A) (S : A → Marked → Type 0) → Sound limit f S
      → (ts : Tokens) (x : A) (r : Tokens) → f ts ≡ ok x r → length r ≤ length ts
  shorter f S s ts x r e =
      let g : Got limit f S ts x r = subst (Found limit f S ts) e (s ts) in let k = ap length g.split in omega (arith, length-append (tokens_of g.used) r)

  -- `)` has to come, at depth d
  close : (d : ℕ) → d < limit → (b : Ast) (T : Ast → Marked → Type 0) → ((c : Token) → IsSymbol CLOSE c → T b ((d, c) ∷ []))
      → Sound limit (λ ts. expect (is_symbol CLOSE) ts (ok b)) T
  close d l b T s =
      sound_expect limit d (is_symbol CLOSE) (ok b) T l
      (λ c e. sound_ok limit b (λ x v. T x ((d, c) ∷ v)) (s c (symbol_is CLOSE c e))) (b, (d, closing) ∷ [], s closing refl)

  -- this word, and nothing more
  word_last : (d : ℕ) → d < limit → (w : ℕ) (b : Ast) (T : Ast → Marked → Type 0) → ((c : Token) → IsWord w c → T b ((d, c) ∷ []))
      → Sound limit (λ ts. expect (is_word w) ts (ok b)) T
  word_last d l w b T s =
      sound_expect limit d (is_word w) (ok b) T l
      (λ c e. sound_ok limit b (λ x v. T x ((d, c) ∷ v)) (s c (word_is w c e))) (b, (d, made (Word w)) ∷ [], s (made (Word w)) refl)

  module _ (d : ℕ) (l : d < limit) (within : Readers) (all_ok : SoundAll (suc d) within) where
    below : {layer : Layer} {a : Ast} {u : Marked} → SpellsAt layer (suc d) a u → Shallow limit u → suc d < limit
    below {u = u} s h = first_below limit (suc d) u (first s) h

    -- this word, and then an expression
    word_then : suc d < limit → (w : ℕ) (go : Ast → Tokens → Outcome Ast) (T : Ast → Marked → Type 0)
        → ((c : Token) → IsWord w c → (a : Ast) (u : Marked) → SpellsAt expr (suc d) a u → Sound limit (go a) (λ b v. T b ((suc d, c) ∷ (u ++ v))))
        → ((c : Token) → IsWord w c → (a : Ast) (u : Marked) → SpellsAt expr (suc d) a u → BeginsIn T ((suc d, c) ∷ u))
        → Sound limit (λ ts. expect (is_word w) ts (λ ts1. after (within.expr ts1) go)) T
    word_then k w go T second completes =
        let any = completes (made (Word w)) refl zero_tree ((suc d, zero_token) ∷ []) (zero_expr (suc d)) in
        sound_expect limit (suc d) (is_word w) (λ ts1. after (within.expr ts1) go) T k
        (λ c e. sound_after limit within.expr go (SpellsAt expr (suc d)) (λ a v. T a ((suc d, c) ∷ v)) all_ok.expr_ok (second c (word_is w c e)) (completes c (word_is w c e)))
        (any.0, (suc d, made (Word w)) ∷ (suc d, zero_token) ∷ any.1, any.2)

    module _ (o : Token) (is : IsSymbol OPEN o) where
      group_ok : Sound limit (group_at within o.from) (λ a v. SpellsAt prim d a ((d, o) ∷ v))
      group_ok =
          sound_within limit within.expr (λ e ts1. expect (is_symbol CLOSE) ts1 (λ ts2. ok (tree.Group o.from e) ts2)) (SpellsAt expr (suc d)) (λ a v. SpellsAt prim d a ((d, o) ∷ v)) all_ok.expr_ok
          (λ e u s h. close (suc d) (below s h) (tree.Group o.from e) (λ b v. SpellsAt prim d b ((d, o) ∷ (u ++ v))) (λ c q. group o c is q s))
          (λ e u s. (tree.Group o.from e, (suc d, closing) ∷ [], group o closing is refl s))

    module _ (i : Token) (is : IsWord IF i) where
      if_ok : Sound limit (if_at within i.from) (λ a v. SpellsAt prim d a ((d, i) ∷ v))
      if_ok =
          sound_within limit within.expr _ (SpellsAt expr (suc d)) (λ a v. SpellsAt prim d a ((d, i) ∷ v)) all_ok.expr_ok
          (λ p u s h. word_then (below s h) THEN _ (λ x v. SpellsAt prim d x ((d, i) ∷ (u ++ v)))
          (λ t et a v y. word_then (below s h) ELSE _ (λ x w. SpellsAt prim d x ((d, i) ∷ (u ++ ((suc d, t) ∷ (v ++ w)))))
          (λ q eq b w z. word_last (suc d) (below s h) FI (tree.If i.from p a b) (λ x k. SpellsAt prim d x ((d, i) ∷ (u ++ ((suc d, t) ∷ (v ++ ((suc d, q) ∷ (w ++ k)))))))
          (λ f ef. choose i t q f is et eq ef s y z))
          (λ q eq b w z. (tree.If i.from p a b, (suc d, made (Word FI)) ∷ [], choose i t q (made (Word FI)) is et eq refl s y z)))
          (λ t et a v y. (
            tree.If i.from p a zero_tree,
            (suc d, made (Word ELSE)) ∷ (suc d, zero_token) ∷ (suc d, made (Word FI)) ∷ [],
            choose i t (made (Word ELSE)) (made (Word FI)) is et refl refl s y (zero_expr (suc d)),
          )))
          (λ p u s. (
            tree.If i.from p zero_tree zero_tree,
            (suc d, made (Word THEN)) ∷ (suc d, zero_token) ∷ (suc d, made (Word ELSE)) ∷ (suc d, zero_token) ∷ (suc d, made (Word FI)) ∷ [],
            choose i (made (Word THEN)) (made (Word ELSE)) (made (Word FI)) is refl refl refl s (zero_expr (suc d)) (zero_expr (suc d)),
          ))

    -- ---- bindings

    value_ok : suc d < limit → (c : Token) (x : List ℕ) → c.kind ≡ Name x → Sound limit (value_at within (named c x)) (λ b v. BindAt (suc d) b ((suc d, c) ∷ v))
    value_ok k c x is =
        sound_expect limit (suc d) (is_symbol IS) _ (λ b v. BindAt (suc d) b ((suc d, c) ∷ v)) k
        (λ i e. sound_after limit within.expr (λ e ts2. ok (record { name = named c x; value = e }) ts2) (SpellsAt expr (suc d)) (λ b v. BindAt (suc d) b ((suc d, c) ∷ (suc d, i) ∷ v)) all_ok.expr_ok
        (λ a u s. sound_ok limit (record { name = named c x; value = a }) (λ b v. BindAt (suc d) b ((suc d, c) ∷ (suc d, i) ∷ (u ++ v))) (rw append-nil (one_bind c i x is (symbol_is IS i e) s)))
        (λ a u s. ((record { name = named c x; value = a }), [], rw append-nil (one_bind c i x is (symbol_is IS i e) s))))
        ((record { name = named c x; value = zero_tree }), (suc d, made (Symbol IS)) ∷ (suc d, zero_token) ∷ [], one_bind c (made (Symbol IS)) x is refl (zero_expr (suc d)))

    any_bind : BeginsIn (BindAt (suc d)) []
    any_bind = (_, _, zero_bind (suc d))

    bind_name : (c : Token) (x : List ℕ) (ts : Tokens) → c.kind ≡ Name x → (t : Bool) → within.is_full ≡ t
        → Found limit (bind_at within) (BindAt (suc d)) (c ∷ ts) (bind_at within (c ∷ ts))
    bind_name c x ts is true e =
        deep_token (suc d) (bind_at within) (BindAt (suc d)) c ts (all_ok.room e) (λ w. rw (is, e) refl)
        ((record { name = named c x; value = zero_tree }), (suc d, made (Symbol IS)) ∷ (suc d, zero_token) ∷ [], one_bind c (made (Symbol IS)) x is refl (zero_expr (suc d)))
    bind_name c x ts is false e =
        sound_taken limit (suc d) c (bind_at within) (value_at within (named c x)) (BindAt (suc d)) (all_ok.has_room e) (λ w. rw (is, e) refl) ts (value_ok (all_ok.has_room e) c x is ts)

    bind_found : (c : Token) (ts : Tokens) (k : Kind) → c.kind ≡ k → Found limit (bind_at within) (BindAt (suc d)) (c ∷ ts) (bind_at within (c ∷ ts))
    bind_found c ts (Name x) is = bind_name c x ts is within.is_full refl
    bind_found c ts (Symbol s) is = bad_token (bind_at within) (BindAt (suc d)) c ts refl (λ w. rw is refl) any_bind
    bind_found c ts (Word w) is = bad_token (bind_at within) (BindAt (suc d)) c ts refl (λ w. rw is refl) any_bind
    bind_found c ts (Number n) is = bad_token (bind_at within) (BindAt (suc d)) c ts refl (λ w. rw is refl) any_bind
    bind_found c ts (Quoted s) is = bad_token (bind_at within) (BindAt (suc d)) c ts refl (λ w. rw is refl) any_bind

    pub bind_ok : Sound limit (bind_at within) (BindAt (suc d))
    bind_ok [] = bad_end (bind_at within) (BindAt (suc d)) refl any_bind
    bind_ok (c ∷ ts) = bind_found c ts c.kind refl

    binds_ok : Sound limit (λ ts. many (bind_at within) SEMICOLON (suc (length ts)) ts) (BindsAt (suc d))
    binds_ok =
        sound_all limit (bind_at within) SEMICOLON (shorter (bind_at within) (BindAt (suc d)) bind_ok) (suc d) (BindAt (suc d)) (BindsAt (suc d))
        (λ b u s h. binds_below limit (last_bind s) h) bind_ok (λ b u s. last_bind s) (λ b bs u v c e s t. more_binds c e s t)

    module _ (i : Token) (is : IsWord LET i) where
      let_ok : Sound limit (let_at within i.from) (λ a v. SpellsAt prim d a ((d, i) ∷ v))
      let_ok =
          sound_within limit (λ ts. many (bind_at within) SEMICOLON (suc (length ts)) ts) _ (BindsAt (suc d)) (λ a v. SpellsAt prim d a ((d, i) ∷ v)) binds_ok
          (λ bs u s h. word_then (binds_below limit s h) IN _ (λ x v. SpellsAt prim d x ((d, i) ∷ (u ++ v)))
          (λ t et e v y. word_last (suc d) (binds_below limit s h) NI (tree.Let i.from bs e) (λ x z. SpellsAt prim d x ((d, i) ∷ (u ++ ((suc d, t) ∷ (v ++ z)))))
          (λ n en. bind i t n is et en s y))
          (λ t et e v y. (tree.Let i.from bs e, (suc d, made (Word NI)) ∷ [], bind i t (made (Word NI)) is et refl s y)))
          (λ bs u s. (
            tree.Let i.from bs zero_tree,
            (suc d, made (Word IN)) ∷ (suc d, zero_token) ∷ (suc d, made (Word NI)) ∷ [],
            bind i (made (Word IN)) (made (Word NI)) is refl refl s (zero_expr (suc d)),
          ))

    -- ---- calls

    all_args_ok : Sound limit (λ ts. many within.expr COMMA (suc (length ts)) ts) (AllAt (suc d))
    all_args_ok =
        sound_all limit within.expr COMMA (shorter within.expr (SpellsAt expr (suc d)) all_ok.expr_ok) (suc d) (SpellsAt expr (suc d)) (AllAt (suc d))
        (λ a u s h. below s h) all_ok.expr_ok (λ a u s. last s) (λ a xs u v c e s t. more c e s t)

    -- no arguments, or some
    module _ (c o : Token) (x : List ℕ) (is : c.kind ≡ Name x) (opens : IsSymbol OPEN o) where
      abbrev some_args : Reader
      some_args ts = after (many within.expr COMMA (suc (length ts)) ts) (λ es ts1. expect (is_symbol CLOSE) ts1 (λ ts2. ok (tree.Call (named c x) es) ts2))

      abbrev Called : Ast → Marked → Type 0
      Called a v = SpellsAt prim d a ((d, c) ∷ (d, o) ∷ v)

      args_ok : Sound limit some_args Called
      args_ok =
          sound_within limit (λ ts. many within.expr COMMA (suc (length ts)) ts) _ (AllAt (suc d)) Called all_args_ok
          (λ es u s h. close (suc d) (first_below limit (suc d) u (first_all s) h) (tree.Call (named c x) es) (λ b v. Called b (u ++ v)) (λ k q. call_some c o k x is opens q s))
          (λ es u s. (tree.Call (named c x) es, (suc d, closing) ∷ [], call_some c o closing x is opens refl s))

      not_closed : (k : Token) (ts : Tokens) → is_symbol CLOSE k ≡ false → (w : Tokens) → Fits w (k ∷ ts) → call_at within (named c x) w ≡ some_args w
      not_closed k ts e [] h = refl
      not_closed k ts e (j ∷ w) (inl h) = cc
      not_closed k ts e (j ∷ w) (inr h) = let q : j ≡ k = cc in let g : is_symbol CLOSE j ≡ false = ap (is_symbol CLOSE) q ∙ e in rw g refl

      none_closed : (w : Tokens) → Fits w [] → call_at within (named c x) w ≡ some_args w
      none_closed [] h = refl
      none_closed (j ∷ w) (inl h) = cc
      none_closed (j ∷ w) (inr h) = cc

      empty_found : (k : Token) (ts : Tokens) → is_symbol CLOSE k ≡ true → (t : Bool) → within.is_full ≡ t
          → Found limit (call_at within (named c x)) Called (k ∷ ts) (call_at within (named c x) (k ∷ ts))
      empty_found k ts q true e =
          deep_token (suc d) (call_at within (named c x)) Called k ts (all_ok.room e) (λ w. rw (q, e) refl)
          (tree.Call (named c x) [], [], call_none c o k x is opens (symbol_is CLOSE k q))
      empty_found k ts q false e =
          sound_taken limit (suc d) k (call_at within (named c x)) (ok (tree.Call (named c x) [])) Called (all_ok.has_room e) (λ w. rw (q, e) refl) ts
          (sound_ok limit (tree.Call (named c x) []) (λ a v. Called a ((suc d, k) ∷ v)) (call_none c o k x is opens (symbol_is CLOSE k q)) ts)

      call_found : (k : Token) (ts : Tokens) (t : Bool) → is_symbol CLOSE k ≡ t → Found limit (call_at within (named c x)) Called (k ∷ ts) (call_at within (named c x) (k ∷ ts))
      call_found k ts true e = empty_found k ts e within.is_full refl
      call_found k ts false e = sound_same limit (call_at within (named c x)) some_args Called (k ∷ ts) (not_closed k ts e) (args_ok (k ∷ ts))

      call_ok : Sound limit (call_at within (named c x)) Called
      call_ok [] = sound_same limit (call_at within (named c x)) some_args Called [] none_closed (args_ok [])
      call_ok (k ∷ ts) = call_found k ts (is_symbol CLOSE k) refl

    named_ok : (c : Token) (x : List ℕ) → c.kind ≡ Name x
        → Sound limit (λ ts. on (is_symbol OPEN) ts (call_at within (named c x)) (ok (tree.Name (named c x)) ts)) (λ a v. SpellsAt prim d a ((d, c) ∷ v))
    named_ok c x is =
        sound_on limit d (is_symbol OPEN) (λ o. call_at within (named c x)) (ok (tree.Name (named c x))) (λ a v. SpellsAt prim d a ((d, c) ∷ v)) l
        (sound_ok limit (tree.Name (named c x)) (λ a v. SpellsAt prim d a ((d, c) ∷ v)) (name c x is))
        (λ o e. call_ok c o x is (symbol_is OPEN o e))

    -- ---- single operands

    zero_begins : BeginsIn (SpellsAt prim d) []
    zero_begins = (zero_tree, (d, zero_token) ∷ [], zero_prim d)

    symbol_found : (c : Token) (s : ℕ) (ts : Tokens) → c.kind ≡ Symbol s → (t : Bool) → eqb s OPEN ≡ t
        → Found limit (prim_at within) (SpellsAt prim d) (c ∷ ts) (prim_at within (c ∷ ts))
    symbol_found c s ts is true e =
        sound_taken limit d c (prim_at within) (group_at within c.from) (SpellsAt prim d) l (λ w. rw (is, e) refl) ts (group_ok c (is ∙ ap Symbol (eqb-true s OPEN e)) ts)
    symbol_found c s ts is false e = bad_token (prim_at within) (SpellsAt prim d) c ts refl (λ w. rw (is, e) refl) zero_begins

    word_found : (c : Token) (s : ℕ) (ts : Tokens) → c.kind ≡ Word s → (t k : Bool) → eqb s IF ≡ t → eqb s LET ≡ k
        → Found limit (prim_at within) (SpellsAt prim d) (c ∷ ts) (prim_at within (c ∷ ts))
    word_found c s ts is true k e q =
        sound_taken limit d c (prim_at within) (if_at within c.from) (SpellsAt prim d) l (λ w. rw (is, e) refl) ts (if_ok c (is ∙ ap Word (eqb-true s IF e)) ts)
    word_found c s ts is false true e q =
        sound_taken limit d c (prim_at within) (let_at within c.from) (SpellsAt prim d) l (λ w. rw (is, e, q) refl) ts (let_ok c (is ∙ ap Word (eqb-true s LET q)) ts)
    word_found c s ts is false false e q = bad_token (prim_at within) (SpellsAt prim d) c ts refl (λ w. rw (is, e, q) refl) zero_begins

    prim_found : (c : Token) (ts : Tokens) (k : Kind) → c.kind ≡ k → Found limit (prim_at within) (SpellsAt prim d) (c ∷ ts) (prim_at within (c ∷ ts))
    prim_found c ts (Number n) is =
        sound_taken limit d c (prim_at within) (ok (tree.Number c.from n)) (SpellsAt prim d) l (λ w. rw is refl) ts
        (sound_ok limit (tree.Number c.from n) (λ a v. SpellsAt prim d a ((d, c) ∷ v)) (number c n is) ts)
    prim_found c ts (Quoted s) is =
        sound_taken limit d c (prim_at within) (ok (tree.Text c.from s)) (SpellsAt prim d) l (λ w. rw is refl) ts
        (sound_ok limit (tree.Text c.from s) (λ a v. SpellsAt prim d a ((d, c) ∷ v)) (text c s is) ts)
    prim_found c ts (Name x) is =
        sound_taken limit d c (prim_at within) (λ w. on (is_symbol OPEN) w (call_at within (named c x)) (ok (tree.Name (named c x)) w)) (SpellsAt prim d) l (λ w. rw is refl) ts
        (named_ok c x is ts)
    prim_found c ts (Symbol s) is = symbol_found c s ts is (eqb s OPEN) refl
    prim_found c ts (Word w) is = word_found c w ts is (eqb w IF) (eqb w LET) refl refl

    prim_ok : Sound limit (prim_at within) (SpellsAt prim d)
    prim_ok [] = bad_end (prim_at within) (SpellsAt prim d) refl zero_begins
    prim_ok (c ∷ ts) = prim_found c ts c.kind refl

    minus_ok : Sound limit (un_at within) (SpellsAt un d)
    minus_ok =
        sound_on limit d (is_symbol MINUS) (λ c ts1. after (within.un ts1) (λ a ts2. ok (tree.Negate c.from a) ts2)) (prim_at within) (SpellsAt un d) l
        (sound_map limit (prim_at within) (SpellsAt prim d) (SpellsAt un d) (λ a u s. plain s) prim_ok)
        (λ c e. sound_after limit within.un (λ a ts2. ok (tree.Negate c.from a) ts2) (SpellsAt un (suc d)) (λ a v. SpellsAt un d a ((d, c) ∷ v)) all_ok.un_ok
        (λ a u s. sound_ok limit (tree.Negate c.from a) (λ b v. SpellsAt un d b ((d, c) ∷ (u ++ v))) (rw append-nil (negated c (symbol_is MINUS c e) s)))
        (λ a u s. (tree.Negate c.from a, [], rw append-nil (negated c (symbol_is MINUS c e) s))))

    -- ---- operators

    next_prods_ok : (from : ℕ) (a : Ast) (u : Marked) → Products from d a u → Sound limit (prods_at within a) (λ b v. SpellsAt prod from b (u ++ v))
    next_prods_ok from a u s =
        sound_chain limit d product_signs within.un within.prods (SpellsAt un (suc d)) (SpellsAt prod from) l all_ok.un_ok a u (products s)
        (λ b v o c e t. products (product_more o c e s t))
        (λ b v o c e t h. all_ok.prods_ok (below t h) from (tree.Binary o a b) (u ++ (d, c) ∷ v) (product_more o c e s t))

    next_sums_ok : (from : ℕ) (a : Ast) (u : Marked) → Sums from d a u → Sound limit (sums_at within a) (λ b v. SpellsAt sum from b (u ++ v))
    next_sums_ok from a u s =
        sound_chain limit d sum_signs within.prod within.sums (SpellsAt prod (suc d)) (SpellsAt sum from) l all_ok.prod_ok a u (sums s)
        (λ b v o c e t. sums (sum_more o c e s t))
        (λ b v o c e t h. all_ok.sums_ok (below t h) from (tree.Binary o a b) (u ++ (d, c) ∷ v) (sum_more o c e s t))

    next_prod_ok : Sound limit (prod_at within) (SpellsAt prod d)
    next_prod_ok =
        sound_after limit (un_at within) (prods_at within) (SpellsAt un d) (SpellsAt prod d) minus_ok (λ a u s. next_prods_ok d a u (product_one s))
        (λ a u s. (a, [], rw append-nil (products (product_one s))))

    next_sum_ok : Sound limit (sum_at within) (SpellsAt sum d)
    next_sum_ok =
        sound_after limit (prod_at within) (sums_at within) (SpellsAt prod d) (SpellsAt sum d) next_prod_ok (λ a u s. next_sums_ok d a u (sum_one s))
        (λ a u s. (a, [], rw append-nil (sums (sum_one s))))

    next_cat_ok : Sound limit (cat_at within) (SpellsAt cat d)
    next_cat_ok =
        sound_right limit d join_signs (sum_at within) within.cat (SpellsAt sum d) (SpellsAt cat (suc d)) (SpellsAt cat d) l (λ a u s. join_none s)
        (λ a b u v o c e y z. join_more o c e y z) next_sum_ok all_ok.cat_ok

    next_cmp_ok : Sound limit (cmp_at within) (SpellsAt cmp d)
    next_cmp_ok =
        sound_right limit d compare_signs (cat_at within) within.cat (SpellsAt cat d) (SpellsAt cat (suc d)) (SpellsAt cmp d) l (λ a u s. compare_none s)
        (λ a b u v o c e y z. compare_two o c e y z) next_cat_ok all_ok.cat_ok

    next_conj_ok : Sound limit (conj_at within) (SpellsAt conj d)
    next_conj_ok =
        sound_right limit d and_signs (cmp_at within) within.conj (SpellsAt cmp d) (SpellsAt conj (suc d)) (SpellsAt conj d) l (λ a u s. and_none s)
        (λ a b u v o c e y z. and_more o c e y z) next_cmp_ok all_ok.conj_ok

    next_expr_ok : Sound limit (expr_at within) (SpellsAt expr d)
    next_expr_ok =
        sound_right limit d or_signs (conj_at within) within.expr (SpellsAt conj d) (SpellsAt expr (suc d)) (SpellsAt expr d) l (λ a u s. or_none s)
        (λ a b u v o c e y z. or_more o c e y z) next_conj_ok all_ok.expr_ok

    next_all : SoundAll d (level within)
    next_all = record {
      room = λ e. cc;
      has_room = λ e. l;
      expr_ok = next_expr_ok;
      conj_ok = next_conj_ok;
      cmp_ok = next_cmp_ok;
      cat_ok = next_cat_ok;
      sum_ok = next_sum_ok;
      prod_ok = next_prod_ok;
      un_ok = minus_ok;
      sums_ok = λ h. next_sums_ok;
      prods_ok = λ h. next_prods_ok;
    }

  pub sound_readers : (left d : ℕ) → left ≡ limit - d → SoundAll d (readers left)
  sound_readers zero d e = full_all d (omega arith)
  sound_readers (suc left) d e = next_all d (omega arith) (readers left) (sound_readers left (suc d) (omega arith))
