-- The steps of the program's reader.
use Rattle.std.proofs.Common.{◌≡◌, ◌<◌, ◌+◌, ◌-◌, ℕ, zero, suc, Bool, true, false, cond, List, [], ◌∷◌, ◌++◌, length, drop, Option, Some, None, refl, sym, ap, subst, ◌∙◌, arith, append_assoc}
use Rattle.txs_lexer.specs.declared.token.Token.{Token}
use Rattle.txs_lexer.specs.declared.symbol.TheConstants.{MINUS, IS, OPEN, CLOSE, COMMA, SEMICOLON}
use Rattle.txs_lexer.specs.declared.word.TheConstants.{IN, NI, THEN, ELSE, FI}
use Rattle.txs_syntax.specs.declared.ast.Name.{Name}
use Rattle.txs_syntax.specs.declared.ast.Op.{Op}
use Rattle.txs_syntax.specs.declared.ast.Ast.{Ast}
use Rattle.txs_syntax.specs.declared.ast.Ast.TheVariants as tree
use Rattle.txs_syntax.specs.declared.ast.Binding.{Binding}
use Rattle.txs_syntax.specs.Grammar.{Tokens, Signs, sign_of, or_signs, and_signs, compare_signs, join_signs, sum_signs, product_signs, expr, SpellsAt, BindAt}
use Rattle.txs_parse_expr.specs.declared.fault.Stop.{Stop}
use Rattle.txs_parse_expr.specs.declared.fault.Stop.TheVariants.{Unexpected, Deep, NoMemory}
use Rattle.txs_parse_expr.specs.Reader.{Outcome, ok, bad, deep, after, Reader, is_symbol, is_word, at_token, on, expect, by_op, on_sign, right, chain, many, where_room, call_at, group_at, if_at, value_at, bind_at, let_at, prim_at, un_at, readers}
use Rattle.txs_parse_expr.specs.View.{Stopped, first_sign}
use Rattle.txs_parse_expr.proofs.Lines.{all_is}
use Rattle.txs_parse_expr.proofs.Levels.{sound_readers, shorter, bind_ok}

-- the items with these before them
abbrev pub with_front : {A : Type 0} → List A → Outcome (List A) → Outcome (List A)
with_front front (ok xs r) = ok (front ++ xs) r
with_front front (bad r) = bad r
with_front front (deep r) = deep r

pub drop_next : {A : Type 0} (n : ℕ) (ts : List A) → drop (n + 1) ts ≡ drop 1 (drop n ts)
drop_next zero ts = refl
drop_next (suc n) [] = let e : suc n + 1 ≡ suc (n + 1) = omega arith in rw e refl
drop_next (suc n) (c ∷ ts) = let e : suc n + 1 ≡ suc (n + 1) = omega arith in rw e (drop_next n ts)

sign_taken : {B : Type 0} (signs : Signs) (r : Tokens) (o : Op) → Some o ≡ first_sign signs r → (go : Op → Tokens → B) (stop : B)
    → on_sign signs r go stop ≡ go o (drop 1 r)
sign_taken signs [] o e go stop = cc
sign_taken signs (c ∷ r) o e go stop = by (sign_of signs c) refl e
  where
    by : (t : Option Op) → sign_of signs c ≡ t → Some o ≡ by_op t r (λ p _. Some p) None → by_op (sign_of signs c) r go stop ≡ go o r
    by None q h = cc
    by (Some p) q h = let k : o ≡ p = cc in rw (q, ← k) refl

pub sign_step : {B : Type 0} (signs : Signs) (ts : Tokens) (n : ℕ) (o : Op) → Some o ≡ first_sign signs (drop n ts) → (go : Op → Tokens → B) (stop : B)
    → on_sign signs (drop n ts) go stop ≡ go o (drop (n + 1) ts)
sign_step signs ts n o e go stop = rw (drop_next n ts) (sign_taken signs (drop n ts) o e go stop)

pub sign_stop : {B : Type 0} (signs : Signs) (r : Tokens) → None ≡ first_sign signs r → (go : Op → Tokens → B) (stop : B) → on_sign signs r go stop ≡ stop
sign_stop signs [] e go stop = refl
sign_stop signs (c ∷ r) e go stop = by (sign_of signs c) refl e
  where
    by : (t : Option Op) → sign_of signs c ≡ t → None ≡ by_op t r (λ p _. Some p) None → by_op (sign_of signs c) r go stop ≡ stop
    by None q h = rw q refl
    by (Some p) q h = cc

pub stopped_after : {A B : Type 0} (ts : Tokens) (e : Stop) (o : Outcome A) (go : A → Tokens → Outcome B) → Stopped ts e o → Stopped ts e (after o go)
stopped_after ts (Unexpected k) o go h = rw h refl
stopped_after ts (Deep k) o go h = rw h refl
stopped_after ts NoMemory o go h = tt

-- a right operand, at its first token in the list
module _ (signs : Signs) (lower again whole : Reader) (ts r : Tokens) (n : ℕ) (a : Ast) (o : Op) (is : whole r ≡ right signs lower again r)
    (first : lower r ≡ ok a (drop n ts)) (sign : Some o ≡ first_sign signs (drop n ts)) where
  pub right_stopped : (e : Stop) → Stopped ts e (again (drop (n + 1) ts)) → Stopped ts e (whole r)
  right_stopped e h =
      let go = λ (p : Op) (ts2 : Tokens). after (again ts2) (λ b ts3. ok (tree.Binary p a b) ts3) in
      let q : whole r ≡ after (again (drop (n + 1) ts)) (λ b ts3. ok (tree.Binary o a b) ts3) = is ∙ (ap (λ x. after x (λ c ts1. on_sign signs ts1 (λ p ts2. after (again ts2) (λ b ts3. ok (tree.Binary p c b) ts3)) (ok c ts1))) first ∙ sign_step signs ts n o sign go (ok a (drop n ts))) in
      subst (Stopped ts e) (sym q) (stopped_after ts e (again (drop (n + 1) ts)) (λ b ts3. ok (tree.Binary o a b) ts3) h)

  pub right_read : (b f : Ast) (m : ℕ) → again (drop (n + 1) ts) ≡ ok b (drop m ts) → f ≡ tree.Binary o a b → whole r ≡ ok f (drop m ts)
  right_read b f m h g =
      let go = λ (p : Op) (ts2 : Tokens). after (again ts2) (λ b ts3. ok (tree.Binary p a b) ts3) in
      let q : whole r ≡ after (again (drop (n + 1) ts)) (λ b ts3. ok (tree.Binary o a b) ts3) = is ∙ (ap (λ x. after x (λ c ts1. on_sign signs ts1 (λ p ts2. after (again ts2) (λ b ts3. ok (tree.Binary p c b) ts3)) (ok c ts1))) first ∙ sign_step signs ts n o sign go (ok a (drop n ts))) in
      q ∙ (ap (λ x. after x (λ b ts3. ok (tree.Binary o a b) ts3)) h ∙ ap (λ x. ok x (drop m ts)) (sym g))

-- each layer at a level that is not the last
pub expr_is : (left : ℕ) → 0 < left → (r : Tokens) → (readers left).expr r ≡ right or_signs (readers left).conj (readers (left - 1)).expr r
expr_is zero h r = absurd (omega arith)
expr_is (suc left) h r = let e : suc left - 1 ≡ left = omega arith in rw e refl

pub conj_is : (left : ℕ) → 0 < left → (r : Tokens) → (readers left).conj r ≡ right and_signs (readers left).cmp (readers (left - 1)).conj r
conj_is zero h r = absurd (omega arith)
conj_is (suc left) h r = let e : suc left - 1 ≡ left = omega arith in rw e refl

pub cmp_is : (left : ℕ) → 0 < left → (r : Tokens) → (readers left).cmp r ≡ right compare_signs (readers left).cat (readers (left - 1)).cat r
cmp_is zero h r = absurd (omega arith)
cmp_is (suc left) h r = let e : suc left - 1 ≡ left = omega arith in rw e refl

pub cat_is : (left : ℕ) → 0 < left → (r : Tokens) → (readers left).cat r ≡ right join_signs (readers left).sum (readers (left - 1)).cat r
cat_is zero h r = absurd (omega arith)
cat_is (suc left) h r = let e : suc left - 1 ≡ left = omega arith in rw e refl

-- ---- a chain

module _ (signs : Signs) (operand : Reader) (again : Ast → Reader) (whole : Reader) (ts r : Tokens) (n : ℕ) (a : Ast)
    (is : whole r ≡ chain signs operand again a (drop n ts)) where
  chain_go : Op → Tokens → Outcome Ast
  chain_go o ts1 = after (operand ts1) (λ b ts2. again (tree.Binary o a b) ts2)

  pub chain_end : None ≡ first_sign signs (drop n ts) → whole r ≡ ok a (drop n ts)
  chain_end e = is ∙ sign_stop signs (drop n ts) e (λ o ts1. after (operand ts1) (λ b ts2. again (tree.Binary o a b) ts2)) (ok a (drop n ts))

  pub chain_stopped : (o : Op) → Some o ≡ first_sign signs (drop n ts) → (e : Stop) → Stopped ts e (operand (drop (n + 1) ts)) → Stopped ts e (whole r)
  chain_stopped o s e h =
      let q : whole r ≡ after (operand (drop (n + 1) ts)) (λ b ts2. again (tree.Binary o a b) ts2) =
      is ∙ sign_step signs ts n o s (λ p ts1. after (operand ts1) (λ b ts2. again (tree.Binary p a b) ts2)) (ok a (drop n ts)) in
      subst (Stopped ts e) (sym q) (stopped_after ts e (operand (drop (n + 1) ts)) (λ b ts2. again (tree.Binary o a b) ts2) h)

  pub chain_next : (o : Op) → Some o ≡ first_sign signs (drop n ts) → (b f : Ast) (m : ℕ) → operand (drop (n + 1) ts) ≡ ok b (drop m ts) → f ≡ tree.Binary o a b
      → whole r ≡ again f (drop m ts)
  chain_next o s b f m h g =
      is ∙ (sign_step signs ts n o s (λ p ts1. after (operand ts1) (λ b ts2. again (tree.Binary p a b) ts2)) (ok a (drop n ts))
      ∙ (ap (λ x. after x (λ b ts2. again (tree.Binary o a b) ts2)) h ∙ ap (λ x. again x (drop m ts)) (sym g)))

pub sums_is : (room : ℕ) → 0 < room → (a : Ast) (r : Tokens) → (readers room).sums a r ≡ chain sum_signs (readers (room - 1)).prod (readers (room - 1)).sums a r
sums_is zero h a r = absurd (omega arith)
sums_is (suc room) h a r = let e : suc room - 1 ≡ room = omega arith in rw e refl

pub prods_is : (room : ℕ) → 0 < room → (a : Ast) (r : Tokens) → (readers room).prods a r ≡ chain product_signs (readers (room - 1)).un (readers (room - 1)).prods a r
prods_is zero h a r = absurd (omega arith)
prods_is (suc room) h a r = let e : suc room - 1 ≡ room = omega arith in rw e refl

-- ---- a token that has to come

on_taken : {B : Type 0} (p : Token → Bool) (r : Tokens) → true ≡ on p r (λ _. true) false → (go : Tokens → B) (stop : B) → on p r go stop ≡ go (drop 1 r)
on_taken p [] e go stop = cc
on_taken p (c ∷ r) e go stop = by (p c) refl e
  where
    by : (t : Bool) → p c ≡ t → true ≡ cond t true false → cond (p c) (go r) stop ≡ go r
    by true q h = rw q refl
    by false q h = cc

pub on_step : {B : Type 0} (p : Token → Bool) (ts : Tokens) (n : ℕ) → true ≡ on p (drop n ts) (λ _. true) false → (go : Tokens → B) (stop : B)
    → on p (drop n ts) go stop ≡ go (drop (n + 1) ts)
on_step p ts n e go stop = rw (drop_next n ts) (on_taken p (drop n ts) e go stop)

pub on_stop : {B : Type 0} (p : Token → Bool) (r : Tokens) → false ≡ on p r (λ _. true) false → (go : Tokens → B) (stop : B) → on p r go stop ≡ stop
on_stop p [] e go stop = refl
on_stop p (c ∷ r) e go stop = by (p c) refl e
  where
    by : (t : Bool) → p c ≡ t → false ≡ cond t true false → cond (p c) (go r) stop ≡ stop
    by true q h = cc
    by false q h = rw q refl

pub un_is : (left : ℕ) → 0 < left → (r : Tokens) → (readers left).un r ≡ un_at (readers (left - 1)) r
un_is zero h r = absurd (omega arith)
un_is (suc left) h r = let e : suc left - 1 ≡ left = omega arith in rw e refl

-- ---- arguments

module _ (left : ℕ) where
  abbrev pub args : Tokens → Outcome (List Ast)
  args ts = many (readers left).expr COMMA (suc (length ts)) ts

  abbrev after_one : Ast → Tokens → Outcome (List Ast)
  after_one x r = on (is_symbol COMMA) r (λ r2. after (args r2) (λ xs r3. ok (x ∷ xs) r3)) (ok (x ∷ []) r)

  args_is : (ts : Tokens) → args ts ≡ after ((readers left).expr ts) after_one
  args_is ts = all_is left (readers left).expr COMMA (shorter left (readers left).expr (SpellsAt expr 0) (sound_readers left left 0 (omega arith)).expr_ok) ts

  front_more : (items : List Ast) (e : Ast) (o : Outcome (List Ast)) → with_front items (after o (λ xs r. ok (e ∷ xs) r)) ≡ with_front (items ++ e ∷ []) o
  front_more items e (ok xs r) = ap (λ l. ok l r) (sym (append_assoc items (e ∷ []) xs))
  front_more items e (bad r) = refl
  front_more items e (deep r) = refl

  pub args_begin : (o : Outcome (List Ast)) → o ≡ with_front [] o
  args_begin (ok xs r) = refl
  args_begin (bad r) = refl
  args_begin (deep r) = refl

  module _ (ts : Tokens) (items : List Ast) (n m : ℕ) (e : Ast) (read : (readers left).expr (drop n ts) ≡ ok e (drop m ts)) where
    args_at : args (drop n ts) ≡ after_one e (drop m ts)
    args_at = args_is (drop n ts) ∙ ap (λ o. after o after_one) read

    pub args_next : true ≡ on (is_symbol COMMA) (drop m ts) (λ _. true) false → with_front items (args (drop n ts)) ≡ with_front (items ++ e ∷ []) (args (drop (m + 1) ts))
    args_next h =
        ap (with_front items) (args_at ∙ on_step (is_symbol COMMA) ts m h (λ r2. after (args r2) (λ xs r3. ok (e ∷ xs) r3)) (ok (e ∷ []) (drop m ts)))
        ∙ front_more items e (args (drop (m + 1) ts))

    pub args_last : false ≡ on (is_symbol COMMA) (drop m ts) (λ _. true) false → with_front items (args (drop n ts)) ≡ ok (items ++ e ∷ []) (drop m ts)
    args_last h = ap (with_front items) (args_at ∙ on_stop (is_symbol COMMA) (drop m ts) h (λ r2. after (args r2) (λ xs r3. ok (e ∷ xs) r3)) (ok (e ∷ []) (drop m ts)))

  front_stopped : (ts : Tokens) (items : List Ast) (e : Stop) (o : Outcome (List Ast)) → Stopped ts e o → Stopped ts e (with_front items o)
  front_stopped ts items (Unexpected k) o h = rw h refl
  front_stopped ts items (Deep k) o h = rw h refl
  front_stopped ts items NoMemory o h = tt

  pub args_stopped : (ts : Tokens) (items : List Ast) (n : ℕ) (e : Stop) → Stopped ts e ((readers left).expr (drop n ts)) → Stopped ts e (with_front items (args (drop n ts)))
  args_stopped ts items n e h =
      front_stopped ts items e (args (drop n ts)) (subst (Stopped ts e) (sym (args_is (drop n ts))) (stopped_after ts e ((readers left).expr (drop n ts)) after_one h))

-- ---- IF

module _ (l : ℕ) (ts r : Tokens) (at : ℕ) (n : ℕ) (c : Ast) (read : (readers l).expr r ≡ ok c (drop n ts)) (word : true ≡ on (is_word THEN) (drop n ts) (λ _. true) false) where
  abbrev last_part : Ast → Ast → Tokens → Outcome Ast
  last_part a b ts5 = expect (is_word FI) ts5 (λ ts6. ok (tree.If at c a b) ts6)

  abbrev else_part : Ast → Tokens → Outcome Ast
  else_part a ts3 = expect (is_word ELSE) ts3 (λ ts4. after ((readers l).expr ts4) (last_part a))

  if_first : if_at (readers l) at r ≡ after ((readers l).expr (drop (n + 1) ts)) else_part
  if_first =
      ap (λ o. after o (λ c ts1. expect (is_word THEN) ts1 (λ ts2. after ((readers l).expr ts2) (λ a ts3. expect (is_word ELSE) ts3 (λ ts4. after ((readers l).expr ts4) (λ b ts5. expect (is_word FI) ts5 (λ ts6. ok (tree.If at c a b) ts6))))))) read
      ∙ on_step (is_word THEN) ts n word (λ ts2. after ((readers l).expr ts2) else_part) (bad (drop n ts))

  pub if_stopped : (e : Stop) → Stopped ts e ((readers l).expr (drop (n + 1) ts)) → Stopped ts e (if_at (readers l) at r)
  if_stopped e h = subst (Stopped ts e) (sym if_first) (stopped_after ts e ((readers l).expr (drop (n + 1) ts)) else_part h)

  module _ (m : ℕ) (a : Ast) (next : (readers l).expr (drop (n + 1) ts) ≡ ok a (drop m ts)) where
    if_at_else : if_at (readers l) at r ≡ else_part a (drop m ts)
    if_at_else = if_first ∙ ap (λ o. after o else_part) next

    pub if_no_else : false ≡ on (is_word ELSE) (drop m ts) (λ _. true) false → if_at (readers l) at r ≡ bad (drop m ts)
    if_no_else h = if_at_else ∙ on_stop (is_word ELSE) (drop m ts) h (λ ts4. after ((readers l).expr ts4) (last_part a)) (bad (drop m ts))

    module _ (other : true ≡ on (is_word ELSE) (drop m ts) (λ _. true) false) where
      if_second : if_at (readers l) at r ≡ after ((readers l).expr (drop (m + 1) ts)) (last_part a)
      if_second = if_at_else ∙ on_step (is_word ELSE) ts m other (λ ts4. after ((readers l).expr ts4) (last_part a)) (bad (drop m ts))

      pub if_stopped_else : (e : Stop) → Stopped ts e ((readers l).expr (drop (m + 1) ts)) → Stopped ts e (if_at (readers l) at r)
      if_stopped_else e h = subst (Stopped ts e) (sym if_second) (stopped_after ts e ((readers l).expr (drop (m + 1) ts)) (last_part a) h)

      pub if_no_end : (k : ℕ) (b : Ast) → (readers l).expr (drop (m + 1) ts) ≡ ok b (drop k ts) → false ≡ on (is_word FI) (drop k ts) (λ _. true) false
          → if_at (readers l) at r ≡ bad (drop k ts)
      if_no_end k b q h = if_second ∙ (ap (λ o. after o (last_part a)) q ∙ on_stop (is_word FI) (drop k ts) h (λ ts6. ok (tree.If at c a b) ts6) (bad (drop k ts)))

      pub if_end : (k : ℕ) (b f : Ast) → (readers l).expr (drop (m + 1) ts) ≡ ok b (drop k ts) → true ≡ on (is_word FI) (drop k ts) (λ _. true) false
          → f ≡ tree.If at c a b → if_at (readers l) at r ≡ ok f (drop (k + 1) ts)
      if_end k b f q h g =
          if_second ∙ (ap (λ o. after o (last_part a)) q ∙ (on_step (is_word FI) ts k h (λ ts6. ok (tree.If at c a b) ts6) (bad (drop k ts)) ∙ ap (λ x. ok x (drop (k + 1) ts)) (sym g)))

-- ---- parentheses

pub group_end : (l at : ℕ) (ts r : Tokens) (n : ℕ) (e f : Ast) → (readers l).expr r ≡ ok e (drop n ts) → true ≡ on (is_symbol CLOSE) (drop n ts) (λ _. true) false
    → f ≡ tree.Group at e → group_at (readers l) at r ≡ ok f (drop (n + 1) ts)
group_end l at ts r n e f q h g =
    ap (λ o. after o (λ x ts1. expect (is_symbol CLOSE) ts1 (λ ts2. ok (tree.Group at x) ts2))) q
    ∙ (on_step (is_symbol CLOSE) ts n h (λ ts2. ok (tree.Group at e) ts2) (bad (drop n ts)) ∙ ap (λ x. ok x (drop (n + 1) ts)) (sym g))

room_left : (l : ℕ) → (l ≡ 0 → ⊥) → (readers l).is_full ≡ false
room_left zero h = absurd (h refl)
room_left (suc l) h = refl

pub call_empty : (l : ℕ) (ts : Tokens) (n : ℕ) (x : Name) (f : Ast) → (l ≡ 0 → ⊥) → true ≡ on (is_symbol CLOSE) (drop n ts) (λ _. true) false → f ≡ tree.Call x []
    → call_at (readers l) x (drop n ts) ≡ ok f (drop (n + 1) ts)
call_empty l ts n x f g h e =
    let q : (readers l).is_full ≡ false = room_left l g in
    on_step (is_symbol CLOSE) ts n h (λ ts1. where_room (readers l).is_full (drop n ts) (ok (tree.Call x []) ts1)) _
    ∙ (ap (λ b. where_room b (drop n ts) (ok (tree.Call x []) (drop (n + 1) ts))) q ∙ ap (λ z. ok z (drop (n + 1) ts)) (sym e))

pub call_end : (l : ℕ) (ts : Tokens) (n m : ℕ) (x : Name) (f : Ast) (es : List Ast) → false ≡ on (is_symbol CLOSE) (drop n ts) (λ _. true) false
    → args l (drop n ts) ≡ ok es (drop m ts) → true ≡ on (is_symbol CLOSE) (drop m ts) (λ _. true) false → f ≡ tree.Call x es
    → call_at (readers l) x (drop n ts) ≡ ok f (drop (m + 1) ts)
call_end l ts n m x f es h q k e =
    let close = λ (zs : List Ast) (ts1 : Tokens). expect (is_symbol CLOSE) ts1 (λ ts2. ok (tree.Call x zs) ts2) in
    on_stop (is_symbol CLOSE) (drop n ts) h (λ ts1. where_room (readers l).is_full (drop n ts) (ok (tree.Call x []) ts1)) (after (args l (drop n ts)) close)
    ∙ (ap (λ o. after o close) q ∙ (on_step (is_symbol CLOSE) ts m k (λ ts2. ok (tree.Call x es) ts2) (bad (drop m ts)) ∙ ap (λ z. ok z (drop (m + 1) ts)) (sym e)))

pub named_call : (l : ℕ) (ts : Tokens) (n : ℕ) (x : Name) → true ≡ on (is_symbol OPEN) (drop n ts) (λ _. true) false
    → call_at (readers l) x (drop (n + 1) ts) ≡ on (is_symbol OPEN) (drop n ts) (call_at (readers l) x) (ok (tree.Name x) (drop n ts))
named_call l ts n x h = sym (on_step (is_symbol OPEN) ts n h (call_at (readers l) x) (ok (tree.Name x) (drop n ts)))

-- ---- minus

token_taken : {A B : Type 0} (p : Token → Bool) (f : Token → A) (r : Tokens) (x : A) → Some x ≡ at_token p r (λ c _. Some (f c)) None → (go : A → Tokens → B) (stop : B)
    → at_token p r (λ c. go (f c)) stop ≡ go x (drop 1 r)
token_taken p f [] x e go stop = cc
token_taken p f (c ∷ r) x e go stop = by (p c) refl e
  where
    by : (t : Bool) → p c ≡ t → Some x ≡ cond t (Some (f c)) None → cond (p c) (go (f c) r) stop ≡ go x r
    by true q h = let k : f c ≡ x = cc in rw (q, k) refl
    by false q h = cc

token_passed : {A B : Type 0} (p : Token → Bool) (f : Token → A) (r : Tokens) → None ≡ at_token p r (λ c _. Some (f c)) None → (go : A → Tokens → B) (stop : B)
    → at_token p r (λ c. go (f c)) stop ≡ stop
token_passed p f [] e go stop = refl
token_passed p f (c ∷ r) e go stop = by (p c) refl e
  where
    by : (t : Bool) → p c ≡ t → None ≡ cond t (Some (f c)) None → cond (p c) (go (f c) r) stop ≡ stop
    by true q h = cc
    by false q h = rw q refl

module _ (left : ℕ) (room : 0 < left) (ts : Tokens) (n : ℕ) where
  abbrev minus_go : ℕ → Tokens → Outcome Ast
  minus_go at ts1 = after ((readers (left - 1)).un ts1) (λ a ts2. ok (tree.Negate at a) ts2)

  pub minus_none : None ≡ at_token (is_symbol MINUS) (drop n ts) (λ c _. Some c.from) None → (readers left).un (drop n ts) ≡ prim_at (readers (left - 1)) (drop n ts)
  minus_none h = un_is left room (drop n ts) ∙ token_passed (is_symbol MINUS) (λ c. c.from) (drop n ts) h minus_go (prim_at (readers (left - 1)) (drop n ts))

  module _ (at : ℕ) (h : Some at ≡ at_token (is_symbol MINUS) (drop n ts) (λ c _. Some c.from) None) where
    minus_is : (readers left).un (drop n ts) ≡ minus_go at (drop (n + 1) ts)
    minus_is =
        un_is left room (drop n ts) ∙ (token_taken (is_symbol MINUS) (λ c. c.from) (drop n ts) at h minus_go (prim_at (readers (left - 1)) (drop n ts))
        ∙ ap (minus_go at) (sym (drop_next n ts)))

    pub minus_stopped : (e : Stop) → Stopped ts e ((readers (left - 1)).un (drop (n + 1) ts)) → Stopped ts e ((readers left).un (drop n ts))
    minus_stopped e k = subst (Stopped ts e) (sym minus_is) (stopped_after ts e ((readers (left - 1)).un (drop (n + 1) ts)) (λ a ts2. ok (tree.Negate at a) ts2) k)

    pub minus_read : (a f : Ast) (m : ℕ) → (readers (left - 1)).un (drop (n + 1) ts) ≡ ok a (drop m ts) → f ≡ tree.Negate at a → (readers left).un (drop n ts) ≡ ok f (drop m ts)
    minus_read a f m q g = minus_is ∙ (ap (λ o. after o (λ b ts2. ok (tree.Negate at b) ts2)) q ∙ ap (λ x. ok x (drop m ts)) (sym g))

-- ---- bindings

module _ (left : ℕ) where
  abbrev pub binds : Tokens → Outcome (List Binding)
  binds ts = many (bind_at (readers left)) SEMICOLON (suc (length ts)) ts

  abbrev after_bind : Binding → Tokens → Outcome (List Binding)
  after_bind x r = on (is_symbol SEMICOLON) r (λ r2. after (binds r2) (λ xs r3. ok (x ∷ xs) r3)) (ok (x ∷ []) r)

  binds_is : (ts : Tokens) → binds ts ≡ after (bind_at (readers left) ts) after_bind
  binds_is ts = all_is (suc left) (bind_at (readers left)) SEMICOLON (shorter (suc left) (bind_at (readers left)) (BindAt 1) (bind_ok (suc left) 0 (omega arith) (readers left) (sound_readers (suc left) left 1 (omega arith)))) ts

  binds_more : (items : List Binding) (e : Binding) (o : Outcome (List Binding)) → with_front items (after o (λ xs r. ok (e ∷ xs) r)) ≡ with_front (items ++ e ∷ []) o
  binds_more items e (ok xs r) = ap (λ l. ok l r) (sym (append_assoc items (e ∷ []) xs))
  binds_more items e (bad r) = refl
  binds_more items e (deep r) = refl

  pub binds_next : (ts : Tokens) (items : List Binding) (n m : ℕ) (e : Binding) → bind_at (readers left) (drop n ts) ≡ ok e (drop m ts)
      → true ≡ on (is_symbol SEMICOLON) (drop m ts) (λ _. true) false → with_front items (binds (drop n ts)) ≡ with_front (items ++ e ∷ []) (binds (drop (m + 1) ts))
  binds_next ts items n m e read h =
      ap (with_front items) (binds_is (drop n ts) ∙ (ap (λ o. after o after_bind) read ∙ on_step (is_symbol SEMICOLON) ts m h (λ r2. after (binds r2) (λ xs r3. ok (e ∷ xs) r3)) (ok (e ∷ []) (drop m ts))))
      ∙ binds_more items e (binds (drop (m + 1) ts))

-- ---- LET

module _ (l : ℕ) (ts r : Tokens) (at : ℕ) (n : ℕ) (bs : List Binding) (read : binds l r ≡ ok bs (drop n ts)) (word : true ≡ on (is_word IN) (drop n ts) (λ _. true) false) where
  abbrev body_part : Ast → Tokens → Outcome Ast
  body_part e ts3 = expect (is_word NI) ts3 (λ ts4. ok (tree.Let at bs e) ts4)

  let_first : let_at (readers l) at r ≡ after ((readers l).expr (drop (n + 1) ts)) body_part
  let_first =
      ap (λ o. after o (λ cs ts1. expect (is_word IN) ts1 (λ ts2. after ((readers l).expr ts2) (λ e ts3. expect (is_word NI) ts3 (λ ts4. ok (tree.Let at cs e) ts4))))) read
      ∙ on_step (is_word IN) ts n word (λ ts2. after ((readers l).expr ts2) body_part) (bad (drop n ts))

  pub let_stopped : (e : Stop) → Stopped ts e ((readers l).expr (drop (n + 1) ts)) → Stopped ts e (let_at (readers l) at r)
  let_stopped e h = subst (Stopped ts e) (sym let_first) (stopped_after ts e ((readers l).expr (drop (n + 1) ts)) body_part h)

  pub let_no_end : (m : ℕ) (a : Ast) → (readers l).expr (drop (n + 1) ts) ≡ ok a (drop m ts) → false ≡ on (is_word NI) (drop m ts) (λ _. true) false
      → let_at (readers l) at r ≡ bad (drop m ts)
  let_no_end m a q h = let_first ∙ (ap (λ o. after o body_part) q ∙ on_stop (is_word NI) (drop m ts) h (λ ts4. ok (tree.Let at bs a) ts4) (bad (drop m ts)))

  pub let_end : (m : ℕ) (a f : Ast) → (readers l).expr (drop (n + 1) ts) ≡ ok a (drop m ts) → true ≡ on (is_word NI) (drop m ts) (λ _. true) false
      → f ≡ tree.Let at bs a → let_at (readers l) at r ≡ ok f (drop (m + 1) ts)
  let_end m a f q h g =
      let_first ∙ (ap (λ o. after o body_part) q ∙ (on_step (is_word NI) ts m h (λ ts4. ok (tree.Let at bs a) ts4) (bad (drop m ts)) ∙ ap (λ x. ok x (drop (m + 1) ts)) (sym g)))

-- ---- one binding

module _ (l : ℕ) (ts : Tokens) (n : ℕ) (x : Name) (h : true ≡ on (is_symbol IS) (drop n ts) (λ _. true) false) where
  value_is : value_at (readers l) x (drop n ts) ≡ after ((readers l).expr (drop (n + 1) ts)) (λ e ts2. ok (record { name = x; value = e }) ts2)
  value_is = on_step (is_symbol IS) ts n h (λ ts1. after ((readers l).expr ts1) (λ e ts2. ok (record { name = x; value = e }) ts2)) (bad (drop n ts))

  pub value_stopped : (e : Stop) → Stopped ts e ((readers l).expr (drop (n + 1) ts)) → Stopped ts e (value_at (readers l) x (drop n ts))
  value_stopped e k = subst (Stopped ts e) (sym value_is) (stopped_after ts e ((readers l).expr (drop (n + 1) ts)) (λ e ts2. ok (record { name = x; value = e }) ts2) k)

  pub value_read : (e a : Ast) (m : ℕ) (y : Name) → (readers l).expr (drop (n + 1) ts) ≡ ok e (drop m ts) → y ≡ x → a ≡ e → value_at (readers l) x (drop n ts) ≡ ok (record { name = y; value = a }) (drop m ts)
  value_read e a m y q g k = rw (g, k) (value_is ∙ ap (λ o. after o (λ e ts2. ok (record { name = x; value = e }) ts2)) q)

pub room_is : {B : Type 0} (l : ℕ) → (l ≡ 0 → ⊥) → (ts : Tokens) (o : Outcome B) → where_room (readers l).is_full ts o ≡ o
room_is zero h ts o = absurd (h refl)
room_is (suc l) h ts o = refl
