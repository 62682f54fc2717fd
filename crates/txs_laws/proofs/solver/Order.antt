-- Order atoms end alike at a point and at its cell.
use Rattle.std.proofs.Common.{◌≡◌, ℕ, zero, suc, ℤ, pos, Bool, true, false, not, ◌||◌, ◌&&◌, cond, ltb, ◌⊎◌, inl, inr, List, [], ◌∷◌, ◌++◌, refl, sym, ap, ◌∙◌, subst}
use Rattle.std.specs.Prelude.{Option, Some, None, slice_get}
use Rattle.std.specs.Str.{bytes_eq}
use Rattle.std.proofs.lemmas.Bool.{and_parts, or_cases, eqb-true}
use Rattle.txs_values.specs.Value.{Ty, integer, truth, string, named, Value, num, bool, text, cons, same_value, has_type}
use Rattle.txs_terms.specs.Eval.{Run, got, bad, run, eval, then_run, checked, are_comparable, takes_one, takes_two, after, unary, binary, Outcome, fine, broken, wrong, integer_binary, node_limit}
use Rattle.txs_terms.specs.Expr.{negate, negation, to_text, from_text, len, is_made_by, select, Binary, plus, minus, times, divide, remainder, concat, differ, less_than, at_most, more_than, at_least, char_at, Expr, val, slot, local, constant, one, two, equal, both, either, choose, apply, build, let_in, put, filled, has_slot}
use Rattle.txs_terms.specs.Rules.{In}
use Rattle.txs_guard.specs.Atom.{has_value, fixed_value, value_in, is_equality, is_integer_side, is_comparison, is_order_operator, is_order_atom, all_order, atoms_of_all}
use Rattle.txs_guard.specs.Candidates.{cells, order_candidates, least}
use Rattle.txs_guard.specs.Mentioned.{Path, flat, some_list, sides_of, constants_of, constants, numbers, texts, numbers_in, texts_in, mentioned, paths_at}
use Rattle.txs_guard.specs.Place.{Spot, spot_of, spot_type, is_type, same_ty, is_plain, same_types, has_spot}
use Rattle.txs_guard.specs.Point.{IsPoint}
use Rattle.txs_guard.specs.Query.{Query}
use Rattle.txs_laws.specs.Cells.{EndsAlike, EndAlike}
use Rattle.txs_laws.proofs.rules.Tests.{put_closed, sym_same}
use Rattle.std.specs.Cmp.Lexicographic.{bytes_decides}
use Rattle.txs_laws.proofs.solver.Press.{SameOrder, least_is, pressed_order, pressed_fixed}
use Rattle.txs_laws.proofs.solver.Texts.{Text}
use Rattle.txs_laws.proofs.solver.Squash.{squash, along, In_along, follow, Known, Within, squashed_same}
use Rattle.txs_laws.proofs.solver.Heads.{KeepsHeads, own_head, squashed_head, comparable_heads}
use Rattle.txs_laws.proofs.solver.Members.{In_flat}
use Rattle.txs_laws.proofs.solver.Runs.{place_from, map_run, place_alike, place_gives, closed_gives}
use Rattle.txs_laws.proofs.solver.Mentions.{side_mentioned, constant_mentioned, In_once, place_typed}
use Rattle.txs_laws.proofs.solver.Atoms.{ConstantsFit, numbers_there, shape, IsNumber, IsText, words_same, keeps, known_below, cell_of, cell_is}
use Rattle.txs_laws.proofs.solver.Congruence.{entered}

-- ---- runs of one and of two sides

map_same : (f : Value → Value) (r : Run) → ((w : Value) (n : ℕ) → r ≡ got w n → f w ≡ w) → map_run f r ≡ r
map_same f (got v n) h = ap (λ (z : Value). got z n) (h v n refl)
map_same f (bad x) h = refl

one_alike : (r r' : Run) (f : Value → Value) (op : Value → ℕ → Run) → r' ≡ map_run f r → ((x : Value) (m : ℕ) → r ≡ got x m → op (f x) m ≡ op x m)
    → then_run r' op ≡ then_run r op
one_alike (got x m) r' f op e h = ap (λ (z : Run). then_run z op) e ∙ h x m refl
one_alike (bad x) r' f op e h = ap (λ (z : Run). then_run z op) e

two_alike : (ra ra' : Run) (rb rb' : ℕ → Run) (f g : Value → Value) (op : Value → Value → ℕ → Run) → ra' ≡ map_run f ra → ((k : ℕ) → rb' k ≡ map_run g (rb k))
    → ((x y : Value) (m n : ℕ) → ra ≡ got x m → rb m ≡ got y n → op (f x) (g y) n ≡ op x y n)
    → then_run ra' (λ x m. then_run (rb' m) (λ y. op x y)) ≡ then_run ra (λ x m. then_run (rb m) (λ y. op x y))
two_alike (got x m) ra' rb rb' f g op e h k =
    ap (λ (z : Run). then_run z (λ u i. then_run (rb' i) (λ y. op u y))) e
    ∙ inner (rb m) (rb' m) (h m) (λ y n q. k x y m n refl q)
  where
    inner : (r r' : Run) → r' ≡ map_run g r → ((y : Value) (n : ℕ) → r ≡ got y n → op (f x) (g y) n ≡ op x y n)
        → then_run r' (λ y. op (f x) y) ≡ then_run r (λ y. op x y)
    inner (got y n) r' e h = ap (λ (z : Run). then_run z (λ u. op (f x) u)) e ∙ h y n refl
    inner (bad b) r' e h = ap (λ (z : Run). then_run z (λ u. op (f x) u)) e
two_alike (bad x) ra' rb rb' f g op e h k = ap (λ (z : Run). then_run z (λ u i. then_run (rb' i) (λ y. op u y))) e

-- ---- types

same_ty-true : (t u : Ty) → same_ty t u ≡ true → u ≡ t
same_ty-true integer integer e = refl
same_ty-true truth truth e = refl
same_ty-true string string e = refl
same_ty-true (named j) (named k) e = ap named (sym (eqb-true j k e))
same_ty-true integer truth e = cc
same_ty-true integer string e = cc
same_ty-true integer (named k) e = cc
same_ty-true truth integer e = cc
same_ty-true truth string e = cc
same_ty-true truth (named k) e = cc
same_ty-true string integer e = cc
same_ty-true string truth e = cc
same_ty-true string (named k) e = cc
same_ty-true (named j) integer e = cc
same_ty-true (named j) truth e = cc
same_ty-true (named j) string e = cc

type_is : (t : Ty) (o : Option Ty) → is_type t o ≡ true → o ≡ Some t
type_is t None e = cc
type_is t (Some u) e = ap Some (same_ty-true t u e)

some_spot : (o : Option Spot) → has_spot o ≡ true → (s : Spot) × (o ≡ Some s)
some_spot None e = cc
some_spot (Some s) e = (s, refl)

some_value : (o : Option Value) → has_value o ≡ true → (v : Value) × (o ≡ Some v)
some_value None e = cc
some_value (Some v) e = (v, refl)

nil_right : (p : Path) → p ++ [] ≡ p
nil_right [] = refl
nil_right (s ∷ p) = ap (λ (z : Path). s ∷ z) (nil_right p)

-- the Int that a value is
abbrev integer_in : Value → Option ℤ
integer_in (num x) = Some x
integer_in _ = None

-- an Int that keeps its order, or another value that stays
data NumberLike (q : Query) (p : List Value) (f : Value → Value) : Value → Type 0 where
  as_number : (x : ℤ) → f (num x) ≡ num ((shape q p).number x) → IsNumber q p x → NumberLike q p f (num x)
  as_other : (v : Value) → integer_in v ≡ None → f v ≡ v → NumberLike q p f v

-- what an order operator gives by the Ints that its sides are
abbrev by_integers : Binary → Option ℤ → Option ℤ → Outcome
by_integers o None b = broken wrong
by_integers o (Some x) None = broken wrong
by_integers o (Some x) (Some y) = integer_binary o x y

orders_integers : (o : Binary) → is_order_operator o ≡ true → (v w : Value) → binary o v w ≡ by_integers o (integer_in v) (integer_in w)
orders_integers less_than s (num x) (num y) = refl
orders_integers less_than s (text x) (text y) = refl
orders_integers less_than s v w = refl
orders_integers at_most s (num x) (num y) = refl
orders_integers at_most s (text x) (text y) = refl
orders_integers at_most s v w = refl
orders_integers more_than s (num x) (num y) = refl
orders_integers more_than s (text x) (text y) = refl
orders_integers more_than s v w = refl
orders_integers at_least s (num x) (num y) = refl
orders_integers at_least s (text x) (text y) = refl
orders_integers at_least s v w = refl
orders_integers _ s v w = cc

-- a side that is no Int decides
left_wrong : (o : Binary) → is_order_operator o ≡ true → (v w : Value) → integer_in v ≡ None → binary o v w ≡ broken wrong
left_wrong o s v w e = orders_integers o s v w ∙ ap (λ (a : Option ℤ). by_integers o a (integer_in w)) e

right_wrong : (o : Binary) → is_order_operator o ≡ true → (v w : Value) → integer_in w ≡ None → binary o v w ≡ broken wrong
right_wrong o s v w e = orders_integers o s v w ∙ ap (by_integers o (integer_in v)) e ∙ either_way (integer_in v)
  where
    either_way : (a : Option ℤ) → by_integers o a None ≡ broken wrong
    either_way None = refl
    either_way (Some x) = refl

order_agrees : (q : Query) (p : List Value) (o : Binary) → is_order_operator o ≡ true → (x y : ℤ) → IsNumber q p x → IsNumber q p y
    → integer_binary o ((shape q p).number x) ((shape q p).number y) ≡ integer_binary o x y
order_agrees q p o s x y h k = by o s
  where
    kept : SameOrder x y ((shape q p).number x) ((shape q p).number y)
    kept = pressed_order (least (pos 0) (numbers q)) (pos 0 ∷ numbers q) (numbers_there q p) x y (least_is (pos 0) (numbers q)) h k

    by : (o : Binary) → is_order_operator o ≡ true → integer_binary o ((shape q p).number x) ((shape q p).number y) ≡ integer_binary o x y
    by less_than s = ap (λ (z : Bool). fine (bool z)) kept.0
    by at_most s = ap (λ (z : Bool). fine (bool z)) kept.2
    by more_than s = ap (λ (z : Bool). fine (bool z)) kept.1
    by at_least s = ap (λ (z : Bool). fine (bool z)) kept.3
    by _ s = cc

operators_agree : (q : Query) (p : List Value) (f g : Value → Value) (o : Binary) → is_order_operator o ≡ true → {v w : Value}
    → NumberLike q p f v → NumberLike q p g w → binary o (f v) (g w) ≡ binary o v w
operators_agree q p f g o s (as_number x e h) (as_number y d k) =
    rw (e, d) (orders_integers o s (num ((shape q p).number x)) (num ((shape q p).number y)) ∙ order_agrees q p o s x y h k ∙ sym (orders_integers o s (num x) (num y)))
operators_agree q p f g o s (as_number x e h) (as_other w n d) = rw (e, d) (right_wrong o s (num ((shape q p).number x)) w n ∙ sym (right_wrong o s (num x) w n))
operators_agree q p f g o s (as_other v n e) (as_number y d k) = rw (e, d) (left_wrong o s v (num ((shape q p).number y)) n ∙ sym (left_wrong o s v (num y) n))
operators_agree q p f g o s (as_other v n e) (as_other w m d) = rw (e, d) refl

-- ---- the sides of an atom

module _ (q : Query) (p : List Value) (point : IsPoint q p) (e : Expr) (among : In e (atoms_of_all q.conjuncts)) where
  squashes : Spot → Value → Value
  squashes s = squash (shape q p) (along s.path (paths_at s.base (mentioned q)))

  mention : (a : Expr) (s : Spot) → In a (sides_of e) → spot_of a ≡ Some s → In [] (along s.path (paths_at s.base (mentioned q)))
  mention a s ha hs =
      In_along s.path [] (paths_at s.base (mentioned q))
      (subst (λ (z : Path). In z (paths_at s.base (mentioned q))) (sym (nil_right s.path)) (side_mentioned q e a s among ha hs))

  place_runs : (a : Expr) (s : Spot) → In a (sides_of e) → spot_of a ≡ Some s → (left n : ℕ)
      → run q.defs left (put (filled (cell_of q p)) a) n ≡ map_run (squashes s) (run q.defs left (put (filled p) a) n)
  unfolding squashes
  place_runs a s ha hs left n = place_alike q.defs (shape q p) (mentioned q) p (place_from a s hs) [] (mention a s ha hs) left n

  closed_runs : (a : Expr) → has_slot a ≡ false → (left n : ℕ)
      → run q.defs left (put (filled (cell_of q p)) a) n ≡ map_run (λ w. w) (run q.defs left (put (filled p) a) n)
  closed_runs a h left n =
      let x = put_closed (filled (cell_of q p)) a h in
      let y = put_closed (filled p) a h in
      ap (λ (z : Expr). run q.defs left z n) (x ∙ sym y) ∙ sym (map_same (λ w. w) (run q.defs left (put (filled p) a) n) (λ w m r. refl))

  fixed_parts : (a : Expr) (v : Value) → fixed_value q a ≡ Some v → (has_slot a ≡ false) × (value_in (eval q.defs a) ≡ Some v)
  fixed_parts a v h = go (has_slot a) refl h
    where
      go : (b : Bool) → has_slot a ≡ b → cond b None (value_in (eval q.defs a)) ≡ Some v → (has_slot a ≡ false) × (value_in (eval q.defs a) ≡ Some v)
      go true x y = cc
      go false x y = (x, y)

  closed_value : (a : Expr) (v : Value) → fixed_value q a ≡ Some v → (left m n : ℕ) (w : Value) → run q.defs left (put (filled p) a) m ≡ got w n → w ≡ v
  closed_value a v h left m n w r =
      let f = fixed_parts a v h in
      closed_gives q.defs a v w left m n f.1 (ap (λ (z : Expr). run q.defs left z m) (sym (put_closed (filled p) a f.0)) ∙ r)

  there : (a : Expr) (s : Spot) → spot_of a ≡ Some s → (left m n : ℕ) (w : Value) → run q.defs left (put (filled p) a) m ≡ got w n
      → follow (slice_get p s.base) s.path ≡ Some w
  there a s hs left m n w r = place_gives q.defs p (place_from a s hs) left m n w r

  typed_there : (a : Expr) (s : Spot) (t : Ty) → spot_of a ≡ Some s → spot_type q (Some s) ≡ Some t → (left m n : ℕ) (w : Value)
      → run q.defs left (put (filled p) a) m ≡ got w n → has_type q.defs.table w t ≡ true
  typed_there a s t hs ht left m n w r =
      let y = place_typed q p point s w (there a s hs left m n w r) in
      let z : y.0 ≡ t = (let u = y.1 in cc) in ap (λ (x : Ty). has_type q.defs.table w x) (sym z) ∙ y.2

  known_there : (a : Expr) (s : Spot) → spot_of a ≡ Some s → (left m n : ℕ) (w : Value) → run q.defs left (put (filled p) a) m ≡ got w n
      → Known (IsNumber q p) (IsText q p) (along s.path (paths_at s.base (mentioned q))) (Some w)
  known_there a s hs left m n w r = known_below q p point s w (there a s hs left m n w r)

  -- the constants of the atom are those of the query
  constant_among : (a : Expr) (v : Value) → In a (sides_of e) → fixed_value q a ≡ Some v → In v (constants_of q e)
  constant_among a v ha h =
      In_flat (λ b. some_list (fixed_value q b)) a v (sides_of e) ha (subst (λ (o : Option Value). In v (some_list o)) (sym h) (inl refl))

  numbers_among : (v : Value) → In v (constants_of q e) → Within (numbers_in v) (numbers q)
  numbers_among v h x i = In_flat numbers_in v x (constants q) (In_flat (constants_of q) e v (atoms_of_all q.conjuncts) among h) i

  tells_bytes : (x y : Text) → bytes_eq x y ≡ true → x ≡ y
  tells_bytes x y h = (bytes_decides x y).0 h

  texts_among : (v : Value) → In v (constants_of q e) → Within (texts_in v) (texts q)
  texts_among v h x i =
      In_once bytes_eq tells_bytes x (flat texts_in (constants q))
      (In_flat texts_in v x (constants q) (In_flat (constants_of q) e v (atoms_of_all q.conjuncts) among h) i)

  -- ---- equality

  abbrev Agrees : Expr → Expr → (Value → Value) → (Value → Value) → Type 0
  Agrees a b f g = (l m n l' m' n' : ℕ) (x y : Value) → run q.defs l (put (filled p) a) m ≡ got x n → run q.defs l' (put (filled p) b) m' ≡ got y n'
      → same_value (f x) (g y) ≡ same_value x y

  against_constant : (a b : Expr) (s : Spot) (v : Value) → In a (sides_of e) → In b (sides_of e) → spot_of a ≡ Some s → fixed_value q b ≡ Some v
      → Agrees a b (squashes s) (λ w. w)
  unfolding squashes
  against_constant a b s v ha hb hs hv l m n l' m' n' x y rx ry =
      let c = constant_among b v hb hv in
      let ev = closed_value b v hv l' m' n' y ry in
      let k = squashed_same (shape q p) (IsNumber q p) (IsText q p) (numbers q) (texts q) (keeps q p) v x (along s.path (paths_at s.base (mentioned q)))
      (known_there a s hs l m n x rx)
      (λ r i. In_along s.path r (paths_at s.base (mentioned q)) (constant_mentioned q e a s v r among ha hs c i))
      (numbers_among v c) (texts_among v c) in
      ap (λ (z : Value). same_value (squash (shape q p) (along s.path (paths_at s.base (mentioned q))) x) z) ev ∙ (k ∙ ap (λ (z : Value). same_value x z) (sym ev))

  constant_against : (a b : Expr) (s : Spot) (v : Value) → In a (sides_of e) → In b (sides_of e) → spot_of b ≡ Some s → fixed_value q a ≡ Some v
      → Agrees a b (λ w. w) (squashes s)
  constant_against a b s v ha hb hs hv l m n l' m' n' x y rx ry =
      sym_same x (squashes s y) ∙ (against_constant b a s v hb ha hs hv l' m' n' l m n y x ry rx ∙ sym_same y x)

  plain_same : (u : Ty) (x y : Value) (ps rs : List Path) → is_plain (Some u) ≡ true → has_type q.defs.table x u ≡ true → has_type q.defs.table y u ≡ true
      → In [] ps → In [] rs → Known (IsNumber q p) (IsText q p) ps (Some x) → Known (IsNumber q p) (IsText q p) rs (Some y)
      → same_value (squash (shape q p) ps x) (squash (shape q p) rs y) ≡ same_value x y
  plain_same integer (num x) (num y) ps rs h hx hy ix iy kx ky =
      (pressed_order (least (pos 0) (numbers q)) (pos 0 ∷ numbers q) (numbers_there q p) x y (least_is (pos 0) (numbers q))
      (kx.0 [] x ix refl) (ky.0 [] y iy refl)).4
  plain_same integer (num x) (bool y) ps rs h hx hy ix iy kx ky = cc
  plain_same integer (num x) (text y) ps rs h hx hy ix iy kx ky = cc
  plain_same integer (num x) (cons d ys) ps rs h hx hy ix iy kx ky = cc
  plain_same integer (bool x) y ps rs h hx hy ix iy kx ky = cc
  plain_same integer (text x) y ps rs h hx hy ix iy kx ky = cc
  plain_same integer (cons c xs) y ps rs h hx hy ix iy kx ky = cc
  plain_same truth (bool x) (bool y) ps rs h hx hy ix iy kx ky = refl
  plain_same truth (bool x) (num y) ps rs h hx hy ix iy kx ky = cc
  plain_same truth (bool x) (text y) ps rs h hx hy ix iy kx ky = cc
  plain_same truth (bool x) (cons d ys) ps rs h hx hy ix iy kx ky = cc
  plain_same truth (num x) y ps rs h hx hy ix iy kx ky = cc
  plain_same truth (text x) y ps rs h hx hy ix iy kx ky = cc
  plain_same truth (cons c xs) y ps rs h hx hy ix iy kx ky = cc
  plain_same string (text x) (text y) ps rs h hx hy ix iy kx ky = words_same q p x y (kx.1 [] x ix refl) (ky.1 [] y iy refl)
  plain_same string (text x) (num y) ps rs h hx hy ix iy kx ky = cc
  plain_same string (text x) (bool y) ps rs h hx hy ix iy kx ky = cc
  plain_same string (text x) (cons d ys) ps rs h hx hy ix iy kx ky = cc
  plain_same string (num x) y ps rs h hx hy ix iy kx ky = cc
  plain_same string (bool x) y ps rs h hx hy ix iy kx ky = cc
  plain_same string (cons c xs) y ps rs h hx hy ix iy kx ky = cc
  plain_same (named k) x y ps rs h hx hy ix iy kx ky = cc

  two_places : (a b : Expr) (s t : Spot) (u : Ty) → In a (sides_of e) → In b (sides_of e) → spot_of a ≡ Some s → spot_of b ≡ Some t
      → is_plain (Some u) ≡ true → spot_type q (Some s) ≡ Some u → spot_type q (Some t) ≡ Some u → Agrees a b (squashes s) (squashes t)
  unfolding squashes
  two_places a b s t u ha hb hs ht hu ts tt' l m n l' m' n' x y rx ry =
      plain_same u x y (along s.path (paths_at s.base (mentioned q))) (along t.path (paths_at t.base (mentioned q))) hu
      (typed_there a s u hs ts l m n x rx) (typed_there b t u ht tt' l' m' n' y ry)
      (mention a s ha hs) (mention b t hb ht) (known_there a s hs l m n x rx) (known_there b t ht l' m' n' y ry)

  abbrev BothRun : (Value → Value → ℕ → Run) → Expr → Expr → Type 0
  BothRun op a b = (left n : ℕ)
      → then_run (run q.defs left (put (filled (cell_of q p)) a) n) (λ x m. then_run (run q.defs left (put (filled (cell_of q p)) b) m) (λ y. op x y))
      ≡ then_run (run q.defs left (put (filled p) a) n) (λ x m. then_run (run q.defs left (put (filled p) b) m) (λ y. op x y))

  -- an operator that sees of its arguments whether they are the same, and whether they are of one type
  abbrev SeesSame : (Value → Value → ℕ → Run) → Type 0
  SeesSame op = (x y x' y' : Value) (n : ℕ) → are_comparable q.defs.table x' y' ≡ are_comparable q.defs.table x y → same_value x' y' ≡ same_value x y
      → op x' y' n ≡ op x y n

  keeps_heads : (s : Spot) → KeepsHeads (squashes s)
  unfolding squashes
  keeps_heads s = squashed_head (shape q p) (along s.path (paths_at s.base (mentioned q)))

  both_run : (op : Value → Value → ℕ → Run) (a b : Expr) (f g : Value → Value) → SeesSame op → KeepsHeads f → KeepsHeads g
      → ((left n : ℕ) → run q.defs left (put (filled (cell_of q p)) a) n ≡ map_run f (run q.defs left (put (filled p) a) n))
      → ((left n : ℕ) → run q.defs left (put (filled (cell_of q p)) b) n ≡ map_run g (run q.defs left (put (filled p) b) n))
      → Agrees a b f g → BothRun op a b
  both_run op a b f g sees hf hg ra rb h left n =
      two_alike (run q.defs left (put (filled p) a) n) (run q.defs left (put (filled (cell_of q p)) a) n)
      (run q.defs left (put (filled p) b)) (run q.defs left (put (filled (cell_of q p)) b)) f g op (ra left n) (rb left)
      (λ x y m k r t. sees x y (f x) (g y) k (comparable_heads q.defs.table (hf x) (hg y)) (h left n m left m k x y r t))

  equality_by : (op : Value → Value → ℕ → Run) (a b : Expr) → SeesSame op → In a (sides_of e) → In b (sides_of e)
      → ((has_spot (spot_of a) && (has_spot (spot_of b) && (is_plain (spot_type q (spot_of a)) && same_types (spot_type q (spot_of a)) (spot_type q (spot_of b))))) ≡ true)
      ⊎ (((has_spot (spot_of a) && has_value (fixed_value q b)) ≡ true) ⊎ ((has_value (fixed_value q a) && has_spot (spot_of b)) ≡ true))
      → BothRun op a b
  equality_by op a b sees ha hb (inl h) =
      let x = and_parts (has_spot (spot_of a)) (has_spot (spot_of b) && (is_plain (spot_type q (spot_of a)) && same_types (spot_type q (spot_of a)) (spot_type q (spot_of b)))) h in
      let y = and_parts (has_spot (spot_of b)) (is_plain (spot_type q (spot_of a)) && same_types (spot_type q (spot_of a)) (spot_type q (spot_of b))) x.1 in
      let z = and_parts (is_plain (spot_type q (spot_of a))) (same_types (spot_type q (spot_of a)) (spot_type q (spot_of b))) y.1 in
      let s = some_spot (spot_of a) x.0 in
      let t = some_spot (spot_of b) y.0 in
      let u = some_type (spot_type q (spot_of a)) z.0 in
      let pl : is_plain (Some u.0) ≡ true = ap is_plain (sym u.1) ∙ z.0 in
      let st : same_types (Some u.0) (spot_type q (spot_of b)) ≡ true = ap (λ (o : Option Ty). same_types o (spot_type q (spot_of b))) (sym u.1) ∙ z.1 in
      let tb = type_is u.0 (spot_type q (spot_of b)) st in
      both_run op a b (squashes s.0) (squashes t.0) sees (keeps_heads s.0) (keeps_heads t.0) (place_runs a s.0 ha s.1) (place_runs b t.0 hb t.1)
      (two_places a b s.0 t.0 u.0 ha hb s.1 t.1 pl (ap (spot_type q) (sym s.1) ∙ u.1) (ap (spot_type q) (sym t.1) ∙ tb))
    where
      some_type : (o : Option Ty) → is_plain o ≡ true → (u : Ty) × (o ≡ Some u)
      some_type None h = cc
      some_type (Some u) h = (u, refl)
  equality_by op a b sees ha hb (inr (inl h)) =
      let x = and_parts (has_spot (spot_of a)) (has_value (fixed_value q b)) h in
      let s = some_spot (spot_of a) x.0 in
      let v = some_value (fixed_value q b) x.1 in
      both_run op a b (squashes s.0) (λ w. w) sees (keeps_heads s.0) own_head (place_runs a s.0 ha s.1) (closed_runs b (fixed_parts b v.0 v.1).0)
      (against_constant a b s.0 v.0 ha hb s.1 v.1)
  equality_by op a b sees ha hb (inr (inr h)) =
      let x = and_parts (has_value (fixed_value q a)) (has_spot (spot_of b)) h in
      let s = some_spot (spot_of b) x.1 in
      let v = some_value (fixed_value q a) x.0 in
      both_run op a b (λ w. w) (squashes s.0) sees own_head (keeps_heads s.0) (closed_runs a (fixed_parts a v.0 v.1).0) (place_runs b s.0 hb s.1)
      (constant_against a b s.0 v.0 ha hb s.1 v.1)

  equality_alike : (op : Value → Value → ℕ → Run) (a b : Expr) → SeesSame op → In a (sides_of e) → In b (sides_of e) → is_equality q a b ≡ true → BothRun op a b
  equality_alike op a b sees ha hb h =
      equality_by op a b sees ha hb
      (elim (or_cases _ _ h) [ inl x ↦ inl x | inr y ↦ inr (or_cases _ _ y) ])

  -- ---- order

  abbrev IsNumberLike : Expr → (Value → Value) → Type 0
  IsNumberLike a f = (l m n : ℕ) (w : Value) → run q.defs l (put (filled p) a) m ≡ got w n → NumberLike q p f w

  record IntegerSide (a : Expr) : Type 0 where
    pub changes : Value → Value
    pub alike : (left n : ℕ) → run q.defs left (put (filled (cell_of q p)) a) n ≡ map_run changes (run q.defs left (put (filled p) a) n)
    pub like : IsNumberLike a changes

  place_like : (s : Spot) (w : Value) → has_type q.defs.table w integer ≡ true → In [] (along s.path (paths_at s.base (mentioned q)))
      → Known (IsNumber q p) (IsText q p) (along s.path (paths_at s.base (mentioned q))) (Some w) → NumberLike q p (squashes s) w
  unfolding squashes
  place_like s (num x) t i k = as_number x refl (k.0 [] x i refl)
  place_like s (bool b) t i k = cc
  place_like s (text x) t i k = cc
  place_like s (cons c vs) t i k = cc

  constant_like : (v : Value) → In v (constants_of q e) → NumberLike q p (λ w. w) v
  constant_like (num x) h =
      let i = numbers_among (num x) h x (inl refl) in
      as_number x (ap num (sym (pressed_fixed (least (pos 0) (numbers q)) (pos 0 ∷ numbers q) (numbers_there q p) x (least_is (pos 0) (numbers q)) (inr i)))) (inl (inr i))
  constant_like (bool b) h = as_other (bool b) refl refl
  constant_like (text x) h = as_other (text x) refl refl
  constant_like (cons c vs) h = as_other (cons c vs) refl refl

  fixed_side : (a : Expr) → In a (sides_of e) → has_value (fixed_value q a) ≡ true → IntegerSide a
  fixed_side a ha h =
      let v = some_value (fixed_value q a) h in
      record {
        changes = λ w. w;
        alike = closed_runs a (fixed_parts a v.0 v.1).0;
        like = λ l m n w r. subst (NumberLike q p (λ z. z)) (sym (closed_value a v.0 v.1 l m n w r)) (constant_like v.0 (constant_among a v.0 ha v.1));
      }

  placed_side : (a : Expr) → In a (sides_of e) → (o : Option Spot) → spot_of a ≡ o → is_type integer (spot_type q o) ≡ true → IntegerSide a
  placed_side a ha None hs h = cc
  placed_side a ha (Some s) hs h =
      record {
        changes = squashes s;
        alike = place_runs a s ha hs;
        like = λ l m n w r. place_like s w (typed_there a s integer hs (type_is integer (spot_type q (Some s)) h) l m n w r) (mention a s ha hs) (known_there a s hs l m n w r);
      }

  integer_side : (a : Expr) → In a (sides_of e) → is_integer_side q a ≡ true → IntegerSide a
  integer_side a ha h = elim (or_cases _ _ h) [ inl x ↦ placed_side a ha (spot_of a) refl x | inr y ↦ fixed_side a ha y ]

  order_alike : (o : Binary) (a b : Expr) → is_order_operator o ≡ true → In a (sides_of e) → In b (sides_of e) → is_comparison q a b ≡ true
      → BothRun (λ x y. after (binary o x y)) a b
  order_alike o a b ho ha hb h left n =
      let x = and_parts (is_integer_side q a) (is_integer_side q b && (has_spot (spot_of a) || has_spot (spot_of b))) h in
      let y = and_parts (is_integer_side q b) (has_spot (spot_of a) || has_spot (spot_of b)) x.1 in
      let s = integer_side a ha x.0 in
      let t = integer_side b hb y.0 in
      two_alike (run q.defs left (put (filled p) a) n) (run q.defs left (put (filled (cell_of q p)) a) n)
      (run q.defs left (put (filled p) b)) (run q.defs left (put (filled (cell_of q p)) b)) s.changes t.changes (λ u v. after (binary o u v)) (s.alike left n) (t.alike left)
      (λ u v m k r w. ap (λ (z : Outcome). after z k) (operators_agree q p s.changes t.changes o ho (s.like left n m u r) (t.like left m k v w)))

  -- ---- truth values and tests

  truth_same : (s : Spot) (w : Value) → has_type q.defs.table w truth ≡ true → squashes s w ≡ w
  unfolding squashes
  truth_same s (bool b) h = refl
  truth_same s (num x) h = cc
  truth_same s (text x) h = cc
  truth_same s (cons c vs) h = cc

  truth_alike : (a : Expr) → In a (sides_of e) → (o : Option Spot) → spot_of a ≡ o → is_type truth (spot_type q o) ≡ true → EndsAlike q.defs (cell_of q p) p a
  truth_alike a ha None hs h left n = cc
  truth_alike a ha (Some s) hs h left n =
      place_runs a s ha hs left n
      ∙ map_same (squashes s) (run q.defs left (put (filled p) a) n) (λ w m r. truth_same s w (typed_there a s truth hs (type_is truth (spot_type q (Some s)) h) left n m w r))

  abbrev tests : ℕ → Value → ℕ → Run
  tests c x n = checked (takes_one q.defs.table (is_made_by c) x) (after (unary q.defs.table (is_made_by c) x) n)

  made_same : (c : ℕ) (s : Spot) (w : Value) (n : ℕ) → tests c (squashes s w) n ≡ tests c w n
  unfolding squashes
  made_same c s (num x) n = refl
  made_same c s (bool b) n = refl
  made_same c s (text t) n = refl
  made_same c s (cons d vs) n = refl

  made_alike : (c : ℕ) (a : Expr) → In a (sides_of e) → has_spot (spot_of a) ≡ true → EndsAlike q.defs (cell_of q p) p (one (is_made_by c) a)
  made_alike c a ha h zero n = refl
  made_alike c a ha h (suc left) n =
      let s = some_spot (spot_of a) h in
      entered (ltb n node_limit) _ _
      (one_alike (run q.defs left (put (filled p) a) (suc n)) (run q.defs left (put (filled (cell_of q p)) a) (suc n)) (squashes s.0)
      (tests c) (place_runs a s.0 ha s.1 left (suc n)) (λ x m r. made_same c s.0 x m))

  equal_alike : (a b : Expr) → In a (sides_of e) → In b (sides_of e) → is_equality q a b ≡ true → EndsAlike q.defs (cell_of q p) p (equal a b)
  equal_alike a b ha hb h zero n = refl
  equal_alike a b ha hb h (suc left) n =
      entered (ltb n node_limit) _ _
      (equality_alike (λ x y k. checked (are_comparable q.defs.table x y) (got (bool (same_value x y)) k)) a b
      (λ x y x' y' k c i. λ j. checked (c j) (got (bool (i j)) k)) ha hb h left (suc n))

  binary_alike : (o : Binary) (a b : Expr) → BothRun (λ x y k. checked (takes_two q.defs.table o x y) (after (binary o x y) k)) a b → EndsAlike q.defs (cell_of q p) p (two o a b)
  binary_alike o a b h zero n = refl
  binary_alike o a b h (suc left) n = entered (ltb n node_limit) _ _ (h left (suc n))

  differ_is : (x y : Value) → binary differ x y ≡ fine (bool (not (same_value x y)))
  differ_is (num x) (num y) = refl
  differ_is (num x) (bool y) = refl
  differ_is (num x) (text y) = refl
  differ_is (num x) (cons d ys) = refl
  differ_is (bool x) (num y) = refl
  differ_is (bool x) (bool y) = refl
  differ_is (bool x) (text y) = refl
  differ_is (bool x) (cons d ys) = refl
  differ_is (text x) (num y) = refl
  differ_is (text x) (bool y) = refl
  differ_is (text x) (text y) = refl
  differ_is (text x) (cons d ys) = refl
  differ_is (cons c xs) (num y) = refl
  differ_is (cons c xs) (bool y) = refl
  differ_is (cons c xs) (text y) = refl
  differ_is (cons c xs) (cons d ys) = refl

  differ_alike : (a b : Expr) → In a (sides_of e) → In b (sides_of e) → is_equality q a b ≡ true → EndsAlike q.defs (cell_of q p) p (two differ a b)
  differ_alike a b ha hb h =
      binary_alike differ a b
      (equality_alike (λ x y k. checked (are_comparable q.defs.table x y) (after (binary differ x y) k)) a b
      (λ x y x' y' k c i. let d : binary differ x' y' ≡ binary differ x y = differ_is x' y' ∙ (ap (λ (z : Bool). fine (bool (not z))) i ∙ sym (differ_is x y)) in
      λ j. checked (c j) (after (d j) k)) ha hb h)

two_alike_atom : (q : Query) (p : List Value) → IsPoint q p → (o : Binary) (a b : Expr) → In (two o a b) (atoms_of_all q.conjuncts) → is_order_atom q (two o a b) ≡ true
    → EndsAlike q.defs (cell_of q p) p (two o a b)
two_alike_atom q p h less_than a b i e = binary_alike q p h (two less_than a b) i less_than a b (order_alike q p h (two less_than a b) i less_than a b refl (inl refl) (inr (inl refl)) e)
two_alike_atom q p h at_most a b i e = binary_alike q p h (two at_most a b) i at_most a b (order_alike q p h (two at_most a b) i at_most a b refl (inl refl) (inr (inl refl)) e)
two_alike_atom q p h more_than a b i e = binary_alike q p h (two more_than a b) i more_than a b (order_alike q p h (two more_than a b) i more_than a b refl (inl refl) (inr (inl refl)) e)
two_alike_atom q p h at_least a b i e = binary_alike q p h (two at_least a b) i at_least a b (order_alike q p h (two at_least a b) i at_least a b refl (inl refl) (inr (inl refl)) e)
two_alike_atom q p h differ a b i e = differ_alike q p h (two differ a b) i a b (inl refl) (inr (inl refl)) e
two_alike_atom q p h plus a b i e = cc
two_alike_atom q p h minus a b i e = cc
two_alike_atom q p h times a b i e = cc
two_alike_atom q p h divide a b i e = cc
two_alike_atom q p h remainder a b i e = cc
two_alike_atom q p h concat a b i e = cc
two_alike_atom q p h char_at a b i e = cc

atom_alike : (q : Query) (p : List Value) → IsPoint q p → (e : Expr) → In e (atoms_of_all q.conjuncts) → is_order_atom q e ≡ true → EndsAlike q.defs (cell_of q p) p e
atom_alike q p h (slot i) j t = truth_alike q p h (slot i) j (slot i) (inl refl) (spot_of (slot i)) refl t
atom_alike q p h (one (select c k) a) j t = truth_alike q p h (one (select c k) a) j (one (select c k) a) (inl refl) (spot_of (one (select c k) a)) refl t
atom_alike q p h (one (is_made_by c) a) j t = made_alike q p h (one (is_made_by c) a) j c a (inl refl) t
atom_alike q p h (equal a b) j t = equal_alike q p h (equal a b) j a b (inl refl) (inr (inl refl)) t
atom_alike q p h (two o a b) j t = two_alike_atom q p h o a b j t
atom_alike q p h (one negate a) j t = cc
atom_alike q p h (one negation a) j t = cc
atom_alike q p h (one to_text a) j t = cc
atom_alike q p h (one (from_text y) a) j t = cc
atom_alike q p h (one len a) j t = cc
atom_alike q p h (val v) j t = cc
atom_alike q p h (local i) j t = cc
atom_alike q p h (constant k) j t = cc
atom_alike q p h (both a b) j t = cc
atom_alike q p h (either a b) j t = cc
atom_alike q p h (choose c a b) j t = cc
atom_alike q p h (apply k es) j t = cc
atom_alike q p h (build c es) j t = cc
atom_alike q p h (let_in _ a b) j t = cc

all_alike : (q : Query) (p : List Value) → IsPoint q p → (es : List Expr) → Within es (atoms_of_all q.conjuncts) → all_order q es ≡ true
    → EndAlike q.defs (cell_of q p) p es
all_alike q p h [] w t = tt
all_alike q p h (e ∷ es) w t =
    let x = and_parts (is_order_atom q e) (all_order q es) t in
    (atom_alike q p h e (w e (inl refl)) x.0, all_alike q p h es (λ y i. w y (inr i)) x.1)

-- every point has a cell at which every order atom ends alike
pub point_has_cell : (q : Query) → all_order q (atoms_of_all q.conjuncts) ≡ true → ConstantsFit q → (p : List Value) → IsPoint q p
    → (c : List Value) × In c (cells (order_candidates q)) × EndAlike q.defs c p (atoms_of_all q.conjuncts)
point_has_cell q t c p h =
    (cell_of q p, cell_is q c p h, all_alike q p h (atoms_of_all q.conjuncts) (λ e i. i) t)
