-- Guards as queries: grouped by shared slots, the slots of each group numbered by first use.
use Rattle.std.specs.Prelude.{ℕ, zero, suc, Bool, false, ◌||◌, cond, List, [], ◌∷◌, ◌++◌, length, map, Option, Some, None, slice_get}
use Rattle.txs_values.specs.Value.{Ty, integer}
use Rattle.txs_terms.specs.Expr.{Expr, put_all, Exprs, val, slot, local, constant, one, two, equal, both, either, choose, apply, build, let_in, none, more}
use Rattle.txs_terms.specs.Eval.{Defs}
use Rattle.txs_terms.specs.Action.{has}
use Rattle.txs_terms.specs.Menu.{position}

-- the slots of an expression, from left to right
abbrev mutual
  pub slots_of : Expr → List ℕ
  slots_of (val v) = []
  slots_of (slot i) = i ∷ []
  slots_of (local i) = []
  slots_of (constant k) = []
  slots_of (one o a) = slots_of a
  slots_of (two o a b) = slots_of a ++ slots_of b
  slots_of (equal a b) = slots_of a ++ slots_of b
  slots_of (both a b) = slots_of a ++ slots_of b
  slots_of (either a b) = slots_of a ++ slots_of b
  slots_of (choose c a b) = slots_of c ++ (slots_of a ++ slots_of b)
  slots_of (apply k es) = slots_of_each es
  slots_of (build c es) = slots_of_each es
  slots_of (let_in x a b) = slots_of a ++ slots_of b

  pub slots_of_each : Exprs → List ℕ
  slots_of_each none = []
  slots_of_each (more e es) = slots_of e ++ slots_of_each es

-- the slots of conjuncts, in order
abbrev pub slots_of_all : List Expr → List ℕ
slots_of_all [] = []
slots_of_all (e ∷ es) = slots_of e ++ slots_of_all es

-- whether two lists have one in common
abbrev pub share : List ℕ → List ℕ → Bool
share [] ys = false
share (x ∷ xs) ys = has ys x || share xs ys

-- those that share a slot with these, and the others
abbrev pub touching : List ℕ → List Expr → List Expr
touching ss [] = []
touching ss (e ∷ es) = cond (share (slots_of e) ss) (e ∷ touching ss es) (touching ss es)

abbrev pub apart : List ℕ → List Expr → List Expr
apart ss [] = []
apart ss (e ∷ es) = cond (share (slots_of e) ss) (apart ss es) (e ∷ apart ss es)

-- the slots that are shared over at most n conjuncts in a row
abbrev pub grown : ℕ → List ℕ → List Expr → List ℕ
grown zero ss es = ss
grown (suc n) ss es = grown n (ss ++ slots_of_all (touching ss es)) es

-- the groups, each at its first conjunct
abbrev pub groups : ℕ → List Expr → List (List Expr)
groups zero es = []
groups (suc n) [] = []
groups (suc n) (e ∷ es) =
    let ss = grown (length es) (slots_of e) es in
    (e ∷ touching ss es) ∷ groups n (apart ss es)

-- each once, but for those that were seen
abbrev pub distinct_after : List ℕ → List ℕ → List ℕ
distinct_after seen [] = []
distinct_after seen (x ∷ xs) = cond (has seen x) (distinct_after seen xs) (x ∷ distinct_after (x ∷ seen) xs)

-- by first use
abbrev pub distinct : List ℕ → List ℕ
distinct xs = distinct_after [] xs

-- a type, and Int if there is none
abbrev pub type_or_integer : Option Ty → Ty
type_or_integer None = integer
type_or_integer (Some t) = t

-- the types of the slots, and conjuncts over them
pub record Query : Type 0 where
  pub defs : Defs
  pub slots : List Ty
  pub conjuncts : List Expr

-- a query with the slots of the item that its own slots stand for
pub record QueryPart : Type 0 where
  pub query : Query
  pub slots : List ℕ

-- the query of a group of conjuncts
abbrev pub part_for : Defs → List Ty → List Expr → QueryPart
part_for defs types es =
    let ss = distinct (slots_of_all es) in
    record {
      query = record {
        defs = defs;
        slots = map (λ s. type_or_integer (slice_get types s)) ss;
        conjuncts = put_all (λ i. slot (position ss i)) es;
      };
      slots = ss;
    }

-- the queries of guards over slots of these types
abbrev pub split : Defs → List Expr → List Ty → List QueryPart
split defs guards types = map (part_for defs types) (groups (length guards) guards)
