-- The candidates of each slot, if all atoms are order atoms.
use Rattle.std.specs.Prelude.{ℕ, zero, suc, ◌+◌, ℤ, pos, ◌+ℤ◌, ◌-ℤ◌, int_lt, true, false, cond, eqb, max, List, [], ◌∷◌, ◌++◌, length, map, take, Option, Some, None}
use Rattle.std.specs.Ordering.{int_eq}
use Rattle.std.specs.Str.{bytes_eq}
use Rattle.std.specs.Int.Digits.{digits_of}
use Rattle.txs_values.specs.Value.{Ty, Value, Field, Table, Place, place_of, packed, fits, integer, truth, string, named, num, bool, text, cons}
use Rattle.txs_values.specs.Default.{default_of}
use Rattle.txs_terms.specs.Action.{from}
use Rattle.txs_guard.specs.Query.{Query}
use Rattle.txs_guard.specs.Place.{Spot}
use Rattle.txs_guard.specs.Atom.{atoms_of_all, all_order}
use Rattle.txs_guard.specs.Mentioned.{Path, below, flat, mentioned, paths_at, any_is, places_with, numbers, texts}

-- the points of these candidates in lexicographic order, the first slot first
abbrev pub with_each : List Value → List (List Value) → List (List Value)
with_each [] ps = []
with_each (v ∷ vs) ps = map (λ p. v ∷ p) ps ++ with_each vs ps

-- the points of these candidates
abbrev pub cells : List (List Value) → List (List Value)
cells [] = [] ∷ []
cells (vs ∷ vss) = with_each vs (cells vss)

-- into an ascending list, once
abbrev pub insert : ℤ → List ℤ → List ℤ
insert x [] = x ∷ []
insert x (y ∷ ys) = cond (int_lt x y) (x ∷ y ∷ ys) (cond (int_eq x y) (y ∷ ys) (y ∷ insert x ys))

-- a number and the n after it
abbrev pub run_up : ℤ → ℕ → List ℤ
run_up x zero = x ∷ []
run_up x (suc n) = x ∷ run_up (x +ℤ pos 1) n

-- the least of these
abbrev pub least : ℤ → List ℤ → ℤ
least x [] = x
least x (y ∷ ys) = cond (int_lt y x) (least y ys) (least x ys)

-- those in the range of Int, ascending and each once
abbrev pub sort_in_range : List ℤ → List ℤ
sort_in_range [] = []
sort_in_range (x ∷ xs) = cond (fits x) (insert x (sort_in_range xs)) (sort_in_range xs)

-- each number with the n after it
abbrev pub runs_up : ℕ → List ℤ → List ℤ
runs_up n [] = []
runs_up n (k ∷ ks) = run_up k n ++ runs_up n ks

-- each constant, the n numbers after it, and the n numbers before the least one; 0 is a constant
abbrev pub integer_candidates : ℕ → List ℤ → List ℤ
integer_candidates n ks = sort_in_range (run_up (least (pos 0) ks -ℤ pos n) n ++ runs_up n (pos 0 ∷ ks))

-- t1, t2 and so on
abbrev pub fresh_text : ℕ → List ℕ
fresh_text k = 116 ∷ map (λ d. 48 + d) (digits_of 10 (suc k))

-- n of `t1`, `t2` and so on that are no constants, looked for from this one on
abbrev pub fresh_from : List (List ℕ) → ℕ → ℕ → List (List ℕ)
fresh_from ts k zero = []
fresh_from ts k (suc n) = cond (any_is bytes_eq (fresh_text k) ts) (fresh_from ts (suc k) n) (fresh_text k ∷ fresh_from ts (suc k) n)

-- the first n that are no constants
abbrev pub fresh_texts : List (List ℕ) → ℕ → List (List ℕ)
fresh_texts ts n = take n (fresh_from ts 0 (n + length ts))

-- the text constants, and n texts that are none
abbrev pub text_candidates : ℕ → List (List ℕ) → List (List ℕ)
text_candidates n ts = ts ++ fresh_texts ts n

-- Ints and texts for each place
pub record Pools : Type 0 where
  pub integer_pool : List ℤ
  pub text_pool : List (List ℕ)

-- how many constructors the types have
abbrev pub count_made : Table → ℕ
count_made [] = 0
count_made (t ∷ ts) = length t.constructors + count_made ts

-- the fields of constructor c, if it is one of type k
abbrev pub fields_of : Option Place → ℕ → Option (List Field)
fields_of None k = None
fields_of (Some p) k = cond (eqb p.ty k) (Some p.constructor.fields) None

module _ (default : Ty → Value) (go : Ty → List Path → List Value) where
  -- an unmentioned field has its default alone
  abbrev pub field_choices : Ty → List Path → List Value
  field_choices t [] = default t ∷ []
  field_choices t (p ∷ ps) = go t (p ∷ ps)

  -- the choices for each field of a constructor
  abbrev pub each_field : ℕ → ℕ → List Field → List Path → List (List Value)
  each_field c j [] ps = []
  each_field c j (f ∷ fs) ps = field_choices f.ty (below c j ps) ∷ each_field c (suc j) fs ps

  -- a constructor with every choice of its fields
  abbrev pub made_choices : ℕ → Option (List Field) → List Path → List Value
  made_choices c None ps = []
  made_choices c (Some fs) ps = map (λ vs. cons c (packed vs)) (cells (each_field c 0 fs ps))

module _ (table : Table) (default : Ty → Value) (pools : Pools) where
  -- the candidates of a place of this type, below which these paths are mentioned; at most `left` selectors deep
  abbrev pub choices : ℕ → Ty → List Path → List Value
  choices left integer ps = map num pools.integer_pool
  choices left truth ps = bool false ∷ bool true ∷ []
  choices left string ps = map text pools.text_pool
  choices zero (named k) ps = []
  choices (suc left) (named k) ps =
      flat (λ c. made_choices default (choices left) c (fields_of (place_of table c) k) ps) (from 0 (count_made table))

-- the most selectors of a place
abbrev pub longest : List Spot → ℕ
longest [] = 0
longest (s ∷ ss) = max (length s.path) (longest ss)

-- the candidates of each slot
abbrev pub slot_choices : (Ty → List Path → List Value) → List Spot → ℕ → List Ty → List (List Value)
slot_choices go ss i [] = []
slot_choices go ss i (t ∷ ts) = go t (paths_at i ss) ∷ slot_choices go ss (suc i) ts

-- the Ints and the texts for the places of a query
abbrev pub pools_of : Query → Pools
pools_of q = record {
  integer_pool = integer_candidates (length (places_with q integer)) (numbers q);
  text_pool = text_candidates (length (places_with q string)) (texts q);
}

-- the candidates of each slot of a query
abbrev pub order_candidates : Query → List (List Value)
order_candidates q =
    slot_choices (choices q.defs.table (default_of q.defs.table) (pools_of q) (suc (longest (mentioned q)))) (mentioned q) 0 q.slots

-- the candidates, if all atoms are order atoms
abbrev pub order_case : Query → Option (List (List Value))
order_case q = cond (all_order q (atoms_of_all q.conjuncts)) (Some (order_candidates q)) None
