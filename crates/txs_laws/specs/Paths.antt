-- How long a path of a menu may be.
use Rattle.std.specs.Prelude.{◌≡◌, ◌<◌, ◌≤◌, ℕ, ◌+◌, ◌*◌, max, List, [], ◌∷◌, ◌++◌, Some, slice_get}
use Rattle.txs_terms.specs.Action.{Scope}
use Rattle.txs_terms.specs.Term.{Term, stop, exits, prefix, step, guard, choice, par, enable, disable, interrupt, hide, call, bind, machine, hit, miss}
use Rattle.txs_terms.specs.Rules.{Model}
use Rattle.txs_terms.specs.Menu.{walk}

-- the processes that a term calls with no `>->` and no right side of `>>>` before
abbrev pub calls_of : Term → List ℕ
calls_of stop = []
calls_of (exits es) = []
calls_of (prefix os gs t) = []
calls_of (step gs t) = []
calls_of (guard gs t) = calls_of t
calls_of (choice a b) = calls_of a ++ calls_of b
calls_of (par gates a b) = calls_of a ++ calls_of b
calls_of (enable a xs b) = calls_of a
calls_of (disable a b) = calls_of a ++ calls_of b
calls_of (interrupt a b) = calls_of a ++ calls_of b
calls_of (hide hs t) = calls_of t
calls_of (call p cs es) = p ∷ []
calls_of (bind xs es t) = calls_of t
calls_of (machine k cs es q) = []
calls_of hit = []
calls_of miss = []

-- the nodes of the longest path from a term down to its calls
abbrev pub path_nodes : Term → ℕ
path_nodes stop = 1
path_nodes (exits es) = 1
path_nodes (prefix os gs t) = 1
path_nodes (step gs t) = 1
path_nodes (guard gs t) = 1 + path_nodes t
path_nodes (choice a b) = 1 + max (path_nodes a) (path_nodes b)
path_nodes (par gates a b) = 1 + max (path_nodes a) (path_nodes b)
path_nodes (enable a xs b) = 1 + path_nodes a
path_nodes (disable a b) = 1 + max (path_nodes a) (path_nodes b)
path_nodes (interrupt a b) = 1 + max (path_nodes a) (path_nodes b)
path_nodes (hide hs t) = 1 + path_nodes t
path_nodes (call p cs es) = 1
path_nodes (bind xs es t) = 1 + path_nodes t
path_nodes (machine k cs es q) = 1
path_nodes hit = 1
path_nodes miss = 1

abbrev pub AllCallsBelow : (ℕ → ℕ) → ℕ → List ℕ → Type 0
AllCallsBelow rank r [] = Unit {0}
AllCallsBelow rank r (p ∷ ps) = (rank p < r) × AllCallsBelow rank r ps

-- each body calls processes of lower rank alone, so no process lies on an unguarded cycle; no path within a body has more than `most` nodes
pub record IsRanked (model : Model) (rank : ℕ → ℕ) (most : ℕ) : Type 0 where
  pub lower : (p : ℕ) (body : Term) → slice_get model.bodies p ≡ Some body → AllCallsBelow rank (rank p) (calls_of body)
  pub short : (p : ℕ) (body : Term) → slice_get model.bodies p ≡ Some body → path_nodes body ≤ most

-- Where the calls of a term have ranks below r, no path of its menu has more than `path_nodes t + r * most` nodes:
-- with that many allowed, allowing more changes nothing.
abbrev pub PathsAreBounded : Type 0
PathsAreBounded =
    (model : Model) (rank : ℕ → ℕ) (most r : ℕ) (scope : Scope) (t : Term) (n left more : ℕ)
    → IsRanked model rank most → AllCallsBelow rank r (calls_of t) → path_nodes t + r * most ≤ left
    → walk model (left + more) scope t n ≡ walk model left scope t n
