-- The calls of a term and its longest path stay as they are when values and other channels are put in.
use Rattle.std.proofs.Common.{◌≡◌, ◌<◌, ℕ, ◌+◌, List, [], ◌∷◌, ◌++◌, refl, ap, ◌∙◌, arith}
use Rattle.txs_values.specs.Value.{Value}
use Rattle.txs_terms.specs.Expr.{Puts, filled}
use Rattle.txs_terms.specs.Action.{Channels}
use Rattle.txs_terms.specs.Term.{Term, stop, exits, prefix, step, guard, choice, par, enable, disable, interrupt, hide, call, bind, machine, hit, miss, put_term, with_channels, channel_at, instance}
use Rattle.txs_laws.specs.Paths.{calls_of, path_nodes, AllCallsBelow}

pub calls_put : (f : Puts) (t : Term) → calls_of (put_term f t) ≡ calls_of t
calls_put f stop = refl
calls_put f (exits es) = refl
calls_put f (prefix os gs t) = refl
calls_put f (step gs t) = refl
calls_put f (guard gs t) = calls_put f t
calls_put f (choice a b) = let p = calls_put f a in let q = calls_put f b in cc
calls_put f (par gates a b) = let p = calls_put f a in let q = calls_put f b in cc
calls_put f (enable a xs b) = calls_put f a
calls_put f (disable a b) = let p = calls_put f a in let q = calls_put f b in cc
calls_put f (interrupt a b) = let p = calls_put f a in let q = calls_put f b in cc
calls_put f (hide hs t) = calls_put f t
calls_put f (call p cs es) = refl
calls_put f (bind xs es t) = calls_put f t
calls_put f (machine k cs es q) = refl
calls_put f hit = refl
calls_put f miss = refl

calls_with : (f : ℕ → ℕ) (t : Term) → calls_of (with_channels f t) ≡ calls_of t
calls_with f stop = refl
calls_with f (exits es) = refl
calls_with f (prefix os gs t) = refl
calls_with f (step gs t) = refl
calls_with f (guard gs t) = calls_with f t
calls_with f (choice a b) = let p = calls_with f a in let q = calls_with f b in cc
calls_with f (par gates a b) = let p = calls_with f a in let q = calls_with f b in cc
calls_with f (enable a xs b) = calls_with f a
calls_with f (disable a b) = let p = calls_with f a in let q = calls_with f b in cc
calls_with f (interrupt a b) = let p = calls_with f a in let q = calls_with f b in cc
calls_with f (hide hs t) = calls_with f t
calls_with f (call p cs es) = refl
calls_with f (bind xs es t) = calls_with f t
calls_with f (machine k cs es q) = refl
calls_with f hit = refl
calls_with f miss = refl

pub calls_of_instance : (cs : Channels) (vs : List Value) (depth : ℕ) (t : Term) → calls_of (instance cs vs depth t) ≡ calls_of t
calls_of_instance cs vs depth t = calls_put (filled vs) (with_channels (channel_at cs depth) t) ∙ calls_with (channel_at cs depth) t

pub path_put : (f : Puts) (t : Term) → path_nodes (put_term f t) ≡ path_nodes t
path_put f stop = refl
path_put f (exits es) = refl
path_put f (prefix os gs t) = refl
path_put f (step gs t) = refl
path_put f (guard gs t) = ap (λ n. 1 + n) (path_put f t)
path_put f (choice a b) = let p = path_put f a in let q = path_put f b in cc
path_put f (par gates a b) = let p = path_put f a in let q = path_put f b in cc
path_put f (enable a xs b) = ap (λ n. 1 + n) (path_put f a)
path_put f (disable a b) = let p = path_put f a in let q = path_put f b in cc
path_put f (interrupt a b) = let p = path_put f a in let q = path_put f b in cc
path_put f (hide hs t) = ap (λ n. 1 + n) (path_put f t)
path_put f (call p cs es) = refl
path_put f (bind xs es t) = ap (λ n. 1 + n) (path_put f t)
path_put f (machine k cs es q) = refl
path_put f hit = refl
path_put f miss = refl

path_with : (f : ℕ → ℕ) (t : Term) → path_nodes (with_channels f t) ≡ path_nodes t
path_with f stop = refl
path_with f (exits es) = refl
path_with f (prefix os gs t) = refl
path_with f (step gs t) = refl
path_with f (guard gs t) = ap (λ n. 1 + n) (path_with f t)
path_with f (choice a b) = let p = path_with f a in let q = path_with f b in cc
path_with f (par gates a b) = let p = path_with f a in let q = path_with f b in cc
path_with f (enable a xs b) = ap (λ n. 1 + n) (path_with f a)
path_with f (disable a b) = let p = path_with f a in let q = path_with f b in cc
path_with f (interrupt a b) = let p = path_with f a in let q = path_with f b in cc
path_with f (hide hs t) = ap (λ n. 1 + n) (path_with f t)
path_with f (call p cs es) = refl
path_with f (bind xs es t) = ap (λ n. 1 + n) (path_with f t)
path_with f (machine k cs es q) = refl
path_with f hit = refl
path_with f miss = refl

pub path_of_instance : (cs : Channels) (vs : List Value) (depth : ℕ) (t : Term) → path_nodes (instance cs vs depth t) ≡ path_nodes t
path_of_instance cs vs depth t = path_put (filled vs) (with_channels (channel_at cs depth) t) ∙ path_with (channel_at cs depth) t

pub calls_in_left : (rank : ℕ → ℕ) (r : ℕ) (ps qs : List ℕ) → AllCallsBelow rank r (ps ++ qs) → AllCallsBelow rank r ps
calls_in_left rank r [] qs h = tt
calls_in_left rank r (p ∷ ps) qs h = (h.0, calls_in_left rank r ps qs h.1)

pub calls_in_right : (rank : ℕ → ℕ) (r : ℕ) (ps qs : List ℕ) → AllCallsBelow rank r (ps ++ qs) → AllCallsBelow rank r qs
calls_in_right rank r [] qs h = h
calls_in_right rank r (p ∷ ps) qs h = calls_in_right rank r ps qs h.1

-- each path has a node
pub some_node : (t : Term) → 0 < path_nodes t
some_node stop = omega arith
some_node (exits es) = omega arith
some_node (prefix os gs t) = omega arith
some_node (step gs t) = omega arith
some_node (guard gs t) = omega arith
some_node (choice a b) = omega arith
some_node (par gates a b) = omega arith
some_node (enable a xs b) = omega arith
some_node (disable a b) = omega arith
some_node (interrupt a b) = omega arith
some_node (hide hs t) = omega arith
some_node (call p cs es) = omega arith
some_node (bind xs es t) = omega arith
some_node (machine k cs es q) = omega arith
some_node hit = omega arith
some_node miss = omega arith
