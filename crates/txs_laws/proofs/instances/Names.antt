-- The channels that a body names, its gates and its HIDEs, once values and other channels stand in it.
use Rattle.std.proofs.Common.{◌≡◌, ℕ, List, [], ◌∷◌, ◌++◌, map, refl, ap}
use Rattle.txs_terms.specs.Expr.{Puts}
use Rattle.txs_terms.specs.Action.{Channels, in_order}
use Rattle.txs_terms.specs.Term.{Offer, Term, stop, exits, prefix, step, guard, choice, par, enable, disable, interrupt, hide, call, bind, machine, hit, miss, put_term, offer_at, with_channels}
use Rattle.txs_terms.specs.Rules.{offered}
use Rattle.txs_laws.specs.Channels.{names_in, gates_in, hidden_in}
use Rattle.txs_laws.proofs.typing.Terms.{offered_put}

offered_with : (f : ℕ → ℕ) (os : List Offer) → offered (map (offer_at f) os) ≡ map f (offered os)
offered_with f [] = refl
offered_with f (o ∷ os) = ap (λ cs. f o.channel ∷ cs) (offered_with f os)

map-append : {A B : Type 0} (f : A → B) (xs ys : List A) → map f (xs ++ ys) ≡ map f xs ++ map f ys
map-append f [] ys = refl
map-append f (x ∷ xs) ys = ap (λ l. f x ∷ l) (map-append f xs ys)

-- what is put for slots names no channel
pub names_put : (f : Puts) (t : Term) → names_in (put_term f t) ≡ names_in t
names_put f stop = refl
names_put f (exits es) = refl
names_put f (prefix os gs t) = let p = offered_put f os in let q = names_put f t in cc
names_put f (step gs t) = names_put f t
names_put f (guard gs t) = names_put f t
names_put f (choice a b) = let p = names_put f a in let q = names_put f b in cc
names_put f (par gates a b) = let p = names_put f a in let q = names_put f b in cc
names_put f (enable a xs b) = let p = names_put f a in let q = names_put f b in cc
names_put f (disable a b) = let p = names_put f a in let q = names_put f b in cc
names_put f (interrupt a b) = let p = names_put f a in let q = names_put f b in cc
names_put f (hide hs t) = names_put f t
names_put f (call p cs es) = refl
names_put f (bind xs es t) = names_put f t
names_put f (machine k cs es q) = refl
names_put f hit = refl
names_put f miss = refl

-- it changes no gates
pub gates_put : (f : Puts) (t : Term) → gates_in (put_term f t) ≡ gates_in t
gates_put f stop = refl
gates_put f (exits es) = refl
gates_put f (prefix os gs t) = gates_put f t
gates_put f (step gs t) = gates_put f t
gates_put f (guard gs t) = gates_put f t
gates_put f (choice a b) = let p = gates_put f a in let q = gates_put f b in cc
gates_put f (par gates a b) = let p = gates_put f a in let q = gates_put f b in cc
gates_put f (enable a xs b) = let p = gates_put f a in let q = gates_put f b in cc
gates_put f (disable a b) = let p = gates_put f a in let q = gates_put f b in cc
gates_put f (interrupt a b) = let p = gates_put f a in let q = gates_put f b in cc
gates_put f (hide hs t) = gates_put f t
gates_put f (call p cs es) = refl
gates_put f (bind xs es t) = gates_put f t
gates_put f (machine k cs es q) = refl
gates_put f hit = refl
gates_put f miss = refl

-- it hides nothing
pub hidden_put : (f : Puts) (t : Term) → hidden_in (put_term f t) ≡ hidden_in t
hidden_put f stop = refl
hidden_put f (exits es) = refl
hidden_put f (prefix os gs t) = hidden_put f t
hidden_put f (step gs t) = hidden_put f t
hidden_put f (guard gs t) = hidden_put f t
hidden_put f (choice a b) = let p = hidden_put f a in let q = hidden_put f b in cc
hidden_put f (par gates a b) = let p = hidden_put f a in let q = hidden_put f b in cc
hidden_put f (enable a xs b) = let p = hidden_put f a in let q = hidden_put f b in cc
hidden_put f (disable a b) = let p = hidden_put f a in let q = hidden_put f b in cc
hidden_put f (interrupt a b) = let p = hidden_put f a in let q = hidden_put f b in cc
hidden_put f (hide hs t) = ap (λ l. hs ∷ l) (hidden_put f t)
hidden_put f (call p cs es) = refl
hidden_put f (bind xs es t) = hidden_put f t
hidden_put f (machine k cs es q) = refl
hidden_put f hit = refl
hidden_put f miss = refl

-- each channel is replaced where it is named
pub names_with : (f : ℕ → ℕ) (t : Term) → names_in (with_channels f t) ≡ map f (names_in t)
names_with f stop = refl
names_with f (exits es) = refl
names_with f (prefix os gs t) = let p = offered_with f os in let q = names_with f t in let r = map-append f (offered os) (names_in t) in cc
names_with f (step gs t) = names_with f t
names_with f (guard gs t) = names_with f t
names_with f (choice a b) = let p = names_with f a in let q = names_with f b in let r = map-append f (names_in a) (names_in b) in cc
names_with f (par gates a b) = let p = names_with f a in let q = names_with f b in let r = map-append f (names_in a) (names_in b) in cc
names_with f (enable a xs b) = let p = names_with f a in let q = names_with f b in let r = map-append f (names_in a) (names_in b) in cc
names_with f (disable a b) = let p = names_with f a in let q = names_with f b in let r = map-append f (names_in a) (names_in b) in cc
names_with f (interrupt a b) = let p = names_with f a in let q = names_with f b in let r = map-append f (names_in a) (names_in b) in cc
names_with f (hide hs t) = names_with f t
names_with f (call p cs es) = refl
names_with f (bind xs es t) = names_with f t
names_with f (machine k cs es q) = refl
names_with f hit = refl
names_with f miss = refl

abbrev replaced : (ℕ → ℕ) → Channels → Channels
replaced f gs = in_order (map f gs)

-- and so are gates, which stay in order
pub gates_with : (f : ℕ → ℕ) (t : Term) → gates_in (with_channels f t) ≡ map (λ gs. in_order (map f gs)) (gates_in t)
gates_with f stop = refl
gates_with f (exits es) = refl
gates_with f (prefix os gs t) = gates_with f t
gates_with f (step gs t) = gates_with f t
gates_with f (guard gs t) = gates_with f t
gates_with f (choice a b) = let p = gates_with f a in let q = gates_with f b in let r = map-append (replaced f) (gates_in a) (gates_in b) in cc
gates_with f (par gates a b) = let p = gates_with f a in let q = gates_with f b in let r = map-append (replaced f) (gates_in a) (gates_in b) in cc
gates_with f (enable a xs b) = let p = gates_with f a in let q = gates_with f b in let r = map-append (replaced f) (gates_in a) (gates_in b) in cc
gates_with f (disable a b) = let p = gates_with f a in let q = gates_with f b in let r = map-append (replaced f) (gates_in a) (gates_in b) in cc
gates_with f (interrupt a b) = let p = gates_with f a in let q = gates_with f b in let r = map-append (replaced f) (gates_in a) (gates_in b) in cc
gates_with f (hide hs t) = gates_with f t
gates_with f (call p cs es) = refl
gates_with f (bind xs es t) = gates_with f t
gates_with f (machine k cs es q) = refl
gates_with f hit = refl
gates_with f miss = refl

-- what HIDEs bind stays
pub hidden_with : (f : ℕ → ℕ) (t : Term) → hidden_in (with_channels f t) ≡ hidden_in t
hidden_with f stop = refl
hidden_with f (exits es) = refl
hidden_with f (prefix os gs t) = hidden_with f t
hidden_with f (step gs t) = hidden_with f t
hidden_with f (guard gs t) = hidden_with f t
hidden_with f (choice a b) = let p = hidden_with f a in let q = hidden_with f b in cc
hidden_with f (par gates a b) = let p = hidden_with f a in let q = hidden_with f b in cc
hidden_with f (enable a xs b) = let p = hidden_with f a in let q = hidden_with f b in cc
hidden_with f (disable a b) = let p = hidden_with f a in let q = hidden_with f b in cc
hidden_with f (interrupt a b) = let p = hidden_with f a in let q = hidden_with f b in cc
hidden_with f (hide hs t) = ap (λ l. hs ∷ l) (hidden_with f t)
hidden_with f (call p cs es) = refl
hidden_with f (bind xs es t) = hidden_with f t
hidden_with f (machine k cs es q) = refl
hidden_with f hit = refl
hidden_with f miss = refl
