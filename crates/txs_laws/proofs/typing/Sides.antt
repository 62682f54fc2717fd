-- The two sides of a parallel: both exit with the types of the whole, or one of them never exits.
use Rattle.std.proofs.Common.{◌⊎◌, inl, inr, List}
use Rattle.txs_values.specs.Value.{Ty}

abbrev pub Sides : (List Ty → Type 0) → (List Ty → Type 0) → List Ty → Type 0
Sides A B e = A e × B e ⊎ ((ts : List Ty) × A ts) × ((ts : List Ty) → B ts) ⊎ ((ts : List Ty) → A ts) × ((ts : List Ty) × B ts)

pub sides_map : (A B C D : List Ty → Type 0) → ((ts : List Ty) → A ts → C ts) → ((ts : List Ty) → B ts → D ts) → (e : List Ty) → Sides A B e → Sides C D e
sides_map A B C D f g e (inl p) = inl (f e p.0, g e p.1)
sides_map A B C D f g e (inr (inl p)) = inr (inl (((p.0).0, f (p.0).0 (p.0).1), λ ts. g ts (p.1 ts)))
sides_map A B C D f g e (inr (inr p)) = inr (inr ((λ ts. f ts (p.0 ts)), ((p.1).0, g (p.1).0 (p.1).1)))

pub some_left : (A B : List Ty → Type 0) (e : List Ty) → Sides A B e → (ts : List Ty) × A ts
some_left A B e (inl p) = (e, p.0)
some_left A B e (inr (inl p)) = p.0
some_left A B e (inr (inr p)) = (e, p.0 e)

pub some_right : (A B : List Ty → Type 0) (e : List Ty) → Sides A B e → (ts : List Ty) × B ts
some_right A B e (inl p) = (e, p.1)
some_right A B e (inr (inl p)) = (e, p.1 e)
some_right A B e (inr (inr p)) = p.1

-- one side exits with the types of the whole, or would
pub some_whole : (A B : List Ty → Type 0) (e : List Ty) → Sides A B e → A e ⊎ B e
some_whole A B e (inl p) = inl p.0
some_whole A B e (inr (inl p)) = inr (p.1 e)
some_whole A B e (inr (inr p)) = inl (p.0 e)
