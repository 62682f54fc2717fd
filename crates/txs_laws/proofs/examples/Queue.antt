-- The premise of the laws can be met: a queue of Ints, whose model is well typed.
--
--   TYPEDEF L ::= Nil | Cell { hd :: Int; tl :: L } ENDDEF
--   FUNCDEF add (x :: Int; s :: L) :: L ::= IF isNil(s) THEN Cell(x, Nil) ELSE Cell(hd(s), add(x, tl(s))) FI ENDDEF
--   PROCDEF queue [Inp :: Int; Outp :: Int] (b :: L) ::=
--        Inp ? x >-> queue [Inp, Outp] (add(x, b))
--     ## Outp ! hd(b) [[ not(isNil(b)) ]] >-> queue [Inp, Outp] (tl(b))
--   ENDDEF
--   the behaviour queue [Inp, Outp] (Nil), where Inp is 0 and Outp is 1
use Rattle.std.proofs.Common.{refl, arith, subst}
use Rattle.std.specs.Prelude.{◌≡◌, ◌<◌, ℕ, zero, suc, List, [], ◌∷◌, Option, Some, None, slice_get, codes}
use Rattle.txs_values.specs.Value.{Ty, Value, Field, Constructor, Table, Place, place_of, field_types, integer, named, cons, no_value}
use Rattle.txs_values.specs.Default.{default_if}
use Rattle.txs_terms.specs.Expr.{Expr, Exprs, negation, is_made_by, select, val, slot, one, choose, apply, build, none, more}
use Rattle.txs_terms.specs.Action.{Scope}
use Rattle.txs_terms.specs.Term.{take, Term, give, prefix, choice, call}
use Rattle.txs_terms.specs.Rules.{Model}
use Rattle.txs_terms.specs.Typed.{Signature, ProcessSignature, Signatures, AreTypes, Of, IsTable, ExitsWith, OfTerm, IsTypedModel, WellTyped, negation_of, made_by_of, select_of, val_of, slot_of, one_of, choose_of, apply_of, build_of, none_of, more_of'}
use Rattle.txs_terms.proofs.typing.Lists.{same_some}

abbrev field : List ℕ → Ty → Field
field name t = record { name = name; ty = t }

abbrev nil : Constructor
nil = record { name = codes "Nil"; fields = [] }

abbrev cell : Constructor
cell = record { name = codes "Cell"; fields = field (codes "hd") integer ∷ field (codes "tl") (named 0) ∷ [] }

abbrev table : Table
table = record { name = codes "L"; constructors = nil ∷ cell ∷ [] } ∷ []

abbrev empty : Expr
empty = val (cons 0 no_value)

abbrev args : Expr → Expr → Exprs
args a b = more a (more b none)

abbrev is_nil : Expr → Expr
is_nil e = one (is_made_by 0) e

abbrev hd : Expr → Expr
hd e = one (select 1 0) e

abbrev tl : Expr → Expr
tl e = one (select 1 1) e

-- x is slot 0 and s is slot 1
abbrev add : Expr
add = choose (is_nil (slot 1)) (build 1 (args (slot 0) empty)) (build 1 (args (hd (slot 1)) (apply 0 (args (slot 0) (tl (slot 1))))))

abbrev calls : Expr → Term
calls e = call 0 (0 ∷ 1 ∷ []) (e ∷ [])

-- b is slot 0, and what an offer binds is slot 1
abbrev body : Term
body =
    choice
    (prefix (record { channel = 0; positions = take (codes "x") ∷ [] } ∷ []) [] (calls (apply 0 (args (slot 1) (slot 0)))))
    (prefix (record { channel = 1; positions = give (hd (slot 0)) ∷ [] } ∷ []) (one negation (is_nil (slot 0)) ∷ []) (calls (tl (slot 0))))

abbrev queue : Model
queue = record { defs = record { table = table; functions = record { takes = integer ∷ named 0 ∷ []; body = add } ∷ []; constants = [] }; bodies = body ∷ []; automata = [] }

abbrev scope : Scope
scope = (integer ∷ []) ∷ (integer ∷ []) ∷ []

abbrev signatures : Signatures
signatures = record {
  functions = record { takes = integer ∷ named 0 ∷ []; gives = named 0 } ∷ [];
  constants = [];
  processes = record { formals = scope; takes = named 0 ∷ []; exit_types = None } ∷ [];
  automata = [];
}

nil_place : place_of table 0 ≡ Some (record { ty = 0; constructor = nil })
nil_place = refl

cell_place : place_of table 1 ≡ Some (record { ty = 0; constructor = cell })
cell_place = refl

none_some : {A : Type 0} {p : A} → ◌≡◌ {A = Option A} None (Some p) → ⊥
none_some e = cc

Known : Place → Type 0
Known p = AreTypes table (field_types p.constructor.fields)

of_table : IsTable table
unfolding Known
of_table = record { defaults = defaults; known = known }
  where
    defaults : (k : ℕ) → k < 1 → (v : Value) × (default_if table (named k) ≡ Some v)
    defaults zero l = (cons 0 no_value, refl)
    defaults (suc k) l = absurd (omega arith)

    known : (c : ℕ) (p : Place) → place_of table c ≡ Some p → Known p
    known zero p e = subst Known (same_some e) tt
    known (suc zero) p e = subst Known (same_some e) (tt, (omega arith, tt))
    known (suc (suc c)) p e = absurd (none_some e)

nil_of : {slots : List Ty} → Of table signatures slots [] empty (named 0)
nil_of = val_of refl

add_of : Of table signatures (integer ∷ named 0 ∷ []) [] add (named 0)
add_of =
    choose_of (one_of (made_by_of 0 0 nil nil_place) (slot_of refl))
    (build_of cell_place (more_of' (slot_of refl) (more_of' nil_of none_of)))
    (build_of cell_place
    (more_of' (one_of (select_of 1 0 0 integer cell cell_place refl) (slot_of refl))
    (more_of' (apply_of refl (more_of' (slot_of refl) (more_of' (one_of (select_of 1 1 0 (named 0) cell cell_place refl) (slot_of refl)) none_of))) none_of)))

of_calls : (slots : List Ty) (e : Expr) (exit_types : List Ty) → Of table signatures slots [] e (named 0) → OfTerm table signatures scope slots exit_types (calls e)
of_calls slots e exit_types o = (
  record { formals = scope; takes = named 0 ∷ []; exit_types = None },
  refl,
  (omega arith, refl, (omega arith, refl, tt)),
  (o, tt),
  tt,
)

of_body : (exit_types : List Ty) → OfTerm table signatures scope (named 0 ∷ []) exit_types body
of_body exit_types = (
  ((omega arith, tt, tt), tt, of_calls _ _ exit_types (apply_of refl (more_of' (slot_of refl) (more_of' (slot_of refl) none_of))), refl),
  (
    (omega arith, (one_of (select_of 1 0 0 integer cell cell_place refl) (slot_of refl), tt), tt),
    (one_of negation_of (one_of (made_by_of 0 0 nil nil_place) (slot_of refl)), tt),
    of_calls _ _ exit_types (one_of (select_of 1 1 0 (named 0) cell cell_place refl) (slot_of refl)),
    refl,
  ),
)

AddHas : Signature → Type 0
AddHas s = (e : Expr) × (slice_get queue.defs.functions 0 ≡ Some (record { takes = s.takes; body = e })) × Of table signatures s.takes [] e s.gives

BodyHas : ProcessSignature → Type 0
BodyHas s = (b : Term) × (slice_get queue.bodies 0 ≡ Some b) × ((exit_types : List Ty) → ExitsWith s.exit_types exit_types → OfTerm table signatures s.formals s.takes exit_types b)

of_functions : (f : ℕ) (s : Signature) → slice_get signatures.functions f ≡ Some s
    → (e : Expr) × (slice_get queue.defs.functions f ≡ Some (record { takes = s.takes; body = e })) × Of table signatures s.takes [] e s.gives
unfolding AddHas
of_functions zero s e = subst AddHas (same_some e) (add, refl, add_of)
of_functions (suc f) s e = absurd (none_some e)

of_bodies : (p : ℕ) (s : ProcessSignature) → slice_get signatures.processes p ≡ Some s
    → (b : Term) × (slice_get queue.bodies p ≡ Some b) × ((exit_types : List Ty) → ExitsWith s.exit_types exit_types → OfTerm table signatures s.formals s.takes exit_types b)
unfolding BodyHas
of_bodies zero s e = subst BodyHas (same_some e) (body, refl, λ exit_types x. of_body exit_types)
of_bodies (suc p) s e = absurd (none_some e)

model_typed : IsTypedModel queue signatures
model_typed = record {
  defs = record { table = of_table; functions = of_functions; constants = λ k t e. absurd (none_some e) };
  bodies = of_bodies;
  automata = λ k s e. absurd (none_some e);
  transitions = λ k s q formals m e. absurd (none_some e);
}

pub queue_typed : WellTyped queue scope (calls empty)
queue_typed = record { signatures = signatures; exit_types = []; definitions = model_typed; channels = ((tt, tt), ((tt, tt), tt)); term = of_calls [] empty [] nil_of }
