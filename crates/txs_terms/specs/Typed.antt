-- Which expressions and terms are well typed: what holds of all that comes of an accepted file.
use Rattle.std.specs.Prelude.{◌≡◌, ◌⊎◌, ℕ, ◌<◌, false, List, [], ◌∷◌, ◌++◌, length, Option, Some, None, slice_get}
use Rattle.txs_values.specs.Value.{Ty, integer, truth, string, named, Value, Table, Constructor, Place, place_of, field_types, HasType}
use Rattle.txs_values.specs.Default.{default_if}
use Rattle.txs_terms.specs.Expr.{Unary, negate, negation, to_text, from_text, len, is_made_by, select, Binary, plus, minus, times, divide, remainder, concat, differ, less_than, at_most, more_than, at_least, char_at, Expr, val, slot, local, constant, one, two, equal, both, either, choose, apply, build, let_in, Exprs, none, more}
use Rattle.txs_terms.specs.Eval.{Defs}
use Rattle.txs_terms.specs.Action.{Channels, Ascending, is_empty, Scope, types_on, types_over, from}
use Rattle.txs_terms.specs.Term.{Position, give, take, Offer, Term, stop, exits, prefix, step, guard, choice, par, enable, disable, interrupt, hide, call, bind, machine, hit, miss, Move, Automaton, move_term}
use Rattle.txs_terms.specs.Rules.{Model, HasMove, offered}

-- the types of the parameters of a function, and of its result
pub record Signature : Type 0 where
  pub takes : List Ty
  pub gives : Ty

-- the types of the formal channels and of the parameters of a process, and of its exit's values, if it may exit
pub record ProcessSignature : Type 0 where
  pub formals : Scope
  pub takes : List Ty
  pub exit_types : Option (List Ty)

-- the types of the formal channels and of the variables of an automaton, and how many states it has
pub record AutomatonSignature : Type 0 where
  pub formals : Scope
  pub holds : List Ty
  pub states : ℕ

pub record Signatures : Type 0 where
  pub functions : List Signature
  pub constants : List Ty
  pub processes : List ProcessSignature
  pub automata : List AutomatonSignature

module _ (table : Table) where
  -- Int, Bool, String, or a type of the table
  abbrev pub IsType : Ty → Type 0
  IsType integer = Unit {0}
  IsType truth = Unit {0}
  IsType string = Unit {0}
  IsType (named k) = k < length table

  abbrev pub AreTypes : List Ty → Type 0
  AreTypes [] = Unit {0}
  AreTypes (t ∷ ts) = IsType t × AreTypes ts

  -- the types on each channel are types of the table
  abbrev pub AreScope : Scope → Type 0
  AreScope [] = Unit {0}
  AreScope (ts ∷ scope) = AreTypes ts × AreScope scope

  -- an operator from a type to a type
  pub data UnaryOf : Unary → Ty → Ty → Type 0 where
    negate_of : UnaryOf negate integer integer
    negation_of : UnaryOf negation truth truth
    to_text_of : (t : Ty) → UnaryOf to_text t string
    from_text_of : (t : Ty) → UnaryOf (from_text t) string t
    len_of : UnaryOf len string integer
    made_by_of : (c k : ℕ) (x : Constructor) → place_of table c ≡ Some (record { ty = k; constructor = x })
        → UnaryOf (is_made_by c) (named k) truth
    select_of : (c j k : ℕ) (t : Ty) (x : Constructor) → place_of table c ≡ Some (record { ty = k; constructor = x })
        → slice_get (field_types x.fields) j ≡ Some t → UnaryOf (select c j) (named k) t

pub data BinaryOf : Binary → Ty → Ty → Ty → Type 0 where
  plus_of : BinaryOf plus integer integer integer
  minus_of : BinaryOf minus integer integer integer
  times_of : BinaryOf times integer integer integer
  divide_of : BinaryOf divide integer integer integer
  remainder_of : BinaryOf remainder integer integer integer
  concat_of : BinaryOf concat string string string
  differ_of : (t : Ty) → BinaryOf differ t t truth
  less_of : BinaryOf less_than integer integer truth
  at_most_of : BinaryOf at_most integer integer truth
  more_of : BinaryOf more_than integer integer truth
  at_least_of : BinaryOf at_least integer integer truth
  char_of : BinaryOf char_at string integer string

-- each type of the table has a default, and each field is of a type of the table
pub record IsTable (table : Table) : Type 0 where
  pub defaults : (k : ℕ) → k < length table → (v : Value) × (default_if table (named k) ≡ Some v)
  pub known : (c : ℕ) (p : Place) → place_of table c ≡ Some p → AreTypes table (field_types p.constructor.fields)

-- actual channels in scope that have the formal ones' types
abbrev pub FitChannels : Scope → Channels → Scope → Type 0
FitChannels scope [] [] = Unit {0}
FitChannels scope [] (ts ∷ formals) = ⊥
FitChannels scope (c ∷ cs) [] = ⊥
FitChannels scope (c ∷ cs) (ts ∷ formals) = (c < length scope) × (types_on scope c ≡ ts) × FitChannels scope cs formals

abbrev pub AllBelow : ℕ → Channels → Type 0
AllBelow depth [] = Unit {0}
AllBelow depth (c ∷ cs) = (c < depth) × AllBelow depth cs

-- what may exit with values of these types does so with no others
abbrev pub ExitsWith : Option (List Ty) → List Ty → Type 0
ExitsWith None exit_types = Unit {0}
ExitsWith (Some ts) exit_types = ts ≡ exit_types

module _ (table : Table) (signatures : Signatures) where
  -- the expression has this type, if slots and locals have theirs
  mutual
    pub data Of (slots : List Ty) : List Ty → Expr → Ty → Type 0 where
      val_of : {locals : List Ty} {v : Value} {t : Ty} → HasType table v t → Of slots locals (val v) t
      slot_of : {locals : List Ty} {i : ℕ} {t : Ty} → slice_get slots i ≡ Some t → Of slots locals (slot i) t
      local_of : {locals : List Ty} {i : ℕ} {t : Ty} → slice_get locals i ≡ Some t → Of slots locals (local i) t
      constant_of : {locals : List Ty} {k : ℕ} {t : Ty} → slice_get signatures.constants k ≡ Some t → Of slots locals (constant k) t
      one_of : {locals : List Ty} {o : Unary} {a : Expr} {s t : Ty} → UnaryOf table o s t → Of slots locals a s → Of slots locals (one o a) t
      two_of : {locals : List Ty} {o : Binary} {a b : Expr} {r s t : Ty} → BinaryOf o r s t
          → Of slots locals a r → Of slots locals b s → Of slots locals (two o a b) t
      equal_of : {locals : List Ty} {a b : Expr} {s : Ty} → Of slots locals a s → Of slots locals b s → Of slots locals (equal a b) truth
      both_of : {locals : List Ty} {a b : Expr} → Of slots locals a truth → Of slots locals b truth → Of slots locals (both a b) truth
      either_of : {locals : List Ty} {a b : Expr} → Of slots locals a truth → Of slots locals b truth → Of slots locals (either a b) truth
      choose_of : {locals : List Ty} {c a b : Expr} {t : Ty} → Of slots locals c truth
          → Of slots locals a t → Of slots locals b t → Of slots locals (choose c a b) t
      apply_of : {locals : List Ty} {f : ℕ} {es : Exprs} {s : Signature} → slice_get signatures.functions f ≡ Some s
          → Ofs slots locals es s.takes → Of slots locals (apply f es) s.gives
      build_of : {locals : List Ty} {c k : ℕ} {es : Exprs} {x : Constructor} → place_of table c ≡ Some (record { ty = k; constructor = x })
          → Ofs slots locals es (field_types x.fields) → Of slots locals (build c es) (named k)
      let_of : {locals : List Ty} {x : List ℕ} {a b : Expr} {s t : Ty} → Of slots locals a s
          → Of slots (locals ++ s ∷ []) b t → Of slots locals (let_in x a b) t

    pub data Ofs (slots : List Ty) : List Ty → Exprs → List Ty → Type 0 where
      none_of : {locals : List Ty} → Ofs slots locals none []
      more_of' : {locals : List Ty} {e : Expr} {es : Exprs} {t : Ty} {ts : List Ty} → Of slots locals e t
          → Ofs slots locals es ts → Ofs slots locals (more e es) (t ∷ ts)

  -- ---- terms

  -- one expression of each type, in order
  abbrev pub OfEach : List Ty → List Expr → List Ty → Type 0
  OfEach slots [] [] = Unit {0}
  OfEach slots [] (t ∷ ts) = ⊥
  OfEach slots (e ∷ es) [] = ⊥
  OfEach slots (e ∷ es) (t ∷ ts) = Of slots [] e t × OfEach slots es ts

  -- each conjunct is a truth value
  abbrev pub AreGuards : List Ty → List Expr → Type 0
  AreGuards slots [] = Unit {0}
  AreGuards slots (g ∷ gs) = Of slots [] g truth × AreGuards slots gs

  -- one position for each type; an expression at `! e` is of it
  abbrev pub FitPositions : List Ty → List Position → List Ty → Type 0
  FitPositions slots [] [] = Unit {0}
  FitPositions slots [] (t ∷ ts) = ⊥
  FitPositions slots (p ∷ ps) [] = ⊥
  FitPositions slots (give e ∷ ps) (t ∷ ts) = Of slots [] e t × FitPositions slots ps ts
  FitPositions slots (take x ∷ ps) (t ∷ ts) = FitPositions slots ps ts

  -- each offer is on a channel in scope and fits its types
  abbrev pub FitOffers : Scope → List Ty → List Offer → Type 0
  FitOffers scope slots [] = Unit {0}
  FitOffers scope slots (o ∷ os) =
      (o.channel < length scope) × FitPositions slots o.positions (types_on scope o.channel) × FitOffers scope slots os

  -- each expression of a LET, which sees the values of those before it
  abbrev pub OfBindings : List Ty → List Expr → List Ty → Type 0
  OfBindings slots [] [] = Unit {0}
  OfBindings slots [] (t ∷ ts) = ⊥
  OfBindings slots (e ∷ es) [] = ⊥
  OfBindings slots (e ∷ es) (t ∷ ts) = Of slots [] e t × OfBindings (slots ++ t ∷ []) es ts

  -- The term is well typed if its channels and its slots have these types, and it exits with values of no other types than these.
  -- Both sides of a parallel exit so, or one of them never exits, and then the whole does not.
  abbrev pub OfTerm : Scope → List Ty → List Ty → Term → Type 0
  OfTerm scope slots exit_types stop = Unit {0}
  OfTerm scope slots exit_types (exits es) = OfEach slots es exit_types
  OfTerm scope slots exit_types (prefix os gs t) =
      FitOffers scope slots os
      × AreGuards (slots ++ types_over scope (offered os)) gs
      × OfTerm scope (slots ++ types_over scope (offered os)) exit_types t
      × (is_empty (offered os) ≡ false)
  OfTerm scope slots exit_types (step gs t) = AreGuards slots gs × OfTerm scope slots exit_types t
  OfTerm scope slots exit_types (guard gs t) = AreGuards slots gs × OfTerm scope slots exit_types t
  OfTerm scope slots exit_types (choice a b) = OfTerm scope slots exit_types a × OfTerm scope slots exit_types b
  OfTerm scope slots exit_types (par gates a b) =
      AllBelow (length scope) gates × Ascending gates
      × (OfTerm scope slots exit_types a × OfTerm scope slots exit_types b
      ⊎ ((ts : List Ty) × OfTerm scope slots ts a) × ((ts : List Ty) → OfTerm scope slots ts b)
      ⊎ ((ts : List Ty) → OfTerm scope slots ts a) × ((ts : List Ty) × OfTerm scope slots ts b))
  OfTerm scope slots exit_types (enable a xs b) =
      (ts : List Ty) × (length xs ≡ length ts) × OfTerm scope slots ts a × OfTerm scope (slots ++ ts) exit_types b
  OfTerm scope slots exit_types (disable a b) = OfTerm scope slots exit_types a × OfTerm scope slots exit_types b
  OfTerm scope slots exit_types (interrupt a b) = OfTerm scope slots exit_types a × OfTerm scope slots [] b
  OfTerm scope slots exit_types (hide hs t) = AreScope table hs × OfTerm (scope ++ hs) slots exit_types t
  OfTerm scope slots exit_types (call p cs es) =
      (s : ProcessSignature) × (slice_get signatures.processes p ≡ Some s) × FitChannels scope cs s.formals
      × OfEach slots es s.takes × ExitsWith s.exit_types exit_types
  OfTerm scope slots exit_types (bind xs es t) =
      (ts : List Ty) × (length xs ≡ length ts) × OfBindings slots es ts × OfTerm scope (slots ++ ts) exit_types t
  OfTerm scope slots exit_types (machine k cs es q) =
      (s : AutomatonSignature) × (slice_get signatures.automata k ≡ Some s) × FitChannels scope cs s.formals
      × OfEach slots es s.holds × (q < s.states)
  OfTerm scope slots exit_types hit = Unit {0}
  OfTerm scope slots exit_types miss = Unit {0}

-- ---- definitions and models

-- functions take what their signatures say, and their bodies and those of constants have their types
pub record AreTyped (defs : Defs) (signatures : Signatures) : Type 0 where
  pub table : IsTable defs.table
  pub functions : (f : ℕ) (s : Signature) → slice_get signatures.functions f ≡ Some s
      → (e : Expr) × (slice_get defs.functions f ≡ Some (record { takes = s.takes; body = e })) × Of defs.table signatures s.takes [] e s.gives
  pub constants : (k : ℕ) (t : Ty) → slice_get signatures.constants k ≡ Some t
      → (e : Expr) × (slice_get defs.constants k ≡ Some e) × Of defs.table signatures [] [] e t

-- the definitions have their types, and the bodies of processes and the transitions of automata are well typed by their signatures
pub record IsTypedModel (model : Model) (signatures : Signatures) : Type 0 where
  pub defs : AreTyped model.defs signatures
  pub bodies : (p : ℕ) (s : ProcessSignature) → slice_get signatures.processes p ≡ Some s
      → (body : Term) × (slice_get model.bodies p ≡ Some body)
      × ((exit_types : List Ty) → ExitsWith s.exit_types exit_types → OfTerm model.defs.table signatures s.formals s.takes exit_types body)
  pub automata : (k : ℕ) (s : AutomatonSignature) → slice_get signatures.automata k ≡ Some s
      → (a : Automaton) × (slice_get model.automata k ≡ Some a) × (a.formals ≡ from 0 (length s.formals)) × (length a.states ≡ s.states)
  pub transitions : (k : ℕ) (s : AutomatonSignature) (q : ℕ) (formals : Channels) (m : Move) → slice_get signatures.automata k ≡ Some s
      → HasMove model k q formals m → (exit_types : List Ty) → OfTerm model.defs.table signatures s.formals s.holds exit_types (move_term k formals m)

-- The model and the term are well typed, the term without a free slot. All that comes of an accepted file is so.
pub record WellTyped (model : Model) (scope : Scope) (t : Term) : Type 0 where
  pub signatures : Signatures
  pub exit_types : List Ty
  pub definitions : IsTypedModel model signatures
  pub channels : AreScope model.defs.table scope
  pub term : OfTerm model.defs.table signatures scope [] exit_types t
