-- What the rows' files and expressions meet.
use Rattle.std.proofs.Common.{◌≡◌, ℕ, zero, suc, true, List, [], ◌∷◌, Option, Some, None, ap, subst}
use Rattle.std.specs.List.{list_all}
use Rattle.std.proofs.lemmas.Bool.{and_parts}
use Rattle.txs_values.specs.Value.{Ty, Place, place_in, place_from, field_types}
use Rattle.txs_values.specs.Spelled.{IsName}
use Rattle.txs_values.specs.Spelling.{is_letter, is_name_byte}
use Rattle.txs_terms.specs.Expr.{Expr}
use Rattle.txs_terms.specs.Typed.{Of}
use Rattle.txs_terms.specs.Defs.{Definitions, AreDefined, signatures_of}
use Rattle.txs_syntax.specs.declared.ast.Name.{Name}
use Rattle.txs_syntax.specs.declared.file.File.{File}
use Rattle.txs_syntax.specs.declared.file.Def.{Def}
use Rattle.txs_syntax.specs.declared.file.Def.TheVariants as def
use Rattle.txs_syntax.specs.declared.file.DeclList.{DeclList}
use Rattle.txs_syntax.specs.declared.file.ConDef.{ConDef}
use Rattle.txs_types.specs.Files.{table_in, constructors_of, type_names, variables_of, names_of}
use Rattle.txs_types.specs.Files.{FileHasNames}
use Rattle.txs_eval.specs.Answer.{IsTyped}
use Rattle.txs_cases.specs.Called.{is_name, is_called_by_name, has_names}

none_some : {A : Type 0} {p : A} → ◌≡◌ {A = Option A} None (Some p) → ⊥
none_some e = cc

some_same : {A : Type 0} {p q : A} → Some p ≡ Some q → p ≡ q
some_same e = cc

-- ---- names of constructors

letter_then : (b : ℕ) (bs : List ℕ) → is_letter b ≡ true → list_all is_name_byte bs ≡ true → IsName (b ∷ bs)
letter_then b [] l h = (l, tt)
letter_then b (c ∷ cs) l h =
    let p = and_parts (is_name_byte c) (list_all is_name_byte cs) h in (l, (p.0, (letter_then b cs l p.1).1))

named : (bs : List ℕ) → is_name bs ≡ true → IsName bs
named [] h = cc
named (b ∷ bs) h = let p = and_parts (is_letter b) (list_all is_name_byte bs) h in letter_then b bs p.0 p.1

abbrev IsCalled : Place → Type 0
IsCalled p = IsName p.constructor.name

-- the constructors of one type, before those of the others
one_type : (types : List Name) (k : ℕ) (cs : List ConDef) (c : ℕ) (go : ℕ → Option Place) → list_all is_called_by_name cs ≡ true
    → ((d : ℕ) (q : Place) → go d ≡ Some q → IsCalled q) → (p : Place) → place_in k (constructors_of types cs) c go ≡ Some p → IsCalled p
one_type types k [] c go h others p e = others c p e
one_type types k (x ∷ xs) zero go h others p e =
    subst IsCalled (some_same e) (named x.name.text (and_parts (is_called_by_name x) (list_all is_called_by_name xs) h).0)
one_type types k (x ∷ xs) (suc c) go h others p e =
    one_type types k xs c go (and_parts (is_called_by_name x) (list_all is_called_by_name xs) h).1 others p e

all_types : (types : List Name) (k : ℕ) (ds : List Def) (c : ℕ) → list_all has_names ds ≡ true → (p : Place)
    → place_from k (table_in types ds) c ≡ Some p → IsCalled p
all_types types k [] c h p e = absurd (none_some e)
all_types types k (def.TypeDef x cs ∷ ds) c h p e =
    let both = and_parts (list_all is_called_by_name cs) (list_all has_names ds) h in
    one_type types k cs c (place_from (suc k) (table_in types ds)) both.0 (λ d q f. all_types types (suc k) ds d both.1 q f) p e
all_types types k (def.FuncDef x ps r b ∷ ds) c h p e = all_types types k ds c h p e
all_types types k (def.ConstDef x t b ∷ ds) c h p e = all_types types k ds c h p e

pub file_has_names : (file : File) → list_all has_names file.defs ≡ true → FileHasNames file
file_has_names file h c p e = all_types (type_names file.defs) 0 file.defs c h p e

-- ---- evaluation

-- what is typed without variables may be evaluated
pub may_be_evaluated : (d : Definitions) (list : DeclList) (e : Expr) (t : Ty) → AreDefined d → list.decls ≡ []
    → Of d.table (signatures_of d) (field_types (variables_of (names_of d.table) list)) [] e t → IsTyped d [] e t
may_be_evaluated d list e t h none typed = record {
  signatures = signatures_of d;
  definitions = h.typed;
  types = [];
  have = tt;
  typed = subst (λ (l : DeclList). Of d.table (signatures_of d) (field_types (variables_of (names_of d.table) l)) [] e t) (by list none) typed;
}
  where
    by : (l : DeclList) → l.decls ≡ [] → l ≡ record { decls = [] }
    by l h = ap (λ ds. record { decls = ds }) h
