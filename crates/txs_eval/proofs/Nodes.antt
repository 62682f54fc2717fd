-- What a node of each form is, for the forms of which the check does not find it.
use Rattle.std.proofs.Common.{◌≡◌, ⊎_elim, ℕ, ◌<◌, ◌≤◌, List, [], ◌∷◌, ◌++◌, map, length, get_or, cond, eqb, true, Some, None, refl, sym, ap, ◌∙◌, subst, slice_get}
use Rattle.std.proofs.lemmas.List.{map-append}
use Rattle.std.proofs.lemmas.Bool.Decides.{eqb_tells}
use Rattle.std.proofs.lemmas.Option.{slice_get-map, slice_get-get_or, slice_get_past}
use Rattle.std.specs.Option.{option_map}
use Rattle.txs_values.specs.declared.value.Value as rust
use Rattle.txs_values.specs.declared.value.Value.TheVariants as rust_variant
use Rattle.txs_values.specs.Value.{Value, Values, Table, listed, packed}
use Rattle.txs_values.specs.View.{value_of, values_of}
use Rattle.txs_terms.specs.declared.defs.FunctionDef as rust_function
use Rattle.txs_terms.specs.declared.defs.ConstantDef as rust_constant
use Rattle.txs_terms.specs.Expr.{Expr, select, constant, apply}
use Rattle.txs_terms.specs.Eval.{Body, Run, bad, Runs, gots, bads, broken, wrong, selector, selected, unary, then_runs, body_run}
use Rattle.txs_terms.specs.Under.{Environment, Under, each_under, operands, parameters, with_variable, node_bare}
use Rattle.txs_terms.specs.Defs.{Function, bodies}
use Rattle.txs_terms.specs.View.{expr_of, gathered, function_of, constant_of, definitions_of, Held}
use Rattle.txs_eval.specs.declared.fault.Stop.{Stop}
use Rattle.txs_eval.specs.declared.fault.Stop.TheVariants as stop
use Rattle.txs_eval.specs.Answer.{Stopped, around}

pub spread : (es : List Expr) → operands (gathered es) ≡ es
spread [] = refl
spread (e ∷ es) = ap (λ l. e ∷ l) (spread es)

spread_values : (vs : List Value) → listed (packed vs) ≡ vs
spread_values [] = refl
spread_values (v ∷ vs) = ap (λ l. v ∷ l) (spread_values vs)

-- where the evaluation of several stops
runs_stopped : (r : Runs) (go : List Value → ℕ → Run) (s : Stop) → Stopped bads s r → Stopped bad s (then_runs r go)
runs_stopped r go stop.Division p = rw p refl
runs_stopped r go stop.Range p = rw p refl
runs_stopped r go stop.Selector p = rw p refl
runs_stopped r go stop.Form p = rw p refl
runs_stopped r go stop.High p = rw p refl
runs_stopped r go stop.Long p = rw p refl
runs_stopped r go stop.Size p = rw p refl
runs_stopped r go stop.Wrong p = rw p refl
runs_stopped r go stop.NoMemory p = tt

-- ---- the bodies of definitions

abbrev body_of : Function → Body
body_of f = record { takes = f.takes; body = f.body }

module _ (h : Held) where
  function_there : (i : ℕ) (f : rust_function.FunctionDef) → i < length h.1 → f ≡ get_or h.1 i f
      → slice_get (bodies (definitions_of h)).functions i ≡ Some (body_of (function_of f))
  function_there i f l e =
      slice_get-map body_of (map function_of h.1) i
      ∙ (ap (option_map body_of) (slice_get-map function_of h.1 i)
      ∙ ap (λ o. option_map body_of (option_map function_of o)) (slice_get-get_or h.1 i f l ∙ ap Some (sym e)))

  no_function : (i : ℕ) → length h.1 ≤ i → slice_get (bodies (definitions_of h)).functions i ≡ None
  no_function i l =
      slice_get-map body_of (map function_of h.1) i
      ∙ (ap (option_map body_of) (slice_get-map function_of h.1 i) ∙ ap (λ o. option_map body_of (option_map function_of o)) (slice_get_past h.1 i l))

  constant_there : (i : ℕ) (k : rust_constant.ConstantDef) → i < length h.2 → k ≡ get_or h.2 i k
      → slice_get (bodies (definitions_of h)).constants i ≡ Some (expr_of k.body)
  constant_there i k l e =
      slice_get-map (λ g. g.body) (map constant_of h.2) i
      ∙ (ap (option_map (λ g. g.body)) (slice_get-map constant_of h.2 i)
      ∙ ap (λ o. option_map (λ g. g.body) (option_map constant_of o)) (slice_get-get_or h.2 i k l ∙ ap Some (sym e)))

  no_constant : (i : ℕ) → length h.2 ≤ i → slice_get (bodies (definitions_of h)).constants i ≡ None
  no_constant i l =
      slice_get-map (λ g. g.body) (map constant_of h.2) i
      ∙ (ap (option_map (λ g. g.body)) (slice_get-map constant_of h.2 i) ∙ ap (λ o. option_map (λ g. g.body) (option_map constant_of o)) (slice_get_past h.2 i l))

  -- ---- the nodes

  module _ (ev : Under) (env : Environment) (n : ℕ) where
    pub constant_is : (k : ℕ) (d : rust_constant.ConstantDef) → k < length h.2 → d ≡ get_or h.2 k d
        → node_bare (bodies (definitions_of h)) ev env (constant k) n ≡ ev (parameters []) (expr_of d.body) n
    constant_is k d l q = ap (λ o. body_run o (λ b. ev (parameters []) b n)) (constant_there k d l q)

    pub constant_missing : (k : ℕ) → length h.2 ≤ k → node_bare (bodies (definitions_of h)) ev env (constant k) n ≡ bad wrong
    constant_missing k l = ap (λ o. body_run o (λ b. ev (parameters []) b n)) (no_constant k l)

    module _ (f : ℕ) (es : List Expr) where
      abbrev pub the_call : Run
      the_call = node_bare (bodies (definitions_of h)) ev env (apply f (gathered es)) n

      abbrev entered : List Value → ℕ → Run
      entered vs m = body_run (slice_get (bodies (definitions_of h)).functions f) (λ b. ev (parameters vs) b.body m)

      call_is : the_call ≡ then_runs (each_under (ev env) es n) entered
      call_is = ap (λ l. then_runs (each_under (ev env) l n) entered) (spread es)

      pub called : (vs : List Value) (m : ℕ) (d : rust_function.FunctionDef) → each_under (ev env) es n ≡ gots vs m
          → f < length h.1 → d ≡ get_or h.1 f d → the_call ≡ ev (parameters vs) (expr_of d.body) m
      called vs m d g l q = call_is ∙ (ap (λ r. then_runs r entered) g ∙ ap (λ o. body_run o (λ b. ev (parameters vs) b.body m)) (function_there f d l q))

      pub call_missing : (vs : List Value) (m : ℕ) → each_under (ev env) es n ≡ gots vs m → length h.1 ≤ f → the_call ≡ bad wrong
      call_missing vs m g l = call_is ∙ (ap (λ r. then_runs r entered) g ∙ ap (λ o. body_run o (λ b. ev (parameters vs) b.body m)) (no_function f l))

      pub call_stopped : (s : Stop) → Stopped bads s (each_under (ev env) es n) → Stopped bad s the_call
      call_stopped s p = subst (Stopped bad s) (sym call_is) (runs_stopped _ entered s p)

-- one more local around
pub one_more_local : (slots locals : List rust.Value) (v : rust.Value) → with_variable (around slots locals) (value_of v) ≡ around slots (locals ++ v ∷ [])
one_more_local slots locals v = ap (λ l. record { slots = values_of slots; locals = l }) (sym (map-append value_of locals (v ∷ [])))

same_number : (n : ℕ) → eqb n n ≡ true
same_number n = ⊎_elim (λ p. p.0) (λ p. absurd (p.1 refl)) (eqb_tells n n)

-- the selector of this constructor
pub selecting : (e : rust.Value) (c i : ℕ) (kept : Values) (fields : List rust.Value) → e ≡ rust_variant.Cons c kept → packed (values_of fields) ≡ kept → (table : Table)
    → unary table (select c i) (value_of e) ≡ selected (slice_get (values_of fields) i)
selecting e c i kept fields is same table =
    ap (λ (x : rust.Value). unary table (select c i) (value_of x)) is
    ∙ (ap (λ t. cond t (selected (slice_get (listed kept) i)) (broken selector)) (same_number c)
    ∙ ap (λ l. selected (slice_get l i)) (ap listed (sym same) ∙ spread_values (values_of fields)))
