use Rattle.std.proofs.Common.{◌≡◌, ◌∙◌, [], ◌∷◌, ap, sym, subst, map, MatchResult}
use Rattle.txs_values.specs.View.{ty_of}
use Rattle.txs_terms.specs.Expr.{one, two, char_at, is_made_by, select, negation, to_text, from_text, len, apply}
use Rattle.txs_terms.specs.View.{expr_of, exprs_of, gathered}
use Rattle.txs_terms.specs.declared.expr.Expr.TheVariants as rust_call
use Rattle.txs_typing.specs.declared.meaning.Meaning as rust_meaning
use Rattle.txs_typing.specs.declared.fault.TypeFault.TheVariants as fault
use Rattle.txs_typing.specs.Names.{named_function, named_test, named_selector, named_not, named_to_string, named_from_string, named_len, named_at}
use Rattle.txs_typing.specs.Elaborates.{Makes, function_made, test_made, selector_made, not_made, to_string_made, from_string_made, len_made, at_made}
use Rattle.txs_typing.specs.inner.View.{meaning_of}
use Rattle.txs_typing.proofs.trees.Unique.{some_injective}
use Rattle.txs_terms.proofs.Views.{at_call}
use Rattle.txs_typing.specs.inner.Parts.{Applies}
use Rattle.txs_typing.proofs.judging.Calls.{of_one, of_two}
use Rattle.txs_typing.proofs.call.applied.Goals as goal

pub returns-in_ok-new-in-Function : goal.returns-in_ok-new-in-Function
returns-in_ok-new-in-Function c =
    let ts = map ty_of c.args.called.now.takes in
    let t = ty_of c.args.ty in
    let es = exprs_of c.args.args in
    let f = c.in-Function.number in
    let made = c.in_ok-new-in-Function.field-0 in
    let e : expr_of (rust_call.Call f made) ≡ apply f (gathered es) = ap (λ l. expr_of (rust_call.Call f l)) c.in_ok-new-in-Function.ensures ∙ at_call f c.args.args in
    subst (λ (m : rust_meaning.Meaning). Applies (meaning_of m ts) t es (expr_of (rust_call.Call f made))) (sym c.in-Function.is)
    (λ want h. subst (Makes want (named_function f ts (ty_of c.in-Function.gives)) es (expr_of (rust_call.Call f made))) (some_injective h)
    (subst (λ x. Makes want (named_function f ts (ty_of c.in-Function.gives)) es x (ty_of c.in-Function.gives)) (sym e) (function_made want f ts (ty_of c.in-Function.gives) es)))

pub returns-in-Test : goal.returns-in-Test
returns-in-Test c =
    let ts = map ty_of c.args.called.now.takes in
    let t = ty_of c.args.ty in
    let es = exprs_of c.args.args in
    subst (λ (m : rust_meaning.Meaning). MatchResult c.one.result (λ e. Applies (meaning_of m ts) t es (expr_of e)) (λ f. f ≡ fault.NoMemory)) (sym c.in-Test.is)
    (of_one (named_test c.in-Test.constructor c.in-Test.of) t es (is_made_by c.in-Test.constructor) c.one.result (λ a want h. subst (Makes want (named_test c.in-Test.constructor c.in-Test.of) (a ∷ []) (one (is_made_by c.in-Test.constructor) a)) (some_injective h) (test_made want c.in-Test.constructor c.in-Test.of a)) c.one.ensures)

pub returns-in-Selector : goal.returns-in-Selector
returns-in-Selector c =
    let ts = map ty_of c.args.called.now.takes in
    let t = ty_of c.args.ty in
    let es = exprs_of c.args.args in
    subst (λ (m : rust_meaning.Meaning). MatchResult c.one-in-Selector.result (λ e. Applies (meaning_of m ts) t es (expr_of e)) (λ f. f ≡ fault.NoMemory)) (sym c.in-Selector.is)
    (of_one (named_selector c.in-Selector.constructor c.in-Selector.field c.in-Selector.of (ty_of c.in-Selector.ty)) t es (select c.in-Selector.constructor c.in-Selector.field) c.one-in-Selector.result (λ a want h. subst (Makes want (named_selector c.in-Selector.constructor c.in-Selector.field c.in-Selector.of (ty_of c.in-Selector.ty)) (a ∷ []) (one (select c.in-Selector.constructor c.in-Selector.field) a)) (some_injective h) (selector_made want c.in-Selector.constructor c.in-Selector.field c.in-Selector.of (ty_of c.in-Selector.ty) a)) c.one-in-Selector.ensures)

pub returns-in-Not : goal.returns-in-Not
returns-in-Not c =
    let ts = map ty_of c.args.called.now.takes in
    let t = ty_of c.args.ty in
    let es = exprs_of c.args.args in
    subst (λ (m : rust_meaning.Meaning). MatchResult c.one-in-Not.result (λ e. Applies (meaning_of m ts) t es (expr_of e)) (λ f. f ≡ fault.NoMemory)) (sym c.in-Not.is)
    (of_one (named_not) t es (negation) c.one-in-Not.result (λ a want h. subst (Makes want (named_not) (a ∷ []) (one (negation) a)) (some_injective h) (not_made want a)) c.one-in-Not.ensures)

pub returns-in-ToText : goal.returns-in-ToText
returns-in-ToText c =
    let ts = map ty_of c.args.called.now.takes in
    let t = ty_of c.args.ty in
    let es = exprs_of c.args.args in
    subst (λ (m : rust_meaning.Meaning). MatchResult c.one-in-ToText.result (λ e. Applies (meaning_of m ts) t es (expr_of e)) (λ f. f ≡ fault.NoMemory)) (sym c.in-ToText.is)
    (of_one (named_to_string) t es (to_text) c.one-in-ToText.result (λ a want h. subst (Makes want (named_to_string) (a ∷ []) (one (to_text) a)) (some_injective h) (to_string_made want a)) c.one-in-ToText.ensures)

pub returns-in-Length : goal.returns-in-Length
returns-in-Length c =
    let ts = map ty_of c.args.called.now.takes in
    let t = ty_of c.args.ty in
    let es = exprs_of c.args.args in
    subst (λ (m : rust_meaning.Meaning). MatchResult c.one-in-Length.result (λ e. Applies (meaning_of m ts) t es (expr_of e)) (λ f. f ≡ fault.NoMemory)) (sym c.in-Length.is)
    (of_one (named_len) t es (len) c.one-in-Length.result (λ a want h. subst (Makes want (named_len) (a ∷ []) (one (len) a)) (some_injective h) (len_made want a)) c.one-in-Length.ensures)

pub returns-in-FromText : goal.returns-in-FromText
returns-in-FromText c =
    let ts = map ty_of c.args.called.now.takes in
    let t = ty_of c.args.ty in
    let es = exprs_of c.args.args in
    subst (λ (m : rust_meaning.Meaning). MatchResult c.one-in-FromText.result (λ e. Applies (meaning_of m ts) t es (expr_of e)) (λ f. f ≡ fault.NoMemory)) (sym c.in-FromText.is)
    (of_one named_from_string t es (from_text t) c.one-in-FromText.result
    (λ a want h. subst (λ w. Makes w named_from_string (a ∷ []) (one (from_text t) a) t) (sym h) (from_string_made t a)) c.one-in-FromText.ensures)

pub returns-in-CharAt : goal.returns-in-CharAt
returns-in-CharAt c =
    let ts = map ty_of c.args.called.now.takes in
    let t = ty_of c.args.ty in
    let es = exprs_of c.args.args in
    subst (λ (m : rust_meaning.Meaning). MatchResult c.char_at.result (λ e. Applies (meaning_of m ts) t es (expr_of e)) (λ f. f ≡ fault.NoMemory)) (sym c.in-CharAt.is)
    (of_two named_at t es c.char_at.result (λ a b want h. subst (Makes want named_at (a ∷ b ∷ []) (two char_at a b)) (some_injective h) (at_made want a b)) c.char_at.ensures)
