use Rattle.std.proofs.Common.{rules, ◌≡◌, ◌+◌, ap, sym, subst, ◌∙◌, refl, Some, None, true, false, [], length, get_or, take, ◌++◌, ◌∷◌, IfOk, OnOk, OnErr, inl, arith, FitsSigned}
use Rattle.std.proofs.lemmas.Int.{to_z-of_z}
use Rattle.std.proofs.lemmas.List.{length-map}
use Rattle.std.specs.Int.{w128}
use Rattle.std.specs.Prelude.{option_map}
use Rattle.txs_values.specs.View.{ty_of}
use Rattle.txs_values.specs.Value.{integer, truth}
use Rattle.txs_terms.specs.View.{exprs_of}
use Rattle.txs_values.specs.declared.table.FieldDef as rust_field
use Rattle.txs_syntax.specs.declared.ast.Ast.TheVariants as tree
use Rattle.txs_syntax.specs.declared.ast.Binding.{Binding}
use Rattle.txs_typing.specs.declared.scope.Scope as rust_scope
use Rattle.txs_typing.specs.inner.Bindings.{IsWithin, JudgesValues}
use Rattle.txs_typing.specs.declared.fault.TypeFault.TheVariants as fault
use Rattle.txs_typing.specs.Names.{inside}
use Rattle.txs_typing.specs.Elaborates.{ElaboratesEach, nothing, right_first}
use Rattle.txs_typing.specs.Offends.{Offends}
use Rattle.txs_typing.proofs.judging.Told.{Either}
use Rattle.txs_typing.specs.inner.View.{scope_of, wants_of, called_of, Judges, JudgesAt}
use Rattle.txs_typing.specs.Answer.{want_of}
use Rattle.txs_typing.specs.inner.Parts.{Means, Tells, InOrder, OffendInOrder, JudgesEach, CallsWith, Fitted, shown}
use Rattle.txs_typing.proofs.trees.Judged.{taken}
use Rattle.txs_typing.proofs.judging.Finish.{judges_of, tells_of}
use Rattle.txs_typing.proofs.judging.CallNodes.{each_step, as_many_found, calls_node, unknown_node, arity_node, strays_told, strays_judged, length_strays}
use Rattle.txs_typing.proofs.judging.Sides.{tells_both, tells_in_order, tells_sides, tells_back, negate_node, operator_node, comparison_node, group_node, if_node, if_free_node, BothMean}
use Rattle.txs_typing.proofs.judging.Bindings.{let_node, values_step, within_more, left_again}
use Rattle.txs_typing.proofs.trees.Weights.{weight, weights, weight_call, weight_negate, weight_binary, weight_group, weight_if, weight_let, weight_of_one, weights_of, weight_of_value}
use Rattle.txs_typing.proofs.expression.+expression.Goals as goal
use Rattle.txs_typing.proofs.expression.+expression.Goals.{values-in-Ok, values-in-Err}

pub expression-returns-clause-judged : goal.expression-returns-clause-judged
expression-returns-clause-judged t c =
    let s = scope_of c.args.scope.now in
    judges_of s (want_of c.args.want) c.args.tree.now c.judge.result
    (subst (λ at. JudgesAt at s (want_of c.args.want) c.args.tree.now c.judge.result) c.start.ensures c.judge.ensures.judged)

-- ---- a level

pub judge-call-requires : goal.judge-call-requires
judge-call-requires t c = (omega (arith, weight_call c.args.tree.now c.in-Call.name c.in-Call.arguments c.in-Call.is, ap weights c.as_slice.ensures), tt)

pub judge-negation-requires : goal.judge-negation-requires
judge-negation-requires t c = (omega (arith, weight_negate c.args.tree.now _ c.in-Negate.operand c.in-Negate.is), tt)

pub judge-operation-requires : goal.judge-operation-requires
judge-operation-requires t c = (omega (arith, weight_binary c.args.tree.now c.in-Binary.op c.in-Binary.left c.in-Binary.right c.in-Binary.is), tt)

pub judge-judge-requires : goal.judge-judge-requires
judge-judge-requires t c = (omega (arith, weight_group c.args.tree.now _ c.in-Group.inner c.in-Group.is, ap weight c.get.ensures), tt)

pub judge-choice-requires : goal.judge-choice-requires
judge-choice-requires t c = (omega (arith, weight_if c.args.tree.now _ c.in-If.condition c.in-If.yes c.in-If.no c.in-If.is), tt)

pub judge-binding-requires : goal.judge-binding-requires
judge-binding-requires t c = (omega (arith, weight_let c.args.tree.now _ c.in-Let.bindings c.in-Let.body c.in-Let.is, ap weights_of c.as_slice-in-Let.ensures), tt)

pub judge-returns-in-Number-clause-judged : goal.judge-returns-in-Number-clause-judged
judge-returns-in-Number-clause-judged t c =
    let within : FitsSigned w128 c.in-Number.value = search rules in
    subst (λ a. JudgesAt c.args.at (scope_of c.args.scope.now) (want_of c.args.want) a c.number.result) (sym c.in-Number.is) (simp to_z-of_z at (c.number.ensures c.in-Number.at))

pub judge-returns-in-Text-clause-judged : goal.judge-returns-in-Text-clause-judged
judge-returns-in-Text-clause-judged t c =
    subst (λ a. JudgesAt c.args.at (scope_of c.args.scope.now) (want_of c.args.want) a c.quoted.result) (sym c.in-Text.is) (c.quoted.ensures _)

pub judge-returns-in-Negate-clause-judged : goal.judge-returns-in-Negate-clause-judged
judge-returns-in-Negate-clause-judged t c =
    subst (λ a. JudgesAt c.args.at (scope_of c.args.scope.now) (want_of c.args.want) a c.negation.result) (sym c.in-Negate.is) (c.negation.ensures.judged _)

pub judge-returns-in-Group-clause-judged : goal.judge-returns-in-Group-clause-judged
judge-returns-in-Group-clause-judged t c =
    let s = scope_of c.args.scope.now in
    subst (λ a. JudgesAt c.args.at s (want_of c.args.want) a c.judge.result) (sym c.in-Group.is)
    (group_node c.args.at _ s (want_of c.args.want) c.in-Group.inner c.judge.result
    (subst (λ a. JudgesAt c.args.at s (want_of c.args.want) a c.judge.result) c.get.ensures c.judge.ensures.judged))

pub judge-returns-in-If-clause-judged : goal.judge-returns-in-If-clause-judged
judge-returns-in-If-clause-judged t c =
    subst (λ a. JudgesAt c.args.at (scope_of c.args.scope.now) (want_of c.args.want) a c.choice.result) (sym c.in-If.is) (c.choice.ensures.judged c.args.at _)

pub judge-returns-in-Let-clause-judged : goal.judge-returns-in-Let-clause-judged
judge-returns-in-Let-clause-judged t c =
    let s = scope_of c.args.scope.now in
    subst (λ a. JudgesAt c.args.at s (want_of c.args.want) a c.binding.result) (sym c.in-Let.is)
    (subst (λ bs. JudgesAt c.args.at s (want_of c.args.want) (tree.Let c.in-Let.at bs c.in-Let.body) c.binding.result) c.as_slice-in-Let.ensures (c.binding.ensures.judged c.args.at c.in-Let.at))

-- ---- calls

pub call-called_with-requires-clause-many : goal.call-called_with-requires-clause-many
call-called_with-requires-clause-many t c =
    let needs = c.in-Ok-Some.called.needs in
    let same : length (wants_of c.as_slice.result.now) ≡ length needs = length-map c.as_slice.result.now want_of ∙ ap (λ l. length l) c.as_slice.ensures in
    subst (λ n. IfOk c.each-found.result (λ es. length es ≡ n)) same
    (as_many_found (scope_of c.args.scope.now) (wants_of c.as_slice.result.now) c.args.args.now c.each-found.result c.each-found.ensures.judged)

pub call-returns-then-len-args-clause-judged : goal.call-returns-then-len-args-clause-judged
call-returns-then-len-args-clause-judged t c =
    let s = scope_of c.args.scope.now in
    let w = want_of c.args.want in
    let called = c.in-Ok-Some.called in
    let x = c.args.name.now in
    let found = sym (ap (λ d. option_map called_of d) (sym c.in-Ok-Some.field-0-is) ∙ c.in-Ok-Some.ensures) in
    let long = sym c.if-len-args.true ∙ (c.len.ensures ∙ sym (length-map called.needs want_of)) in
    calls_node c.args.at s w x c.args.args.now ((called_of called).0) ((called_of called).1) found
    (taken _ (called_of called) found) long c.each-found.result c.called_with.result
    (subst (λ ns. JudgesEach s (wants_of ns) c.args.args.now c.each-found.result) c.as_slice.ensures c.each-found.ensures.judged)
    (subst (λ s. CallsWith (scope_of s) w c.args.at ((called_of called).0) c.each-found.result c.called_with.result) c.each-found.ensures.kept c.called_with.ensures)

pub call-returns-in-Ok-Some-clause-judged : goal.call-returns-in-Ok-Some-clause-judged
call-returns-in-Ok-Some-clause-judged t c =
    let s = scope_of c.args.scope.now in
    let w = want_of c.args.want in
    let called = c.in-Ok-Some.called in
    let x = c.args.name.now in
    let found = sym (ap (λ d. option_map called_of d) (sym c.in-Ok-Some.field-0-is) ∙ c.in-Ok-Some.ensures) in
    strays_judged c.args.at s w (tree.Call x c.args.args.now) (fault.Arity x.at) c.args.args.now c.strays.result c.strays.ensures.told
    (λ f h. arity_node c.args.at s w x c.args.args.now ((called_of called).0) ((called_of called).1) f found
    (λ e. c.if-len-args.false (c.len.ensures ∙ (sym (length-map called.needs want_of) ∙ sym e))) h)

pub call-returns-in-Ok-None-clause-judged : goal.call-returns-in-Ok-None-clause-judged
call-returns-in-Ok-None-clause-judged t c =
    let s = scope_of c.args.scope.now in
    let w = want_of c.args.want in
    strays_judged c.args.at s w (tree.Call c.args.name.now c.args.args.now) (fault.Unknown c.args.name.now.at) c.args.args.now c.strays-in-Ok-None.result c.strays-in-Ok-None.ensures.told
    (λ f h. unknown_node c.args.at s w c.args.name.now c.args.args.now f (ap (λ d. option_map called_of d) (sym c.in-Ok-None.field-0-is) ∙ c.in-Ok-None.ensures) h)

pub strays-each-found-requires : goal.strays-each-found-requires
strays-each-found-requires t c = (
  omega arith,
  ap (λ l. length l) c.as_slice.ensures
      ∙ (sym (length-map c.in-Ok.needs want_of) ∙ (ap (λ l. length l) c.in-Ok.ensures ∙ length_strays (scope_of c.args.scope.now) c.args.args.now)),
)

pub strays-returns-in-Ok-clause-told : goal.strays-returns-in-Ok-clause-told
strays-returns-in-Ok-clause-told t c =
    let s = scope_of c.args.scope.now in
    strays_told s c.args.fault c.args.args.now c.each-found.result c.strayed.result
    (subst (λ ns. JudgesEach s ns c.args.args.now c.each-found.result) (ap wants_of c.as_slice.ensures ∙ c.in-Ok.ensures) c.each-found.ensures.judged) c.strayed.ensures

pub each-loop-arg-init : goal.each-loop-arg-init
each-loop-arg-init t c = ((subst (λ l. ElaboratesEach (scope_of c.args.scope.now) [] [] (exprs_of l)) (sym c.new.ensures) nothing, tt), refl, refl)

pub each-expression-found-requires : goal.each-expression-found-requires
each-expression-found-requires t c =
    (omega (arith, weight_of_one c.args.args.now c.loop-arg.arg-index c.arg-item.result c.loop-arg-test.true, ap weight c.arg-item.is), tt)

pub each-loop-arg-preserved : goal.each-loop-arg-preserved
each-loop-arg-preserved t c =
    let s = scope_of c.args.scope.now in
    let needs = c.args.needs.now in
    let found = c.expression-found.result in
    let h = c.loop-arg.invariant in (
      each_step s needs c.args.args.now c.loop-arg.arg-index None c.arg-item.result c.loop-arg.so_far found c.gathered-so_far.result c.requires c.loop-arg-test.true h.0
          (subst (λ a. Judges s (want_of (get_or needs c.loop-arg.arg-index None)) a found) c.arg-item.is
          (subst (λ k. Judges s (want_of (get_or needs k None)) c.arg-item.result found) h.1
          (subst (λ s. Judges (scope_of s) (want_of (get_or needs c.loop-arg.at None)) c.arg-item.result found) h.2 c.expression-found.ensures.judged)))
          c.gathered-so_far.ensures,
      ap (λ k. k + 1) h.1,
      c.expression-found.ensures.kept ∙ h.2,
    )

-- ---- parts

pub negation-returns-clause-judged : goal.negation-returns-clause-judged
negation-returns-clause-judged t c = λ offset.
    let s = scope_of c.args.scope.now in
    let w = want_of c.args.want in
    negate_node c.args.at offset s w c.args.operand.now c.expression-found.result c.negated.result c.fitted.result
    (subst (λ a. Judges s (Some integer) a c.expression-found.result) c.get.ensures c.expression-found.ensures.judged) c.negated.ensures
    (subst (λ s. Fitted (scope_of s) w c.args.at integer c.negated.result c.fitted.result) c.expression-found.ensures.kept c.fitted.ensures)

pub both-returns-clause-told : goal.both-returns-clause-told
both-returns-clause-told t c =
    let s = scope_of c.args.scope.now in
    let n = Some (ty_of c.args.need) in
    let a = c.args.left.now in
    let b = c.args.right.now in
    let x = c.expression-a.result in
    let y = c.expression-b.result in
    tells_both (Means s n a) (Means s n b) (Offends s n a) (Offends s n b) x y c.joined.result
    (tells_of s n a x (subst (λ a. Judges s n a x) c.get.ensures c.expression-a.ensures.judged))
    (tells_of s n b y (subst (λ b. Judges s n b y) c.get-2.ensures
    (subst (λ s. Judges (scope_of s) n c.get-2.result.now y) c.expression-a.ensures.kept c.expression-b.ensures.judged))) c.joined.ensures

pub in_order-returns-clause-told : goal.in_order-returns-clause-told
in_order-returns-clause-told t c =
    let s = scope_of c.args.scope.now in
    let a = c.args.earlier.now in
    let b = c.args.later.now in
    let x = c.expression-a.result in
    let y = c.expression-b.result in
    let n = c.shown-need.ensures ∙ ap (λ s. shown (scope_of s) x) c.expression-a.ensures.kept in
    tells_in_order s a b x y c.joined.result (subst (λ a. Judges s None a x) c.get.ensures c.expression-a.ensures.judged)
    (subst (λ n. Judges s (Some n) b y) n (subst (λ b. Judges s (Some (ty_of c.shown-need.result)) b y) c.get-2.ensures
    (subst (λ s. Judges (scope_of s) (Some (ty_of c.shown-need.result)) c.get-2.result.now y) c.expression-a.ensures.kept c.expression-b.ensures.judged))) c.joined.ensures

pub compared-returns-then-right_first-clause-told : goal.compared-returns-then-right_first-clause-told
compared-returns-then-right_first-clause-told t c =
    let a = c.args.left.now in
    let b = c.args.right.now in
    tells_back (scope_of c.args.scope.now) a b c.in_order.result c.turned.result
    (subst (λ a. right_first a b ≡ true) c.get.ensures (subst (λ b. right_first c.get.result.now b ≡ true) c.get-2.ensures (sym c.right_first.ensures ∙ c.if-right_first.true)))
    c.in_order.ensures.told c.turned.ensures

pub compared-returns-else-right_first-clause-told : goal.compared-returns-else-right_first-clause-told
compared-returns-else-right_first-clause-told t c =
    let a = c.args.left.now in
    let b = c.args.right.now in
    tells_sides (scope_of c.args.scope.now) a b c.in_order-else-right_first.result
    (subst (λ a. right_first a b ≡ false) c.get.ensures (subst (λ b. right_first c.get.result.now b ≡ false) c.get-2.ensures (sym c.right_first.ensures ∙ c.if-right_first.false)))
    c.in_order-else-right_first.ensures.told

pub operation-returns-in-Some-clause-judged : goal.operation-returns-in-Some-clause-judged
operation-returns-in-Some-clause-judged t c =
    let s = scope_of c.args.scope.now in
    let w = want_of c.args.want in
    operator_node c.args.at s w c.args.op c.args.left.now c.args.right.now (ty_of c.in-Some.need) c.both-found.result c.operated.result c.fitted.result
    (sym c.operand.ensures ∙ ap want_of c.in-Some.is) c.both-found.ensures.told c.operated.ensures
    (subst (λ n. Fitted s w c.args.at n c.operated.result c.fitted.result) c.outcome.ensures
    (subst (λ s. Fitted (scope_of s) w c.args.at (ty_of c.outcome.result) c.operated.result c.fitted.result) c.both-found.ensures.kept c.fitted.ensures))

pub operation-returns-in-None-clause-judged : goal.operation-returns-in-None-clause-judged
operation-returns-in-None-clause-judged t c =
    let s = scope_of c.args.scope.now in
    let w = want_of c.args.want in
    comparison_node c.args.at s w c.args.op c.args.left.now c.args.right.now c.compared-found.result c.operated-in-None.result c.fitted-in-None.result
    (sym c.operand.ensures ∙ ap want_of c.in-None.is) c.compared-found.ensures.told c.operated-in-None.ensures
    (subst (λ n. Fitted s w c.args.at n c.operated-in-None.result c.fitted-in-None.result) c.outcome-in-None.ensures
    (subst (λ s. Fitted (scope_of s) w c.args.at (ty_of c.outcome-in-None.result) c.operated-in-None.result c.fitted-in-None.result) c.compared-found.ensures.kept c.fitted-in-None.ensures))

pub choice-returns-in-Some-clause-judged : goal.choice-returns-in-Some-clause-judged
choice-returns-in-Some-clause-judged t c = λ at offset.
    let s = scope_of c.args.scope.now in
    let need = ty_of c.in-Some.need in
    let p = c.args.condition.now in
    let a = c.args.yes.now in
    let b = c.args.no.now in
    subst (λ w. JudgesAt at s (want_of w) (tree.If offset p a b) c.chosen.result) (sym c.in-Some.is)
    (if_node at offset s need p a b c.expression-c.result c.both-found.result c.joined.result c.chosen.result
    (subst (λ p. Judges s (Some truth) p c.expression-c.result) c.get.ensures c.expression-c.ensures.judged)
    (subst (λ s. Tells (BothMean (scope_of s) (Some need) a b) (Either (Offends (scope_of s) (Some need) a) (Offends (scope_of s) (Some need) b)) c.both-found.result)
    c.expression-c.ensures.kept c.both-found.ensures.told) c.joined.ensures c.chosen.ensures)

pub choice-returns-in-None-clause-judged : goal.choice-returns-in-None-clause-judged
choice-returns-in-None-clause-judged t c = λ at offset.
    let s = scope_of c.args.scope.now in
    let p = c.args.condition.now in
    let a = c.args.yes.now in
    let b = c.args.no.now in
    subst (λ w. JudgesAt at s (want_of w) (tree.If offset p a b) c.chosen-in-None.result) (sym c.in-None.is)
    (if_free_node at offset s p a b c.expression-c.result c.in_order-found.result c.joined-in-None.result c.chosen-in-None.result
    (subst (λ p. Judges s (Some truth) p c.expression-c.result) c.get.ensures c.expression-c.ensures.judged)
    (subst (λ s. Tells (InOrder (scope_of s) a b) (OffendInOrder (scope_of s) a b) c.in_order-found.result)
    c.expression-c.ensures.kept c.in_order-found.ensures.told) c.joined-in-None.ensures c.chosen-in-None.ensures)

-- ---- bindings

pub values-expression-found-requires : goal.values-expression-found-requires
values-expression-found-requires t c =
    (omega (arith, weight_of_value c.args.bindings.now c.loop-binding.binding-index c.binding-item.result c.loop-binding-test.true, ap (λ (b : Binding). weight b.value) c.binding-item.is), tt)

pub values-loop-binding-preserved : goal.values-loop-binding-preserved
values-loop-binding-preserved t c =
    let s = scope_of c.args.scope.now in
    let bs = c.args.bindings.now in
    let i = c.loop-binding.binding-index in
    let b = c.binding-item.result in
    let mid = c.loop-binding.scope in
    let found = c.expression-found.result in
    let there = c.expression-found.new.scope in
    let kept = c.expression-found.ensures.kept in
    let h = c.loop-binding.invariant in
    elim c.match-bind.branch [
      | values-in-Ok w ↦
          let bound = subst (λ r. OnOk r (scope_of c.bind.new.self ≡ inside (scope_of there) b.name.text (ty_of c.shown-ty.result))) w.in-Ok.is c.bind.ensures.bound in
          let field : rust_field.FieldDef = record { name = b.name.text; ty = c.shown-ty.result } in
          let added = subst (λ r. OnOk r (c.bind.new.self ≡ record there { locals = there.locals ++ field ∷ [] })) w.in-Ok.is c.bind.ensures.added in
          let inner =
          bound ∙ (ap (inside (scope_of there) b.name.text) c.shown-ty.ensures
          ∙ ap (λ (z : rust_scope.Scope). inside (scope_of z) b.name.text (shown (scope_of z) found)) kept) in (
            subst (JudgesValues s (take (i + 1) bs) (scope_of c.bind.new.self)) (sym w.so_far-is)
                (values_step s bs i b (scope_of mid) (scope_of c.bind.new.self) c.loop-binding.so_far found w.with_value.result c.loop-binding-test.true
                c.binding-item.is h.0 c.expression-found.ensures.judged w.with_value.ensures inner),
            within_more c.args.scope.now mid c.bind.new.self field h.1
                (added ∙ ap (λ (z : rust_scope.Scope). record z { locals = z.locals ++ field ∷ [] }) kept),
          )
      | values-in-Err w ↦
          let unchanged = subst (λ r. OnErr r (c.bind.new.self ≡ there)) w.in-Err.is c.bind.ensures.unchanged in (
            subst (JudgesValues s (take (i + 1) bs) (scope_of c.bind.new.self)) (sym w.so_far-is) (inl refl),
            subst (IsWithin c.args.scope.now) (sym (unchanged ∙ kept)) h.1,
          )
    ]

pub binding-returns-clause-judged : goal.binding-returns-clause-judged
binding-returns-clause-judged t c = λ at offset.
    let s = scope_of c.args.scope.now in
    let inner = scope_of c.values-values.new.scope in
    let w = want_of c.args.want in
    let_node at offset s w c.args.bindings.now c.args.body.now inner c.values-values.result c.expression-found.result c.joined.result c.bound.result
    c.values-values.ensures.judged (subst (λ a. Judges inner w a c.expression-found.result) c.get.ensures c.expression-found.ensures.judged) c.joined.ensures c.bound.ensures

pub binding-returns-clause-kept : goal.binding-returns-clause-kept
binding-returns-clause-kept t c =
    left_again c.args.scope.now c.values-values.new.scope c.leave.new.self c.len-outer.result c.values-values.ensures.kept c.len-outer.ensures
    (c.leave.ensures.locals ∙ ap (λ (z : rust_scope.Scope). take c.len-outer.result z.locals) c.expression-found.ensures.kept)
    (c.leave.ensures.same ∙ ap (λ (z : rust_scope.Scope). record z { locals = c.leave.new.self.locals }) c.expression-found.ensures.kept)
