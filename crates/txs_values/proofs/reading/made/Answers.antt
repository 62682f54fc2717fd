use Rattle.std.proofs.Common.{◌≡◌, ◌∙◌, ◌+◌, ◌∷◌, ap, sym, drop, arith}
use Rattle.std.proofs.lemmas.List.{drop_more, drop_all}
use Rattle.txs_values.proofs.ReadSteps.{made_read-at, made_read-none, made-start, made-next, made-end}
use Rattle.txs_values.specs.declared.reading.Kind.TheVariants.{Wrong}
use Rattle.txs_values.specs.Reading.{made_read, made_among, stop}
use Rattle.txs_values.specs.TableView.{conses_of, first_of}
use Rattle.txs_values.proofs.reading.made.Goals.{in-Some+else-loop-constructor-test, in_default}
use Rattle.txs_values.proofs.reading.made.Goals as goal

pub loop-constructor-init : goal.loop-constructor-init
loop-constructor-init c =
    let bs = c.args.bytes.now in
    let cs = conses_of c.in-Some.constructors.now in
    let n = c.in-Some.ensures.numbers in
    let f = c.in-Some.ensures.first in
    let z : 0 + first_of c.args.table.now c.args.ty ≡ c.in-Some.first = omega (arith, f) in
    record {
      tried = made_read-at 0 c.args.table.now c.args.ty bs cs c.in-Some.ensures.constructors ∙ ap (λ i. made_among i cs bs) z ∙ made-start c.in-Some.first cs bs;
      within = omega arith;
      numbers = omega (arith, n);
    }

pub loop-constructor-preserved : goal.loop-constructor-preserved
loop-constructor-preserved c =
    let bs = c.args.bytes.now in
    let i = c.loop-constructor.constructor-index in
    let items = c.in-Some.constructors.now in
    let v = c.loop-constructor.invariant in
    let t = c.loop-constructor-test.true in
    let w = v.within in
    let m = c.min-left.ensures in
    let n = v.numbers in
    record {
      tried = made-next (made_read 0 c.args.table.now c.args.ty bs) c.loop-constructor.left c.in-Err.place c.min-left.result c.loop-constructor.id (drop i items) (drop (i + 1) items) c.constructor-item.result
          c.as_bytes.result.now bs v.tried (drop_more items i c.constructor-item.result t ∙ ap (λ x. x ∷ drop (i + 1) items) (sym c.constructor-item.is)) c.as_bytes.ensures c.in-Err.ensures m;
      within = omega (arith, m, w);
      numbers = omega (arith, n, t);
    }

pub returns : goal.returns
returns c = elim c.match-constructors.branch [
  | in-Some+else-loop-constructor-test w ↦ (
      let bs = c.args.bytes.now in
      let v = w.loop-constructor.invariant in
      let t = w.loop-constructor-test.false in
      made-end (made_read 0 c.args.table.now c.args.ty bs) w.loop-constructor.left w.loop-constructor.id (drop w.loop-constructor.constructor-index w.in-Some.constructors.now) bs v.tried
      (drop_all w.loop-constructor.constructor-index w.in-Some.constructors.now (omega (arith, t))) v.within
      ∙ ap (stop Wrong) (sym w.left-is)
      )
  | in_default w ↦ made_read-none 0 c.args.table.now c.args.ty c.args.bytes.now w.in_default.ensures.constructors ∙ ap (stop Wrong) (sym w.left-is)
]
