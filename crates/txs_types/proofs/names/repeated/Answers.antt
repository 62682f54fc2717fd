use Rattle.std.proofs.Common.{◌≡◌, MatchBool, Some, None, take, subst}
use Rattle.std.specs.BTreeSet.{contains_text}
use Rattle.std.proofs.lemmas.List.{take_all}
use Rattle.txs_typing.specs.declared.fault.TypeFault.TheVariants as fault
use Rattle.txs_typing.specs.inner.Told.{Finds}
use Rattle.txs_types.specs.inner.Among.{IsTwice}
use Rattle.txs_types.proofs.naming.Loops.{repeats_next, seen_put}
use Rattle.txs_types.proofs.lists.Gathering.{taken_more}
use Rattle.txs_types.proofs.names.repeated.Goals as goal

pub loop-name-preserved : goal.loop-name-preserved
loop-name-preserved c =
    let before = c.args.before.now in
    let names = c.args.names.now in
    let i = c.loop-name.name-index in
    let n = c.name-item.result in
    let g = c.repeated_name.result in
    let r = c.least-fault.result in
    record {
      told =
          subst (λ ns. Finds r (IsTwice before ns)) (taken_more names i n c.loop-name-test.true c.name-item.is)
          (repeats_next before (take i names) n c.loop-name.fault g r c.loop-name.invariant.told
          (subst (λ b. MatchBool b (g ≡ Some (fault.Twice n.at)) (g ≡ None)) (c.loop-name.invariant.seen n.text) c.repeated_name.ensures) c.least-fault.ensures);
      seen = λ x.
          seen_put x before names i n (contains_text c.loop-name.seen x) (contains_text c.add_text.new.seen x)
          c.loop-name-test.true c.name-item.is (c.in_ok-add_text.ensures x) (c.loop-name.invariant.seen x);
    }

pub returns : goal.returns
returns c =
    subst (λ ns. Finds c.loop-name.fault (IsTwice c.args.before.now ns)) (take_all c.loop-name.name-index c.args.names.now c.loop-name-test.false) c.loop-name.invariant.told
