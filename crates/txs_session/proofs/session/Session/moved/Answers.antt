use Rattle.txs_terms.specs.View.{term_of}
use Rattle.txs_session.specs.Allowed.{latest_first}
use Rattle.txs_session.proofs.session.Session.moved.Goals as goal

pub returns-clause-allowed : goal.returns-clause-allowed
returns-clause-allowed c m k =
    let going = rw c.in-Some.is at c.requires.going in
    let kept = rw c.in-Some.is at k in
    rw c.in-Some.is (c.in_ok-set_after.ensures.allowed (term_of m.start) (latest_first c.in-Some.run'.trace.items) (rw c.as_slice.ensures (kept going.0)))
