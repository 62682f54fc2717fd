use Rattle.std.proofs.Common.{◌≡◌, ◌++◌, drop, map}
use Rattle.txs_values.specs.View.{values_of}
use Rattle.txs_terms.specs.Expr.{filled}
use Rattle.txs_terms.specs.Term.{put_offer}
use Rattle.txs_terms.specs.View.{offers_of}
use Rattle.txs_terms.proofs.slots.fill_offers.Given as goal

-- what was filled and the rest with the values put in
abbrev pub invariant-loop-offer : goal.invariant-loop-offer
invariant-loop-offer l =
    offers_of l.filled ++ map (put_offer (filled (values_of l.values))) (offers_of (drop l.offer-index l.offers))
    ≡ map (put_offer (filled (values_of l.values))) (offers_of l.offers)
