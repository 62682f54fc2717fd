use Rattle.std.proofs.Common.{◌≡◌, take}
use Rattle.txs_terms.proofs.offer.copy_offers.Given as goal

-- what was copied so far
abbrev pub invariant-loop-offer : goal.invariant-loop-offer
invariant-loop-offer l = l.copies ≡ take l.offer-index l.offers
