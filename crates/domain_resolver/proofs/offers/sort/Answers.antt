-- The offers are sorted by their order.
use Rattle.std.proofs.Common.{rules}
use Rattle.std.specs.Ordering.{is_lt}
use Rattle.std.proofs.lemmas.List.Sorted.{answers_always}
use Rattle.domain_resolver.specs.OfferOrder.{offer_cmp}
use Rattle.domain_resolver.proofs.OffersInOrder.{offers_rank}
use Rattle.domain_resolver.proofs.offers.sort.Goals as goal

pub returns-clause-sorted : goal.returns-clause-sorted
returns-clause-sorted c = c.in_ok-sort_by.ensures.sorted (λ x y. is_lt (offer_cmp x y)) offers_rank (answers_always _ _ _ (λ f a r g h. search rules))
