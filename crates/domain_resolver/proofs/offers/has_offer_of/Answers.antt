-- The search goes by the order of the offers' classes.
use Rattle.std.proofs.Common.{rules}
use Rattle.std.specs.Ordering.{nat_cmp}
use Rattle.std.proofs.lemmas.Fn.{always_returns_same}
use Rattle.jk_model_classes.specs.declared.sharing.Offer.{Offer}
use Rattle.domain_resolver.proofs.OffersInOrder.{says_class}
use Rattle.domain_resolver.proofs.offers.has_offer_of.Goals as goal

pub returns : goal.returns
returns c =
    let found = c.binary_search_by.ensures.position (λ (y : Offer). nat_cmp y.class.0 c.args.class.0) (always_returns_same _ _ _ (λ a r f h. search rules)) in
    rw c.is_ok.ensures.value (says_class c.args.offers.now c.args.class c.binary_search_by.result c.requires c.binary_search_by.ensures.bound found)
