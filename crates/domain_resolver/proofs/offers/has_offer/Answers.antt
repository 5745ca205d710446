-- The search goes by the order of the offers.
use Rattle.std.proofs.Common.{rules}
use Rattle.std.specs.Option.{option_copied}
use Rattle.std.proofs.lemmas.Fn.{always_returns_same}
use Rattle.jk_model_classes.specs.declared.sharing.Offer.{Offer}
use Rattle.domain_resolver.specs.OfferOrder.{offer_cmp}
use Rattle.domain_resolver.proofs.OffersInOrder.{says_offer}
use Rattle.domain_resolver.proofs.offers.has_offer.Goals as goal

pub returns : goal.returns
returns c =
    let wanted : Offer = record { class = c.args.class; to = option_copied c.args.to } in
    let found = c.binary_search_by.ensures.position (λ y. offer_cmp y wanted) (always_returns_same _ _ _ (λ a r f h. search rules)) in
    rw c.is_ok.ensures.value (says_offer c.args.offers.now wanted c.binary_search_by.result c.requires c.binary_search_by.ensures.bound found)
