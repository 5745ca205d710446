-- What the lines of a `resolver.txt` offer.
use Rattle.std.specs.Prelude.{◌≡◌, ℕ, ◌↔◌, List, Contains, Option, Some}
use Rattle.jk_model_classes.specs.declared.sharing.Offer.{Offer}
use Rattle.jk_model_classes.specs.declared.sharing.ResolverLine.{ResolverLine}
use Rattle.jk_model_classes.specs.declared.sharing.ResolverWord.TheVariants.{Share}
use Rattle.jk_model_classes.specs.Worlds.{NamedClass, class_named}

-- the line shares this class, which has that name in the domain
abbrev pub IsOfferOf : List NamedClass → ResolverLine → Offer → Type 0
IsOfferOf table line o =
    (name : List ℕ) × (to : Option (List ℕ)) × (line.says ≡ Share name to) × (class_named table name ≡ Some o.class) × (o.to ≡ to)

-- the line makes this offer alone
abbrev pub IsOneOffer : List NamedClass → ResolverLine → Offer → Type 0
IsOneOffer table line o = IsOfferOf table line o × ((other : Offer) → IsOfferOf table line other → other ≡ o)

abbrev pub AreOffersOf : List NamedClass → List ResolverLine → List Offer → Type 0
AreOffersOf table lines offers = (o : Offer) → Contains offers o ↔ ((line : ResolverLine) × Contains lines line × IsOfferOf table line o)
