-- In which order a domain's offers stand: by their classes, and those to all domains before those to one.
use Rattle.std.specs.Prelude.{ℕ, List, Option}
use Rattle.std.specs.Ordering.{nat_cmp, ordering_then}
use Rattle.std.specs.Option.{option_cmp}
use Rattle.std.specs.Cmp.Lexicographic.{slice_cmp}
use Rattle.std.specs.declared.cmp.Ordering.{Ordering}
use Rattle.jk_model_classes.specs.declared.sharing.Offer.{Offer}

-- all domains come before each one, and these come by their names
abbrev pub to_cmp : Option (List ℕ) → Option (List ℕ) → Ordering
to_cmp = option_cmp (slice_cmp nat_cmp)

abbrev pub offer_cmp : Offer → Offer → Ordering
offer_cmp a b = ordering_then (nat_cmp a.class.0 b.class.0) (to_cmp a.to b.to)
