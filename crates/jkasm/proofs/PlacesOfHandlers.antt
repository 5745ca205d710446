-- A place that is known of a label is right where the code is not too long, and a handler has the places of its labels.
use Rattle.std.proofs.Common.{◌≡◌, ℕ, List, refl, ap, ◌∙◌, arith, Option, Some, None, min}
use Rattle.asm_reader.specs.declared.items.CodeLine.{CodeLine}
use Rattle.jkasm.specs.CodePlaces.{label_place}
use Rattle.jkasm.specs.HandlerPlaces.{IsPlaceOf}
use Rattle.jkasm.specs.Labels.{FAR, IsKnownPlace, IsKnownLabel}
use Rattle.jkasm.proofs.PlacesWithinCode.{place_within}

place_known : (codes : List CodeLine) (label : List ℕ) (place : Option ℕ) (known : ℕ) → label_place 0 codes label ≡ place
    → IsKnownPlace place (Some known) → IsPlaceOf codes label (Some (min known 65535))
place_known codes label None known is h = absurd cc
place_known codes label (Some p) known is h = (
  rw is refl,
  λ fits.
      let within = place_within 0 codes label p is in
      let far : known ≡ min p FAR = cc in
      let same : p ≡ min known 65535 = omega arith in
      is ∙ ap (λ n. Some n) same,
)

none_known : (place : Option ℕ) → IsKnownPlace place None → place ≡ None
none_known None h = refl
none_known (Some p) h = absurd cc

pub has_place : (codes : List CodeLine) (label : List ℕ) (known : ℕ) → IsKnownLabel codes label (Some known)
    → IsPlaceOf codes label (Some (min known 65535))
has_place codes label known h = place_known codes label (label_place 0 codes label) known refl h

pub has_no_place : (codes : List CodeLine) (label : List ℕ) → IsKnownLabel codes label None → IsPlaceOf codes label None
has_no_place codes label h = none_known (label_place 0 codes label) h
