-- Where units stop being the text of a part of a descriptor.
use Rattle.std.specs.Prelude.{◌≡◌, ℕ, ◌+◌, ◌⊎◌, List, [], ◌∷◌, ◌++◌, length}
use Rattle.descriptors.specs.declared.error.DescriptorError.{DescriptorError}
use Rattle.descriptors.specs.declared.error.DescriptorError.TheVariants.{BadDescriptor, OutOfMemory}

-- no units, or some whose first is the first of these
abbrev pub StartsAs : List ℕ → List ℕ → Type 0
StartsAs rest v = (v ≡ []) ⊎ ((u : ℕ) × (more : List ℕ) × (after : List ℕ) × (v ≡ u ∷ more) × (rest ≡ u ∷ after))

-- The units in front begin a text. No text ends within them or at their end, and none goes on after
-- them with the first unit of the rest.
abbrev pub IsStuck : (List ℕ → Type 0) → List ℕ → List ℕ → Type 0
IsStuck IsText front rest =
    ((more : List ℕ) × IsText (front ++ more))
    × ((v text after : List ℕ) → StartsAs rest v → IsText text → front ++ v ≡ text ++ after → ⊥)

-- The same of a part of a descriptor of so many units, by the number of units in front of the place.
abbrev pub StopsAt : (List ℕ → Type 0) → List ℕ → ℕ → ℕ → Type 0
StopsAt IsText units whole place =
    (front : List ℕ) × (rest : List ℕ) × (units ≡ front ++ rest) × (place + length rest ≡ whole) × IsStuck IsText front rest

-- why no text was found in front
abbrev pub IsStop : (List ℕ → Type 0) → List ℕ → ℕ → DescriptorError → Type 0
IsStop IsText units whole (BadDescriptor place) = StopsAt IsText units whole place
IsStop IsText units whole OutOfMemory = Unit {0}
