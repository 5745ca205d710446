-- How heaps grow.
use Rattle.std.specs.Prelude.{◌≡◌, ℕ, List, Some}
use Rattle.jk_model_classes.specs.declared.records.ClassRecord.{ClassRecord}
use Rattle.jk_model_domains.specs.Objects.{NamedObject, Object, object_named}
use Rattle.jk_model_heaps.specs.Heaps.{IsAlike, IsGrown, Makes, with_object}

-- an object is alike itself, and what is alike to one that is alike is alike
abbrev pub ObjectsAreAlikeThemselves : Type 0
ObjectsAreAlikeThemselves = (object : Object) → IsAlike object object

abbrev pub LikenessGoesOn : Type 0
LikenessGoesOn = (first second third : Object) → IsAlike first second → IsAlike second third → IsAlike first third

-- a heap that stays as it is grows by nothing
abbrev pub HeapsGrowByNothing : Type 0
HeapsGrowByNothing = (heap : List NamedObject) → IsGrown heap heap

-- what grew twice is grown
abbrev pub GrowthGoesOn : Type 0
GrowthGoesOn = (first second third : List NamedObject) → IsGrown first second → IsGrown second third → IsGrown first third

-- a heap grows where objects are made in it
abbrev pub MakingGrows : Type 0
MakingGrows = (classes : List ClassRecord) (quota : ℕ) (heap made new : List NamedObject) → Makes classes quota heap made new → IsGrown heap new

-- a heap grows where an object becomes another one that is alike
abbrev pub WritingGrows : Type 0
WritingGrows =
    (heap : List NamedObject) (a : ℕ) (old new : Object) → object_named heap a ≡ Some old → IsAlike old new
    → IsGrown heap (with_object a new heap)
