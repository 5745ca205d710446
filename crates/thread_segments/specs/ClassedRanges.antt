-- Capabilities as a table and a list keep them: the table has all but the classes of the targets, and these stand in a list by the numbers.
use Rattle.std.specs.Prelude.{◌≡◌, ℕ, suc, ◌+◌, ◌-◌, ◌<◌, ◌≤◌, ◌==◌, List, [], ◌∷◌, length, map, None, Result, Ok, Err, if◌then◌else◌, slice_index_or}
use Rattle.std.specs.List.{AllByRecursion}
use Rattle.jk_model.specs.Capabilities.{Creation, Range, last_number, numbers, range_of}
use Rattle.jk_model.specs.declared.identifiers.CapId.{CapId}
use Rattle.jk_model.specs.declared.identifiers.ClassId.{ClassId}
use Rattle.jk_model.specs.declared.identifiers.DomainId.{DomainId}
use Rattle.jk_model.specs.declared.steps.Raise.{Raise}
use Rattle.jk_model.specs.declared.steps.Raise.TheVariants.{Standing}
use Rattle.jk_model.specs.declared.steps.Standing.TheVariants as Stands
use Rattle.jk_model_heaps.specs.Capabilities.{CapRange, Capability, has_number}
use Rattle.jk_model_sharing.specs.CapabilityCalls.{next_number, with_capability_revoked, with_created, all_revoked}

-- what stands where no capability has the number
abbrev pub no_class : ClassId
no_class = record { 0 = 0 }

-- the class of the target of the capability of a number
abbrev pub class_at : List ClassId → ℕ → ClassId
class_at classes n = slice_index_or classes (n - 1) no_class

-- the capabilities from this number on
abbrev pub made_with : List ClassId → ℕ → List Creation → List Capability
made_with classes n [] = []
made_with classes n (c ∷ made) = record { target = c.target; class = class_at classes n; revoked = c.revoked } ∷ made_with classes (suc n) made

abbrev pub range_with : List ClassId → Range → CapRange
range_with classes r = record { owner = r.owner; first = r.first; count = r.count; made = made_with classes r.first r.made }

abbrev pub ranges_with : List ClassId → List Range → List CapRange
ranges_with classes ranges = map (range_with classes) ranges

-- the numbers of a range have places in a list of so many classes, and no more are given out than it has
pub record IsWithinClasses (count : ℕ) (r : Range) : Type 0 where
  pub low : 1 ≤ r.first
  pub high : r.first + r.count ≤ 1 + count
  pub made : length r.made ≤ r.count

-- each range begins directly behind the one before it, and the first at this number
abbrev pub AreChained : ℕ → List Range → Type 0
AreChained n [] = Unit {0}
AreChained n (r ∷ ranges) = (r.first ≡ n) × AreChained (n + r.count) ranges

-- no two have one owner
abbrev pub AreApart : List Range → Type 0
AreApart [] = Unit {0}
AreApart (r ∷ ranges) = (range_of ranges r.owner ≡ None) × AreApart ranges

-- there is a class for each number
pub record AreClassed (classes : List ClassId) (ranges : List Range) : Type 0 where
  pub as_many : length classes ≡ numbers ranges
  pub few : length classes ≤ last_number
  pub each : AllByRecursion (IsWithinClasses (length classes)) ranges
  pub chained : AreChained 1 ranges
  pub apart : AreApart ranges

-- What a domain that asks for one more capability is answered, and the ranges after it: its own, which is this one, alone is changed.
pub data CreatesIn (caps : List CapRange) (class : ClassId) (target : ℕ) (r : CapRange) : Result CapId Raise → List CapRange → Type 0 where
  used_up_in : r.count ≤ length r.made → CreatesIn caps class target r (Err (Standing Stands.Quota)) caps
  has_room_in : length r.made < r.count
      → CreatesIn caps class target r (Ok (next_number r))
      (map (λ (x : CapRange). if x.owner.0 == r.owner.0 then with_created class target x else x) caps)

-- the range that has the number, with its capability revoked
abbrev pub revoked_in : CapId → CapRange → CapRange
revoked_in k r = if has_number k r then with_capability_revoked k r else r

-- the range of a domain, with all of its capabilities revoked
abbrev pub all_revoked_in : DomainId → CapRange → CapRange
all_revoked_in d r = if r.owner.0 == d.0 then all_revoked r else r
