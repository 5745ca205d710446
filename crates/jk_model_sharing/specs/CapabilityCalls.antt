-- Which numbers a domain has for capabilities, and how it creates and revokes them. All that a call touches is the range of the domain that
-- calls.
use Rattle.std.specs.Prelude.{◌≡◌, ℕ, ◌+◌, ◌-◌, ◌<◌, ◌≤◌, ◌==◌, false, true, List, [], ◌∷◌, ◌++◌, length, map, sum_by, Result, Ok, Err, if◌then◌else◌}
use Rattle.jk_model.specs.Capabilities.{last_number}
use Rattle.jk_model.specs.declared.capabilities.CapStatus.{CapStatus}
use Rattle.jk_model.specs.declared.identifiers.CapId.{CapId}
use Rattle.jk_model.specs.declared.identifiers.ClassId.{ClassId}
use Rattle.jk_model.specs.declared.identifiers.DomainId.{DomainId}
use Rattle.jk_model.specs.declared.steps.Raise.{Raise}
use Rattle.jk_model.specs.declared.steps.Raise.TheVariants.{Standing}
use Rattle.jk_model.specs.declared.steps.Standing.TheVariants as Stands
use Rattle.jk_model_heaps.specs.Capabilities.{CapRange, Capability, OwnedCapability, has_number}

-- what anyone may know of a capability
abbrev pub status_of : OwnedCapability → CapStatus
status_of c = record { owner = c.owner; target = c.capability.target; revoked = c.capability.revoked }

-- ---- Ranges. The first begins at 1, and each later one directly behind the one before it, whether or not that one's owner lives.

-- how many numbers these ranges have together
abbrev pub count_numbers : List CapRange → ℕ
count_numbers ranges = sum_by (λ (r : CapRange). r.count) ranges

-- the range of a domain that may create so many capabilities, behind these
abbrev pub first_range : List CapRange → DomainId → ℕ → CapRange
first_range ranges owner count = record { owner = owner; first = 1 + count_numbers ranges; count = count; made = [] }

-- there aren't so many numbers any more
abbrev pub LacksNumbers : List CapRange → ℕ → Type 0
LacksNumbers ranges count = last_number < count_numbers ranges + count

-- ---- Creations. Numbers are given out in order, and none is used twice.

abbrev pub next_number : CapRange → CapId
next_number r = record { 0 = r.first + length r.made }

-- with one more capability, for an object of a class by its name
abbrev pub with_created : ClassId → ℕ → CapRange → CapRange
with_created class target r = record r { made = r.made ++ record { target = target; class = class; revoked = false } ∷ [] }

-- A capability is created; a range has no more numbers than its domain may create capabilities, revoked ones among them.
pub data Creates (r : CapRange) (class : ClassId) (target : ℕ) : Result CapId Raise → CapRange → Type 0 where
  used_up : r.count ≤ length r.made → Creates r class target (Err (Standing Stands.Quota)) r
  has_room : length r.made < r.count → Creates r class target (Ok (next_number r)) (with_created class target r)

-- ---- Revocations. One that was revoked before stays so.

abbrev pub revoked_capability : Capability → Capability
revoked_capability c = record c { revoked = true }

-- the one at a place revoked
abbrev pub revoked_at : List Capability → ℕ → List Capability
revoked_at [] place = []
revoked_at (c ∷ made) place = if place == 0 then revoked_capability c ∷ made else c ∷ revoked_at made (place - 1)

abbrev pub with_capability_revoked : CapId → CapRange → CapRange
with_capability_revoked k r = record r { made = revoked_at r.made (k.0 - r.first) }

abbrev pub all_revoked : CapRange → CapRange
all_revoked r = record r { made = map revoked_capability r.made }

-- A capability that was given out is revoked by the domain of this range: its own one, which has a number of the range.
pub data Revokes (r : CapRange) (k : CapId) : Result (Unit {0}) Raise → CapRange → Type 0 where
  of_another : has_number k r ≡ false → Revokes r k (Err (Standing Stands.Security)) r
  own : has_number k r ≡ true → Revokes r k (Ok tt) (with_capability_revoked k r)
