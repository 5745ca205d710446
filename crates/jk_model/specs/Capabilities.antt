-- Capabilities: each domain creates its own, with numbers of a range of its own. The first range begins
-- at 1, and each later one directly after the one before it. No number is used twice.
use Rattle.std.specs.Prelude.{ℕ, ◌+◌, ◌-◌, Bool, true, false, ◌==◌, ◌&&◌, List, [], ◌∷◌, ◌++◌, length, map, sum_by, Option, Some, None, slice_get, find, option_map, option_and_then, nat_le, nat_lt, if◌then◌else◌}
use Rattle.jk_model.specs.declared.capabilities.CapStatus.{CapStatus}
use Rattle.jk_model.specs.declared.identifiers.DomainId.{DomainId}

-- no number is above this
abbrev pub last_number : ℕ
last_number = 16777215

pub record Creation : Type 0 where
  -- a name in the owner's heap
  pub target : ℕ
  pub revoked : Bool

pub record Range : Type 0 where
  pub owner : DomainId
  -- its first number, and how many it has
  pub first : ℕ
  pub count : ℕ
  -- what was created, in order: the first has the first number, the next the next
  pub made : List Creation

-- how many numbers these ranges have together
abbrev pub numbers : List Range → ℕ
numbers ranges = sum_by (λ r. r.count) ranges

abbrev pub is_owned_by : DomainId → Range → Bool
is_owned_by owner r = r.owner.0 == owner.0

abbrev pub has_number : ℕ → Range → Bool
has_number k r = nat_le r.first k && nat_lt k (r.first + r.count)

abbrev pub range_of : List Range → DomainId → Option Range
range_of ranges owner = find (is_owned_by owner) ranges

-- ---- What is known of a number: nothing, where it wasn't given out.

abbrev pub creation_status : DomainId → Creation → CapStatus
creation_status owner c = record { owner = owner; target = c.target; revoked = c.revoked }

abbrev pub status_in : ℕ → Range → Option CapStatus
status_in k r = option_map (creation_status r.owner) (slice_get r.made (k - r.first))

abbrev pub status_of : List Range → ℕ → Option CapStatus
status_of ranges k = option_and_then (status_in k) (find (has_number k) ranges)

-- ---- The number of a domain's next creation: none, where its range is used up.

abbrev pub next_in : Range → Option ℕ
next_in r = if nat_lt (length r.made) r.count then Some (r.first + length r.made) else None

abbrev pub next_number : List Range → DomainId → Option ℕ
next_number ranges owner = option_and_then next_in (range_of ranges owner)

-- ---- What the calls make of the ranges.

-- a new range, after all others
abbrev pub admitted : List Range → DomainId → ℕ → List Range
admitted ranges owner count =
    ranges ++ record { owner = owner; first = 1 + numbers ranges; count = count; made = [] } ∷ []

-- the ranges, with those that pass the test changed
abbrev pub changed : (Range → Bool) → (Range → Range) → List Range → List Range
changed test change ranges = map (λ r. if test r then change r else r) ranges

-- one more creation, which leads to this target
abbrev pub with_creation : ℕ → Range → Range
with_creation target r = record r { made = r.made ++ record { target = target; revoked = false } ∷ [] }

abbrev pub created : List Range → DomainId → ℕ → List Range
created ranges owner target = changed (is_owned_by owner) (with_creation target) ranges

abbrev pub revoked_creation : Creation → Creation
revoked_creation c = record c { revoked = true }

-- the creation at a place revoked
abbrev pub revoked_at : List Creation → ℕ → List Creation
revoked_at [] place = []
revoked_at (c ∷ made) place = if place == 0 then revoked_creation c ∷ made else c ∷ revoked_at made (place - 1)

abbrev pub revoked : List Range → ℕ → List Range
revoked ranges k = changed (has_number k) (λ r. record r { made = revoked_at r.made (k - r.first) }) ranges

-- all of an owner's creations revoked
abbrev pub revoked_all : List Range → DomainId → List Range
revoked_all ranges owner = changed (is_owned_by owner) (λ r. record r { made = map revoked_creation r.made }) ranges
