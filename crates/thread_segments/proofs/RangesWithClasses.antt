-- What is known of a capability, read from the table and from the list of classes; and ranges after one more.
use Rattle.std.proofs.Common.{◌≡◌, ℕ, zero, suc, ◌+◌, ◌-◌, ◌<◌, ◌≤◌, inl, inr, true, List, [], ◌∷◌, ◌++◌, length, find, replicate, Option, Some, None, slice_get, nat_le, nat_lt, refl, sym, ap, ◌∙◌, arith, length-append}
use Rattle.std.specs.Prelude.{◌==◌, option_and_then, option_map}
use Rattle.std.specs.List.{AllByRecursion}
use Rattle.std.proofs.lemmas.Bool.{cases_Bool, and_parts}
use Rattle.std.proofs.lemmas.Bool.Decides.{nat_tests}
use Rattle.std.proofs.lemmas.List.{get_or_append_left, length-replicate, map-append}
use Rattle.std.proofs.lemmas.List.Sums.{sum_by-append, sum_by-cons}
use Rattle.std.proofs.lemmas.Option.{slice_get_within}
use Rattle.jk_model.specs.Capabilities.{Creation, Range, admitted, last_number, numbers, range_of}
use Rattle.jk_model.specs.Capabilities as low
use Rattle.jk_model.specs.declared.capabilities.CapStatus.{CapStatus}
use Rattle.jk_model.specs.declared.identifiers.CapId.{CapId}
use Rattle.jk_model.specs.declared.identifiers.ClassId.{ClassId}
use Rattle.jk_model.specs.declared.identifiers.DomainId.{DomainId}
use Rattle.jk_model_heaps.specs.Capabilities.{CapRange, Capability, OwnedCapability, capability_numbered, has_number}
use Rattle.jk_model_sharing.specs.CapabilityCalls.{count_numbers, first_range, status_of}
use Rattle.list_lemmas.proofs.LastItems.{each-append}
use Rattle.thread_segments.proofs.CreatedInRange.{apart_push, chained_push}
use Rattle.thread_segments.specs.ClassedRanges.{AreClassed, IsWithinClasses, class_at, made_with, no_class, range_with, ranges_with}

-- ---- Ranges by number and by owner.

find-ranges_with : (classes : List ClassId) (k : CapId) (ranges : List Range)
    → find (has_number k) (ranges_with classes ranges) ≡ option_map (range_with classes) (find (low.has_number k.0) ranges)
find-ranges_with classes k [] = refl
find-ranges_with classes k (r ∷ ranges) =
    elim (cases_Bool (low.has_number k.0 r)) [
      | inl hit ↦ rw hit refl
      | inr miss ↦ rw miss (find-ranges_with classes k ranges)
    ]

pub none_of : (classes : List ClassId) (owner : DomainId) (ranges : List Range)
    → find (λ (r : CapRange). r.owner.0 == owner.0) (ranges_with classes ranges) ≡ None → range_of ranges owner ≡ None
none_of classes owner [] e = refl
none_of classes owner (r ∷ ranges) e =
    elim (cases_Bool (r.owner.0 == owner.0)) [
      | inl hit ↦ let never : Some (range_with classes r) ≡ None = rw hit at e in absurd cc
      | inr miss ↦ rw miss (none_of classes owner ranges (rw miss at e))
    ]

pub count_numbers-ranges_with : (classes : List ClassId) (ranges : List Range) → count_numbers (ranges_with classes ranges) ≡ numbers ranges
count_numbers-ranges_with classes [] = refl
count_numbers-ranges_with classes (r ∷ ranges) =
    sum_by-cons (λ (x : CapRange). x.count) (range_with classes r) (ranges_with classes ranges)
    ∙ ap (λ n. r.count + n) (count_numbers-ranges_with classes ranges)
    ∙ sym (sum_by-cons (λ (x : Range). x.count) r ranges)

-- ---- One capability.

abbrev capability_with : List ClassId → ℕ → Creation → Capability
capability_with classes n c = record { target = c.target; class = class_at classes n; revoked = c.revoked }

slice_get-made_with : (classes : List ClassId) (n j : ℕ) (made : List Creation)
    → slice_get (made_with classes n made) j ≡ option_map (capability_with classes (n + j)) (slice_get made j)
slice_get-made_with classes n j [] = refl
slice_get-made_with classes n zero (c ∷ made) = ap (λ k. Some (capability_with classes k c)) (let e : n ≡ n + 0 = omega arith in e)
slice_get-made_with classes n (suc j) (c ∷ made) =
    slice_get-made_with classes (suc n) j made
    ∙ ap (λ k. option_map (capability_with classes k) (slice_get made j)) (let e : suc n + j ≡ n + suc j = omega arith in e)

abbrev owned_with : List ClassId → ℕ → Range → Creation → OwnedCapability
owned_with classes n r c = record { owner = r.owner; capability = capability_with classes n c }

numbered-found : (classes : List ClassId) (k : CapId) (ranges : List Range) (o : Option Range) → find (low.has_number k.0) ranges ≡ o
    → capability_numbered (ranges_with classes ranges) k
    ≡ option_and_then (λ (r : Range). option_map (owned_with classes (r.first + (k.0 - r.first)) r) (slice_get r.made (k.0 - r.first))) o
numbered-found classes k ranges None e = rw (find-ranges_with classes k ranges, e) refl
numbered-found classes k ranges (Some r) e =
    rw (find-ranges_with classes k ranges, e, slice_get-made_with classes r.first (k.0 - r.first) r.made) (twice (slice_get r.made (k.0 - r.first)))
  where
    twice : (o : Option Creation)
        → option_map (λ (c : Capability). let x : OwnedCapability = record { owner = r.owner; capability = c } in x)
        (option_map (capability_with classes (r.first + (k.0 - r.first))) o)
        ≡ option_map (owned_with classes (r.first + (k.0 - r.first)) r) o
    twice None = refl
    twice (Some c) = refl

-- what a search found passes
found_passes : (k : ℕ) (ranges : List Range) (r : Range) → find (low.has_number k) ranges ≡ Some r → low.has_number k r ≡ true
found_passes k [] r e = absurd cc
found_passes k (x ∷ ranges) r e =
    elim (cases_Bool (low.has_number k x)) [
      | inl hit ↦ let here : Some x ≡ Some r = rw hit at e in let same : x ≡ r = cc in ap (low.has_number k) (sym same) ∙ hit
      | inr miss ↦ found_passes k ranges r (rw miss at e)
    ]

begins_below : (k : ℕ) (r : Range) → low.has_number k r ≡ true → r.first ≤ k
begins_below k r e =
    let first : nat_le r.first k ≡ true = (and_parts (nat_le r.first k) (nat_lt k (r.first + r.count)) e).0 in
    grind (arith, nat_tests)

status-numbered : (classes : List ClassId) (k : CapId) (r : Range) (n : ℕ) (o : Option Creation)
    → option_map status_of (option_map (owned_with classes n r) o) ≡ option_map (low.creation_status r.owner) o
status-numbered classes k r n None = refl
status-numbered classes k r n (Some c) = refl

pub status_is : (classes : List ClassId) (k : CapId) (ranges : List Range)
    → low.status_of ranges k.0 ≡ option_map status_of (capability_numbered (ranges_with classes ranges) k)
status_is classes k ranges = by_range (find (low.has_number k.0) ranges) refl
  where
    by_range : (o : Option Range) → find (low.has_number k.0) ranges ≡ o
        → low.status_of ranges k.0 ≡ option_map status_of (capability_numbered (ranges_with classes ranges) k)
    by_range None e = rw (numbered-found classes k ranges None e, e) refl
    by_range (Some r) e =
        rw (numbered-found classes k ranges (Some r) e, e)
        (sym (status-numbered classes k r (r.first + (k.0 - r.first)) (slice_get r.made (k.0 - r.first))))

class_in : OwnedCapability → ClassId
class_in c = c.capability.class

-- The capability was given out: its number has a place among the classes.
pub record HasClass (classes : List ClassId) (caps : List CapRange) (k : CapId) : Type 0 where
  pub low : 1 ≤ k.0
  pub high : k.0 ≤ length classes
  pub is : option_map (λ (c : OwnedCapability). c.capability.class) (capability_numbered caps k) ≡ Some (class_at classes k.0)

within_of : (n k : ℕ) (ranges : List Range) (r : Range) → AllByRecursion (IsWithinClasses n) ranges → find (low.has_number k) ranges ≡ Some r
    → IsWithinClasses n r
within_of n k [] r h e = absurd cc
within_of n k (x ∷ ranges) r h e =
    elim (cases_Bool (low.has_number k x)) [
      | inl hit ↦
          let here : Some x ≡ Some r = rw hit at e in
          let same : x ≡ r = cc in
          rw (← same) h.0
      | inr miss ↦ within_of n k ranges r h.1 (rw miss at e)
    ]

pub class_is : (classes : List ClassId) (k : CapId) (ranges : List Range) (s : CapStatus) → AreClassed classes ranges → low.status_of ranges k.0 ≡ Some s
    → HasClass classes (ranges_with classes ranges) k
class_is classes k ranges s h e = by_range (find (low.has_number k.0) ranges) refl
  where
    by_range : (o : Option Range) → find (low.has_number k.0) ranges ≡ o → HasClass classes (ranges_with classes ranges) k
    by_range None at = let never : None ≡ Some s = rw at at e in absurd cc
    by_range (Some r) at = by_made (slice_get r.made (k.0 - r.first)) refl
      where
        begins : r.first ≤ k.0
        begins = begins_below k.0 r (found_passes k.0 ranges r at)

        by_made : (o : Option Creation) → slice_get r.made (k.0 - r.first) ≡ o → HasClass classes (ranges_with classes ranges) k
        by_made None none =
            let never : None ≡ Some s = rw (at, none) at e in absurd cc
        by_made (Some c) made =
            let w = within_of (length classes) k.0 ranges r h.each at in
            let there : k.0 - r.first < length r.made = slice_get_within r.made (k.0 - r.first) c made in
            let same : r.first + (k.0 - r.first) ≡ k.0 = omega (arith, begins) in
            record {
              low = omega (arith, w.low, begins);
              high = omega (arith, w.high, w.made, there, begins);
              is = rw (numbered-found classes k ranges (Some r) at, made, same) refl;
            }

pub class_none : (classes : List ClassId) (k : CapId) (ranges : List Range) → low.status_of ranges k.0 ≡ None
    → option_map (λ (c : OwnedCapability). c.capability.class) (capability_numbered (ranges_with classes ranges) k) ≡ None
class_none classes k ranges e = nothing (capability_numbered (ranges_with classes ranges) k) (sym (status_is classes k ranges) ∙ e)
  where
    nothing : (o : Option OwnedCapability) → option_map status_of o ≡ None → option_map (λ (c : OwnedCapability). c.capability.class) o ≡ None
    nothing None h = refl
    nothing (Some c) h = absurd cc

-- ---- One more range, and classes for its numbers.

class_at-longer : (classes more : List ClassId) (n : ℕ) → 1 ≤ n → n ≤ length classes → class_at (classes ++ more) n ≡ class_at classes n
class_at-longer classes more n low high = get_or_append_left classes more no_class (n - 1) (omega arith)

made_with-longer : (classes more : List ClassId) (n : ℕ) (made : List Creation) → 1 ≤ n → n + length made ≤ 1 + length classes
    → made_with (classes ++ more) n made ≡ made_with classes n made
made_with-longer classes more n [] low high = refl
made_with-longer classes more n (c ∷ made) low high =
    rw (class_at-longer classes more n low (omega arith), made_with-longer classes more (suc n) made (omega arith) (omega arith)) refl

ranges_with-longer : (classes more : List ClassId) (ranges : List Range) → AllByRecursion (IsWithinClasses (length classes)) ranges
    → ranges_with (classes ++ more) ranges ≡ ranges_with classes ranges
ranges_with-longer classes more [] h = refl
ranges_with-longer classes more (r ∷ ranges) h =
    let w = h.0 in
    rw (
      made_with-longer classes more r.first r.made w.low (omega (arith, w.high, w.made)),
      ranges_with-longer classes more ranges h.1,
    ) refl

pub ranges_with-admitted : (classes : List ClassId) (ranges : List Range) (owner : DomainId) (count : ℕ) → AreClassed classes ranges
    → ranges_with (classes ++ replicate count no_class) (admitted ranges owner count)
    ≡ ranges_with classes ranges ++ first_range (ranges_with classes ranges) owner count ∷ []
ranges_with-admitted classes ranges owner count h =
    let more = classes ++ replicate count no_class in
    let new : Range = record { owner = owner; first = 1 + numbers ranges; count = count; made = [] } in
    map-append (range_with more) ranges (new ∷ [])
    ∙ rw (ranges_with-longer classes (replicate count no_class) ranges h.each, count_numbers-ranges_with classes ranges) refl

more_within : (n m : ℕ) (ranges : List Range) → n ≤ m → AllByRecursion (IsWithinClasses n) ranges → AllByRecursion (IsWithinClasses m) ranges
more_within n m [] le h = tt
more_within n m (r ∷ ranges) le h =
    let w = h.0 in (record { low = w.low; high = omega (arith, w.high); made = w.made }, more_within n m ranges le h.1)

pub classed_admitted : (classes : List ClassId) (ranges : List Range) (owner : DomainId) (count : ℕ) → AreClassed classes ranges
    → numbers ranges + count ≤ last_number → range_of ranges owner ≡ None → AreClassed (classes ++ replicate count no_class) (admitted ranges owner count)
classed_admitted classes ranges owner count h few none =
    let new : Range = record { owner = owner; first = 1 + numbers ranges; count = count; made = [] } in
    let size : length (classes ++ replicate count no_class) ≡ length classes + count =
    length-append classes (replicate count no_class) ∙ ap (λ n. length classes + n) (length-replicate count no_class) in
    let sum : numbers (ranges ++ new ∷ []) ≡ numbers ranges + count =
    sum_by-append (λ (r : Range). r.count) ranges (new ∷ [])
    ∙ ap (λ n. numbers ranges + n) (let e : 0 + count ≡ count = omega arith in e) in
    record {
      as_many = omega (arith, size, sum, h.as_many);
      few = omega (arith, size, h.as_many, few);
      each =
          each-append (IsWithinClasses (length (classes ++ replicate count no_class))) ranges (new ∷ [])
          (more_within (length classes) (length (classes ++ replicate count no_class)) ranges (omega (arith, size)) h.each)
          (record { low = omega arith; high = omega (arith, size, h.as_many); made = omega arith }, tt);
      chained = chained_push 1 ranges new h.chained refl;
      apart = apart_push ranges new h.apart none;
    }
