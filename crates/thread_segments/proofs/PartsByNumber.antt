-- The capabilities number by number are those of the ranges in their order.
use Rattle.std.proofs.Common.{◌≡◌, ℕ, zero, suc, ◌+◌, ◌-◌, ◌<◌, ◌≤◌, true, false, List, [], ◌∷◌, ◌++◌, length, map, option_map, Option, Some, None, slice_get, refl, sym, ap, ◌∙◌, arith, append-nil}
use Rattle.std.specs.List.{AllByRecursion, enumerate_from, flat_map}
use Rattle.std.specs.Option.{option_map_or}
use Rattle.std.proofs.lemmas.Grind.{flat_map-append}
use Rattle.std.proofs.lemmas.List.Sums.{sum_by-cons}
use Rattle.std.proofs.lemmas.Option.{same_Some}
use Rattle.jk_model.specs.Capabilities.{Creation, Range}
use Rattle.jk_model.specs.declared.capabilities.CapStatus.{CapStatus}
use Rattle.jk_model.specs.declared.identifiers.CapId.{CapId}
use Rattle.jk_model.specs.declared.identifiers.ClassId.{ClassId}
use Rattle.jk_model_heaps.specs.Capabilities.{CapRange, Capability, OwnedCapability, capability_in, has_number}
use Rattle.jk_model_sharing.specs.CapabilityCalls.{count_numbers, status_of}
use Rattle.thread_segments.specs.declared.parts.CapPart.{CapPart}
use Rattle.thread_segments.specs.ClassedRanges.{AreChained, AreClassed, IsWithinClasses, made_with, ranges_with}
use Rattle.thread_segments.specs.StateParts.{cap_part, cap_parts, owned_part, part_at}
use Rattle.thread_segments.proofs.RangesWithClasses.{count_numbers-ranges_with}

-- ---- Numbers.

abbrev pub numbers_from : ℕ → ℕ → List ℕ
numbers_from a zero = []
numbers_from a (suc m) = a ∷ numbers_from (suc a) m

pub numbers_more : (a m : ℕ) → numbers_from a (suc m) ≡ numbers_from a m ++ (a + m) ∷ []
numbers_more a zero = ap (λ (n : ℕ). n ∷ []) (let z : a ≡ a + 0 = omega arith in z)
numbers_more a (suc m) =
    ap (λ (ns : List ℕ). a ∷ ns)
    (numbers_more (suc a) m ∙ ap (λ (n : ℕ). numbers_from (suc a) m ++ n ∷ []) (let z : suc a + m ≡ a + suc m = omega arith in z))

numbers_parted : (a m n : ℕ) → numbers_from a (m + n) ≡ numbers_from a m ++ numbers_from (a + m) n
numbers_parted a zero n =
    ap (λ (k : ℕ). numbers_from a k) (let z : 0 + n ≡ n = omega arith in z)
    ∙ ap (λ (b : ℕ). numbers_from b n) (let z : a ≡ a + 0 = omega arith in z)
numbers_parted a (suc m) n =
    ap (λ (k : ℕ). numbers_from a k) (let z : suc m + n ≡ suc (m + n) = omega arith in z)
    ∙ ap (λ (ns : List ℕ). a ∷ ns)
    (numbers_parted (suc a) m n ∙ ap (λ (b : ℕ). numbers_from (suc a) m ++ numbers_from b n) (let z : suc a + m ≡ a + suc m = omega arith in z))

module _ {X : Type 0} (f g : ℕ → List X) where
  same_from : (a m : ℕ) → ((k : ℕ) → a ≤ k → k < a + m → f k ≡ g k) → flat_map f (numbers_from a m) ≡ flat_map g (numbers_from a m)
  same_from a zero h = refl
  same_from a (suc m) h =
      ap (λ (xs : List X). xs ++ flat_map f (numbers_from (suc a) m)) (h a (omega arith) (omega arith))
      ∙ ap (λ (xs : List X). g a ++ xs) (same_from (suc a) m (λ k low high. h k (omega (arith, low)) (omega (arith, high))))

-- ---- One range.

abbrev part_in : CapRange → ℕ → List CapPart
part_in r n =
    option_map_or (λ (o : OwnedCapability). owned_part (record { 0 = n }) o ∷ []) (capability_in (record { 0 = n }) r) []

-- how a capability at a place of its range is a part
made_part : (r : CapRange) (n j : ℕ) (o : Option Capability) → slice_get r.made j ≡ o → n ≡ r.first + j
    → part_in r n ≡ option_map_or (λ (c : Capability). cap_part r (j, c) ∷ []) o []
made_part r n j o at is =
    ap (λ (q : Option Capability). option_map_or (λ (w : OwnedCapability). owned_part (record { 0 = n }) w ∷ [])
    (option_map (λ (c : Capability). record { owner = r.owner; capability = c }) q) []) there
    ∙ by_option o
  where
    there : slice_get r.made (n - r.first) ≡ o
    there = ap (λ (k : ℕ). slice_get r.made k) (let z : n - r.first ≡ j = omega (arith, is) in z) ∙ at

    by_option : (q : Option Capability)
        → option_map_or (λ (w : OwnedCapability). owned_part (record { 0 = n }) w ∷ [])
        (option_map (λ (c : Capability). record { owner = r.owner; capability = c }) q) []
        ≡ option_map_or (λ (c : Capability). cap_part r (j, c) ∷ []) q []
    by_option None = refl
    by_option (Some c) = ap (λ (m : ℕ). owned_part (record { 0 = m }) (record { owner = r.owner; capability = c }) ∷ []) is

range_parts : (r : CapRange) (j m a : ℕ) (xs : List Capability) → a ≡ r.first + j → ((i : ℕ) → slice_get r.made (j + i) ≡ slice_get xs i)
    → length xs ≤ m → flat_map (part_in r) (numbers_from a m) ≡ map (cap_part r) (enumerate_from j xs)
range_parts r j zero a [] is h few = refl
range_parts r j zero a (x ∷ xs) is h few = absurd (omega (arith, few))
range_parts r j (suc m) a [] is h few =
    ap (λ (ps : List CapPart). ps ++ flat_map (part_in r) (numbers_from (suc a) m))
    (made_part r a j None (ap (λ (k : ℕ). slice_get r.made k) (let z : j ≡ j + 0 = omega arith in z) ∙ h 0) is)
    ∙ range_parts r (suc j) m (suc a) [] (omega (arith, is))
    (λ i. ap (λ (k : ℕ). slice_get r.made k) (let z : suc j + i ≡ j + suc i = omega arith in z) ∙ h (suc i)) (omega arith)
range_parts r j (suc m) a (x ∷ xs) is h few =
    ap (λ (ps : List CapPart). ps ++ flat_map (part_in r) (numbers_from (suc a) m))
    (made_part r a j (Some x) (ap (λ (k : ℕ). slice_get r.made k) (let z : j ≡ j + 0 = omega arith in z) ∙ h 0) is)
    ∙ ap (λ (ps : List CapPart). cap_part r (j, x) ∷ ps)
    (range_parts r (suc j) m (suc a) xs (omega (arith, is))
    (λ i. ap (λ (k : ℕ). slice_get r.made k) (let z : suc j + i ≡ j + suc i = omega arith in z) ∙ h (suc i)) (omega (arith, few)))
    ∙ ap (λ (k : ℕ). cap_part r (j, x) ∷ map (cap_part r) (enumerate_from k xs)) (let z : suc j ≡ j + 1 = omega arith in z)

-- ---- All ranges.

abbrev InTurn : ℕ → List CapRange → Type 0
InTurn a [] = Unit {0}
InTurn a (r ∷ caps) = (r.first ≡ a) × (length r.made ≤ r.count) × InTurn (a + r.count) caps

at_first : (r : CapRange) (caps : List CapRange) (k : ℕ) → r.first ≤ k → k < r.first + r.count → part_at (r ∷ caps) k ≡ part_in r k
at_first r caps k low high =
    let hit : has_number (record { 0 = k }) r ≡ true = grind (arith, low, high) in
    rw hit refl

at_later : (r : CapRange) (caps : List CapRange) (k : ℕ) → r.first + r.count ≤ k → part_at (r ∷ caps) k ≡ part_at caps k
at_later r caps k low =
    let miss : has_number (record { 0 = k }) r ≡ false = grind (arith, low) in
    rw miss refl

parts_in_turn : (a : ℕ) (caps : List CapRange) → InTurn a caps
    → flat_map (part_at caps) (numbers_from a (count_numbers caps)) ≡ flat_map cap_parts caps
parts_in_turn a [] h = refl
parts_in_turn a (r ∷ caps) h =
    ap (λ (m : ℕ). flat_map (part_at (r ∷ caps)) (numbers_from a m)) (sum_by-cons (λ (x : CapRange). x.count) r caps)
    ∙ ap (λ (ns : List ℕ). flat_map (part_at (r ∷ caps)) ns) (numbers_parted a r.count (count_numbers caps))
    ∙ flat_map-append (part_at (r ∷ caps)) (numbers_from a r.count) (numbers_from (a + r.count) (count_numbers caps))
    ∙ ap (λ (ps : List CapPart). ps ++ flat_map (part_at (r ∷ caps)) (numbers_from (a + r.count) (count_numbers caps))) first
    ∙ ap (λ (ps : List CapPart). cap_parts r ++ ps) (later ∙ parts_in_turn (a + r.count) caps h.2)
  where
    first : flat_map (part_at (r ∷ caps)) (numbers_from a r.count) ≡ cap_parts r
    first =
        same_from (part_at (r ∷ caps)) (part_in r) a r.count (λ k low high. at_first r caps k (omega (arith, low, h.0)) (omega (arith, high, h.0)))
        ∙ range_parts r 0 r.count a r.made (omega (arith, h.0)) (λ i. ap (λ (k : ℕ). slice_get r.made k) (let z : 0 + i ≡ i = omega arith in z)) h.1

    later : flat_map (part_at (r ∷ caps)) (numbers_from (a + r.count) (count_numbers caps))
        ≡ flat_map (part_at caps) (numbers_from (a + r.count) (count_numbers caps))
    later = same_from (part_at (r ∷ caps)) (part_at caps) (a + r.count) (count_numbers caps) (λ k low high. at_later r caps k (omega (arith, low, h.0)))

length-made_with : (classes : List ClassId) (n : ℕ) (made : List Creation) → length (made_with classes n made) ≡ length made
length-made_with classes n [] = refl
length-made_with classes n (c ∷ made) = ap suc (length-made_with classes (suc n) made)

in_turn : (classes : List ClassId) (n a : ℕ) (ranges : List Range) → AreChained a ranges → AllByRecursion (IsWithinClasses n) ranges
    → InTurn a (ranges_with classes ranges)
in_turn classes n a [] c w = tt
in_turn classes n a (r ∷ ranges) c w = (
  c.0,
  omega (arith, length-made_with classes r.first r.made, (w.0).made),
  in_turn classes n (a + r.count) ranges c.1 w.1,
)

pub all_parts : (classes : List ClassId) (ranges : List Range) → AreClassed classes ranges
    → flat_map (part_at (ranges_with classes ranges)) (numbers_from 1 (length classes)) ≡ flat_map cap_parts (ranges_with classes ranges)
all_parts classes ranges h =
    ap (λ (m : ℕ). flat_map (part_at (ranges_with classes ranges)) (numbers_from 1 m)) (h.as_many ∙ sym (count_numbers-ranges_with classes ranges))
    ∙ parts_in_turn 1 (ranges_with classes ranges) (in_turn classes (length classes) 1 ranges h.chained h.each)

-- ---- One number more.

pub part_more : (caps : List CapRange) (n : ℕ) (parts more : List CapPart) → parts ≡ flat_map (part_at caps) (numbers_from 1 n)
    → more ≡ parts ++ part_at caps (n + 1) → more ≡ flat_map (part_at caps) (numbers_from 1 (n + 1))
part_more caps n parts more so_far becomes =
    becomes
    ∙ ap (λ (ps : List CapPart). ps ++ part_at caps (n + 1)) so_far
    ∙ ap (λ (ps : List CapPart). flat_map (part_at caps) (numbers_from 1 n) ++ ps) one
    ∙ sym (flat_map-append (part_at caps) (numbers_from 1 n) ((1 + n) ∷ []))
    ∙ sym (ap (λ (ns : List ℕ). flat_map (part_at caps) ns) (numbers_more 1 n))
    ∙ ap (λ (m : ℕ). flat_map (part_at caps) (numbers_from 1 m)) (let z : suc n ≡ n + 1 = omega arith in z)
  where
    one : part_at caps (n + 1) ≡ flat_map (part_at caps) ((1 + n) ∷ [])
    one = ap (λ (m : ℕ). part_at caps m) (let z : n + 1 ≡ 1 + n = omega arith in z) ∙ sym (append-nil (part_at caps (1 + n)))

-- what the table says of a number, and the class at it
pub part_is : (o : Option OwnedCapability) (k : CapId) (s : CapStatus) (class : ClassId) → Some s ≡ option_map status_of o
    → option_map (λ (c : OwnedCapability). c.capability.class) o ≡ Some class
    → Some (let p : CapPart = record { number = k; owner = s.owner; target = s.target; revoked = s.revoked; class = class } in p)
    ≡ option_map (owned_part k) o
part_is None k s class is at = absurd cc
part_is (Some c) k s class is at =
    let status : s ≡ status_of c = same_Some s (status_of c) is in
    let same : c.capability.class ≡ class = same_Some (c.capability.class) class at in
    rw (status, ← same) refl

pub part_none : (o : Option OwnedCapability) (k : CapId) → None ≡ option_map status_of o → None ≡ option_map (owned_part k) o
part_none None k is = refl
part_none (Some c) k is = absurd cc
