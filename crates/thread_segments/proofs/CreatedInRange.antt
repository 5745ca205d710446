-- One more capability of a domain: its range alone is changed, and the class of the target stands at its number.
use Rattle.std.proofs.Common.{◌≡◌, ◌≢◌, ℕ, suc, ◌+◌, ◌-◌, ◌<◌, ◌≤◌, ◌⊎◌, inl, inr, Bool, true, false, List, [], ◌∷◌, ◌++◌, length, find, map, set, Option, Some, None, IsSome, Ok, Err, nat_lt, refl, sym, ap, subst, ◌∙◌, arith, length-append}
use Rattle.std.specs.Prelude.{◌==◌, if◌then◌else◌, option_and_then, option_map}
use Rattle.std.specs.List.{AllByRecursion}
use Rattle.std.proofs.lemmas.Bool.{cases_Bool, eq-eqb, eqb-true, ltb-true}
use Rattle.std.proofs.lemmas.Bool.Decides.{nat_tests}
use Rattle.std.proofs.lemmas.List.{get_or-set_other, get_or-set_same, length-set}
use Rattle.std.proofs.lemmas.List.Sums.{sum_by-cons}
use Rattle.std.proofs.lemmas.Option.{same_Some}
use Rattle.jk_model.specs.Capabilities.{Creation, Range, created, is_owned_by, next_in, next_number, numbers, range_of, with_creation}
use Rattle.jk_model.specs.declared.identifiers.CapId.{CapId}
use Rattle.jk_model.specs.declared.identifiers.ClassId.{ClassId}
use Rattle.jk_model.specs.declared.identifiers.DomainId.{DomainId}
use Rattle.jk_model.specs.declared.steps.Raise.TheVariants.{Standing}
use Rattle.jk_model.specs.declared.steps.Standing.TheVariants as Stands
use Rattle.jk_model_heaps.specs.Capabilities.{CapRange, Capability}
use Rattle.jk_model_sharing.specs.CapabilityCalls.{next_number as next_cap, with_created}
use Rattle.thread_segments.specs.ClassedRanges.{AreApart, AreChained, AreClassed, CreatesIn, IsWithinClasses, has_room_in, used_up_in, class_at, made_with, no_class, range_with, ranges_with}
use Rattle.thread_segments.proofs.StubsByClass.{find_past}
use Rattle.thread_stacks.proofs.FoundInStacks.{find_hit, find_miss, head_fails}

-- ---- Ranges after one more: they follow one another, and their owners differ.

pub chained_push : (n : ℕ) (ranges : List Range) (new : Range) → AreChained n ranges → new.first ≡ n + numbers ranges → AreChained n (ranges ++ new ∷ [])
chained_push n [] new h e = (omega (arith, e), tt)
chained_push n (r ∷ ranges) new h e =
    let sum : numbers (r ∷ ranges) ≡ r.count + numbers ranges = sum_by-cons (λ (x : Range). x.count) r ranges in
    (h.0, chained_push (n + r.count) ranges new h.1 (omega (arith, e, sum)))

owned_alike : (a b c : DomainId) (r : Range) → r.owner ≡ a → (a.0 == b.0) ≡ false → is_owned_by b r ≡ false
owned_alike a b c r e h = ap (λ (d : DomainId). d.0 == b.0) e ∙ h

other_owner : (a b : ℕ) → (a == b) ≡ false → (b == a) ≡ false
other_owner a b h = elim (cases_Bool (b == a)) [
  | inl hit ↦ let never : true ≡ false = sym (eq-eqb a b (sym (eqb-true b a hit))) ∙ h in absurd cc
  | inr miss ↦ miss
]

pub apart_push : (ranges : List Range) (new : Range) → AreApart ranges → range_of ranges new.owner ≡ None → AreApart (ranges ++ new ∷ [])
apart_push [] new h none = (refl, tt)
apart_push (r ∷ ranges) new h none =
    let head = head_fails (is_owned_by new.owner) r ranges none in
    let last : range_of (new ∷ []) r.owner ≡ None = find_miss (is_owned_by r.owner) new [] (other_owner r.owner.0 new.owner.0 head.0) in
    (find_past (is_owned_by r.owner) ranges (new ∷ []) h.0 ∙ last, apart_push ranges new h.1 head.1)

-- ---- Classes after one is set.

class_at-other : (classes : List ClassId) (m n : ℕ) (class : ClassId) → 1 ≤ m → 1 ≤ n → n ≢ m → class_at (set classes (m - 1) class) n ≡ class_at classes n
class_at-other classes m n class low_m low_n ne =
    get_or-set_other classes (m - 1) (n - 1) class no_class (λ e. ne (omega (arith, e, low_m, low_n)))

class_at-same : (classes : List ClassId) (m : ℕ) (class : ClassId) → 1 ≤ m → m ≤ length classes → class_at (set classes (m - 1) class) m ≡ class
class_at-same classes m class low high = get_or-set_same classes (m - 1) class no_class (omega arith)

not_there : (m n len : ℕ) → (m < n) ⊎ (n + suc len ≤ m) → n ≢ m
not_there m n len (inl below) e = omega arith
not_there m n len (inr above) e = omega arith

further : (m n len : ℕ) → (m < n) ⊎ (n + suc len ≤ m) → (m < suc n) ⊎ (suc n + len ≤ m)
further m n len (inl below) = inl (omega arith)
further m n len (inr above) = inr (omega arith)

made_with-other : (classes : List ClassId) (m : ℕ) (class : ClassId) (n : ℕ) (made : List Creation) → 1 ≤ m → 1 ≤ n
    → (m < n) ⊎ (n + length made ≤ m) → made_with (set classes (m - 1) class) n made ≡ made_with classes n made
made_with-other classes m class n [] low_m low_n apart = refl
made_with-other classes m class n (c ∷ made) low_m low_n apart =
    rw (
      class_at-other classes m n class low_m low_n (not_there m n (length made) apart),
      made_with-other classes m class (suc n) made low_m (omega arith) (further m n (length made) apart),
    ) refl

abbrev with_made : Range → List Capability → CapRange
with_made r made = record { owner = r.owner; first = r.first; count = r.count; made = made }

range_with-other : (classes : List ClassId) (m : ℕ) (class : ClassId) (r : Range) → 1 ≤ m → 1 ≤ r.first
    → (m < r.first) ⊎ (r.first + length r.made ≤ m) → range_with (set classes (m - 1) class) r ≡ range_with classes r
range_with-other classes m class r low_m low apart = ap (with_made r) (made_with-other classes m class r.first r.made low_m low apart)

ranges_with-past : (classes : List ClassId) (m : ℕ) (class : ClassId) (n count : ℕ) (ranges : List Range) → AreChained n ranges
    → AllByRecursion (IsWithinClasses count) ranges → 1 ≤ m → m < n → ranges_with (set classes (m - 1) class) ranges ≡ ranges_with classes ranges
ranges_with-past classes m class n count [] chain h low lt = refl
ranges_with-past classes m class n count (r ∷ ranges) chain h low lt =
    let w = h.0 in
    rw (
      range_with-other classes m class r low w.low (inl (omega (arith, chain.0))),
      ranges_with-past classes m class (n + r.count) count ranges chain.1 h.1 low (omega arith),
    ) refl

-- ---- The new one.

abbrev capability_with : List ClassId → ℕ → Creation → Capability
capability_with classes n c = record { target = c.target; class = class_at classes n; revoked = c.revoked }

made_with-push : (classes : List ClassId) (n m : ℕ) (made : List Creation) (c : Creation) → m ≡ n + length made
    → made_with classes n (made ++ c ∷ []) ≡ made_with classes n made ++ capability_with classes m c ∷ []
made_with-push classes n m [] c e = ap (λ k. capability_with classes k c ∷ []) (let same : n ≡ m = omega (arith, e) in same)
made_with-push classes n m (x ∷ made) c e =
    ap (λ xs. capability_with classes n x ∷ xs) (made_with-push classes (suc n) m made c (omega (arith, e)))

range_created : (classes : List ClassId) (m : ℕ) (class : ClassId) (target : ℕ) (r : Range) → 1 ≤ r.first → m ≡ r.first + length r.made
    → m ≤ length classes → range_with (set classes (m - 1) class) (with_creation target r) ≡ with_created class target (range_with classes r)
range_created classes m class target r low is high =
    let now : List ClassId = set classes (m - 1) class in
    let c : Creation = record { target = target; revoked = false } in
    let low_m : 1 ≤ m = omega (arith, low, is) in
    let last : ClassId → Capability = λ k. record { target = target; class = k; revoked = false } in
    ap (with_made r)
    (made_with-push now r.first m r.made c is
    ∙ ap (λ xs. xs ++ last (class_at now m) ∷ []) (made_with-other classes m class r.first r.made low_m low (inr (omega (arith, is))))
    ∙ ap (λ k. made_with classes r.first r.made ++ last k ∷ []) (class_at-same classes m class low_m high))

-- ---- All ranges.

module _ (owner : DomainId) (f : Range → Range) (g : CapRange → CapRange) where
  abbrev in_table : Range → Range
  in_table r = if is_owned_by owner r then f r else r

  abbrev in_ranges : CapRange → CapRange
  in_ranges r = if r.owner.0 == owner.0 then g r else r

  none_in_table : (ranges : List Range) → range_of ranges owner ≡ None → map in_table ranges ≡ ranges
  none_in_table [] h = refl
  none_in_table (r ∷ ranges) h =
      let head = head_fails (is_owned_by owner) r ranges h in
      rw (head.0, none_in_table ranges head.1) refl

  none_in_ranges : (classes : List ClassId) (ranges : List Range) → range_of ranges owner ≡ None
      → map in_ranges (ranges_with classes ranges) ≡ ranges_with classes ranges
  none_in_ranges classes [] h = refl
  none_in_ranges classes (r ∷ ranges) h =
      let head = head_fails (is_owned_by owner) r ranges h in
      rw (head.0, none_in_ranges classes ranges head.1) refl

chained_low : (n : ℕ) (ranges : List Range) (owner : DomainId) (r : Range) → AreChained n ranges → range_of ranges owner ≡ Some r → n ≤ r.first
chained_low n [] owner r chain h = absurd cc
chained_low n (x ∷ ranges) owner r chain h = elim (cases_Bool (is_owned_by owner x)) [
  | inl hit ↦
      let here : Some x ≡ Some r = sym (find_hit (is_owned_by owner) x ranges hit) ∙ h in
      omega (arith, chain.0, ap (λ (y : Range). y.first) (same_Some x r here))
  | inr miss ↦
      let later : range_of ranges owner ≡ Some r = sym (find_miss (is_owned_by owner) x ranges miss) ∙ h in
      omega (arith, chained_low (n + x.count) ranges owner r chain.1 later)
]

-- the owners of those behind one range are others
others_owned : (owner : DomainId) (r : Range) (ranges : List Range) → is_owned_by owner r ≡ true → range_of ranges r.owner ≡ None → range_of ranges owner ≡ None
others_owned owner r ranges hit none =
    let same : r.owner ≡ owner = ap (λ (n : ℕ). let d : DomainId = record { 0 = n } in d) (eqb-true r.owner.0 owner.0 hit) in
    subst (λ (d : DomainId). range_of ranges d ≡ None) same none

pub created_ranges : (n count : ℕ) (classes : List ClassId) (ranges : List Range) (owner : DomainId) (class : ClassId) (target m : ℕ) (r : Range)
    → AreChained n ranges → 1 ≤ n → AreApart ranges → AllByRecursion (IsWithinClasses count) ranges → count ≡ length classes
    → range_of ranges owner ≡ Some r → m ≡ r.first + length r.made → length r.made < r.count
    → ranges_with (set classes (m - 1) class) (created ranges owner target)
    ≡ map (in_ranges owner (with_creation target) (with_created class target)) (ranges_with classes ranges)
created_ranges n count classes [] owner class target m r chain low apart h size found is room = absurd cc
created_ranges n count classes (x ∷ ranges) owner class target m r chain low apart h size found is room =
    elim (cases_Bool (is_owned_by owner x)) [
      | inl hit ↦
          let here : Some x ≡ Some r = sym (find_hit (is_owned_by owner) x ranges hit) ∙ found in
          let same : x ≡ r = same_Some x r here in
          let none : range_of ranges owner ≡ None = others_owned owner x ranges hit apart.0 in
          let number : m ≡ x.first + length x.made = is ∙ ap (λ (y : Range). y.first + length y.made) (sym same) in
          let few : length x.made < x.count = subst (λ (y : Range). length y.made < y.count) (sym same) room in
          let w = h.0 in
          let high : m ≤ length classes = omega (arith, number, few, w.high, size) in
          let low_m : 1 ≤ m = omega (arith, number, w.low) in
          let rest : ranges_with (set classes (m - 1) class) (map (in_table owner (with_creation target) (with_created class target)) ranges)
          ≡ map (in_ranges owner (with_creation target) (with_created class target)) (ranges_with classes ranges) =
          ap (ranges_with (set classes (m - 1) class)) (none_in_table owner (with_creation target) (with_created class target) ranges none)
          ∙ ranges_with-past classes m class (n + x.count) count ranges chain.1 h.1 low_m (omega (arith, number, few, chain.0))
          ∙ sym (none_in_ranges owner (with_creation target) (with_created class target) classes ranges none) in
          rw (hit, rest, range_created classes m class target x w.low number high) refl
      | inr miss ↦
          let later : range_of ranges owner ≡ Some r = sym (find_miss (is_owned_by owner) x ranges miss) ∙ found in
          let behind = chained_low (n + x.count) ranges owner r chain.1 later in
          let w = h.0 in
          let rest = created_ranges (n + x.count) count classes ranges owner class target m r chain.1 (omega arith) apart.1 h.1 size later is room in
          let low_m : 1 ≤ m = omega (arith, is, behind, low) in
          rw (miss, rest, range_with-other classes m class x low_m w.low (inr (omega (arith, is, behind, w.made, chain.0)))) refl
    ]

-- ---- What is kept.

module _ (owner : DomainId) (target : ℕ) where
  abbrev step : Range → Range
  step r = if is_owned_by owner r then with_creation target r else r

  step_first : (r : Range) → (step r).first ≡ r.first
  step_first r = elim (cases_Bool (is_owned_by owner r)) [ inl hit ↦ rw hit refl | inr miss ↦ rw miss refl ]

  step_count : (r : Range) → (step r).count ≡ r.count
  step_count r = elim (cases_Bool (is_owned_by owner r)) [ inl hit ↦ rw hit refl | inr miss ↦ rw miss refl ]

  step_owner : (r : Range) → (step r).owner ≡ r.owner
  step_owner r = elim (cases_Bool (is_owned_by owner r)) [ inl hit ↦ rw hit refl | inr miss ↦ rw miss refl ]

  chained_created : (n : ℕ) (ranges : List Range) → AreChained n ranges → AreChained n (created ranges owner target)
  chained_created n [] h = tt
  chained_created n (r ∷ ranges) h =
      let P : ℕ → Type 0 = λ k. AreChained (n + k) (created ranges owner target) in
      (step_first r ∙ h.0, subst P (sym (step_count r)) (chained_created (n + r.count) ranges h.1))

  none_owned : (ranges : List Range) (d : DomainId) → range_of ranges d ≡ None → range_of (created ranges owner target) d ≡ None
  none_owned [] d h = refl
  none_owned (r ∷ ranges) d h =
      let head = head_fails (is_owned_by d) r ranges h in
      let other : is_owned_by d (step r) ≡ false = ap (λ (e : DomainId). e.0 == d.0) (step_owner r) ∙ head.0 in
      find_miss (is_owned_by d) (step r) (created ranges owner target) other ∙ none_owned ranges d head.1

  apart_created : (ranges : List Range) → AreApart ranges → AreApart (created ranges owner target)
  apart_created [] h = tt
  apart_created (r ∷ ranges) h =
      let P : DomainId → Type 0 = λ d. range_of (created ranges owner target) d ≡ None in
      (subst P (sym (step_owner r)) (none_owned ranges r.owner h.0), apart_created ranges h.1)

  numbers_created : (ranges : List Range) → numbers (created ranges owner target) ≡ numbers ranges
  numbers_created [] = refl
  numbers_created (r ∷ ranges) =
      sum_by-cons (λ (x : Range). x.count) (step r) (created ranges owner target)
      ∙ ap (λ n. n + numbers (created ranges owner target)) (step_count r)
      ∙ ap (λ n. r.count + n) (numbers_created ranges)
      ∙ sym (sum_by-cons (λ (x : Range). x.count) r ranges)

  within_created : (n : ℕ) (ranges : List Range) → AreApart ranges → (r : Range) → range_of ranges owner ≡ Some r → length r.made < r.count
      → AllByRecursion (IsWithinClasses n) ranges → AllByRecursion (IsWithinClasses n) (created ranges owner target)
  within_created n [] apart r found room h = tt
  within_created n (x ∷ ranges) apart r found room h =
      let w = h.0 in
      elim (cases_Bool (is_owned_by owner x)) [
        | inl hit ↦
            let here : Some x ≡ Some r = sym (find_hit (is_owned_by owner) x ranges hit) ∙ found in
            let few : length x.made < x.count = subst (λ (y : Range). length y.made < y.count) (sym (same_Some x r here)) room in
            let none : range_of ranges owner ≡ None = others_owned owner x ranges hit apart.0 in
            let c : Creation = record { target = target; revoked = false } in
            let rest : AllByRecursion (IsWithinClasses n) (created ranges owner target) =
            subst (λ (xs : List Range). AllByRecursion (IsWithinClasses n) xs)
            (sym (none_in_table owner (with_creation target) (with_created no_class target) ranges none)) h.1 in
            rw hit (record { low = w.low; high = w.high; made = omega (arith, few, length-append x.made (c ∷ [])) }, rest)
        | inr miss ↦
            let later : range_of ranges owner ≡ Some r = sym (find_miss (is_owned_by owner) x ranges miss) ∙ found in
            rw miss (w, within_created n ranges apart.1 r later room h.1)
      ]

  pub classed_created : (classes : List ClassId) (i : ℕ) (class : ClassId) (ranges : List Range) (r : Range) → AreClassed classes ranges
      → range_of ranges owner ≡ Some r → length r.made < r.count → AreClassed (set classes i class) (created ranges owner target)
  classed_created classes i class ranges r h found room =
      let size : length (set classes i class) ≡ length classes = length-set classes i class in
      let P : ℕ → Type 0 = λ n. AllByRecursion (IsWithinClasses n) (created ranges owner target) in
      record {
        as_many = size ∙ h.as_many ∙ sym (numbers_created ranges);
        few = omega (arith, size, h.few);
        each = subst P (sym size) (within_created (length classes) ranges h.apart r found room h.each);
        chained = chained_created 1 ranges h.chained;
        apart = apart_created ranges h.apart;
      }

-- ---- What the table answers, and what is seen then.

-- The number was given out to the owner of this range.
pub record IsMade (ranges : List Range) (owner : DomainId) (k : CapId) : Type 0 where
  pub range : Range
  pub is_range : range_of ranges owner ≡ Some range
  pub number : k.0 ≡ range.first + length range.made
  pub room : length range.made < range.count

abbrev number_as : ℕ → CapId
number_as n = record { 0 = n }

made_test : (b : Bool) (n : ℕ) (k : CapId) → Some k ≡ option_map number_as (if b then Some n else None) → (b ≡ true) × (k.0 ≡ n)
made_test true n k e = (refl, ap (λ (c : CapId). c.0) (same_Some k (number_as n) e))
made_test false n k e = absurd cc

none_test : (b : Bool) (n : ℕ) → None ≡ option_map number_as (if b then Some n else None) → b ≡ false
none_test true n e = absurd cc
none_test false n e = refl

made_by : (ranges : List Range) (owner : DomainId) (k : CapId) (o : Option Range) → range_of ranges owner ≡ o
    → Some k ≡ option_map number_as (option_and_then next_in o) → IsMade ranges owner k
made_by ranges owner k None at e = absurd cc
made_by ranges owner k (Some r) at e =
    let t = made_test (nat_lt (length r.made) r.count) (r.first + length r.made) k e in
    record { range = r; is_range = at; number = t.1; room = ltb-true (length r.made) r.count t.0 }

pub made_of : (ranges : List Range) (owner : DomainId) (k : CapId) → Some k ≡ option_map number_as (next_number ranges owner) → IsMade ranges owner k
made_of ranges owner k e = made_by ranges owner k (range_of ranges owner) refl e

full_by : (o : Option Range) (r : Range) → o ≡ Some r → None ≡ option_map number_as (option_and_then next_in o) → r.count ≤ length r.made
full_by None r at e = absurd cc
full_by (Some x) r at e =
    let f = none_test (nat_lt (length x.made) x.count) (x.first + length x.made) e in
    let many : x.count ≤ length x.made = grind (arith, nat_tests) in
    subst (λ (y : Range). y.count ≤ length y.made) (same_Some x r at) many

within_owner : (n : ℕ) (ranges : List Range) (owner : DomainId) (r : Range) → AllByRecursion (IsWithinClasses n) ranges → range_of ranges owner ≡ Some r
    → IsWithinClasses n r
within_owner n [] owner r h found = absurd cc
within_owner n (x ∷ ranges) owner r h found = elim (cases_Bool (is_owned_by owner x)) [
  | inl hit ↦
      let here : Some x ≡ Some r = sym (find_hit (is_owned_by owner) x ranges hit) ∙ found in
      subst (λ (y : Range). IsWithinClasses n y) (same_Some x r here) h.0
  | inr miss ↦ within_owner n ranges owner r h.1 (sym (find_miss (is_owned_by owner) x ranges miss) ∙ found)
]

owner_of_found : (ranges : List Range) (owner : DomainId) (r : Range) → range_of ranges owner ≡ Some r → r.owner.0 ≡ owner.0
owner_of_found [] owner r found = absurd cc
owner_of_found (x ∷ ranges) owner r found = elim (cases_Bool (is_owned_by owner x)) [
  | inl hit ↦
      let here : Some x ≡ Some r = sym (find_hit (is_owned_by owner) x ranges hit) ∙ found in
      ap (λ (y : Range). y.owner.0) (sym (same_Some x r here)) ∙ eqb-true x.owner.0 owner.0 hit
  | inr miss ↦ owner_of_found ranges owner r (sym (find_miss (is_owned_by owner) x ranges miss) ∙ found)
]

pub number_within : (classes : List ClassId) (ranges : List Range) (owner : DomainId) (k : CapId) → AreClassed classes ranges → IsMade ranges owner k
    → (1 ≤ k.0) × (k.0 ≤ length classes)
number_within classes ranges owner k h m =
    let w = within_owner (length classes) ranges owner m.range h.each m.is_range in
    (omega (arith, w.low, m.number), omega (arith, w.high, m.number, m.room))

length-made_with : (classes : List ClassId) (n : ℕ) (made : List Creation) → length (made_with classes n made) ≡ length made
length-made_with classes n [] = refl
length-made_with classes n (c ∷ made) = ap suc (length-made_with classes (suc n) made)

abbrev pub owned_cap : DomainId → CapRange → Bool
owned_cap owner r = r.owner.0 == owner.0

find_owner : (classes : List ClassId) (owner : DomainId) (ranges : List Range)
    → find (owned_cap owner) (ranges_with classes ranges) ≡ option_map (range_with classes) (range_of ranges owner)
find_owner classes owner [] = refl
find_owner classes owner (r ∷ ranges) = elim (cases_Bool (r.owner.0 == owner.0)) [
  | inl hit ↦ rw hit refl
  | inr miss ↦ rw miss (find_owner classes owner ranges)
]

some_before : {X Y : Type 0} (f : X → Y) (o : Option X) → IsSome (option_map f o) → IsSome o
some_before f None h = absurd cc
some_before f (Some x) h = refl

pub has_range : (classes : List ClassId) (owner : DomainId) (ranges : List Range) → IsSome (find (owned_cap owner) (ranges_with classes ranges))
    → IsSome (range_of ranges owner)
has_range classes owner ranges h =
    some_before (range_with classes) (range_of ranges owner)
    (subst (λ (o : Option CapRange). IsSome o) (find_owner classes owner ranges) h)

pub creates_in : (classes : List ClassId) (ranges : List Range) (owner : DomainId) (class : ClassId) (target : ℕ) (k : CapId) (r : CapRange)
    → AreClassed classes ranges → IsMade ranges owner k → find (owned_cap owner) (ranges_with classes ranges) ≡ Some r
    → CreatesIn (ranges_with classes ranges) class target r (Ok k) (ranges_with (set classes (k.0 - 1) class) (created ranges owner target))
creates_in classes ranges owner class target k r h m at =
    let caps : List CapRange = ranges_with classes ranges in
    let q : CapRange = range_with classes m.range in
    let same : q ≡ r =
    same_Some q r (sym (find_owner classes owner ranges ∙ ap (option_map (range_with classes)) m.is_range) ∙ at) in
    let size : length q.made ≡ length m.range.made = length-made_with classes m.range.first m.range.made in
    let room : length q.made < q.count = omega (arith, size, m.room) in
    let number : next_cap q ≡ k = ap number_as (let e : m.range.first + length q.made ≡ k.0 = omega (arith, size, m.number) in e) in
    let becomes : ℕ → List CapRange =
    λ n. map (λ (x : CapRange). if x.owner.0 == n then with_created class target x else x) caps in
    let made =
    created_ranges 1 (length classes) classes ranges owner class target k.0 m.range h.chained (omega arith) h.apart h.each refl m.is_range
    m.number m.room in
    let new = ap becomes (owner_of_found ranges owner m.range m.is_range) ∙ sym made in
    let P : List CapRange → Type 0 = λ xs. CreatesIn caps class target q (Ok k) xs in
    let Q : CapId → Type 0 = λ j. CreatesIn caps class target q (Ok j) (becomes q.owner.0) in
    let R : CapRange → Type 0 =
    λ x. CreatesIn caps class target x (Ok k) (ranges_with (set classes (k.0 - 1) class) (created ranges owner target)) in
    subst R same (subst P new (subst Q number (has_room_in room)))

pub creates_none : (classes : List ClassId) (ranges : List Range) (owner : DomainId) (class : ClassId) (target : ℕ) (r : CapRange)
    → None ≡ option_map number_as (next_number ranges owner) → find (owned_cap owner) (ranges_with classes ranges) ≡ Some r
    → CreatesIn (ranges_with classes ranges) class target r (Err (Standing Stands.Quota)) (ranges_with classes ranges)
creates_none classes ranges owner class target r e at = by_range (range_of ranges owner) refl
  where
    by_range : (o : Option Range) → range_of ranges owner ≡ o
        → CreatesIn (ranges_with classes ranges) class target r (Err (Standing Stands.Quota)) (ranges_with classes ranges)
    by_range None none =
        let never : None ≡ Some r = sym (find_owner classes owner ranges ∙ ap (option_map (range_with classes)) none) ∙ at in absurd cc
    by_range (Some x) there =
        let same : range_with classes x ≡ r =
        same_Some (range_with classes x) r (sym (find_owner classes owner ranges ∙ ap (option_map (range_with classes)) there) ∙ at) in
        let full : x.count ≤ length x.made = full_by (range_of ranges owner) x there e in
        let many : (range_with classes x).count ≤ length (range_with classes x).made =
        omega (arith, full, length-made_with classes x.first x.made) in
        let P : CapRange → Type 0 =
        λ y. CreatesIn (ranges_with classes ranges) class target y (Err (Standing Stands.Quota)) (ranges_with classes ranges) in
        subst P same (used_up_in many)
