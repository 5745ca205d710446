-- Where capabilities are revoked in the table, they are so in what is seen of it.
use Rattle.std.proofs.Common.{◌≡◌, ℕ, suc, ◌+◌, ◌-◌, inl, inr, List, [], ◌∷◌, length, map, None, IsSome, refl, sym, ap, ◌∙◌, subst, arith}
use Rattle.std.specs.Prelude.{◌==◌, if◌then◌else◌}
use Rattle.std.specs.List.{AllByRecursion}
use Rattle.std.proofs.lemmas.Bool.{cases_Bool}
use Rattle.std.proofs.lemmas.List.{length-map}
use Rattle.std.proofs.lemmas.List.Sums.{sum_by-cons}
use Rattle.jk_model.specs.Capabilities.{Creation, Range, is_owned_by, numbers, range_of}
use Rattle.jk_model.specs.Capabilities as low
use Rattle.jk_model.specs.declared.identifiers.CapId.{CapId}
use Rattle.jk_model.specs.declared.identifiers.ClassId.{ClassId}
use Rattle.jk_model.specs.declared.identifiers.DomainId.{DomainId}
use Rattle.jk_model_heaps.specs.Capabilities.{CapRange, IsGivenOut, has_number}
use Rattle.jk_model_sharing.specs.CapabilityCalls.{revoked_at, revoked_capability}
use Rattle.thread_segments.specs.ClassedRanges.{AreApart, AreChained, AreClassed, IsWithinClasses, made_with, range_with, ranges_with, revoked_in, all_revoked_in}
use Rattle.thread_segments.proofs.RangesWithClasses.{status_is}
use Rattle.thread_stacks.proofs.FoundInStacks.{find_miss, head_fails}

-- ---- Ranges changed, but for their owners and numbers.

pub record KeepsNumbers (f : Range → Range) : Type 0 where
  pub owner : (r : Range) → (f r).owner ≡ r.owner
  pub first : (r : Range) → (f r).first ≡ r.first
  pub count : (r : Range) → (f r).count ≡ r.count
  pub made : (r : Range) → length (f r).made ≡ length r.made

module _ (f : Range → Range) (k : KeepsNumbers f) where
  numbers_kept : (ranges : List Range) → numbers (map f ranges) ≡ numbers ranges
  numbers_kept [] = refl
  numbers_kept (r ∷ ranges) =
      sum_by-cons (λ (x : Range). x.count) (f r) (map f ranges)
      ∙ ap (λ n. n + numbers (map f ranges)) (k.count r)
      ∙ ap (λ n. r.count + n) (numbers_kept ranges)
      ∙ sym (sum_by-cons (λ (x : Range). x.count) r ranges)

  within_kept : (n : ℕ) (ranges : List Range) → AllByRecursion (IsWithinClasses n) ranges → AllByRecursion (IsWithinClasses n) (map f ranges)
  within_kept n [] h = tt
  within_kept n (r ∷ ranges) h =
      let w = h.0 in (
        record { low = omega (arith, w.low, k.first r); high = omega (arith, w.high, k.first r, k.count r); made = omega (arith, w.made, k.made r, k.count r) },
        within_kept n ranges h.1,
      )

  chained_kept : (n : ℕ) (ranges : List Range) → AreChained n ranges → AreChained n (map f ranges)
  chained_kept n [] h = tt
  chained_kept n (r ∷ ranges) h =
      let P : ℕ → Type 0 = λ c. AreChained (n + c) (map f ranges) in
      (k.first r ∙ h.0, subst P (sym (k.count r)) (chained_kept (n + r.count) ranges h.1))

  unowned_kept : (ranges : List Range) (d : DomainId) → range_of ranges d ≡ None → range_of (map f ranges) d ≡ None
  unowned_kept [] d h = refl
  unowned_kept (r ∷ ranges) d h =
      let head = head_fails (is_owned_by d) r ranges h in
      let other = ap (λ (e : DomainId). e.0 == d.0) (k.owner r) ∙ head.0 in
      find_miss (is_owned_by d) (f r) (map f ranges) other ∙ unowned_kept ranges d head.1

  apart_kept : (ranges : List Range) → AreApart ranges → AreApart (map f ranges)
  apart_kept [] h = tt
  apart_kept (r ∷ ranges) h =
      let P : DomainId → Type 0 = λ d. range_of (map f ranges) d ≡ None in
      (subst P (sym (k.owner r)) (unowned_kept ranges r.owner h.0), apart_kept ranges h.1)

  pub classed_kept : (classes : List ClassId) (ranges : List Range) → AreClassed classes ranges → AreClassed classes (map f ranges)
  classed_kept classes ranges h = record {
    as_many = h.as_many ∙ sym (numbers_kept ranges);
    few = h.few;
    each = within_kept (length classes) ranges h.each;
    chained = chained_kept 1 ranges h.chained;
    apart = apart_kept ranges h.apart;
  }

pub ranges_with-mapped : (classes : List ClassId) (f : Range → Range) (g : CapRange → CapRange) (ranges : List Range)
    → ((r : Range) → range_with classes (f r) ≡ g (range_with classes r)) → ranges_with classes (map f ranges) ≡ map g (ranges_with classes ranges)
ranges_with-mapped classes f g [] same = refl
ranges_with-mapped classes f g (r ∷ ranges) same = rw (same r, ranges_with-mapped classes f g ranges same) refl

-- ---- One is revoked.

abbrev revokes_in_table : CapId → Range → Range
revokes_in_table k r = if low.has_number k.0 r then record r { made = low.revoked_at r.made (k.0 - r.first) } else r

length-revoked : (made : List Creation) (place : ℕ) → length (low.revoked_at made place) ≡ length made
length-revoked [] place = refl
length-revoked (c ∷ made) place = elim (cases_Bool (place == 0)) [
  | inl hit ↦ rw hit refl
  | inr miss ↦ rw miss (ap suc (length-revoked made (place - 1)))
]

pub revoked_keeps : (k : CapId) → KeepsNumbers (revokes_in_table k)
revoked_keeps k = record {
  owner = λ r. elim (cases_Bool (low.has_number k.0 r)) [ inl hit ↦ rw hit refl | inr miss ↦ rw miss refl ];
  first = λ r. elim (cases_Bool (low.has_number k.0 r)) [ inl hit ↦ rw hit refl | inr miss ↦ rw miss refl ];
  count = λ r. elim (cases_Bool (low.has_number k.0 r)) [ inl hit ↦ rw hit refl | inr miss ↦ rw miss refl ];
  made = λ r. elim (cases_Bool (low.has_number k.0 r)) [
    | inl hit ↦ rw hit (length-revoked r.made (k.0 - r.first))
    | inr miss ↦ rw miss refl
  ];
}

made_with-revoked : (classes : List ClassId) (n : ℕ) (made : List Creation) (place : ℕ)
    → made_with classes n (low.revoked_at made place) ≡ revoked_at (made_with classes n made) place
made_with-revoked classes n [] place = refl
made_with-revoked classes n (c ∷ made) place = elim (cases_Bool (place == 0)) [
  | inl hit ↦ rw hit refl
  | inr miss ↦ rw (miss, made_with-revoked classes (suc n) made (place - 1)) refl
]

range_revoked : (classes : List ClassId) (k : CapId) (r : Range) → range_with classes (revokes_in_table k r) ≡ revoked_in k (range_with classes r)
range_revoked classes k r = elim (cases_Bool (low.has_number k.0 r)) [
  | inl hit ↦ rw (hit, made_with-revoked classes r.first r.made (k.0 - r.first)) refl
  | inr miss ↦ rw miss refl
]

pub ranges_revoked : (classes : List ClassId) (k : CapId) (ranges : List Range)
    → ranges_with classes (low.revoked ranges k.0) ≡ map (revoked_in k) (ranges_with classes ranges)
ranges_revoked classes k ranges = ranges_with-mapped classes (revokes_in_table k) (revoked_in k) ranges (range_revoked classes k)

-- the table knows what was given out
pub known_in_table : (classes : List ClassId) (k : CapId) (ranges : List Range) → IsGivenOut (ranges_with classes ranges) k
    → IsSome (low.status_of ranges k.0)
known_in_table classes k ranges (c, is) = rw (status_is classes k ranges, is) refl

pub revoked_in-owner : (k : CapId) (r : CapRange) → (revoked_in k r).owner ≡ r.owner
revoked_in-owner k r = elim (cases_Bool (has_number k r)) [ inl hit ↦ rw hit refl | inr miss ↦ rw miss refl ]

-- ---- All of a domain are revoked.

abbrev all_in_table : DomainId → Range → Range
all_in_table d r = if is_owned_by d r then record r { made = map low.revoked_creation r.made } else r

pub all_keep : (d : DomainId) → KeepsNumbers (all_in_table d)
all_keep d = record {
  owner = λ r. elim (cases_Bool (is_owned_by d r)) [ inl hit ↦ rw hit refl | inr miss ↦ rw miss refl ];
  first = λ r. elim (cases_Bool (is_owned_by d r)) [ inl hit ↦ rw hit refl | inr miss ↦ rw miss refl ];
  count = λ r. elim (cases_Bool (is_owned_by d r)) [ inl hit ↦ rw hit refl | inr miss ↦ rw miss refl ];
  made = λ r. elim (cases_Bool (is_owned_by d r)) [ inl hit ↦ rw hit (length-map r.made low.revoked_creation) | inr miss ↦ rw miss refl ];
}

made_with-all : (classes : List ClassId) (n : ℕ) (made : List Creation)
    → made_with classes n (map low.revoked_creation made) ≡ map revoked_capability (made_with classes n made)
made_with-all classes n [] = refl
made_with-all classes n (c ∷ made) = rw (made_with-all classes (suc n) made) refl

range_all : (classes : List ClassId) (d : DomainId) (r : Range) → range_with classes (all_in_table d r) ≡ all_revoked_in d (range_with classes r)
range_all classes d r = elim (cases_Bool (r.owner.0 == d.0)) [
  | inl hit ↦ rw (hit, made_with-all classes r.first r.made) refl
  | inr miss ↦ rw miss refl
]

pub ranges_all : (classes : List ClassId) (d : DomainId) (ranges : List Range)
    → ranges_with classes (low.revoked_all ranges d) ≡ map (all_revoked_in d) (ranges_with classes ranges)
ranges_all classes d ranges = ranges_with-mapped classes (all_in_table d) (all_revoked_in d) ranges (range_all classes d)
