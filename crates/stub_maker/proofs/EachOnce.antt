-- The classes of a walk each stand at one place among the firsts of it, and so in order their numbers rise.
use Rattle.std.proofs.Common.{◌≡◌, ℕ, zero, suc, ◌<◌, ◌≤◌, Bool, true, false, not, ◌==◌, List, [], ◌∷◌, Some, subst, inl, inr, arith}
use Rattle.std.specs.Prelude.{⊤, slice_get, filter, IsPermutation}
use Rattle.std.specs.List.{AllByRecursion, IsDistinct}
use Rattle.std.specs.List.Sorted.{IsNonDecreasingBy}
use Rattle.std.proofs.lemmas.Map.Keys.{IsDistinct-IsPermutation}
use Rattle.std.proofs.lemmas.Bool.{cases_Bool}
use Rattle.std.proofs.lemmas.Bool.Decides.{nat_tests}
use Rattle.std.proofs.lemmas.Option.{same_Some, slice_get_within, get_or_from_slice_get}
use Rattle.jk_model.specs.declared.identifiers.ClassId.{ClassId}
use Rattle.jk_model_classes.specs.Classes.{firsts}

-- the classes have one number
abbrev pub has_same_number : ClassId → ClassId → Bool
has_same_number c d = c.0 == d.0

same-flips : (c d : ClassId) → has_same_number c d ≡ has_same_number d c
same-flips c d = grind (arith, nat_tests)

abbrev pub IsOnceEach : List ClassId → Type 0
IsOnceEach [] = ⊤
IsOnceEach (c ∷ classes) = AllByRecursion (λ d. has_same_number c d ≡ false) classes × IsOnceEach classes

to_distinct : (classes : List ClassId) → IsOnceEach classes → IsDistinct has_same_number classes
unfolding IsDistinct
to_distinct [] once = tt
to_distinct (c ∷ classes) once = (once.0, to_distinct classes once.1)

from_distinct : (classes : List ClassId) → IsDistinct has_same_number classes → IsOnceEach classes
unfolding IsDistinct
from_distinct [] once = tt
from_distinct (c ∷ classes) once = (once.0, from_distinct classes once.1)

-- classes that are there once each stay so when they change places
pub once-moved : (kept list : List ClassId) → IsPermutation kept list → IsOnceEach kept → IsOnceEach list
once-moved kept list moved once =
    from_distinct list (IsDistinct-IsPermutation has_same_number same-flips kept list moved (to_distinct kept once))

-- ---- The firsts of a walk.

all_filter : (P : ClassId → Type 0) (p : ClassId → Bool) (classes : List ClassId) → AllByRecursion P classes → AllByRecursion P (filter p classes)
all_filter P p [] h = h
all_filter P p (c ∷ classes) h = elim (cases_Bool (p c)) [
  | inl passes ↦ rw passes (h.0, all_filter P p classes h.1)
  | inr fails ↦ rw fails (all_filter P p classes h.1)
]

once_filter : (p : ClassId → Bool) (classes : List ClassId) → IsOnceEach classes → IsOnceEach (filter p classes)
once_filter p [] once = once
once_filter p (c ∷ classes) once = elim (cases_Bool (p c)) [
  | inl passes ↦ rw passes (all_filter (λ d. has_same_number c d ≡ false) p classes once.0, once_filter p classes once.1)
  | inr fails ↦ rw fails (once_filter p classes once.1)
]

other_number : (c d : ClassId) → not (d.0 == c.0) ≡ true → has_same_number c d ≡ false
other_number c d e = grind (arith, nat_tests)

others_differ : (c : ClassId) (classes : List ClassId)
    → AllByRecursion (λ d. has_same_number c d ≡ false) (filter (λ d. not (d.0 == c.0)) classes)
others_differ c [] = tt
others_differ c (d ∷ classes) = elim (cases_Bool (not (d.0 == c.0))) [
  | inl passes ↦ rw passes (other_number c d passes, others_differ c classes)
  | inr fails ↦ rw fails (others_differ c classes)
]

pub once-firsts : (walk : List ClassId) → IsOnceEach (firsts walk)
once-firsts [] = tt
once-firsts (c ∷ walk) = (others_differ c (firsts walk), once_filter (λ d. not (d.0 == c.0)) (firsts walk) (once-firsts walk))

-- ---- Numbers rise where they are in order and each is there once.

later_differs : (c d : ClassId) (classes : List ClassId) (k : ℕ) → AllByRecursion (λ x. has_same_number c x ≡ false) classes
    → slice_get classes k ≡ Some d → has_same_number c d ≡ false
later_differs c d [] k all e = absurd cc
later_differs c d (x ∷ classes) zero all e = subst (λ (y : ClassId). has_same_number c y ≡ false) (same_Some x d e) all.0
later_differs c d (x ∷ classes) (suc k) all e = later_differs c d classes k all.1 e

two_differ : (classes : List ClassId) (j k : ℕ) (c d : ClassId) → IsOnceEach classes → j < k → slice_get classes j ≡ Some c
    → slice_get classes k ≡ Some d → has_same_number c d ≡ false
two_differ [] j k c d once lt e f = absurd cc
two_differ (x ∷ classes) j zero c d once lt e f = absurd (omega arith)
two_differ (x ∷ classes) zero (suc k) c d once lt e f =
    later_differs c d classes k (subst (λ (y : ClassId). AllByRecursion (λ z. has_same_number y z ≡ false) classes) (same_Some x c e) once.0) f
two_differ (x ∷ classes) (suc j) (suc k) c d once lt e f = two_differ classes j k c d once.1 (omega arith) e f

rises_by : (m n : ℕ) → m ≤ n → (m == n) ≡ false → m < n
rises_by m n order differ = grind (arith, nat_tests)

pub numbers-rise : (classes : List ClassId) → IsOnceEach classes → IsNonDecreasingBy (λ (c : ClassId). c.0) classes → (j k : ℕ) (c d : ClassId)
    → j < k → slice_get classes j ≡ Some c → slice_get classes k ≡ Some d → c.0 < d.0
numbers-rise classes once order j k c d lt e f =
    let within = slice_get_within classes k d f in
    let first = get_or_from_slice_get classes j c c e in
    let second = get_or_from_slice_get classes k d c f in
    let at : c.0 ≤ d.0 = rw (first, second) at (order j k c (omega arith) within) in
    rises_by c.0 d.0 at (two_differ classes j k c d once lt e f)
