-- Of the cases of a call one holds at most.
use Rattle.std.proofs.Common.{◌≡◌, ◌≢◌, ℕ, List, Some, Result, refl, sym, ap, ◌∙◌, arith}
use Rattle.std.proofs.lemmas.Option.{same_Some}
use Rattle.jk_model.specs.declared.identifiers.CapId.{CapId}
use Rattle.jk_model.specs.declared.identifiers.ClassId.{ClassId}
use Rattle.jk_model.specs.declared.identifiers.DomainId.{DomainId}
use Rattle.jk_model.specs.declared.steps.Raise.{Raise}
use Rattle.jk_model_heaps.specs.Capabilities.{CapRange}
use Rattle.jk_model_sharing.specs.BoundNames.{Binds, BoundName, Unbinds, bound_as, new_name, not_bound, not_own, of_another, one_too_many, own_name, removed, too_long}
use Rattle.jk_model_sharing.specs.CapabilityCalls.{Creates, Revokes, has_room, own, used_up}
use Rattle.jk_model_sharing.specs.CapabilityCalls.{of_another as not_the_owner}

pub creates_once : (r : CapRange) (class : ClassId) (target : ℕ) (x y : Result CapId Raise) (s t : CapRange)
    → Creates r class target x s → Creates r class target y t → (x ≡ y) × (s ≡ t)
creates_once r class target x y s t (used_up a) (used_up b) = (refl, refl)
creates_once r class target x y s t (used_up a) (has_room b) = absurd (omega (arith, a, b))
creates_once r class target x y s t (has_room a) (used_up b) = absurd (omega (arith, a, b))
creates_once r class target x y s t (has_room a) (has_room b) = (refl, refl)

pub revokes_once : (r : CapRange) (k : CapId) (x y : Result (Unit {0}) Raise) (s t : CapRange)
    → Revokes r k x s → Revokes r k y t → (x ≡ y) × (s ≡ t)
revokes_once r k x y s t (not_the_owner a) (not_the_owner b) = (refl, refl)
revokes_once r k x y s t (not_the_owner a) (own b) = absurd cc
revokes_once r k x y s t (own a) (not_the_owner b) = absurd cc
revokes_once r k x y s t (own a) (own b) = (refl, refl)

-- ---- Names. One text is bound as one name.

-- two domains that are and aren't the binder
binder_is_one : (names : List BoundName) (text : List ℕ) (m n : BoundName) (d : DomainId) → bound_as names text ≡ Some m → bound_as names text ≡ Some n
    → m.binder ≢ d → n.binder ≡ d → ⊥
binder_is_one names text m n d is_m is_n ne e = ne (ap (λ (b : BoundName). b.binder) (same_Some m n (sym is_m ∙ is_n)) ∙ e)

pub binds_once : (names : List BoundName) (quota : ℕ) (asked : BoundName) (x y : Result (Unit {0}) Raise) (s t : List BoundName)
    → Binds names quota asked x s → Binds names quota asked y t → (x ≡ y) × (s ≡ t)
binds_once names quota asked x y s t (too_long a) (too_long b) = (refl, refl)
binds_once names quota asked x y s t (too_long a) (of_another n b is ne) = absurd (omega (arith, a, b))
binds_once names quota asked x y s t (too_long a) (own_name n b is e) = absurd (omega (arith, a, b))
binds_once names quota asked x y s t (too_long a) (one_too_many b none few) = absurd (omega (arith, a, b))
binds_once names quota asked x y s t (too_long a) (new_name b none room) = absurd (omega (arith, a, b))
binds_once names quota asked x y s t (of_another n b is ne) (too_long a) = absurd (omega (arith, a, b))
binds_once names quota asked x y s t (of_another n b is ne) (of_another m d js nf) = (refl, refl)
binds_once names quota asked x y s t (of_another n b is ne) (own_name m d js e) = absurd (binder_is_one names asked.text n m asked.binder is js ne e)
binds_once names quota asked x y s t (of_another n b is ne) (one_too_many d none few) = absurd cc
binds_once names quota asked x y s t (of_another n b is ne) (new_name d none room) = absurd cc
binds_once names quota asked x y s t (own_name n b is e) (too_long a) = absurd (omega (arith, a, b))
binds_once names quota asked x y s t (own_name n b is e) (of_another m d js ne) = absurd (binder_is_one names asked.text m n asked.binder js is ne e)
binds_once names quota asked x y s t (own_name n b is e) (own_name m d js f) = (refl, refl)
binds_once names quota asked x y s t (own_name n b is e) (one_too_many d none few) = absurd cc
binds_once names quota asked x y s t (own_name n b is e) (new_name d none room) = absurd cc
binds_once names quota asked x y s t (one_too_many b none few) (too_long a) = absurd (omega (arith, a, b))
binds_once names quota asked x y s t (one_too_many b none few) (of_another n d is ne) = absurd cc
binds_once names quota asked x y s t (one_too_many b none few) (own_name n d is e) = absurd cc
binds_once names quota asked x y s t (one_too_many b none few) (one_too_many d other also) = (refl, refl)
binds_once names quota asked x y s t (one_too_many b none few) (new_name d other room) = absurd (omega (arith, few, room))
binds_once names quota asked x y s t (new_name b none room) (too_long a) = absurd (omega (arith, a, b))
binds_once names quota asked x y s t (new_name b none room) (of_another n d is ne) = absurd cc
binds_once names quota asked x y s t (new_name b none room) (own_name n d is e) = absurd cc
binds_once names quota asked x y s t (new_name b none room) (one_too_many d other few) = absurd (omega (arith, few, room))
binds_once names quota asked x y s t (new_name b none room) (new_name d other also) = (refl, refl)

pub unbinds_once : (names : List BoundName) (d : DomainId) (text : List ℕ) (x y : Result (Unit {0}) Raise) (s t : List BoundName)
    → Unbinds names d text x s → Unbinds names d text y t → (x ≡ y) × (s ≡ t)
unbinds_once names d text x y s t (not_own n is ne) (not_own m js nf) = (refl, refl)
unbinds_once names d text x y s t (not_own n is ne) (removed m js e) = absurd (binder_is_one names text n m d is js ne e)
unbinds_once names d text x y s t (not_own n is ne) (not_bound none) = absurd cc
unbinds_once names d text x y s t (removed n is e) (not_own m js ne) = absurd (binder_is_one names text m n d js is ne e)
unbinds_once names d text x y s t (removed n is e) (removed m js f) = (refl, refl)
unbinds_once names d text x y s t (removed n is e) (not_bound none) = absurd cc
unbinds_once names d text x y s t (not_bound none) (not_own n is ne) = absurd cc
unbinds_once names d text x y s t (not_bound none) (removed n is e) = absurd cc
unbinds_once names d text x y s t (not_bound none) (not_bound other) = (refl, refl)
