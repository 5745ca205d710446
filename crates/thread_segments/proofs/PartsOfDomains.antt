-- Domains are listed one after the other: the number at which the range of each begins is that of the state.
use Rattle.std.proofs.Common.{◌≡◌, ℕ, zero, suc, ◌+◌, ◌≤◌, List, [], ◌∷◌, ◌++◌, length, map, take, drop, sum_by, Some, slice_get, refl, sym, ap, ◌∙◌, append_assoc, append-nil, add-one, arith}
use Rattle.std.proofs.lemmas.List.Sums.{sum_by-cons}
use Rattle.std.proofs.lemmas.Option.{same_Some}
use Rattle.jk_model.specs.Capabilities.{last_number}
use Rattle.jk_model_classes.specs.declared.sharing.Stub.{Stub}
use Rattle.jk_model_heaps.specs.Capabilities.{CapRange}
use Rattle.jk_model_sharing.specs.CapabilityCalls.{count_numbers}
use Rattle.thread_segments.specs.declared.domains.DomainEntry.{DomainEntry}
use Rattle.thread_segments.specs.declared.parts.DomainPart.{DomainPart}
use Rattle.thread_segments.specs.DomainEntries.{IsKept, domain_with, domains_with}
use Rattle.thread_segments.specs.NameEntries.{NameList}
use Rattle.thread_segments.specs.StateParts.{domain_part, entry_parts, numbers_of}
use Rattle.thread_segments.proofs.SegmentRoom.{domain_there}
use Rattle.thread_segments.proofs.StatesByPart.{caps_are}
use Rattle.thread_stacks.specs.Stacks.{ThreadList}

-- ---- One after the other.

-- So many are listed, and the next range begins at this number.
pub record AreListed (es : List DomainEntry) (k first : ℕ) (parts : List DomainPart) : Type 0 where
  pub all : parts ++ entry_parts first (drop k es) ≡ entry_parts 1 es
  pub begins : first + sum_by numbers_of (drop k es) ≡ 1 + sum_by numbers_of es

pub listing_begins : (es : List DomainEntry) (parts : List DomainPart) → parts ≡ [] → AreListed es 0 1 parts
listing_begins es parts none = record { all = ap (λ (ps : List DomainPart). ps ++ entry_parts 1 es) none; begins = refl }

left_at : (es : List DomainEntry) (k : ℕ) (e : DomainEntry) → slice_get es k ≡ Some e → drop k es ≡ e ∷ drop (suc k) es
left_at [] k e at = absurd cc
left_at (x ∷ es) zero e at = ap (λ (y : DomainEntry). y ∷ es) (same_Some x e at)
left_at (x ∷ es) (suc k) e at = left_at es k e at

nothing_left : (es : List DomainEntry) (k : ℕ) → length es ≤ k → drop k es ≡ []
nothing_left [] zero h = refl
nothing_left [] (suc k) h = refl
nothing_left (x ∷ es) zero h = absurd (omega (arith, h))
nothing_left (x ∷ es) (suc k) h = nothing_left es k (omega (arith, h))

module _ (es : List DomainEntry) (k first : ℕ) (parts : List DomainPart) (l : AreListed es k first parts) where
  pub few_numbers : (e : DomainEntry) → slice_get es k ≡ Some e → sum_by numbers_of es ≤ last_number → first + e.quotas.caps ≤ 1 + last_number
  few_numbers e at few =
      omega (
        arith,
        l.begins,
        ap (λ (xs : List DomainEntry). sum_by numbers_of xs) (left_at es k e at),
        sum_by-cons numbers_of e (drop (suc k) es),
        few,
      )

  pub listing_goes_on : (e : DomainEntry) (more : List DomainPart) → slice_get es k ≡ Some e
      → more ≡ parts ++ record { live = e.live; quotas = e.quotas; first_cap = first; steps_left = e.steps_left } ∷ []
      → AreListed es (k + 1) (first + e.quotas.caps) more
  listing_goes_on e more at becomes = record {
    all =
        ap (λ (ps : List DomainPart). ps ++ entry_parts (first + e.quotas.caps) (drop (k + 1) es)) becomes
        ∙ ap (λ (n : ℕ). (parts ++ part ∷ []) ++ entry_parts (first + e.quotas.caps) (drop n es)) (add-one k)
        ∙ append_assoc parts (part ∷ []) (entry_parts (first + e.quotas.caps) (drop (suc k) es))
        ∙ sym (ap (λ (xs : List DomainEntry). parts ++ entry_parts first xs) (left_at es k e at))
        ∙ l.all;
    begins =
        omega (
          arith,
          l.begins,
          ap (λ (xs : List DomainEntry). sum_by numbers_of xs) (left_at es k e at),
          sum_by-cons numbers_of e (drop (suc k) es),
          ap (λ (n : ℕ). sum_by numbers_of (drop n es)) (add-one k),
        );
  }
    where
      part : DomainPart
      part = record { live = e.live; quotas = e.quotas; first_cap = first; steps_left = e.steps_left }

  pub all_listed : length es ≤ k → parts ≡ entry_parts 1 es
  all_listed long =
      sym (append-nil parts)
      ∙ sym (ap (λ (xs : List DomainEntry). parts ++ entry_parts first xs) (nothing_left es k long))
      ∙ l.all

-- ---- The domains of the state.

domain_at : (n : ℕ) (es : List DomainEntry) (rs : List CapRange) (i : ℕ) (e : DomainEntry) (r : CapRange) → slice_get es i ≡ Some e
    → slice_get rs i ≡ Some r → slice_get (domains_with n es rs) i ≡ Some (domain_with (n + i) e r)
domain_at n [] rs i e r at at_r = absurd cc
domain_at n (x ∷ es) [] i e r at at_r = absurd cc
domain_at n (x ∷ es) (y ∷ rs) zero e r at at_r =
    rw (same_Some x e at, same_Some y r at_r, (let z : n + 0 ≡ n = omega arith in z)) refl
domain_at n (x ∷ es) (y ∷ rs) (suc i) e r at at_r =
    domain_at (suc n) es rs i e r at at_r
    ∙ ap (λ (k : ℕ). Some (domain_with k e r)) (let z : suc n + i ≡ n + suc i = omega arith in z)

parts_so : (n first : ℕ) (es : List DomainEntry) (rs : List CapRange) → length rs ≡ length es
    → ((i : ℕ) (e : DomainEntry) (r : CapRange) → slice_get es i ≡ Some e → slice_get rs i ≡ Some r
    → (r.first ≡ first + count_numbers (take i rs)) × (r.count ≡ e.quotas.caps))
    → (entry_parts first es ≡ map domain_part (domains_with n es rs)) × (sum_by numbers_of es ≡ count_numbers rs)
parts_so n first [] [] long h = (refl, refl)
parts_so n first [] (r ∷ rs) long h = absurd (omega (arith, long))
parts_so n first (e ∷ es) [] long h = absurd (omega (arith, long))
parts_so n first (e ∷ es) (r ∷ rs) long h =
    let here = h 0 e r refl refl in
    let begins : first ≡ r.first = omega (arith, here.0) in
    let rest = parts_so (suc n) (first + e.quotas.caps) es rs (omega (arith, long)) (λ i x y at at_y.
    let later = h (suc i) x y at at_y in (
      omega (arith, later.0, sum_by-cons (λ (q : CapRange). q.count) r (take i rs), here.1),
      later.1,
    )) in (
      ap (λ (k : ℕ). (let p : DomainPart = record { live = e.live; quotas = e.quotas; first_cap = k; steps_left = e.steps_left } in p)
          ∷ entry_parts (first + e.quotas.caps) es) begins
          ∙ ap (λ (ps : List DomainPart). domain_part (domain_with n e r) ∷ ps) rest.0,
      omega (
        arith,
        sum_by-cons numbers_of e es,
        sum_by-cons (λ (q : CapRange). q.count) r rs,
        rest.1,
        here.1,
      ),
    )

module _ (es : List DomainEntry) (rs : List CapRange) (stubs : List Stub) (ns : NameList) (t : ThreadList) (h : IsKept es rs stubs ns t) where
  both : (entry_parts 1 es ≡ map domain_part (domains_with 0 es rs)) × (sum_by numbers_of es ≡ count_numbers rs)
  both =
      parts_so 0 1 es rs h.counted.as_many
      (λ i e r at at_r. (
        h.sound.ranges.chained i (domain_with (0 + i) e r) (domain_at 0 es rs i e r at at_r)
            ∙ ap (λ (xs : List CapRange). 1 + count_numbers (take i xs)) (caps_are es rs stubs ns t h.counted),
        h.sound.ranges.count (domain_with (0 + i) e r) (domain_there es rs stubs ns t h.counted h.sound 0 es rs i e r at at_r),
      ))

  pub domain_parts_are : entry_parts 1 es ≡ map domain_part (domains_with 0 es rs)
  domain_parts_are = both.0

  pub numbers_few : sum_by numbers_of es ≤ last_number
  numbers_few =
      omega (arith, both.1, h.sound.ranges.few, ap (λ (xs : List CapRange). count_numbers xs) (caps_are es rs stubs ns t h.counted))
