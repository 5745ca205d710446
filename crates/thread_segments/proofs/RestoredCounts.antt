-- Sums and counts over the items so far, and entries of domains in which threads or names are counted one by one.
use Rattle.std.proofs.Common.{◌≡◌, ◌≢◌, ℕ, zero, suc, ◌+◌, ◌<◌, ◌≤◌, ◌^◌, inl, inr, true, false, List, [], ◌∷◌, ◌++◌, length, map, take, set, sum_by, Some, slice_get, refl, sym, ap, ◌∙◌, arith, length-set}
use Rattle.std.specs.Prelude.{◌==◌}
use Rattle.std.proofs.lemmas.Bool.{cases_Bool, cases_eq, eq-eqb, ne_eqb}
use Rattle.std.proofs.lemmas.List.Sums.{sum_by-append, sum_by-cons}
use Rattle.std.proofs.lemmas.Option.{same_Some, slice_get_within}
use Rattle.jk_model.specs.declared.identifiers.DomainId.{DomainId}
use Rattle.list_lemmas.proofs.ItemsByPlace.{item_there, slice_get-set_other, slice_get-set_same}
use Rattle.list_lemmas.proofs.LastItems.{take_next}
use Rattle.thread_segments.specs.declared.domains.DomainEntry.{DomainEntry}
use Rattle.thread_segments.specs.RestoredParts.{AreCountedUp, ChangesEntry, count_at, more_names, more_threads}
use Rattle.thread_segments.proofs.OneMore.{last_more, one_passes}
use Rattle.thread_stacks.proofs.Filtered.{one_if}

-- ---- Sums.

module _ {X : Type 0} (f : X → ℕ) where
  pub sum_more : (xs : List X) (k : ℕ) (x : X) → slice_get xs k ≡ Some x → sum_by f (take (suc k) xs) ≡ sum_by f (take k xs) + f x
  sum_more xs k x at =
      let next : sum_by f (take (suc k) xs) ≡ sum_by f (take k xs ++ x ∷ []) = ap (λ (ys : List X). sum_by f ys) (take_next xs k x at) in
      omega (arith, next, sum_by-append f (take k xs) (x ∷ []), sum_by-cons f x [])

  pub sum_so_far : (xs : List X) (k : ℕ) → sum_by f (take k xs) ≤ sum_by f xs
  sum_so_far [] zero = omega arith
  sum_so_far [] (suc k) = omega arith
  sum_so_far (x ∷ xs) zero = omega arith
  sum_so_far (x ∷ xs) (suc k) = omega (arith, sum_so_far xs k, sum_by-cons f x (take k xs), sum_by-cons f x xs)

-- where each is at most the other
pub sums_alike : {X A B : Type 0} (f : A → ℕ) (g : B → ℕ) (a : X → A) (b : X → B) → ((x : X) → f (a x) ≤ g (b x)) → (xs : List X)
    → sum_by f (map a xs) ≤ sum_by g (map b xs)
sums_alike f g a b le [] = omega arith
sums_alike f g a b le (x ∷ xs) =
    omega (arith, le x, sums_alike f g a b le xs, sum_by-cons f (a x) (map a xs), sum_by-cons g (b x) (map b xs))

-- ---- Counts.

module _ {X : Type 0} (home : X → ℕ) where
  pub count_more : (xs : List X) (k : ℕ) (x : X) (d : ℕ) → slice_get xs k ≡ Some x
      → count_at home (take (suc k) xs) d ≡ count_at home (take k xs) d + one_if (home x == d)
  count_more xs k x d at =
      ap (λ (ys : List X). count_at home ys d) (take_next xs k x at)
      ∙ one_passes x (λ (y : X). home y == d) (take k xs) (take k xs ++ x ∷ []) (last_more x (take k xs))

  pub count_so_far : (xs : List X) (k d : ℕ) → count_at home (take k xs) d ≤ count_at home xs d
  count_so_far [] zero d = omega arith
  count_so_far [] (suc k) d = omega arith
  count_so_far (x ∷ xs) zero d = omega arith
  count_so_far (x ∷ xs) (suc k) d =
      let rest = count_so_far xs k d in
      elim (cases_Bool (home x == d)) [
        | inl hit ↦ rw hit (omega (arith, rest))
        | inr miss ↦ rw miss rest
      ]

  pub count_here : (xs : List X) (k : ℕ) (x : X) (d : ℕ) → slice_get xs k ≡ Some x → home x ≡ d
      → count_at home (take (suc k) xs) d ≡ count_at home (take k xs) d + 1
  count_here xs k x d at is =
      let hit : (home x == d) ≡ true = eq-eqb (home x) d is in
      let one : one_if (home x == d) ≡ 1 = rw hit refl in
      omega (arith, count_more xs k x d at, one)

  pub count_elsewhere : (xs : List X) (k : ℕ) (x : X) (d : ℕ) → slice_get xs k ≡ Some x → home x ≢ d
      → count_at home (take (suc k) xs) d ≡ count_at home (take k xs) d
  count_elsewhere xs k x d at other =
      let miss : (home x == d) ≡ false = ne_eqb (home x) d other in
      let none : one_if (home x == d) ≡ 0 = rw miss refl in
      omega (arith, count_more xs k x d at, none)

pub count_mapped : {X Y : Type 0} (home : Y → ℕ) (f : X → Y) (xs : List X) (d : ℕ) → count_at home (map f xs) d ≡ count_at (λ (x : X). home (f x)) xs d
count_mapped home f [] d = refl
count_mapped home f (x ∷ xs) d =
    elim (cases_Bool (home (f x) == d)) [
      | inl hit ↦ rw hit (ap suc (count_mapped home f xs d))
      | inr miss ↦ rw miss (count_mapped home f xs d)
    ]

-- ---- Entries.

module _ {X : Type 0} (home : X → ℕ) (more : ℕ → DomainEntry → DomainEntry) where
  pub none_counted : ((e : DomainEntry) → more 0 e ≡ e) → (es : List DomainEntry) → AreCountedUp home more es es []
  none_counted same es = record { as_many = refl; each = λ i e at. at ∙ ap Some (sym (same e)) }

  module _ (old now : List DomainEntry) (xs : List X) (k : ℕ) (x : X) (at : slice_get xs k ≡ Some x) (d : DomainId) (is : home x ≡ d.0)
      (h : AreCountedUp home more old now (take k xs)) where
    -- one more fits
    pub one_fits : (count : DomainEntry → ℕ) → ((n : ℕ) (e : DomainEntry) → count (more n e) ≡ count e + n)
        → ((i : ℕ) (e : DomainEntry) → slice_get old i ≡ Some e → count e + count_at home xs i < 2 ^ 32) → (e : DomainEntry)
        → slice_get now d.0 ≡ Some e → count e + 1 < 2 ^ 32
    one_fits count counts few e there =
        let low : d.0 < length old = omega (arith, slice_get_within now d.0 e there, h.as_many) in
        let was = item_there old d.0 low in
        let n = count_at home (take k xs) d.0 in
        let same : e ≡ more n was.0 = same_Some e (more n was.0) (sym there ∙ h.each d.0 was.0 was.1) in
        let so_far : count e ≡ count was.0 + n = ap count same ∙ counts n was.0 in
        omega (arith, so_far, few d.0 was.0 was.1, count_here home xs k x d.0 at is, count_so_far home xs (suc k) d.0)

    pub one_counted : ((n : ℕ) (e : DomainEntry) → more 1 (more n e) ≡ more (n + 1) e) → (new : List DomainEntry)
        → ChangesEntry (more 1) now new d → AreCountedUp home more old new (take (suc k) xs)
    one_counted sums new c = record {
      as_many = ap (λ (es : List DomainEntry). length es) c.becomes ∙ length-set now d.0 (more 1 c.entry) ∙ h.as_many;
      each = λ i e there. by_place i e there;
    }
      where
        by_place : (i : ℕ) (e : DomainEntry) → slice_get old i ≡ Some e → slice_get new i ≡ Some (more (count_at home (take (suc k) xs) i) e)
        by_place i e there =
            let n = count_at home (take k xs) i in
            elim (cases_eq d.0 i) [
              | inl same ↦
                  let entry : c.entry ≡ more n e =
                  same_Some c.entry (more n e) (sym c.there ∙ ap (slice_get now) same ∙ h.each i e there) in
                  ap (λ (es : List DomainEntry). slice_get es i) c.becomes
                  ∙ ap (slice_get (set now d.0 (more 1 c.entry))) (sym same)
                  ∙ slice_get-set_same now d.0 (more 1 c.entry) (slice_get_within now d.0 c.entry c.there)
                  ∙ ap Some (ap (more 1) entry ∙ sums n e ∙ ap (λ (m : ℕ). more m e) (sym (count_here home xs k x i at (is ∙ same))))
              | inr other ↦
                  ap (λ (es : List DomainEntry). slice_get es i) c.becomes
                  ∙ slice_get-set_other now d.0 i (more 1 c.entry) other
                  ∙ h.each i e there
                  ∙ ap (λ (m : ℕ). Some (more m e)) (sym (count_elsewhere home xs k x i at (λ same. other (sym is ∙ same))))
            ]

pub no_more_threads : (e : DomainEntry) → more_threads 0 e ≡ e
no_more_threads e = ap (λ (n : ℕ). let x : DomainEntry = record e { threads = n } in x) (let z : e.threads + 0 ≡ e.threads = omega arith in z)

pub no_more_names : (e : DomainEntry) → more_names 0 e ≡ e
no_more_names e = ap (λ (n : ℕ). let x : DomainEntry = record e { names = n } in x) (let z : e.names + 0 ≡ e.names = omega arith in z)

pub one_thread_more : (n : ℕ) (e : DomainEntry) → more_threads 1 (more_threads n e) ≡ more_threads (n + 1) e
one_thread_more n e =
    ap (λ (m : ℕ). let x : DomainEntry = record e { threads = m } in x) (let z : e.threads + n + 1 ≡ e.threads + (n + 1) = omega arith in z)

pub one_name_counted : (n : ℕ) (e : DomainEntry) → more_names 1 (more_names n e) ≡ more_names (n + 1) e
one_name_counted n e =
    ap (λ (m : ℕ). let x : DomainEntry = record e { names = m } in x) (let z : e.names + n + 1 ≡ e.names + (n + 1) = omega arith in z)
