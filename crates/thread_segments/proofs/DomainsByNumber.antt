-- Domains stand at their numbers: the one of a number is found there, and changed there alone.
use Rattle.std.proofs.Common.{◌≡◌, ℕ, zero, suc, ◌+◌, ◌<◌, inl, inr, Bool, true, false, List, [], ◌∷◌, ◌++◌, length, set, find, map, Some, slice_get, refl, sym, ap, ◌∙◌, arith}
use Rattle.std.specs.Prelude.{◌==◌, if◌then◌else◌}
use Rattle.std.proofs.lemmas.Bool.{cases_Bool, eq-eqb, ne_eqb, eqb-true}
use Rattle.std.proofs.lemmas.Option.{same_Some}
use Rattle.jk_model_heaps.specs.Capabilities.{CapRange}
use Rattle.jk_model_sharing.specs.SharedStates.{SharedDomain, ranges_of}
use Rattle.thread_segments.specs.declared.domains.DomainEntry.{DomainEntry}
use Rattle.thread_segments.specs.DomainEntries.{domain_with, domains_with}

abbrev pub is_numbered : ℕ → SharedDomain → Bool
is_numbered k e = e.number.0 == k

pub found : (n i k : ℕ) (es : List DomainEntry) (rs : List CapRange) (e : DomainEntry) (r : CapRange) → slice_get es i ≡ Some e → slice_get rs i ≡ Some r
    → k ≡ n + i → find (is_numbered k) (domains_with n es rs) ≡ Some (domain_with k e r)
found n i k [] rs e r at_e at_r is = absurd cc
found n i k (x ∷ es) [] e r at_e at_r is = absurd cc
found n zero k (x ∷ es) (y ∷ rs) e r at_e at_r is =
    let same : n ≡ k = omega (arith, is) in
    let hit : n == k ≡ true = eq-eqb n k same in
    rw hit (ap (λ m. Some (domain_with m x y)) same ∙ ap (λ z. Some (domain_with k z y)) (same_Some x e at_e) ∙ ap (λ z. Some (domain_with k e z))
    (same_Some y r at_r))
found n (suc i) k (x ∷ es) (y ∷ rs) e r at_e at_r is =
    let miss : n == k ≡ false = ne_eqb n k (λ same. omega (arith, is, same)) in
    rw miss (found (suc n) i k es rs e r at_e at_r (omega (arith, is)))

-- where a domain that was found stands
pub record StandsAt (n k : ℕ) (es : List DomainEntry) (rs : List CapRange) (d : SharedDomain) : Type 0 where
  pub place : ℕ
  pub is_place : k ≡ n + place
  pub entry : DomainEntry
  pub range : CapRange
  pub has_entry : slice_get es place ≡ Some entry
  pub has_range : slice_get rs place ≡ Some range
  pub is : d ≡ domain_with k entry range

pub stands_at : (n k : ℕ) (es : List DomainEntry) (rs : List CapRange) (d : SharedDomain) → find (is_numbered k) (domains_with n es rs) ≡ Some d
    → StandsAt n k es rs d
stands_at n k [] rs d e = absurd cc
stands_at n k (x ∷ es) [] d e = absurd cc
stands_at n k (x ∷ es) (y ∷ rs) d e =
    elim (cases_Bool (n == k)) [
      | inl hit ↦
          let same : n ≡ k = eqb-true n k hit in
          let here : Some (domain_with n x y) ≡ Some d = rw hit at e in
          record {
            place = zero;
            is_place = omega (arith, same);
            entry = x;
            range = y;
            has_entry = refl;
            has_range = refl;
            is = sym (same_Some (domain_with n x y) d here) ∙ ap (λ m. domain_with m x y) same;
          }
      | inr miss ↦
          let later : find (is_numbered k) (domains_with (suc n) es rs) ≡ Some d = rw miss at e in
          let rest = stands_at (suc n) k es rs d later in
          record {
            place = suc rest.place;
            is_place = omega (arith, rest.is_place);
            entry = rest.entry;
            range = rest.range;
            has_entry = rest.has_entry;
            has_range = rest.has_range;
            is = rest.is;
          }
    ]

-- ---- One domain is changed.

module _ (change : SharedDomain → SharedDomain) (k : ℕ) where
  abbrev pub changed : SharedDomain → SharedDomain
  changed e = if e.number.0 == k then change e else e

  past_changed : (n : ℕ) (es : List DomainEntry) (rs : List CapRange) → k < n → domains_with n es rs ≡ map changed (domains_with n es rs)
  past_changed n [] rs past = refl
  past_changed n (x ∷ es) [] past = refl
  past_changed n (x ∷ es) (y ∷ rs) past =
      let miss : n == k ≡ false = ne_eqb n k (λ same. omega (arith, same)) in
      rw (miss, ← past_changed (suc n) es rs (omega arith)) refl

  pub changed_at : (n i : ℕ) (es : List DomainEntry) (rs : List CapRange) (e new : DomainEntry) → slice_get es i ≡ Some e → k ≡ n + i
      → ((r : CapRange) → change (domain_with k e r) ≡ domain_with k new r) → domains_with n (set es i new) rs ≡ map changed (domains_with n es rs)
  changed_at n i [] rs e new at is becomes = absurd cc
  changed_at n zero (x ∷ es) [] e new at is becomes = refl
  changed_at n (suc i) (x ∷ es) [] e new at is becomes = refl
  changed_at n zero (x ∷ es) (y ∷ rs) e new at is becomes =
      let same : n ≡ k = omega (arith, is) in
      let hit : n == k ≡ true = eq-eqb n k same in
      let here : change (domain_with n x y) ≡ domain_with n new y =
      ap (λ m. change (domain_with m x y)) same ∙ ap (λ z. change (domain_with k z y)) (same_Some x e at) ∙ becomes y ∙ ap (λ m. domain_with m new y)
      (sym same) in
      rw (hit, here, ← past_changed (suc n) es rs (omega (arith, same))) refl
  changed_at n (suc i) (x ∷ es) (y ∷ rs) e new at is becomes =
      let miss : n == k ≡ false = ne_eqb n k (λ same. omega (arith, is, same)) in
      rw (miss, changed_at (suc n) i es rs e new at (omega (arith, is)) becomes) refl

-- where what is seen of an entry stays, nothing is changed
pub same_domains : (n i : ℕ) (es : List DomainEntry) (rs : List CapRange) (e new : DomainEntry) → slice_get es i ≡ Some e → new.quotas ≡ e.quotas
    → new.steps_left ≡ e.steps_left → new.live ≡ e.live → domains_with n (set es i new) rs ≡ domains_with n es rs
same_domains n i [] rs e new at quotas steps live = absurd cc
same_domains n zero (x ∷ es) [] e new at quotas steps live = refl
same_domains n (suc i) (x ∷ es) [] e new at quotas steps live = refl
same_domains n zero (x ∷ es) (y ∷ rs) e new at quotas steps live =
    let here : e ≡ x = sym (same_Some x e at) in
    rw (quotas, steps, live, here) refl
same_domains n (suc i) (x ∷ es) (y ∷ rs) e new at quotas steps live =
    ap (λ zs. domain_with n x y ∷ zs) (same_domains (suc n) i es rs e new at quotas steps live)

-- ---- All of them.

pub ranges_of-domains_with : (n : ℕ) (es : List DomainEntry) (rs : List CapRange) → length rs ≡ length es → ranges_of (domains_with n es rs) ≡ rs
ranges_of-domains_with n [] [] e = refl
ranges_of-domains_with n [] (y ∷ rs) e = absurd (omega (arith, e))
ranges_of-domains_with n (x ∷ es) [] e = refl
ranges_of-domains_with n (x ∷ es) (y ∷ rs) e = ap (λ zs. y ∷ zs) (ranges_of-domains_with (suc n) es rs (omega (arith, e)))

pub length-domains_with : (n : ℕ) (es : List DomainEntry) (rs : List CapRange) → length rs ≡ length es → length (domains_with n es rs) ≡ length es
length-domains_with n [] rs e = refl
length-domains_with n (x ∷ es) [] e = absurd (omega (arith, e))
length-domains_with n (x ∷ es) (y ∷ rs) e = ap suc (length-domains_with (suc n) es rs (omega (arith, e)))

pub domains_with-push : (n k : ℕ) (es : List DomainEntry) (rs : List CapRange) (e : DomainEntry) (r : CapRange) → length rs ≡ length es
    → k ≡ n + length es → domains_with n (es ++ e ∷ []) (rs ++ r ∷ []) ≡ domains_with n es rs ++ domain_with k e r ∷ []
domains_with-push n k [] [] e r same is = let at : n ≡ k = omega (arith, is) in ap (λ m. domain_with m e r ∷ []) at
domains_with-push n k [] (y ∷ rs) e r same is = absurd (omega (arith, same))
domains_with-push n k (x ∷ es) [] e r same is = absurd (omega (arith, same))
domains_with-push n k (x ∷ es) (y ∷ rs) e r same is =
    ap (λ zs. domain_with n x y ∷ zs) (domains_with-push (suc n) k es rs e r (omega (arith, same)) (omega (arith, is)))

-- the ranges are changed, and so are the domains
pub domains_with-mapped : (g : CapRange → CapRange) (n : ℕ) (es : List DomainEntry) (rs : List CapRange)
    → domains_with n es (map g rs) ≡ map (λ (e : SharedDomain). record e { caps = g e.caps }) (domains_with n es rs)
domains_with-mapped g n [] rs = refl
domains_with-mapped g n (x ∷ es) [] = refl
domains_with-mapped g n (x ∷ es) (y ∷ rs) = ap (λ zs. domain_with n x (g y) ∷ zs) (domains_with-mapped g (suc n) es rs)
