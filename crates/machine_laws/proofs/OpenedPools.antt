-- The heap and the stacks of a domain that is opened have no page in common with those of another.
use Rattle.std.proofs.Common.{◌≡◌, ◌≢◌, ℕ, zero, suc, ◌+◌, ◌<◌, ◌≤◌, ◌⊎◌, [], ◌∷◌, length, Contains, Option, Some, None, slice_get, inl, inr, refl, sym, ap, subst, ◌∙◌, arith}
use Rattle.std.specs.Prelude.{option_and_then}
use Rattle.std.proofs.lemmas.Bool.{cases_lt}
use Rattle.std.proofs.lemmas.List.Elements.{Contains-push_cases}
use Rattle.std.proofs.lemmas.Option.{none-some, same_Some, slice_get_within}
use Rattle.list_lemmas.proofs.ItemsByPlace.{old_or_last, slice_get-front, slice_get-last}
use Rattle.list_lemmas.proofs.ItemsOfLists.{place_of}
use Rattle.model_lemmas.proofs.SameNumbers.{same_domain}
use Rattle.jk_model.specs.declared.identifiers.DomainId.{DomainId}
use Rattle.jk_model.specs.declared.script.Quotas.{Quotas}
use Rattle.jk_model_classes.specs.Worlds.{WorldRecord}
use Rattle.jk_model_frames.specs.Pools.{IsPlaceFor, IsPlaced, Pool}
use Rattle.jk_model_heaps.specs.Workings.{Inside}
use Rattle.jk_model_machine_state.specs.Machines.{DomainState, Machine}
use Rattle.jk_model_openings.specs.OpenedDomains.{Admission, new_domain, with_new_domain}
use Rattle.jk_model_openings.specs.PoolsOfMachines.{of_live}
use Rattle.jk_model_runs.specs.Sealed.{IsSealedPool}
use Rattle.machine_laws.specs.OpenedMachines.{EmptyRunsAreFirst}

-- ---- A place that is taken has no page of another run, also where one of them has no pages.

-- where a number is 0 only if the other is, and they reach beyond something together, it isn't 0
positive : (n x y : ℕ) → (n ≡ 0 → x ≡ 0) → y < x + n → 0 < n
positive zero x y none beyond = let first : x ≡ 0 = none refl in absurd (omega (arith, first, beyond))
positive (suc n) x y none beyond = omega arith

module _ (pool : Pool) (pages : ℕ) (place : Option ℕ) where
  -- a run of no pages is put first
  pub empty_first : (first : ℕ) → IsPlaceFor pool pages place → place ≡ Some first → pages ≡ 0 → first ≡ 0
  empty_first first (inl (no_pool, nowhere)) is none = absurd (none-some first (sym nowhere ∙ is))
  empty_first first (inr (limit, at, of, here, fits, least)) is none =
      let same : at ≡ first = same_Some at first (sym here ∙ is) in
      elim (cases_lt 0 at) [
        | inl later ↦
            absurd (least 0 later (omega (arith, none), λ p low high d q from quota page lower upper. omega (arith, none, high)))
        | inr here_first ↦ omega (arith, same, here_first)
      ]

  meets : (first other q : ℕ) (d : DomainId) → IsPlaceFor pool pages place → place ≡ Some first → pool.quota d ≡ Some q
      → pool.first_page d ≡ Some other → 0 < pages → 0 < q → other < first + pages → first < other + q → ⊥
  meets first other q d (inl (no_pool, nowhere)) is quota from some some_there left right = none-some first (sym nowhere ∙ is)
  meets first other q d (inr (limit, at, of, here, fits, least)) is quota from some some_there left right =
      let same : at ≡ first = same_Some at first (sym here ∙ is) in
      elim (cases_lt first other) [
        | inl lower ↦ fits.1 other (omega (arith, same, lower)) (omega (arith, same, left)) d q other quota from (omega arith)
            (omega (arith, some_there))
        | inr upper ↦ fits.1 first (omega (arith, same)) (omega (arith, same, some)) d q other quota from upper right
      ]

  pub apart_from : (first other q : ℕ) (d : DomainId) → IsPlaceFor pool pages place → place ≡ Some first → pool.quota d ≡ Some q
      → pool.first_page d ≡ Some other → EmptyRunsAreFirst pool → (first + pages ≤ other) ⊎ (other + q ≤ first)
  apart_from first other q d placed is quota from empty = elim (cases_lt other (first + pages)) [
    | inr behind ↦ inl behind
    | inl left ↦ elim (cases_lt first (other + q)) [
      | inr behind ↦ inr behind
      | inl right ↦
          absurd (meets first other q d placed is quota from (positive pages first other (empty_first first placed is) left)
          (positive q other first (λ none. empty d other (quota ∙ ap (λ (n : ℕ). Some n) none) from) right) left right)
    ]
  ]

-- ---- What each domain has in a pool, with a new one behind the others.

module _ (m : Machine) (w : WorldRecord) (a : Admission) (inside : Inside) where
  abbrev d : DomainState
  d = new_domain m a inside

  abbrev new : Machine
  new = with_new_domain m w a inside

  module _ (part : DomainState → Inside → Option ℕ) where
    abbrev told : Option DomainState → Option ℕ
    told o = option_and_then (λ (e : DomainState). option_and_then (part e) e.inside) o

    -- the same of a domain that was there
    pub of_old : (x : DomainId) → x.0 < length m.domains → of_live part new x ≡ of_live part m x
    of_old x low = ap told (slice_get-front m.domains (d ∷ []) x.0 low)

    pub of_new : (x : DomainId) → x.0 ≡ length m.domains → of_live part new x ≡ part d inside
    of_new x last = ap told (ap (slice_get new.domains) last ∙ slice_get-last m.domains d)

    of_by : (x : DomainId) (n : ℕ) (o : Option DomainState) → slice_get new.domains x.0 ≡ o → told o ≡ Some n
        → (x.0 < length m.domains) ⊎ (x.0 ≡ length m.domains)
    of_by x n None at is = absurd (none-some n is)
    of_by x n (Some e) at is = elim (old_or_last m.domains d x.0 e at) [ inl old ↦ inl old.0 | inr last ↦ inr last.0 ]

    pub of_which : (x : DomainId) (n : ℕ) → of_live part new x ≡ Some n → (x.0 < length m.domains) ⊎ (x.0 ≡ length m.domains)
    of_which x n is = of_by x n (slice_get new.domains x.0) refl is

  -- ---- The pool of heaps, or that of stacks.

  module _ (pages : Option ℕ) (need : Quotas → ℕ) (place : Inside → Option ℕ) where
    abbrev quota_part : DomainState → Inside → Option ℕ
    quota_part e i = Some (need e.quotas)

    abbrev place_part : DomainState → Inside → Option ℕ
    place_part e i = place i

    abbrev pool_in : Machine → Pool
    pool_in machine = record { pages = pages; quota = of_live quota_part machine; first_page = of_live place_part machine }

    module _ (sealed : IsSealedPool (pool_in m) m) (empty : EmptyRunsAreFirst (pool_in m))
        (placed : IsPlaceFor (pool_in m) (need a.quotas) (place inside))
        (numbered : (i : ℕ) (e : DomainState) → slice_get m.domains i ≡ Some e → e.number.0 ≡ i) where
      number_low : (e : DomainState) → Contains m.domains e → e.number.0 < length m.domains
      number_low e on =
          let at = place_of m.domains e on in
          omega (arith, numbered at.0 e at.1, slice_get_within m.domains at.0 e at.1)

      old_placed : (x : DomainId) (n : ℕ) → x.0 < length m.domains → IsPlaced (pool_in m) x n → IsPlaced (pool_in new) x n
      old_placed x n low (inl (no_pool, nowhere)) = inl (no_pool, of_old place_part x low ∙ nowhere)
      old_placed x n low (inr (limit, first, of, is, within)) = inr (limit, first, of, of_old place_part x low ∙ is, within)

      new_placed : (x : DomainId) (n : ℕ) → x.0 ≡ length m.domains → need a.quotas ≡ n → IsPlaceFor (pool_in m) (need a.quotas) (place inside)
          → IsPlaced (pool_in new) x n
      new_placed x n last is (inl (no_pool, nowhere)) = inl (no_pool, of_new place_part x last ∙ nowhere)
      new_placed x n last is (inr (limit, first, of, here, fits, least)) =
          inr (limit, first, of, of_new place_part x last ∙ here, omega (arith, is, fits.0))

      each_placed : (e : DomainState) (n : ℕ) → Contains new.domains e → (pool_in new).quota e.number ≡ Some n
          → IsPlaced (pool_in new) e.number n
      each_placed e n on is = elim (Contains-push_cases m.domains d e on) [
        | inl old ↦
            let low = number_low e old in
            old_placed e.number n low (sealed.placed e n old (sym (of_old quota_part e.number low) ∙ is))
        | inr same ↦
            let last : e.number.0 ≡ length m.domains = ap (λ (x : DomainState). x.number.0) (sym same) in
            new_placed e.number n last (same_Some (need a.quotas) n (sym (of_new quota_part e.number last) ∙ is)) placed
      ]

      abbrev Apart : ℕ → ℕ → ℕ → ℕ → Type 0
      Apart p q first other = (first + p ≤ other) ⊎ (other + q ≤ first)

      turned : (p q first other : ℕ) → Apart p q first other → Apart q p other first
      turned p q first other (inl h) = inr h
      turned p q first other (inr h) = inl h

      -- the new one, and another
      new_apart : (x y : DomainId) (p q first other : ℕ) → x.0 ≡ length m.domains → y.0 < length m.domains → (pool_in new).quota x ≡ Some p
          → (pool_in new).quota y ≡ Some q → (pool_in new).first_page x ≡ Some first
          → (pool_in new).first_page y ≡ Some other → Apart p q first other
      new_apart x y p q first other last low quota quota_there from from_there =
          let is : need a.quotas ≡ p = same_Some (need a.quotas) p (sym (of_new quota_part x last) ∙ quota) in
          subst (λ (n : ℕ). Apart n q first other) is
          (apart_from (pool_in m) (need a.quotas) (place inside) first other q y placed (sym (of_new place_part x last) ∙ from)
          (sym (of_old quota_part y low) ∙ quota_there) (sym (of_old place_part y low) ∙ from_there) empty)

      each_apart : (x y : DomainId) (p q first other : ℕ) → x ≢ y → (pool_in new).quota x ≡ Some p → (pool_in new).quota y ≡ Some q
          → (pool_in new).first_page x ≡ Some first → (pool_in new).first_page y ≡ Some other → Apart p q first other
      each_apart x y p q first other differ qx qy fx fy = by (of_which quota_part x p qx) (of_which quota_part y q qy)
        where
          by : (x.0 < length m.domains) ⊎ (x.0 ≡ length m.domains) → (y.0 < length m.domains) ⊎ (y.0 ≡ length m.domains) → Apart p q first other
          by (inl low) (inl low_too) =
              sealed.apart x y p q first other differ (sym (of_old quota_part x low) ∙ qx) (sym (of_old quota_part y low_too) ∙ qy)
              (sym (of_old place_part x low) ∙ fx) (sym (of_old place_part y low_too) ∙ fy)
          by (inl low) (inr last) = turned q p other first (new_apart y x q p other first last low qy qx fy fx)
          by (inr last) (inl low) = new_apart x y p q first other last low qx qy fx fy
          by (inr last) (inr last_too) = absurd (differ (same_domain x y (last ∙ sym last_too)))

      pub opened_pool : IsSealedPool (pool_in new) new
      opened_pool = record { placed = each_placed; apart = each_apart }

      pub opened_empty : EmptyRunsAreFirst (pool_in new)
      opened_empty x first quota from = by (of_which quota_part x 0 quota)
        where
          by : (x.0 < length m.domains) ⊎ (x.0 ≡ length m.domains) → first ≡ 0
          by (inl low) = empty x first (sym (of_old quota_part x low) ∙ quota) (sym (of_old place_part x low) ∙ from)
          by (inr last) =
              empty_first (pool_in m) (need a.quotas) (place inside) first placed (sym (of_new place_part x last) ∙ from)
              (same_Some (need a.quotas) 0 (sym (of_new quota_part x last) ∙ quota))
