-- Where a segment has run, each domain has the place in the pools that it had.
use Rattle.std.proofs.Common.{◌≡◌, ◌≢◌, ℕ, ◌⊎◌, inl, inr, Option, Some, slice_get, refl, sym, ap, subst, ◌∙◌}
use Rattle.std.specs.Option.{option_and_then}
use Rattle.std.proofs.lemmas.Bool.{cases_eq}
use Rattle.jk_model.specs.declared.identifiers.DomainId.{DomainId}
use Rattle.jk_model.specs.declared.identifiers.ThreadNo.{ThreadNo}
use Rattle.jk_model_frames.specs.Pools.{IsPlaced, Pool}
use Rattle.jk_model_heaps.specs.Workings.{Inside}
use Rattle.jk_model_machine_state.specs.Machines.{DomainState, Machine}
use Rattle.jk_model_openings.specs.PoolsOfMachines.{heap_pages_of, heap_pool, of_live, stack_pages_of, stack_pool}
use Rattle.jk_model_runs.specs.Sealed.{IsSealedPool}
use Rattle.list_lemmas.proofs.ItemsOfLists.{Contains-at}
use Rattle.machine_laws.proofs.SegmentsThatRan.{HasRun, after, each_domain, elsewhere_at, here, here_at, home_at, home_there, number_here}

module _ (m : Machine) (t : ThreadNo) (r : HasRun m t) where
  part_stays : {X : Type 0} (part : DomainState → Inside → Option X) → part (here r) r.inside ≡ part r.place.home.domain r.place.home.inside
      → (d : DomainId) → of_live part (after r) d ≡ of_live part m d
  part_stays {X = X} part h d = by (cases_eq d.0 (number_here r).0)
    where
      by : (d.0 ≡ (number_here r).0) ⊎ (d.0 ≢ (number_here r).0) → of_live part (after r) d ≡ of_live part m d
      by (inl same) =
          ap (option_and_then (λ (e : DomainState). option_and_then (part e) e.inside)) (ap (slice_get (after r).domains) same ∙ here_at m t r) ∙ h
          ∙ ap (option_and_then (part r.place.home.domain)) (sym r.place.home.is_inside)
          ∙ ap (option_and_then (λ (e : DomainState). option_and_then (part e) e.inside)) (sym (ap (slice_get m.domains) same ∙ home_at m t r))
      by (inr differ) = ap (option_and_then (λ (e : DomainState). option_and_then (part e) e.inside)) (elsewhere_at m t r d.0 differ)

  heap_pool_stays : heap_pool m ≡ heap_pool (after r)
  heap_pool_stays = λ i. record {
    pages = m.heap_pages;
    quota = λ d. sym (part_stays (λ e inside. Some (heap_pages_of e.quotas)) refl d) i;
    first_page = λ d. sym (part_stays (λ e inside. inside.heap_at) r.keeps.pages.0 d) i;
  }

  stack_pool_stays : stack_pool m ≡ stack_pool (after r)
  stack_pool_stays = λ i. record {
    pages = m.stack_pages;
    quota = λ d. sym (part_stays (λ e inside. Some (stack_pages_of e.quotas)) refl d) i;
    first_page = λ d. sym (part_stays (λ e inside. inside.stack_at) r.keeps.pages.1 d) i;
  }

  pool_sealed : (pool : Pool) → IsSealedPool pool m → IsSealedPool pool (after r)
  pool_sealed pool h = record {
    placed = λ d pages on has.
        each_domain m t r (λ e. (n : ℕ) → pool.quota e.number ≡ Some n → IsPlaced pool e.number n)
        (λ n. h.placed r.place.home.domain n (home_there m t r)) (λ i e differ at n. h.placed e n (Contains-at m.domains i e at)) d on pages has;
    apart = h.apart;
  }

  pub heaps_placed : IsSealedPool (heap_pool (after r)) (after r)
  heaps_placed = subst (λ (pool : Pool). IsSealedPool pool (after r)) heap_pool_stays (pool_sealed (heap_pool m) r.sealed.heap_places)

  pub stacks_placed : IsSealedPool (stack_pool (after r)) (after r)
  stacks_placed = subst (λ (pool : Pool). IsSealedPool pool (after r)) stack_pool_stays (pool_sealed (stack_pool m) r.sealed.stack_places)
