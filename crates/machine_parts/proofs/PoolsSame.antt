-- What a domain has in a pool of the machine it has in the pool of a store.
use Rattle.std.proofs.Common.{◌≡◌, Option, Some, None, option_map, refl, sym, ap, ◌∙◌}
use Rattle.std.specs.Prelude.{option_and_then}
use Rattle.std.proofs.lemmas.Option.{same_Some}
use Rattle.jk_model.specs.declared.identifiers.DomainId.{DomainId}
use Rattle.jk_model_heaps.specs.Workings.{Inside}
use Rattle.jk_model_machine_state.specs.Machines.{DomainState, domain_at}
use Rattle.jk_model_machine_state.specs.Places.{LiveDomain}
use Rattle.jk_model_openings.specs.PoolsOfMachines.{heap_pages_of, heap_pool, of_live, stack_pages_of, stack_pool}
use Rattle.object_store.specs.HeapContents.{IsHeapContent, pages_for}
use Rattle.object_store.specs.HeapContents.{pool_of as pool_of_heaps}
use Rattle.frame_store.specs.FrameContents.{IsContent}
use Rattle.frame_store.specs.FrameContents.{pool_of as pool_of_frames}
use Rattle.machine_parts.specs.FittingParts.{AreFittingParts}
use Rattle.machine_parts.specs.MachineParts.{MachineParts, machine_of}
use Rattle.machine_parts.proofs.DomainsOfParts.{at_place, live_domain_is_of_parts}

module _ (p : MachineParts) (fit : AreFittingParts p) where
  -- a domain that is there with an inside lives
  lives : (d : DomainId) (e : DomainState) → domain_at (machine_of p) d ≡ Some e → (x : Inside) → e.inside ≡ Some x → LiveDomain (machine_of p) d
  lives d e is x inside = record {
    domain = e;
    is_domain = is;
    numbered = λ i. record { 0 = number i };
    inside = x;
    is_inside = inside;
  }
    where
      number : e.number.0 ≡ d.0
      number =
          let a = at_place p.heap p.frames p.world.domains p.shared.domains p.owns d.0 e is in
          ap (λ (y : DomainState). y.number.0) a.is_state ∙ fit.domains.numbered d.0 a.names a.is_named

  -- none without an inside does
  dead : (d : DomainId) (e : DomainState) → domain_at (machine_of p) d ≡ Some e → e.inside ≡ None → LiveDomain (machine_of p) d → ⊥
  dead d e is inside l =
      let same : e ≡ l.domain = same_Some e l.domain (sym is ∙ l.is_domain) in
      let never : None ≡ Some l.inside = sym inside ∙ ap (λ (x : DomainState). x.inside) same ∙ l.is_inside in
      absurd cc

  absent : (d : DomainId) → domain_at (machine_of p) d ≡ None → LiveDomain (machine_of p) d → ⊥
  absent d is l = let never : None ≡ Some l.domain = sym is ∙ l.is_domain in absurd cc

  -- what a live domain has is this, and a dead one has nothing
  module _ {X : Type 0} (part : DomainState → Inside → Option X) (stored : DomainId → Option X)
      (alive : (d : DomainId) (l : LiveDomain (machine_of p) d) → part l.domain l.inside ≡ stored d)
      (gone : (d : DomainId) → (LiveDomain (machine_of p) d → ⊥) → stored d ≡ None) where
    by_inside : (d : DomainId) (e : DomainState) → domain_at (machine_of p) d ≡ Some e → (o : Option Inside) → e.inside ≡ o
        → option_and_then (part e) o ≡ stored d
    unfolding lives
    by_inside d e is None inside = sym (gone d (dead d e is inside))
    by_inside d e is (Some x) inside = alive d (lives d e is x inside)

    by_place : (d : DomainId) (o : Option DomainState) → domain_at (machine_of p) d ≡ o
        → option_and_then (λ (e : DomainState). option_and_then (part e) e.inside) o ≡ stored d
    by_place d None is = sym (gone d (absent d is))
    by_place d (Some e) is = by_inside d e is e.inside refl

    same_parts : (d : DomainId) → of_live part (machine_of p) d ≡ stored d
    same_parts d = by_place d (domain_at (machine_of p) d) refl

  heap_at : (d : DomainId) (l : LiveDomain (machine_of p) d) → l.inside.heap_at ≡ p.heap.first_page d
  heap_at d l = ap (λ (x : Inside). x.heap_at) (live_domain_is_of_parts p d l fit.domains).5

  stack_at : (d : DomainId) (l : LiveDomain (machine_of p) d) → l.inside.stack_at ≡ p.frames.first_page d
  stack_at d l = ap (λ (x : Inside). x.stack_at) (live_domain_is_of_parts p d l fit.domains).5

  pub heap_pools : IsHeapContent p.heap → heap_pool (machine_of p) ≡ pool_of_heaps p.heap
  heap_pools heaps = λ i. record {
    pages = p.heap.pages;
    quota = λ (d : DomainId). same_parts (λ (e : DomainState) (x : Inside). Some (heap_pages_of e.quotas))
        (λ (n : DomainId). option_map pages_for (p.heap.quota n))
        (λ n l. ap (option_map pages_for) (sym (fit.live.words n l)))
        (λ n never. ap (option_map pages_for) (fit.live.no_others n never).0) d i;
    first_page = λ (d : DomainId). same_parts (λ (e : DomainState) (x : Inside). x.heap_at) p.heap.first_page heap_at
        (λ n never. (heaps.unused n (fit.live.no_others n never).0).1) d i;
  }

  pub stack_pools : IsContent p.frames → stack_pool (machine_of p) ≡ pool_of_frames p.frames
  stack_pools frames = λ i. record {
    pages = p.frames.pages;
    quota = λ (d : DomainId). same_parts (λ (e : DomainState) (x : Inside). Some (stack_pages_of e.quotas)) p.frames.quota
        (λ n l. sym (fit.live.chunks n l)) (λ n never. (fit.live.no_others n never).1) d i;
    first_page = λ (d : DomainId). same_parts (λ (e : DomainState) (x : Inside). x.stack_at) p.frames.first_page stack_at
        (λ n never. (frames.unused n (fit.live.no_others n never).1).1) d i;
  }
