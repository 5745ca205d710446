-- A machine without domains and threads has nothing that stands in the way of opening a domain.
use Rattle.std.proofs.Common.{◌≡◌, ℕ, List, [], Option, None, Some, slice_get, ap, ◌∙◌, sym}
use Rattle.std.specs.Prelude.{option_and_then}
use Rattle.std.proofs.lemmas.Option.{none-some}
use Rattle.list_lemmas.proofs.ItemsOfLists.{none_in}
use Rattle.jk_model.specs.declared.identifiers.DomainId.{DomainId}
use Rattle.jk_model_heaps.specs.Workings.{Inside}
use Rattle.jk_model_machine_state.specs.Machines.{DomainState, Machine}
use Rattle.jk_model_openings.specs.PoolsOfMachines.{heap_pages_of, of_live, stack_pages_of}
use Rattle.machine_laws.specs.OpenedMachines.{MayGrow}

module _ (m : Machine) (no_domains : m.domains ≡ []) where
  none_has : (part : DomainState → Inside → Option ℕ) (d : DomainId) (n : ℕ) → of_live part m d ≡ Some n → ⊥
  none_has part d n is =
      let nothing : of_live part m d ≡ None =
      ap (λ (ds : List DomainState). option_and_then (λ (e : DomainState). option_and_then (part e) e.inside) (slice_get ds d.0)) no_domains in
      none-some n (sym nothing ∙ is)

  pub first_grows : m.threads ≡ [] → MayGrow m
  first_grows no_threads = record {
    made_there = λ d c on. absurd (none_in d m.domains no_domains on);
    started_there = λ thread on. absurd (none_in thread m.threads no_threads on);
    heaps = λ d first quota from. absurd (none_has (λ e i. Some (heap_pages_of e.quotas)) d 0 quota);
    stacks = λ d first quota from. absurd (none_has (λ e i. Some (stack_pages_of e.quotas)) d 0 quota);
  }
