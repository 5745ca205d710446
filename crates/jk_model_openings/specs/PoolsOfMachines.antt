-- The two pools of a machine, of pages of 64 words: which pages the heaps of live domains have in the one, and their stacks in the other.
use Rattle.std.specs.Prelude.{ℕ, ◌+◌, ◌/◌, Option, Some, None, option_and_then, option_map}
use Rattle.jk_model.specs.declared.identifiers.DomainId.{DomainId}
use Rattle.jk_model.specs.declared.script.Quotas.{Quotas}
use Rattle.jk_model_frames.specs.Pools.{Pool}
use Rattle.jk_model_heaps.specs.Workings.{Inside}
use Rattle.jk_model_machine_state.specs.Machines.{DomainState, Machine, domain_at}

-- how many pages a heap of so many words takes, and the stacks of so many chunks: a chunk is a page
abbrev pub heap_pages_of : Quotas → ℕ
heap_pages_of q = (q.heap + 63) / 64

abbrev pub stack_pages_of : Quotas → ℕ
stack_pages_of q = q.chunks

-- what a live domain has there; nothing of a domain that was killed
abbrev pub of_live : {X : Type 0} → (DomainState → Inside → Option X) → Machine → DomainId → Option X
of_live part m d = option_and_then (λ (e : DomainState). option_and_then (part e) e.inside) (domain_at m d)

abbrev pub heap_pool : Machine → Pool
heap_pool m = record {
  pages = m.heap_pages;
  quota = of_live (λ e inside. Some (heap_pages_of e.quotas)) m;
  first_page = of_live (λ e inside. inside.heap_at) m;
}

abbrev pub stack_pool : Machine → Pool
stack_pool m = record {
  pages = m.stack_pages;
  quota = of_live (λ e inside. Some (stack_pages_of e.quotas)) m;
  first_page = of_live (λ e inside. inside.stack_at) m;
}
