-- Which pages of the pools come back when a domain ends.
use Rattle.std.specs.Prelude.{◌≡◌, ◌≢◌, ℕ, List, Some, None}
use Rattle.jk_model.specs.declared.identifiers.DomainId.{DomainId}
use Rattle.jk_model.specs.declared.output.Line.{Line}
use Rattle.jk_model_frames.specs.Pools.{Pool}
use Rattle.jk_model_machine_state.specs.Machines.{DomainState, Machine, live_domain}
use Rattle.jk_model_openings.specs.PoolsOfMachines.{heap_pool, stack_pool}
use Rattle.jk_model_runs.specs.Events.{Kills}
use Rattle.jk_model_runs.specs.Sealed.{IsSealed}

-- the domain has none of a pool any more, and each other domain has what it had
pub record GivesBack (d : DomainId) (old new : Pool) : Type 0 where
  pub pages : new.pages ≡ old.pages
  pub gone : (new.quota d ≡ None) × (new.first_page d ≡ None)
  pub others : (e : DomainId) → e ≢ d → (new.quota e ≡ old.quota e) × (new.first_page e ≡ old.first_page e)

-- The pages of the live domain of this name, and no others, are free then.
abbrev pub FreesPages : Machine → List ℕ → Machine → Type 0
FreesPages m name new =
    (d : DomainState) → live_domain m name ≡ Some d
    → GivesBack d.number (heap_pool m) (heap_pool new) × GivesBack d.number (stack_pool m) (stack_pool new)

-- A kill does so: it is a law of what a kill is.
abbrev pub KillsFreePages : Type 0
KillsFreePages = (m new : Machine) (name : List ℕ) (lines : List Line) → IsSealed m → Kills m name lines new → FreesPages m name new
