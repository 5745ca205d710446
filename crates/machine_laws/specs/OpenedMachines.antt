-- Machines in which a domain is opened: they stay whole where what holds of all machines of a run holds besides.
use Rattle.std.specs.Prelude.{◌≡◌, ◌<◌, ℕ, List, length, Contains, Option, Some}
use Rattle.jk_model.specs.declared.identifiers.DomainId.{DomainId}
use Rattle.jk_model.specs.declared.output.Line.{Line}
use Rattle.jk_model.specs.declared.script.Quotas.{Quotas}
use Rattle.jk_model_classes.specs.Classes.{HasClass}
use Rattle.jk_model_folders.specs.declared.files.FolderFiles.{FolderFiles}
use Rattle.jk_model_frames.specs.Pools.{Pool}
use Rattle.jk_model_heaps.specs.Capabilities.{Capability}
use Rattle.jk_model_machine_state.specs.Machines.{DomainState, IsFirstMachine, Machine, Thread}
use Rattle.jk_model_openings.specs.Openings.{OpensWith}
use Rattle.jk_model_openings.specs.PoolsOfMachines.{heap_pool, stack_pool}
use Rattle.jk_model_runs.specs.Events.{IsWhole}
use Rattle.machine_laws.specs.SoundMachines.{HasSoundClasses}

-- what has no pages stands at the first page
abbrev pub EmptyRunsAreFirst : Pool → Type 0
EmptyRunsAreFirst pool = (d : DomainId) (first : ℕ) → pool.quota d ≡ Some 0 → pool.first_page d ≡ Some first → first ≡ 0

-- What a sealed machine may lack, and each machine of a run from the first one on has.
pub record MayGrow (m : Machine) : Type 0 where
  -- each capability is of a class that is there: nothing stands in for another domain
  pub made_there : (d : DomainState) (c : Capability) → Contains m.domains d → Contains d.caps.made c → HasClass m.classes c.class
  -- each thread was started in a domain that was added
  pub started_there : (thread : Thread) → Contains m.threads thread → thread.domain.0 < length m.domains
  pub heaps : EmptyRunsAreFirst (heap_pool m)
  pub stacks : EmptyRunsAreFirst (stack_pool m)

abbrev pub OpeningsStayWhole : Type 0
OpeningsStayWhole =
    (f : FolderFiles) (m new : Machine) (name : List ℕ) (quotas : Quotas) (lines : List Line) → IsWhole m → HasSoundClasses m → MayGrow m
    → OpensWith f m name quotas lines new → HasSoundClasses new → IsWhole new × MayGrow new

-- the machine without domains is such a one
abbrev pub FirstMachinesMayGrow : Type 0
FirstMachinesMayGrow = (heap_pages stack_pages : Option ℕ) (m : Machine) → IsFirstMachine heap_pages stack_pages m → MayGrow m
