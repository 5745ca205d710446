-- What holds of the kernel's machine holds of the first one, and each start, step, kill and opening keeps it.
use Rattle.std.proofs.Common.{◌≡◌, ◌+◌, ◌≤◌, List, length, refl, ap, ◌∙◌, arith, length-append}
use Rattle.std.proofs.lemmas.List.{length-map}
use Rattle.jk_model.specs.declared.output.Line.{Line}
use Rattle.jk_model_machine_state.specs.Machines.{Machine}
use Rattle.jk_model_runs.specs.Events.{IsWhole}
use Rattle.jk_model_runs.specs.Starts.{Starts, StartWords}
use Rattle.kernel_events.specs.RisingNumbers.{NumbersRiseInEvents}
use Rattle.machine_laws.specs.KnownMachines.{IsKnownMachine}
use Rattle.machine_laws.specs.LoadingNext.{FirstMachinesLoadNext, KillsLoadNext, LoadsNext, OpeningsLoadNext, StartsLoadNext, StepsLoadNext}
use Rattle.machine_laws.specs.MachinesOfRuns.{KillsMayGrow, OpeningsStayKnown, StartsMayGrow, StepsMayGrow}
use Rattle.machine_laws.specs.OpenedMachines.{FirstMachinesMayGrow, MayGrow}
use Rattle.machine_laws.specs.SealedSteps.{FirstMachinesAreKnown, KillsStayKnown, StartsStayKnown, StepsStayKnown}
use Rattle.jk_kernel.specs.SoundMachines.{FirstMachinesAreSound, IsSoundMachine, KillsKeepSound, OpeningsKeepSound, StartsKeepSound, StepsKeepSound}

-- what a kernel keeps follows, but for the number of domains
pub sound_machine : (m : Machine) → IsKnownMachine m → MayGrow m → LoadsNext m → length m.domains ≤ 65535 → IsSoundMachine m
sound_machine m known grows loads few = record {
  kernel = record { answered = known.0.1; capabilities = grows.made_there; few_domains = few };
  known = known;
  grows = grows;
  loads = loads;
}

pub whole_machine : (m : Machine) → IsSoundMachine m → IsWhole m
whole_machine m sound = sound.known.0

pub first_sound : FirstMachinesAreKnown → FirstMachinesMayGrow → FirstMachinesLoadNext → FirstMachinesAreSound
first_sound known grows loads heap_pages stack_pages m first =
    let none : length m.domains ≡ 0 = ap length first.no_domains in
    sound_machine m (known heap_pages stack_pages m first) (grows heap_pages stack_pages m first) (loads heap_pages stack_pages m first)
    (omega (arith, none))

pub steps_sound : StepsStayKnown → StepsMayGrow → StepsLoadNext → NumbersRiseInEvents → StepsKeepSound
steps_sound known grows loads rises m new t lines sound steps =
    let same = (rises.steps m new t lines steps).domains in
    sound_machine new (known m new t lines sound.known steps) (grows m new t lines sound.known sound.grows steps)
    (loads m new t lines sound.known sound.loads steps) (omega (arith, same, sound.kernel.few_domains))

pub kills_sound : KillsStayKnown → KillsMayGrow → KillsLoadNext → NumbersRiseInEvents → KillsKeepSound
kills_sound known grows loads rises m new name lines sound kills =
    let same = (rises.kills m new name lines kills).domains in
    sound_machine new (known m new name lines sound.known kills) (grows m new name lines sound.known sound.grows kills)
    (loads m new name lines sound.loads kills) (omega (arith, same, sound.kernel.few_domains))

starts_count : (m : Machine) (start : StartWords) (new : Machine) (lines : List Line) → Starts m start lines new → length new.domains ≡ length m.domains
starts_count m start new lines (Starts.no_domain none) = refl
starts_count m start new lines (Starts.no_class h none) = refl
starts_count m start new lines (Starts.no_main h none) = refl
starts_count m start new lines (Starts.many_threads h many) = refl
starts_count m start new lines (Starts.many_words h threads many) = refl
starts_count m start new lines (Starts.few_chunks h threads words few) = refl
starts_count m start new lines (Starts.begins h threads chunks heap words frame called) = length-map m.domains _

pub starts_sound : StartsStayKnown → StartsMayGrow → StartsLoadNext → StartsKeepSound
starts_sound known grows loads m new start lines sound starts =
    let same = starts_count m start new lines starts in (
      sound_machine new (known m new start lines sound.known starts) (grows m new start lines sound.known sound.grows starts)
          (loads m new start lines sound.known sound.loads starts) (omega (arith, same, sound.kernel.few_domains)),
      same,
    )

pub openings_sound : OpeningsStayKnown → OpeningsLoadNext → OpeningsKeepSound
openings_sound law loads f m new name quotas files sound o =
    let count : length new.domains ≡ length m.domains + 1 =
    ap (λ (x : Machine). length x.domains) o.leads ∙ length-append m.domains _ in
    let both = law f m new name quotas sound.known sound.grows o in
    sound_machine new both.0 both.1 (loads f m new name quotas files sound.loads o) (omega (arith, count, o.few))
