-- Where a domain is killed, all that was known of the machine is known still.
use Rattle.std.proofs.Common.{ℕ, List}
use Rattle.jk_model.specs.declared.output.Line.{Line}
use Rattle.jk_model_machine_state.specs.Machines.{Machine}
use Rattle.jk_model_runs.specs.Events.{IsWhole, Kills}
use Rattle.machine_laws.specs.KnownMachines.{IsKnownMachine}
use Rattle.machine_laws.proofs.EndsSealed.{ends_answered, ends_sealed}
use Rattle.machine_laws.proofs.WorldsKept.{kills_keep, sound_classes_stay}

kills_whole : (m new : Machine) (name : List ℕ) (lines : List Line) → IsWhole m → Kills m name lines new → IsWhole new
kills_whole m new name lines whole (Kills.no_domain none) = whole
kills_whole m new name lines whole (Kills.kills d said end found ends) = (ends_sealed m end d said whole.0 ends, ends_answered m end d said whole.1 ends)

pub kills_known : (m new : Machine) (name : List ℕ) (lines : List Line) → IsKnownMachine m → Kills m name lines new → IsKnownMachine new
kills_known m new name lines known killed =
    (kills_whole m new name lines known.0 killed, sound_classes_stay m new (kills_keep m new name lines killed) known.1)
