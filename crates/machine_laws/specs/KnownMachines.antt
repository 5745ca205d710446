-- What is known of a machine whose folders were all accepted.
use Rattle.jk_model_machine_state.specs.Machines.{Machine}
use Rattle.jk_model_runs.specs.Events.{IsWhole}
use Rattle.machine_laws.specs.SoundMachines.{HasSoundClasses}

-- it is sealed, its calls are answered, and its classes and names are sound
abbrev pub IsKnownMachine : Machine → Type 0
IsKnownMachine m = IsWhole m × HasSoundClasses m
