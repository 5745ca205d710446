-- By the lemmas on the system classes.
use Rattle.machine_laws.proofs.SystemClassesSound.{system_linked, system_sound}
use Rattle.machine_laws.proofs.folders.system_classes_are_sound.Goals as goal

pub returns : goal.returns
returns c = λ classes system. (system_sound classes system, system_linked classes system)
