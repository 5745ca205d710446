-- By the lemmas on the system classes.
use Rattle.sound_folders.proofs.FirstClasses.{first-linked, first-sound}
use Rattle.sound_folders.proofs.laws.first_classes_are_sound.Goals as goal

pub returns-clause-sound : goal.returns-clause-sound
returns-clause-sound c = λ classes system. first-sound classes system

pub returns-clause-linked : goal.returns-clause-linked
returns-clause-linked c = λ classes system. first-linked classes system
