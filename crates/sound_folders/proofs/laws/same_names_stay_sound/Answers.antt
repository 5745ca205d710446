-- By the lemmas on the same name tables.
use Rattle.sound_folders.proofs.FirstClasses.{same-linked, same-sound}
use Rattle.sound_folders.proofs.laws.same_names_stay_sound.Goals as goal

pub returns-clause-sound : goal.returns-clause-sound
returns-clause-sound c = λ classes old tables sound same. same-sound classes old tables same sound

pub returns-clause-linked : goal.returns-clause-linked
returns-clause-linked c = λ classes old tables linked same. same-linked classes old tables same linked
