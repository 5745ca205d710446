-- By the lemmas on accepted folders.
use Rattle.sound_folders.proofs.SoundAgain.{accepted-linked, accepted-sound}
use Rattle.sound_folders.proofs.laws.accepted_folders_stay_sound.Goals as goal

pub returns-clause-sound : goal.returns-clause-sound
returns-clause-sound c = λ old tables f name first table offers stubs new sound linked a ordered. accepted-sound a tables sound linked ordered

pub returns-clause-linked : goal.returns-clause-linked
returns-clause-linked c = λ old tables f name first table offers stubs new sound linked a ordered. accepted-linked a tables sound linked ordered
