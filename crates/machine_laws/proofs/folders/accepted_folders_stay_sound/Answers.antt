-- By the lemmas on accepted folders.
use Rattle.machine_laws.proofs.SoundAgain.{accepted_linked, accepted_sound}
use Rattle.machine_laws.proofs.folders.accepted_folders_stay_sound.Goals as goal

pub returns : goal.returns
returns c = λ old new tables f name first table offers stubs sound linked a. (accepted_sound a tables sound linked, accepted_linked a tables sound linked)
