-- From the top frame downwards.
use Rattle.row_laws.proofs.RoomToCatch.{room_to_catch}
use Rattle.row_laws.proofs.WaysThere.{unwound}
use Rattle.row_laws.proofs.unwinding.ways_are_there.Goals as goal

pub returns-clause-ways : goal.returns-clause-ways
returns-clause-ways c = λ around x run a may states. unwound around x may.setting run a may states

pub returns-clause-room : goal.returns-clause-room
returns-clause-room c = λ x heap f a h typing catches. room_to_catch x heap f a h typing catches
