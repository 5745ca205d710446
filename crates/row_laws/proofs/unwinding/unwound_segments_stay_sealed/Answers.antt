-- By the frames that are left, and the one that catches.
use Rattle.row_laws.proofs.UnwoundKept.{unwound_kept}
use Rattle.row_laws.proofs.unwinding.unwound_segments_stay_sealed.Goals as goal

pub returns : goal.returns
returns c =
    λ around x t old new a unwound may in_progress unwinds. unwound_kept around x may.setting t old new a may in_progress unwound unwinds
