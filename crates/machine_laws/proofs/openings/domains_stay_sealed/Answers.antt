-- By the lemmas on surroundings that are widened.
use Rattle.jk_model_sealing.specs.FittingFrames.{FitsAsTop, FitsAtCall}
use Rattle.machine_laws.proofs.WidenedSurroundings.{call_widened, frames_widened, inside_widened, top_widened}
use Rattle.machine_laws.proofs.openings.domains_stay_sealed.Goals as goal

pub returns-clause-insides : goal.returns-clause-insides
returns-clause-insides c = λ old new quota inside w codes then sound h. inside_widened old new w codes sound quota inside h

pub returns-clause-frames : goal.returns-clause-frames
returns-clause-frames c = λ old new heap frames w codes then sound. (
  frames_widened old new w codes sound (FitsAsTop old.classes heap) (FitsAsTop new.classes heap) (top_widened old new w codes sound heap) heap frames,
  frames_widened old new w codes sound (FitsAtCall old.classes heap) (FitsAtCall new.classes heap) (call_widened old new w codes sound heap) heap frames,
)
