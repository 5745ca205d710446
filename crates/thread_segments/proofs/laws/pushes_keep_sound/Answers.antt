-- One more segment, of the next number.
use Rattle.thread_segments.proofs.SoundGrowth.{sound_pushed}
use Rattle.thread_segments.proofs.laws.pushes_keep_sound.Goals as goal

pub returns : goal.returns
returns c = sound_pushed
