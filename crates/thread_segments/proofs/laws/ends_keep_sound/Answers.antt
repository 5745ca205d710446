-- What goes with a domain goes step by step: its capabilities, its names, its segments, and then that it is live.
use Rattle.thread_segments.proofs.SoundEnding.{sound_dropped}
use Rattle.thread_segments.proofs.laws.ends_keep_sound.Goals as goal

pub returns : goal.returns
returns c = sound_dropped
