-- A frame whose parts stand elsewhere, as a frame.
use Rattle.jk_model_typing.specs.declared.frames.FrameType.{FrameType}
use Rattle.type_frames.specs.declared.frames.FrameRef.{FrameRef}

abbrev pub seen : FrameRef → FrameType
seen f = record { locals = f.locals.now; stack = f.stack.now; fresh = f.fresh }
