-- The entry is read at the cursor.
use Rattle.std.proofs.Common.{◌<◌, ◌-◌, ◌∙◌, length, slice_get, ap, subst}
use Rattle.jk_model_frames.specs.Frames.{FrameState}
use Rattle.frame_store.proofs.LentCalls.{frame_there, value_was, values_there}
use Rattle.frame_store.proofs.one_segment.OneSegmentSegmentFrames.peek.Goals as goal

pub entry_below-requires-clause-frame : goal.entry_below-requires-clause-frame
entry_below-requires-clause-frame g c =
    let one = c.args.self.now in
    frame_there one.domain.ghost_name one.domain.now one.at c.args._s one.right c.requires.0 c.requires.1

pub entry_below-requires-clause-values : goal.entry_below-requires-clause-values
entry_below-requires-clause-values g c =
    let one = c.args.self.now in
    values_there one.domain.ghost_name one.domain.now one.at c.args._s one.right c.requires.0 c.requires.1

pub entry_below-requires-clause-there : goal.entry_below-requires-clause-there
entry_below-requires-clause-there g c =
    let one = c.args.self.now in
    let P : FrameState → Type 0 = λ (f : FrameState). c.args.below < length f.stack in
    subst P (value_was one.domain.ghost_name one.domain.now one.at c.args._s one.right c.requires.0 c.requires.1) c.requires.2

pub returns : goal.returns
returns g c =
    let one = c.args.self.now in
    λ f top. ap (λ (h : FrameState). slice_get h.stack (length h.stack - 1 - c.args.below)) (value_was one.domain.ghost_name one.domain.now
    one.at c.args._s one.right f top) ∙ c.entry_below.ensures
