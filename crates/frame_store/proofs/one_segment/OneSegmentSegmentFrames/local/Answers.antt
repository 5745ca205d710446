-- The local is read at the cursor.
use Rattle.std.proofs.Common.{◌<◌, ◌∙◌, length, slice_get, ap, subst}
use Rattle.jk_model_frames.specs.Frames.{FrameState}
use Rattle.frame_store.proofs.LentCalls.{frame_there, value_was, values_there}
use Rattle.frame_store.proofs.one_segment.OneSegmentSegmentFrames.local.Goals as goal

pub local-requires-clause-frame : goal.local-requires-clause-frame
local-requires-clause-frame g c =
    let one = c.args.self.now in
    frame_there one.domain.ghost_name one.domain.now one.at c.args._s one.right c.requires.0 c.requires.1

pub local-requires-clause-start : goal.local-requires-clause-start
local-requires-clause-start g c =
    let one = c.args.self.now in
    (values_there one.domain.ghost_name one.domain.now one.at c.args._s one.right c.requires.0 c.requires.1).start

pub local-requires-clause-there : goal.local-requires-clause-there
local-requires-clause-there g c =
    let one = c.args.self.now in
    let P : FrameState → Type 0 = λ (f : FrameState). c.args.i < length f.locals in
    subst P (value_was one.domain.ghost_name one.domain.now one.at c.args._s one.right c.requires.0 c.requires.1) c.requires.2

pub returns : goal.returns
returns g c =
    let one = c.args.self.now in
    λ f top. ap (λ (h : FrameState). slice_get h.locals c.args.i) (value_was one.domain.ghost_name one.domain.now one.at c.args._s
    one.right f top) ∙ c.local.ensures
