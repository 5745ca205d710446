-- A local of the top frame is written at the cursor.
use Rattle.std.proofs.Common.{◌<◌, length, set, refl, subst}
use Rattle.jk_model_frames.specs.Frames.{FrameState}
use Rattle.frame_store.proofs.LentCalls.{frame_there, here_of, on_top, right_still, sets_by, stays, value_was, values_there}
use Rattle.frame_store.proofs.one_segment.OneSegmentSegmentFrames.set_local.Goals as goal

pub set_local-requires-clause-frame : goal.set_local-requires-clause-frame
set_local-requires-clause-frame g c =
    let one = c.args.self.now in
    frame_there one.domain.ghost_name one.domain.now one.at c.args._s one.right c.requires.0 c.requires.1

pub set_local-requires-clause-start : goal.set_local-requires-clause-start
set_local-requires-clause-start g c =
    let one = c.args.self.now in
    (values_there one.domain.ghost_name one.domain.now one.at c.args._s one.right c.requires.0 c.requires.1).start

pub set_local-requires-clause-there : goal.set_local-requires-clause-there
set_local-requires-clause-there g c =
    let one = c.args.self.now in
    let P : FrameState → Type 0 = λ (f : FrameState). c.args.i < length f.locals in
    subst P (value_was one.domain.ghost_name one.domain.now one.at c.args._s one.right c.requires.0 c.requires.1) c.requires.2

pub invariant_of-self : goal.invariant_of-self
invariant_of-self g c =
    let one = c.args.self.now in
    let e = c.set_local.ensures in
    let becomes = e.becomes one.at.place.slot (on_top one.domain.ghost_name one.domain.now one.at c.args._s one.right c.requires.0 c.requires.1) in
    record {
      right = right_still one.domain.now c.set_local.new.self one.at one.at _ _ becomes one.right e.frames e.parts e.locals;
      stays = stays one.domain.now c.set_local.new.self one.at one.at _ _ becomes _ refl refl refl one.stays;
    }

pub returns : goal.returns
returns g c =
    let one = c.args.self.now in
    λ f top.
    sets_by one.domain.ghost_name one.domain.now c.set_local.new.self one.at one.at c.args._s refl refl (here_of one.domain.ghost_name
    one.domain.now one.at c.args._s one.right f top) one.right
    (λ (h : FrameState). record h { locals = set h.locals c.args.i c.args.v }) c.set_local.ensures.becomes f top
