-- The top frame goes on at the cursor.
use Rattle.std.proofs.Common.{◌+◌, ◌^◌, ◌<◌, None, refl, subst}
use Rattle.jk_model_frames.specs.Frames.{FrameState}
use Rattle.frame_store.proofs.LentCalls.{frame_there, here_of, on_top, right_still, sets_by, stays, value_was}
use Rattle.frame_store.proofs.one_segment.OneSegmentSegmentFrames.go_on.Goals as goal

pub go_on-requires-clause-frame : goal.go_on-requires-clause-frame
go_on-requires-clause-frame g c =
    let one = c.args.self.now in
    frame_there one.domain.ghost_name one.domain.now one.at c.args._s one.right c.requires.0 c.requires.1

pub go_on-requires-clause-place : goal.go_on-requires-clause-place
go_on-requires-clause-place g c =
    let one = c.args.self.now in
    let P : FrameState → Type 0 = λ (f : FrameState). f.head.at + 1 < 2 ^ 32 in
    subst P (value_was one.domain.ghost_name one.domain.now one.at c.args._s one.right c.requires.0 c.requires.1) c.requires.2

pub invariant_of-self : goal.invariant_of-self
invariant_of-self g c =
    let one = c.args.self.now in
    let e = c.go_on.ensures in
    let becomes = e.becomes one.at.place.slot (on_top one.domain.ghost_name one.domain.now one.at c.args._s one.right c.requires.0 c.requires.1) in
    record {
      right = right_still one.domain.now c.go_on.new.self one.at one.at _ _ becomes one.right e.frames e.parts e.locals;
      stays = stays one.domain.now c.go_on.new.self one.at one.at _ _ becomes _ refl refl refl one.stays;
    }

pub returns : goal.returns
returns g c =
    let one = c.args.self.now in
    λ f top.
    sets_by one.domain.ghost_name one.domain.now c.go_on.new.self one.at one.at c.args._s refl refl (here_of one.domain.ghost_name
    one.domain.now one.at c.args._s one.right f top) one.right
    (λ (h : FrameState). record h { head = record h.head { at = h.head.at + 1; need = None } }) c.go_on.ensures.becomes f top
