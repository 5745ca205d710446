-- An entry is taken off at the cursor.
use Rattle.std.proofs.Common.{◌<◌, length, refl, subst}
use Rattle.jk_model_frames.specs.Frames.{FrameState}
use Rattle.frame_store.proofs.LentCalls.{frame_there, here_of, on_top, right_still, stays, takes, value_was, values_there}
use Rattle.frame_store.proofs.one_segment.OneSegmentSegmentFrames.pop_value.Goals as goal

pub pop_value-requires-clause-frame : goal.pop_value-requires-clause-frame
pop_value-requires-clause-frame g c =
    let one = c.args.self.now in
    frame_there one.domain.ghost_name one.domain.now one.at c.args._s one.right c.requires.0 c.requires.1

pub pop_value-requires-clause-values : goal.pop_value-requires-clause-values
pop_value-requires-clause-values g c =
    let one = c.args.self.now in
    values_there one.domain.ghost_name one.domain.now one.at c.args._s one.right c.requires.0 c.requires.1

pub pop_value-requires-clause-some : goal.pop_value-requires-clause-some
pop_value-requires-clause-some g c =
    let one = c.args.self.now in
    let P : FrameState → Type 0 = λ (f : FrameState). 0 < length f.stack in
    subst P (value_was one.domain.ghost_name one.domain.now one.at c.args._s one.right c.requires.0 c.requires.1) c.requires.2

pub invariant_of-self : goal.invariant_of-self
invariant_of-self g c =
    let one = c.args.self.now in
    let e = c.pop_value.ensures in
    let becomes = (e.becomes one.at.place.slot (on_top one.domain.ghost_name one.domain.now one.at c.args._s one.right c.requires.0 c.requires.1)).2 in
    record {
      right = right_still one.domain.now c.pop_value.new.self one.at one.at _ _ becomes one.right e.frames e.parts e.locals;
      stays = stays one.domain.now c.pop_value.new.self one.at one.at _ _ becomes _ refl refl refl one.stays;
    }

pub returns : goal.returns
returns g c =
    let one = c.args.self.now in
    λ f top.
    takes one.domain.ghost_name one.domain.now c.pop_value.new.self one.at one.at c.args._s refl refl (here_of one.domain.ghost_name
    one.domain.now one.at c.args._s one.right f top) one.right
    c.pop_value.result c.pop_value.ensures.becomes f top
