-- A value comes in the place of entries at the cursor.
use Rattle.std.proofs.Common.{◌≤◌, length, refl, subst}
use Rattle.jk_model_frames.specs.Frames.{FrameState}
use Rattle.frame_store.specs.DomainMoves.{top_of, value_at}
use Rattle.frame_store.proofs.LentCalls.{exchanges, frame_there, here_of, on_top, right_still, stays, value_was, values_there}
use Rattle.frame_store.proofs.TopEntries.{some_on_top}
use Rattle.frame_store.proofs.one_segment.OneSegmentSegmentFrames.exchange.Goals as goal

pub exchange-requires-clause-frame : goal.exchange-requires-clause-frame
exchange-requires-clause-frame g c =
    let one = c.args.self.now in
    frame_there one.domain.ghost_name one.domain.now one.at c.args._s one.right c.requires.there.0 c.requires.there.1

pub exchange-requires-clause-values : goal.exchange-requires-clause-values
exchange-requires-clause-values g c =
    let one = c.args.self.now in
    values_there one.domain.ghost_name one.domain.now one.at c.args._s one.right c.requires.there.0 c.requires.there.1

pub exchange-requires-clause-enough : goal.exchange-requires-clause-enough
exchange-requires-clause-enough g c =
    let one = c.args.self.now in
    let P : FrameState → Type 0 = λ (f : FrameState). c.args.count ≤ length f.stack in
    subst P (value_was one.domain.ghost_name one.domain.now one.at c.args._s one.right c.requires.there.0 c.requires.there.1) c.requires.there.2

pub invariant_of-self : goal.invariant_of-self
invariant_of-self g c =
    let one = c.args.self.now in
    let e = c.exchange.ensures in
    let has = c.requires.there in
    let value = value_was one.domain.ghost_name one.domain.now one.at c.args._s one.right has.0 has.1 in
    let many : c.args.count ≤ length (value_at one.domain.now one.at.frame).stack =
    subst (λ (f : FrameState). c.args.count ≤ length f.stack) value has.2 in
    let top = on_top one.domain.ghost_name one.domain.now one.at c.args._s one.right has.0 has.1 in
    let split = some_on_top (top_of one.domain.now one.at.place.slot).stack c.args.count
    (subst (λ n. c.args.count ≤ length (value_at one.domain.now n).stack) top.is many) in
    let becomes = e.becomes one.at.place.slot top split.below split.given split.are split.many in
    record {
      right = right_still one.domain.now c.exchange.new.self one.at one.at _ _ becomes one.right e.frames e.parts e.locals;
      stays = stays one.domain.now c.exchange.new.self one.at one.at _ _ becomes _ refl refl refl one.stays;
    }

pub returns : goal.returns
returns g c =
    let one = c.args.self.now in
    λ f top.
    exchanges one.domain.ghost_name one.domain.now c.exchange.new.self one.at one.at c.args._s refl refl (here_of one.domain.ghost_name
    one.domain.now one.at c.args._s one.right f top) one.right
    c.args.count c.args.v c.exchange.ensures.becomes f top
