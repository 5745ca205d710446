-- Entries go off at the cursor.
use Rattle.std.proofs.Common.{◌≤◌, length, refl, subst}
use Rattle.jk_model_frames.specs.Frames.{FrameState}
use Rattle.frame_store.specs.DomainMoves.{top_of, value_at}
use Rattle.frame_store.proofs.LentCalls.{drops, frame_there, here_of, on_top, right_still, stays, value_was}
use Rattle.frame_store.proofs.TopEntries.{some_on_top}
use Rattle.frame_store.proofs.one_segment.OneSegmentSegmentFrames.drop_entries.Goals as goal

pub drop_entries-requires-clause-frame : goal.drop_entries-requires-clause-frame
drop_entries-requires-clause-frame g c =
    let one = c.args.self.now in
    frame_there one.domain.ghost_name one.domain.now one.at c.args._s one.right c.requires.0 c.requires.1

pub drop_entries-requires-clause-enough : goal.drop_entries-requires-clause-enough
drop_entries-requires-clause-enough g c =
    let one = c.args.self.now in
    let P : FrameState → Type 0 = λ (f : FrameState). c.args.count ≤ length f.stack in
    subst P (value_was one.domain.ghost_name one.domain.now one.at c.args._s one.right c.requires.0 c.requires.1) c.requires.2

pub invariant_of-self : goal.invariant_of-self
invariant_of-self g c =
    let one = c.args.self.now in
    let e = c.drop_entries.ensures in
    let has = c.requires in
    let value = value_was one.domain.ghost_name one.domain.now one.at c.args._s one.right has.0 has.1 in
    let many : c.args.count ≤ length (value_at one.domain.now one.at.frame).stack =
    subst (λ (f : FrameState). c.args.count ≤ length f.stack) value has.2 in
    let top = on_top one.domain.ghost_name one.domain.now one.at c.args._s one.right has.0 has.1 in
    let split = some_on_top (top_of one.domain.now one.at.place.slot).stack c.args.count
    (subst (λ n. c.args.count ≤ length (value_at one.domain.now n).stack) top.is many) in
    let becomes = e.becomes one.at.place.slot top split.below split.given split.are split.many in
    record {
      right = right_still one.domain.now c.drop_entries.new.self one.at one.at _ _ becomes one.right e.frames e.parts e.locals;
      stays = stays one.domain.now c.drop_entries.new.self one.at one.at _ _ becomes _ refl refl refl one.stays;
    }

pub returns : goal.returns
returns g c =
    let one = c.args.self.now in
    λ f top.
    drops one.domain.ghost_name one.domain.now c.drop_entries.new.self one.at one.at c.args._s refl refl (here_of one.domain.ghost_name
    one.domain.now one.at c.args._s one.right f top) one.right
    c.args.count c.drop_entries.ensures.becomes f top
