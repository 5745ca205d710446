-- The top frame calls in the domain.
use Rattle.std.proofs.Common.{◌∙◌, ap, sym}
use Rattle.jk_model_frames.specs.Frames.{FrameState}
use Rattle.frame_store.proofs.LentCalls.{calls, here_of, right_aimed, stays, top_was, values_there}
use Rattle.frame_store.proofs.one_segment.OneSegmentSegmentFrames.call.Goals as goal

pub call-requires-clause-values : goal.call-requires-clause-values
call-requires-clause-values g c =
    let one = c.args.self.now in
    values_there one.domain.ghost_name one.domain.now one.at c.args._s one.right c.requires.0 c.requires.1

pub call-requires-clause-given : goal.call-requires-clause-given
call-requires-clause-given g c =
    let one = c.args.self.now in
    let has = c.requires in
    let same = top_was one.domain.ghost_name one.domain.now one.at c.args._s one.right has.0 has.1 in
    (has.2, has.3, ap (λ (f : FrameState). f.stack) (sym same.1) ∙ has.4, has.5, has.6)

pub invariant_of-self-2 : goal.invariant_of-self-2
invariant_of-self-2 g c =
    let one = c.args.self.now in
    let has = c.requires in
    let e = c.call.ensures in
    let b = c.call.new.c in
    let same = top_was one.domain.ghost_name one.domain.now one.at c.args._s one.right has.0 has.1 in
    let becomes = e.calls has.2 has.3 (ap (λ (f : FrameState). f.stack) (sym same.1) ∙ has.4) has.5 in
    record {
      right = right_aimed one.domain.now c.call.new.self one.at b _ _ becomes one.right e.aims;
      stays = stays one.domain.now c.call.new.self one.at b _ _ becomes _ e.aims.segment e.aims.place e.aims.domain one.stays;
    }

pub returns-clause-ok : goal.returns-clause-ok
returns-clause-ok g c =
    let one = c.args.self.now in
    let e = c.call.ensures in
    calls one.domain.ghost_name one.domain.now c.call.new.self one.at c.call.new.c c.args._s e.aims.segment e.aims.place
    (here_of one.domain.ghost_name one.domain.now one.at c.args._s one.right c.requires.0 c.requires.1) one.right c.args.head c.args.arguments e.calls
