-- One argument after the other is copied.
use Rattle.std.proofs.Common.{◌+◌, ◌-◌, arith}
use Rattle.frame_store.proofs.FramesCalled.{all_given, caller_frame, caller_is, enough, entry_there, first_entry, frame_is, local_there, start_is, no_overflow, none_yet, one_more}
use Rattle.frame_store.proofs.domain_frames.DomainFrames.give.Goals as goal

pub height-requires : goal.height-requires
height-requires c = caller_frame c.args.self.now c.args.caller c.args.frame c.args.count c.requires.may

pub overflow_sub-first : goal.overflow_sub-first
overflow_sub-first c = let e = c.height.ensures in omega (arith, enough c.args.self.now c.args.caller c.args.frame c.args.count c.requires.may)

pub loop-k-init : goal.loop-k-init
loop-k-init c = λ may. none_yet c.args.self.now c.args.caller c.args.frame c.args.count may

pub entry-v-requires-clause-frame : goal.entry-v-requires-clause-frame
entry-v-requires-clause-frame c = caller_is _ _ _ _ c.requires.may _ _ _ (c.loop-k.invariant c.requires.may)

pub entry-v-requires-clause-start : goal.entry-v-requires-clause-start
entry-v-requires-clause-start c =
    start_is _ _ _ _ c.requires.may _ _ _ (c.loop-k.invariant c.requires.may) c.args.caller c.args.low c.requires.low

pub entry-v-requires-clause-there : goal.entry-v-requires-clause-there
entry-v-requires-clause-there c =
    entry_there _ _ _ _ c.requires.may _ _ _ (c.loop-k.invariant c.requires.may) (c.height.result - c.args.count)
    (first_entry c.args.self.now c.args.caller c.args.frame c.args.count c.requires.may c.height.result c.height.ensures) c.loop-k-test.true

pub set_local-requires-clause-frame : goal.set_local-requires-clause-frame
set_local-requires-clause-frame c = frame_is _ _ _ _ c.requires.may _ _ _ (c.loop-k.invariant c.requires.may)

pub set_local-requires-clause-start : goal.set_local-requires-clause-start
set_local-requires-clause-start c =
    start_is _ _ _ _ c.requires.may _ _ _ (c.loop-k.invariant c.requires.may) c.args.frame c.args.start c.requires.start

pub set_local-requires-clause-there : goal.set_local-requires-clause-there
set_local-requires-clause-there c = local_there _ _ _ _ c.requires.may _ _ _ (c.loop-k.invariant c.requires.may) c.loop-k-test.true

pub overflow_add-at : goal.overflow_add-at
overflow_add-at c =
    let fits =
    no_overflow _ _ _ _ c.requires.may _ _ _ (c.loop-k.invariant c.requires.may) c.loop-k-test.true (c.height.result - c.args.count)
    (first_entry c.args.self.now c.args.caller c.args.frame c.args.count c.requires.may c.height.result c.height.ensures) c.entry-v.result
    c.entry-v.ensures in
    omega (arith, fits, c.slots-at.ensures)

pub loop-k-preserved : goal.loop-k-preserved
loop-k-preserved c =
    λ may.
    one_more _ _ _ _ may _ _ _ (c.loop-k.invariant may) c.loop-k-test.true (c.height.result - c.args.count)
    (first_entry c.args.self.now c.args.caller c.args.frame c.args.count may c.height.result c.height.ensures) c.entry-v.result
    c.entry-v.ensures c.set_local.new.self c.set_local.ensures.frames c.set_local.ensures.parts c.set_local.ensures.becomes
    (c.loop-k.at + c.slots-at.result) (omega (arith, c.slots-at.ensures))

pub returns-clause-frames : goal.returns-clause-frames
returns-clause-frames c = (c.loop-k.invariant c.requires.may).frames

pub returns-clause-parts : goal.returns-clause-parts
returns-clause-parts c = (c.loop-k.invariant c.requires.may).parts

pub returns-clause-gives : goal.returns-clause-gives
returns-clause-gives c = λ may. all_given _ _ _ _ may _ _ _ (c.loop-k.invariant may) (omega (arith, c.loop-k-test.false))
