-- The flag falls, and its throwable is raised.
use Rattle.std.proofs.Common.{sym, subst}
use Rattle.jk_model_sharing.specs.SharedStates.{SharedState}
use Rattle.thread_segments.specs.Asked.{IsThere}
use Rattle.kernel_parts.specs.SoundKernels.{KernelContent}
use Rattle.kernel_turns.specs.StepsOfThreads.{IsReady, content_of}
use Rattle.kernel_turns.proofs.RaisingSteps.{begun, may_raise}
use Rattle.kernel_turns.proofs.ReadyThreads.{HasFallen, has_fallen, is_there, lives, own_there}
use Rattle.kernel_turns.proofs.stepping.raise_pending.Goals as goal

pub spend_step-requires-clause-live : goal.spend_step-requires-clause-live
spend_step-requires-clause-live g c =
    let k : KernelContent = content_of c.args.w.now c.args.owns.now.items c.args.shared.now (g.H.ObjectStore.content c.args.heap.now)
    (g.F.SegmentFrames.content c.args.frames.now) c.requires.ready.0 in
    lives k c.args.running c.requires.ready.1

pub take_pending-throwable-requires : goal.take_pending-throwable-requires
take_pending-throwable-requires g c =
    let k : KernelContent = content_of c.args.w.now c.args.owns.now.items c.args.shared.now (g.H.ObjectStore.content c.args.heap.now)
    (g.F.SegmentFrames.content c.args.frames.now) c.requires.ready.0 in
    subst (λ (sh : SharedState). IsThere sh c.args.running.runs.segment) (sym c.spend_step.ensures)
    (is_there k c.args.running c.requires.ready.1 c.args.running.runs.domain)

pub raise_in-requires-clause-may : goal.raise_in-requires-clause-may
raise_in-requires-clause-may g c =
    let k : KernelContent = content_of c.args.w.now c.args.owns.now.items c.args.shared.now (g.H.ObjectStore.content c.args.heap.now)
    (g.F.SegmentFrames.content c.args.frames.now) c.requires.ready.0 in
    let x = c.args.running in
    let ready : IsReady k x = c.requires.ready.1 in
    let th = c.take_pending-throwable.result in
    let fallen = subst (λ (sh : SharedState). HasFallen ready.at.segment x.runs.segment sh th c.take_pending-throwable.new.shared) c.spend_step.ensures
    (has_fallen k x ready c.spend_step.new.self c.take_pending-throwable.new.shared th c.requires.pending
    c.take_pending-throwable.ensures.stops c.take_pending-throwable.ensures.is_revoked) in
    may_raise c.raises_are_steps.ensures k x ready th c.take_pending-throwable.new.shared fallen

pub raise_in-requires-clause-raise : goal.raise_in-requires-clause-raise
raise_in-requires-clause-raise g c = tt

pub returns : goal.returns
returns g c = λ main ready.
    let k : KernelContent = content_of c.args.w.now c.args.owns.now.items c.args.shared.now (g.H.ObjectStore.content c.args.heap.now)
    (g.F.SegmentFrames.content c.args.frames.now) main in
    let x = c.args.running in
    let th = c.take_pending-throwable.result in
    let fallen = subst (λ (sh : SharedState). HasFallen ready.at.segment x.runs.segment sh th c.take_pending-throwable.new.shared) c.spend_step.ensures
    (has_fallen k x ready c.spend_step.new.self c.take_pending-throwable.new.shared th c.requires.pending
    c.take_pending-throwable.ensures.stops c.take_pending-throwable.ensures.is_revoked) in
    let went = c.raise_in.ensures ready.at.own (own_there k x ready) in
    begun c.raises_are_steps.ensures k x ready th c.take_pending-throwable.new.shared fallen (g.H.ObjectStore.content c.raise_in.new.heap)
    (g.F.SegmentFrames.content c.raise_in.new.frames) went.0 c.raise_in.result went.3 c.raise_in.new.owns.items went.1 went.2
