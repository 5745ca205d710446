-- The segment acts, and its step is taken with what follows.
use Rattle.std.proofs.Common.{◌≡◌, List, Some, sym, subst, ◌∙◌}
use Rattle.std.proofs.lemmas.Option.{same_Some}
use Rattle.jk_model.specs.declared.output.Line.{Line}
use Rattle.class_init.specs.KeptStates.{KeptState}
use Rattle.kernel_events.specs.PrintedLines.{Prints}
use Rattle.system_calls.specs.SystemSteps.{printed}
use Rattle.segment_steps.specs.Meetings.{Meets}
use Rattle.segment_steps.specs.StepsAlone.{went_so}
use Rattle.kernel_parts.specs.SoundKernels.{KernelContent}
use Rattle.kernel_turns.specs.RunningPlaces.{HasNothingPending}
use Rattle.kernel_turns.specs.StepsOfThreads.{IsReady, content_of, sink_state}
use Rattle.kernel_turns.proofs.ActingSteps.{begun, did, may_act}
use Rattle.kernel_turns.proofs.ReadyThreads.{lives, own_there}
use Rattle.kernel_turns.proofs.stepping.act_now.Goals as goal

pub spend_step-requires-clause-live : goal.spend_step-requires-clause-live
spend_step-requires-clause-live g c =
    let k : KernelContent = content_of c.args.w.now c.args.owns.now.items c.args.shared.now (g.H.ObjectStore.content c.args.heap.now)
    (g.F.SegmentFrames.content c.args.frames.now) c.requires.ready.0 in
    lives k c.args.running c.requires.ready.1

pub act_in-requires-clause-may : goal.act_in-requires-clause-may
act_in-requires-clause-may g c =
    let k : KernelContent = content_of c.args.w.now c.args.owns.now.items c.args.shared.now (g.H.ObjectStore.content c.args.heap.now)
    (g.F.SegmentFrames.content c.args.frames.now) c.requires.ready.0 in
    let x = c.args.running in
    let ready : IsReady k x = c.requires.ready.1 in
    let calm : HasNothingPending ready.at.segment = (sym ready.stop ∙ c.requires.calm.0, sym ready.revoked ∙ c.requires.calm.1) in
    let met = c.requires.met in
    let same : met.0 ≡ ready.at.own =
    same_Some met.0 ready.at.own (same_Some (Some met.0) (Some ready.at.own) (sym met.1 ∙ own_there k x ready)) in (
      ready.at.own,
      own_there k x ready,
      may_act c.acts_are_steps.ensures k x ready calm c.spend_step.new.self c.spend_step.ensures,
      (met.2.0, met.2.1, subst (λ (o : KeptState). Meets c.args.w.now.classes o.state x.runs met.2.0 c.args.met.now) same met.2.2),
    )

pub returns : goal.returns
returns g c = λ main ready.
    let k : KernelContent = content_of c.args.w.now c.args.owns.now.items c.args.shared.now (g.H.ObjectStore.content c.args.heap.now)
    (g.F.SegmentFrames.content c.args.frames.now) main in
    let x = c.args.running in
    let calm : HasNothingPending ready.at.segment = (sym ready.stop ∙ c.requires.calm.0, sym ready.revoked ∙ c.requires.calm.1) in
    let acted = c.act_in.ensures ready.at.own (own_there k x ready) in
    let Out : List Line → Type 0 =
    λ ls. Prints (sink_state (g.S.Sink.bytes c.args.out.now) (g.S.Sink.pieces c.args.out.now) (g.S.Sink.faults c.args.out.now))
    (sink_state (g.S.Sink.bytes c.act_in.new.out) (g.S.Sink.pieces c.act_in.new.out) (g.S.Sink.faults c.act_in.new.out)) (printed c.act_in.result) ls in
    let heap = g.H.ObjectStore.content c.act_in.new.heap in
    let frames = g.F.SegmentFrames.content c.act_in.new.frames in
    let own_step = did c.acts_are_steps.ensures k x ready calm c.spend_step.new.self c.spend_step.ensures heap frames acted.0 c.act_in.new.shared
    (went_so c.act_in.result) Out acted.3 in (
      own_step.0,
      own_step.2,
      begun c.acts_are_steps.ensures k x ready calm c.spend_step.new.self c.spend_step.ensures heap frames acted.0 c.act_in.new.shared
          (went_so c.act_in.result) Out acted.3 c.act_in.new.owns.items acted.1 acted.2,
    )
