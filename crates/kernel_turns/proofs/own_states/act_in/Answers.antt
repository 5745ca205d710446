-- The own state among those of all is the one of the domain in which it acts.
use Rattle.std.proofs.Common.{◌≡◌, List, None, Some, refl, sym, subst, ◌∙◌}
use Rattle.std.proofs.lemmas.Option.{same_Some, slice_get_within}
use Rattle.jk_model.specs.declared.output.Line.{Line}
use Rattle.class_init.specs.KeptStates.{KeptState}
use Rattle.kernel_events.specs.PrintedLines.{Prints}
use Rattle.list_lemmas.proofs.ItemsByPlace.{item_read}
use Rattle.step_contents.specs.Contents.{contents_of, here_at, left_behind}
use Rattle.system_calls.specs.SystemSteps.{printed}
use Rattle.segment_steps.specs.ActingSegments.{ActsSo}
use Rattle.segment_steps.specs.StepsAlone.{went_so}
use Rattle.kernel_turns.specs.StepsOfThreads.{sink_state}
use Rattle.kernel_turns.proofs.EitherAnswer.{acts_either}
use Rattle.kernel_turns.proofs.own_states.act_in.Goals as goal

pub unreachable-requires : goal.unreachable-requires
unreachable-requires g c =
    let own = c.requires.may.0 in
    let is = c.requires.may.1 in
    let there = item_read c.args.owns.now.items c.args.r.domain.0 c.index_mut-own.result.now
    (slice_get_within c.args.owns.now.items c.args.r.domain.0 (Some own) is) c.index_mut-own.ensures.value in
    let both : None ≡ Some own = sym c.in-None.is ∙ same_Some c.index_mut-own.result.now (Some own) (sym there ∙ is) in
    cc

pub returns : goal.returns
returns g c = λ own is.
    let there = item_read c.args.owns.now.items c.args.r.domain.0 c.index_mut-own.result.now
    (slice_get_within c.args.owns.now.items c.args.r.domain.0 (Some own) is) c.index_mut-own.ensures.value in
    let lent : c.index_mut-own.result.now ≡ Some own = same_Some c.index_mut-own.result.now (Some own) (sym there ∙ is) in
    let same : own ≡ c.in-Some.own = same_Some own c.in-Some.own (sym lent ∙ c.in-Some.is) in
    let Out : List Line → Type 0 =
    λ lines. Prints (sink_state (g.S.Sink.bytes c.args.out.now) (g.S.Sink.pieces c.args.out.now) (g.S.Sink.faults c.args.out.now))
    (sink_state (g.S.Sink.bytes c.act-went.new.out) (g.S.Sink.pieces c.act-went.new.out) (g.S.Sink.faults c.act-went.new.out))
    (printed c.act-went.result) lines in
    let here = here_at c.args.w.now c.args.shared.now c.args.r.domain c.args.r.segment in
    let left = left_behind
    (contents_of (g.H.ObjectStore.content c.act-went.new.heap) (g.F.SegmentFrames.content c.act-went.new.frames) c.act-went.new.own)
    c.act-went.new.shared in (
      c.act-went.new.own,
      refl,
      c.holds.ensures.literals,
      subst
          (λ (o : KeptState). ActsSo (contents_of (g.H.ObjectStore.content c.args.heap.now) (g.F.SegmentFrames.content c.args.frames.now) o)
          here c.args.r.thread left (went_so c.act-went.result) Out)
          (sym same)
          (acts_either (contents_of (g.H.ObjectStore.content c.args.heap.now) (g.F.SegmentFrames.content c.args.frames.now) c.in-Some.own)
          here c.args.r.thread left Out c.act-went.result c.act-went.ensures.ok c.act-went.ensures.err),
    )
