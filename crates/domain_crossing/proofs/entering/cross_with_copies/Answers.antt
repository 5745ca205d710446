-- The copies come first, and then the owner's chunks.
use Rattle.std.proofs.Common.{◌≢◌, List, refl, sym, subst, ◌∙◌}
use Rattle.std.proofs.lemmas.Slice.Zip.{AllZip-long}
use Rattle.jk_model.specs.declared.values.Value.{Value}
use Rattle.jk_model_graphs.specs.Copies.{Corresponds}
use Rattle.jk_model_sharing.specs.SharedStates.{SharedState}
use Rattle.graph_copy.specs.AskedOfCopies.{MayCopy}
use Rattle.graph_copy.specs.declared.answers.CopyAnswer.TheVariants as Answered
use Rattle.graph_copy.specs.CopyAnswers.{Copies, CopyAnswers}
use Rattle.domain_crossing.specs.declared.answers.Crossed.TheVariants as Called
use Rattle.domain_crossing.specs.EnteringCalls.{EntersSo}
use Rattle.domain_crossing.specs.PassedValues.{Crossing}
use Rattle.domain_crossing.proofs.SegmentsArrive.{enough_left, given_on_top}
use Rattle.domain_crossing.proofs.entering.cross_with_copies.Goals as goal

pub entries-values-requires-clause-on_top : goal.entries-values-requires-clause-on_top
entries-values-requires-clause-on_top g c =
    let call = c.requires.may.0 in
    (call.given, given_on_top (g.F.SegmentFrames.content c.args.frames.now) c.args.caller.now.segment call, c.requires.may.1)

pub copy_unless-requires : goal.copy_unless-requires
copy_unless-requires g c =
    let call = c.requires.may.0 in
    let heap = g.H.ObjectStore.content c.args.heap.now in
    let on = given_on_top (g.F.SegmentFrames.content c.args.frames.now) c.args.caller.now.segment call in
    subst (λ (vs : List Value). MayCopy heap c.args.w.now c.args.caller.now.domain c.args.callee.now.owner vs)
    (sym (c.entries-values.ensures call.given on c.requires.may.1)) c.requires.may.2

pub returns-in-NotCopiable : goal.returns-in-NotCopiable
returns-in-NotCopiable g c = λ call many fit.
    let heap = g.H.ObjectStore.content c.args.heap.now in
    let new = g.H.ObjectStore.content c.copy_unless.new.heap in
    let from = c.args.caller.now.domain in
    let to = c.args.callee.now.owner in
    let on = given_on_top (g.F.SegmentFrames.content c.args.frames.now) c.args.caller.now.segment call in
    let read = c.entries-values.ensures call.given on many in
    let not : Answered.NotCopiable c.in-NotCopiable.field-0 ≢ Answered.Copied = (λ e. cc) in
    EntersSo.is_uncopied c.in-NotCopiable.field-0 new
    (subst (λ (vs : List Value). CopyAnswers heap c.args.w.now from to vs (Answered.NotCopiable c.in-NotCopiable.field-0)) read c.in-NotCopiable.ensures.answer)
    (c.in-NotCopiable.ensures.as_before not)

pub returns-in-NoRoom : goal.returns-in-NoRoom
returns-in-NoRoom g c = λ call many fit.
    let heap = g.H.ObjectStore.content c.args.heap.now in
    let new = g.H.ObjectStore.content c.copy_unless.new.heap in
    let from = c.args.caller.now.domain in
    let to = c.args.callee.now.owner in
    let on = given_on_top (g.F.SegmentFrames.content c.args.frames.now) c.args.caller.now.segment call in
    let read = c.entries-values.ensures call.given on many in
    let not : Answered.NoRoom c.in-NoRoom.field-0 ≢ Answered.Copied = (λ e. cc) in
    EntersSo.has_no_room c.in-NoRoom.field-0 new
    (subst (λ (vs : List Value). CopyAnswers heap c.args.w.now from to vs (Answered.NoRoom c.in-NoRoom.field-0)) read c.in-NoRoom.ensures.answer)
    (c.in-NoRoom.ensures.as_before not)

pub returns-then-lacks : goal.returns-then-lacks
returns-then-lacks g c = λ call many fit.
    let heap = g.H.ObjectStore.content c.args.heap.now in
    let new = g.H.ObjectStore.content c.copy_unless.new.heap in
    let from = c.args.caller.now.domain in
    let to = c.args.callee.now.owner in
    let on = given_on_top (g.F.SegmentFrames.content c.args.frames.now) c.args.caller.now.segment call in
    let read = c.entries-values.ensures call.given on many in
    EntersSo.has_no_chunks new
    (subst (λ (vs : List Value). CopyAnswers heap c.args.w.now from to vs Answered.Copied) read c.in-Copied.ensures.answer)
    (c.in-Copied.ensures.asked c.if-lacks.true) (c.if-lacks.ensures.lacks.0 refl)

pub arrive-requires-clause-fits : goal.arrive-requires-clause-fits
arrive-requires-clause-fits g c =
    let heap = g.H.ObjectStore.content c.args.heap.now in
    let new = g.H.ObjectStore.content c.copy_unless.new.heap in
    let from = c.args.caller.now.domain in
    let to = c.args.callee.now.owner in
    let call = c.requires.may.0 in
    let many = c.requires.may.1 in
    let on = given_on_top (g.F.SegmentFrames.content c.args.frames.now) c.args.caller.now.segment call in
    let read = c.entries-values.ensures call.given on many in
    let values = c.copy_unless.new.values in
    let answer = subst (λ (vs : List Value). CopyAnswers heap c.args.w.now from to vs Answered.Copied) read c.in-Copied.ensures.answer in
    let copied = subst (λ (vs : List Value). Copies heap new c.args.w.now.classes from to vs values) read
    (c.in-Copied.ensures.copied c.if-lacks.false refl) in (
      call,
      values,
      record {
        many = many;
        as_many = AllZip-long (Corresponds copied.pairs) call.given values copied.is_copy.values ∙ many;
        each = λ i a v at there. there;
      },
      c.requires.may.3 new values answer copied,
    )

pub returns : goal.returns
returns g c = λ call many fit.
    let heap = g.H.ObjectStore.content c.args.heap.now in
    let new = g.H.ObjectStore.content c.copy_unless.new.heap in
    let old = g.F.SegmentFrames.content c.args.frames.now in
    let from = c.args.caller.now.domain in
    let to = c.args.callee.now.owner in
    let x : Crossing = record { world = c.args.w.now; heap = heap; from = from; to = to } in
    let after = g.F.SegmentFrames.content c.arrive.new.frames in
    let on = given_on_top old c.args.caller.now.segment call in
    let read = c.entries-values.ensures call.given on many in
    let values = c.copy_unless.new.values in
    let answer = subst (λ (vs : List Value). CopyAnswers heap c.args.w.now from to vs Answered.Copied) read c.in-Copied.ensures.answer in
    let copied = subst (λ (vs : List Value). Copies heap new c.args.w.now.classes from to vs values) read
    (c.in-Copied.ensures.copied c.if-lacks.false refl) in
    subst (λ (s : SharedState). EntersSo x c.args.shared.now call c.args.t c.args.callee.now Called.Entered new s after) (sym c.arrive.ensures.shared)
    (EntersSo.enters values new after answer copied
    (enough_left old c.args.callee.now (λ few. let both = c.if-lacks.ensures.lacks.1 few in cc))
    (c.arrive.ensures.frames call values
    (record {
      many = many;
      as_many = AllZip-long (Corresponds copied.pairs) call.given values copied.is_copy.values ∙ many;
      each = λ i a v at there. there;
    })
    (fit new values answer copied)))
