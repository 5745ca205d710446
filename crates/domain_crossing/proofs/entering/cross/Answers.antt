-- By the arguments and the owner's chunks.
use Rattle.std.proofs.Common.{refl, sym, subst, ◌∙◌}
use Rattle.std.proofs.lemmas.Option.{same_Some}
use Rattle.jk_model_sharing.specs.SharedStates.{SharedState}
use Rattle.domain_crossing.specs.declared.answers.Crossed.TheVariants as Called
use Rattle.domain_crossing.specs.EnteringCalls.{EntersSo}
use Rattle.domain_crossing.specs.PassedValues.{Crossing}
use Rattle.domain_crossing.proofs.NothingReached.{nothing_copied, nothing_refused}
use Rattle.domain_crossing.proofs.SegmentsArrive.{enough_left, given_on_top, heap_same}
use Rattle.domain_crossing.proofs.entering.cross.Goals as goal

pub names_object-requires : goal.names_object-requires
names_object-requires g c =
    let call = c.requires.may.0 in
    (call.given, given_on_top (g.F.SegmentFrames.content c.args.frames.now) c.args.caller.now.segment call, c.requires.may.1)

pub arrive-requires-clause-fits : goal.arrive-requires-clause-fits
arrive-requires-clause-fits g c =
    let heap = g.H.ObjectStore.content c.args.heap.now in
    let from = c.args.caller.now.domain in
    let to = c.args.callee.now.owner in
    let call = c.requires.may.0 in
    let many = c.requires.may.1 in
    let on = given_on_top (g.F.SegmentFrames.content c.args.frames.now) c.args.caller.now.segment call in
    let none = c.if-names_object.ensures call.given on many refl in (
      call,
      call.given,
      record { many = many; as_many = many; each = λ i a v at there. same_Some v a (sym there ∙ at) },
      c.requires.may.3 heap call.given (nothing_refused heap c.args.w.now from to call.given none)
          (nothing_copied heap c.args.w.now from to call.given none),
    )

pub returns-then-lacks_chunks : goal.returns-then-lacks_chunks
returns-then-lacks_chunks g c = λ call many fit.
    let heap = g.H.ObjectStore.content c.args.heap.now in
    let on = given_on_top (g.F.SegmentFrames.content c.args.frames.now) c.args.caller.now.segment call in
    let none = c.if-names_object.ensures call.given on many refl in
    EntersSo.has_no_chunks heap (nothing_refused heap c.args.w.now c.args.caller.now.domain c.args.callee.now.owner call.given none) (heap_same heap)
    (c.if-lacks_chunks.ensures.lacks.0 refl)

pub returns : goal.returns
returns g c = λ call many fit.
    let heap = g.H.ObjectStore.content c.args.heap.now in
    let old = g.F.SegmentFrames.content c.args.frames.now in
    let from = c.args.caller.now.domain in
    let to = c.args.callee.now.owner in
    let x : Crossing = record { world = c.args.w.now; heap = heap; from = from; to = to } in
    let after = g.F.SegmentFrames.content c.arrive.new.frames in
    let on = given_on_top old c.args.caller.now.segment call in
    let none = c.if-names_object.ensures call.given on many refl in
    let answer = nothing_refused heap c.args.w.now from to call.given none in
    let copied = nothing_copied heap c.args.w.now from to call.given none in
    subst (λ (s : SharedState). EntersSo x c.args.shared.now call c.args.t c.args.callee.now Called.Entered heap s after) (sym c.arrive.ensures.shared)
    (EntersSo.enters call.given heap after answer copied
    (enough_left old c.args.callee.now (λ few. let both = c.if-lacks_chunks.ensures.lacks.1 few in cc))
    (c.arrive.ensures.frames call call.given
    (record { many = many; as_many = many; each = λ i a v at there. same_Some v a (sym there ∙ at) }) (fit heap call.given answer copied)))
