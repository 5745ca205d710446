-- The own state among those of all is the one of the domain in which it works; what is lent is the segment; and the steps are paid.
use Rattle.std.proofs.Common.{◌≡◌, Option, Some, is_some, slice_set, sym, ap, subst, ◌∙◌, rules}
use Rattle.std.proofs.lemmas.Option.{same_Some, slice_get_within}
use Rattle.jk_model_sharing.specs.SharedStates.{SharedState}
use Rattle.frame_store.specs.FrameContents.{StoredSegment}
use Rattle.list_lemmas.proofs.ItemsByPlace.{item_read}
use Rattle.segment_steps.specs.declared.went.Went.{Went}
use Rattle.step_contents.specs.Contents.{contents_of}
use Rattle.kernel_parts.specs.SoundKernels.{KernelContent}
use Rattle.kernel_turns.specs.StepsOfThreads.{content_of}
use Rattle.kernel_turns.specs.WorkingSegments.{MayWork, WorksOrLeaves}
use Rattle.kernel_turns.proofs.LentSteps.{acting_alone, come_to_store}
use Rattle.kernel_turns.proofs.WorkedSteps.{acting_first, comes_on}
use Rattle.kernel_turns.proofs.WorkingThreads.{has_fewer}
use Rattle.kernel_turns.proofs.frame_steps.work_in_domain.Goals as goal

pub with_segment-requires-clause-there : goal.with_segment-requires-clause-there
with_segment-requires-clause-there g c =
    let own = c.requires.may.0 in
    let main = c.requires.may.1 in
    let is = c.requires.may.2 in
    let there = item_read c.args.owns.now.items c.args.r.domain.0 c.index_mut.result.now
    (slice_get_within c.args.owns.now.items c.args.r.domain.0 (Some own) is) c.index_mut.ensures.value in
    let lent : c.index_mut.result.now ≡ Some own = same_Some c.index_mut.result.now (Some own) (sym there ∙ is) in
    let same : own ≡ c.in-Some.own = same_Some own c.in-Some.own (sym lent ∙ c.in-Some.is) in
    let k : KernelContent = content_of c.args.w.now c.args.owns.now.items c.args.shared.now (g.H.ObjectStore.content c.args.heap.now)
    (g.F.SegmentFrames.content c.args.frames.now) main in
    let acting = acting_first k c.args.r c.in-Some.own (subst (MayWork k c.args.r) same c.requires.may.3)
    (g.met.F.FrameStore.holds c.args.frames.now) in
    ap (λ (o : Option StoredSegment). is_some o) acting.may.holds.frames

pub with_segment-requires-clause-may : goal.with_segment-requires-clause-may
with_segment-requires-clause-may g c =
    let own = c.requires.may.0 in
    let main = c.requires.may.1 in
    let is = c.requires.may.2 in
    let there = item_read c.args.owns.now.items c.args.r.domain.0 c.index_mut.result.now
    (slice_get_within c.args.owns.now.items c.args.r.domain.0 (Some own) is) c.index_mut.ensures.value in
    let lent : c.index_mut.result.now ≡ Some own = same_Some c.index_mut.result.now (Some own) (sym there ∙ is) in
    let same : own ≡ c.in-Some.own = same_Some own c.in-Some.own (sym lent ∙ c.in-Some.is) in
    let k : KernelContent = content_of c.args.w.now c.args.owns.now.items c.args.shared.now (g.H.ObjectStore.content c.args.heap.now)
    (g.F.SegmentFrames.content c.args.frames.now) main in
    let acting = acting_first k c.args.r c.in-Some.own (subst (MayWork k c.args.r) same c.requires.may.3)
    (g.met.F.FrameStore.holds c.args.frames.now) in
    λ one only. (
      c.requires.goes_on,
      acting_alone c.args.w.now c.args.shared.now c.args.r.domain c.args.r.segment (g.F.SegmentFrames.content c.args.frames.now) one only
          (g.H.ObjectStore.content c.args.heap.now) c.in-Some.own c.args.r.thread acting,
    )

pub pay-requires : goal.pay-requires
pay-requires g c =
    let did = c.with_segment.ensures.did in
    let done = come_to_store c.args.w.now c.args.shared.now c.args.r.domain c.args.r.segment (g.F.SegmentFrames.content c.args.frames.now)
    (g.F.SegmentFrames.content c.with_segment.new.self) c.with_segment.ensures.keeps (g.H.ObjectStore.content c.args.heap.now)
    (g.H.ObjectStore.content c.with_segment.new.a) c.in-Some.own
    c.with_segment.new.b c.args.r.thread c.with_segment.new.work.count c.args.most
    c.with_segment.new.work.went.now (did.0, did.1, did.2, did.3, (did.4.0, did.4.1)) in
    has_fewer c.with_segment.new.work.count c.args.most c.args.r.domain c.args.shared.now done.0 c.requires.budget

pub returns-clause-few : goal.returns-clause-few
returns-clause-few g c =
    let did = c.with_segment.ensures.did in
    let done = come_to_store c.args.w.now c.args.shared.now c.args.r.domain c.args.r.segment (g.F.SegmentFrames.content c.args.frames.now)
    (g.F.SegmentFrames.content c.with_segment.new.self) c.with_segment.ensures.keeps (g.H.ObjectStore.content c.args.heap.now)
    (g.H.ObjectStore.content c.with_segment.new.a) c.in-Some.own
    c.with_segment.new.b c.args.r.thread c.with_segment.new.work.count c.args.most
    c.with_segment.new.work.went.now (did.0, did.1, did.2, did.3, (did.4.0, did.4.1)) in
    done.0

pub returns-clause-event : goal.returns-clause-event
returns-clause-event g c = λ own main is may.
    let there = item_read c.args.owns.now.items c.args.r.domain.0 c.index_mut.result.now
    (slice_get_within c.args.owns.now.items c.args.r.domain.0 (Some own) is) c.index_mut.ensures.value in
    let lent : c.index_mut.result.now ≡ Some own = same_Some c.index_mut.result.now (Some own) (sym there ∙ is) in
    let same : own ≡ c.in-Some.own = same_Some own c.in-Some.own (sym lent ∙ c.in-Some.is) in
    let k : KernelContent = content_of c.args.w.now c.args.owns.now.items c.args.shared.now (g.H.ObjectStore.content c.args.heap.now)
    (g.F.SegmentFrames.content c.args.frames.now) main in
    let did = c.with_segment.ensures.did in
    let done = come_to_store c.args.w.now c.args.shared.now c.args.r.domain c.args.r.segment (g.F.SegmentFrames.content c.args.frames.now)
    (g.F.SegmentFrames.content c.with_segment.new.self) c.with_segment.ensures.keeps (g.H.ObjectStore.content c.args.heap.now)
    (g.H.ObjectStore.content c.with_segment.new.a) c.in-Some.own
    c.with_segment.new.b c.args.r.thread c.with_segment.new.work.count c.args.most
    c.with_segment.new.work.went.now (did.0, did.1, did.2, did.3, (did.4.0, did.4.1)) in
    let heap = g.H.ObjectStore.content c.with_segment.new.a in
    let frames = g.F.SegmentFrames.content c.with_segment.new.self in
    let went = comes_on k c.args.r c.in-Some.own (subst (MayWork k c.args.r) same may) (g.met.F.FrameStore.holds c.args.frames.now)
    (record { rows = c.heap_rows_keep.ensures; keep = c.local_steps_keep.ensures; stay = c.steps_stay_known.ensures })
    c.first_rule_of_a_step_applies.ensures.pays c.with_segment.new.work.count
    (has_fewer c.with_segment.new.work.count c.args.most c.args.r.domain c.args.shared.now done.0 c.requires.budget)
    (contents_of heap frames c.with_segment.new.b) c.with_segment.new.work.went.now done.1 in
    let after : KernelContent = content_of c.args.w.now (slice_set c.args.owns.now.items c.args.r.domain.0 (Some c.with_segment.new.b)) c.pay.new.shared
    heap frames main in
    let by_work : WorksOrLeaves k c.args.r c.with_segment.new.work.count c.with_segment.new.work.went.now after =
    subst
    (λ (s : SharedState). WorksOrLeaves k c.args.r c.with_segment.new.work.count c.with_segment.new.work.went.now (content_of c.args.w.now
    (slice_set c.args.owns.now.items c.args.r.domain.0 (Some c.with_segment.new.b)) s heap frames main))
    (sym c.pay.ensures) went in
    -- the field holds the same reference still
    subst (λ (how : Went). WorksOrLeaves k c.args.r c.with_segment.new.work.count how after) (sym (search rules)) by_work
