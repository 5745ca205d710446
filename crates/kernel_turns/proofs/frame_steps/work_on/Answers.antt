-- The steps lead on, and the segment acts on after each of them.
use Rattle.std.proofs.Common.{◌≡◌, ◌≢◌, ◌+◌, ◌≤◌, sym, ap, subst, ◌∙◌, arith}
use Rattle.frame_store.specs.FrameContents.{FrameContent, KeepsDomains}
use Rattle.step_contents.specs.Contents.{Contents, Here, contents_of, here_at}
use Rattle.step_contents.specs.PlacesInCode.{PlaceInCode}
use Rattle.step_contents.specs.StandingFrames.{place_of}
use Rattle.step_contents.specs.StandingTops.{StandsThere}
use Rattle.step_contents.specs.declared.places.StandsAt.{StandsAt}
use Rattle.segment_steps.specs.ActingSegments.{MayAct}
use Rattle.segment_steps.specs.Returning.{PaysFrames}
use Rattle.segment_steps.specs.StandingTops.{WaitsForNone}
use Rattle.segment_steps.specs.StepsAlone.{Steps}
use Rattle.segment_steps.specs.StepsInTurn.{StepsLead}
use Rattle.segment_steps.specs.StepsThatLeave.{StepsComeTo}
use Rattle.segment_steps.specs.declared.went.Went.{Went}
use Rattle.segment_steps.specs.declared.working.Worked.TheVariants as Work
use Rattle.kernel_turns.proofs.StepsOnward.{comes_to, leaves_by, onward_by, onward_by_one, onward_first, pools_kept, pools_kept_leaving}
use Rattle.kernel_turns.proofs.WorkedSteps.{has_top}
use Rattle.kernel_turns.proofs.frame_steps.work_on.Goals as goal

pub stand-requires : goal.stand-requires
stand-requires g c =
    let first : Contents = contents_of (g.H.ObjectStore.content c.args.heap.now) (g.F.SegmentFrames.content c.args.frames.now) c.args.own.now in
    let here : Here = here_at c.args.w.now c.args.shared.now c.args.r.domain c.args.r.segment in
    has_top first here c.args.r.thread c.requires.acting

pub returns-in_default-clause-leads : goal.returns-in_default-clause-leads
returns-in_default-clause-leads g c =
    let first : Contents = contents_of (g.H.ObjectStore.content c.args.heap.now) (g.F.SegmentFrames.content c.args.frames.now) c.args.own.now in
    let here : Here = here_at c.args.w.now c.args.shared.now c.args.r.domain c.args.r.segment in
    subst (λ (how : Went). StepsComeTo first first here c.args.r.thread 0 how) (sym c.requires.goes_on)
    (onward_first c.local_steps_keep.ensures first here c.args.r.thread c.requires.acting).leads

pub returns-in_default-clause-keeps : goal.returns-in_default-clause-keeps
returns-in_default-clause-keeps g c =
    let first : Contents = contents_of (g.H.ObjectStore.content c.args.heap.now) (g.F.SegmentFrames.content c.args.frames.now) c.args.own.now in
    let here : Here = here_at c.args.w.now c.args.shared.now c.args.r.domain c.args.r.segment in
    pools_kept c.local_steps_keep.ensures first here c.args.r.thread c.requires.acting first 0
    (onward_first c.local_steps_keep.ensures first here c.args.r.thread c.requires.acting)

pub loop-done-init : goal.loop-done-init
loop-done-init g c =
    let first : Contents = contents_of (g.H.ObjectStore.content c.args.heap.now) (g.F.SegmentFrames.content c.args.frames.now) c.args.own.now in
    let here : Here = here_at c.args.w.now c.args.shared.now c.args.r.domain c.args.r.segment in (
      onward_first c.local_steps_keep.ensures first here c.args.r.thread c.requires.acting,
      c.in-Some.ensures,
      (let none : 0 ≤ c.args.most = omega arith in none),
      c.requires.goes_on,
    )

pub run_in_frame-done-requires-clause-may : goal.run_in_frame-done-requires-clause-may
run_in_frame-done-requires-clause-may g c = (c.loop-done.own, c.args.shared.now, c.loop-done.invariant.0.acting.may)

pub run_in_frame-done-requires-clause-stands : goal.run_in_frame-done-requires-clause-stands
run_in_frame-done-requires-clause-stands g c = c.loop-done.invariant.1

pub returns-then-done-most-clause-leads : goal.returns-then-done-most-clause-leads
returns-then-done-most-clause-leads g c =
    let first : Contents = contents_of (g.H.ObjectStore.content c.args.heap.now) (g.F.SegmentFrames.content c.args.frames.now) c.args.own.now in
    let here : Here = here_at c.args.w.now c.args.shared.now c.args.r.domain c.args.r.segment in
    let now : Contents = contents_of (g.H.ObjectStore.content c.loop-done.heap) (g.F.SegmentFrames.content c.loop-done.frames) c.loop-done.own in
    let mid : Contents = contents_of (g.H.ObjectStore.content c.run_in_frame-done.new.heap) (g.F.SegmentFrames.content
    c.run_in_frame-done.new.frames) c.loop-done.own in
    let far = onward_by c.local_steps_keep.ensures first here c.args.r.thread c.requires.acting now c.loop-done.done c.loop-done.invariant.0 mid
    c.run_in_frame-done.result (c.run_in_frame-done.ensures.runs c.loop-done.own c.args.shared.now c.args.r.thread) in
    subst (λ (how : Went). StepsComeTo first mid here c.args.r.thread (c.loop-done.done + c.run_in_frame-done.result) how) (sym c.loop-done.invariant.3) far.leads

pub returns-then-done-most-clause-keeps : goal.returns-then-done-most-clause-keeps
returns-then-done-most-clause-keeps g c =
    let first : Contents = contents_of (g.H.ObjectStore.content c.args.heap.now) (g.F.SegmentFrames.content c.args.frames.now) c.args.own.now in
    let here : Here = here_at c.args.w.now c.args.shared.now c.args.r.domain c.args.r.segment in
    let now : Contents = contents_of (g.H.ObjectStore.content c.loop-done.heap) (g.F.SegmentFrames.content c.loop-done.frames) c.loop-done.own in
    let mid : Contents = contents_of (g.H.ObjectStore.content c.run_in_frame-done.new.heap) (g.F.SegmentFrames.content
    c.run_in_frame-done.new.frames) c.loop-done.own in
    let far = onward_by c.local_steps_keep.ensures first here c.args.r.thread c.requires.acting now c.loop-done.done c.loop-done.invariant.0 mid
    c.run_in_frame-done.result (c.run_in_frame-done.ensures.runs c.loop-done.own c.args.shared.now c.args.r.thread) in
    pools_kept c.local_steps_keep.ensures first here c.args.r.thread c.requires.acting mid (c.loop-done.done + c.run_in_frame-done.result) far

pub work-worked-requires-clause-may : goal.work-worked-requires-clause-may
work-worked-requires-clause-may g c =
    let first : Contents = contents_of (g.H.ObjectStore.content c.args.heap.now) (g.F.SegmentFrames.content c.args.frames.now) c.args.own.now in
    let here : Here = here_at c.args.w.now c.args.shared.now c.args.r.domain c.args.r.segment in
    let now : Contents = contents_of (g.H.ObjectStore.content c.loop-done.heap) (g.F.SegmentFrames.content c.loop-done.frames) c.loop-done.own in
    let mid : Contents = contents_of (g.H.ObjectStore.content c.run_in_frame-done.new.heap) (g.F.SegmentFrames.content
    c.run_in_frame-done.new.frames) c.loop-done.own in
    let far = onward_by c.local_steps_keep.ensures first here c.args.r.thread c.requires.acting now c.loop-done.done c.loop-done.invariant.0 mid
    c.run_in_frame-done.result (c.run_in_frame-done.ensures.runs c.loop-done.own c.args.shared.now c.args.r.thread) in
    far.acting.may

pub work-worked-requires-clause-paid : goal.work-worked-requires-clause-paid
work-worked-requires-clause-paid g c =
    let first : Contents = contents_of (g.H.ObjectStore.content c.args.heap.now) (g.F.SegmentFrames.content c.args.frames.now) c.args.own.now in
    let here : Here = here_at c.args.w.now c.args.shared.now c.args.r.domain c.args.r.segment in
    let now : Contents = contents_of (g.H.ObjectStore.content c.loop-done.heap) (g.F.SegmentFrames.content c.loop-done.frames) c.loop-done.own in
    let mid : Contents = contents_of (g.H.ObjectStore.content c.run_in_frame-done.new.heap) (g.F.SegmentFrames.content
    c.run_in_frame-done.new.frames) c.loop-done.own in
    let far = onward_by c.local_steps_keep.ensures first here c.args.r.thread c.requires.acting now c.loop-done.done c.loop-done.invariant.0 mid
    c.run_in_frame-done.result (c.run_in_frame-done.ensures.runs c.loop-done.own c.args.shared.now c.args.r.thread) in
    far.acting.pays

-- ---- Where the instruction is undone, nothing has changed, and `leave` has a try.

pub leave-requires-clause-may : goal.leave-requires-clause-may
leave-requires-clause-may g c =
    let first : Contents = contents_of (g.H.ObjectStore.content c.args.heap.now) (g.F.SegmentFrames.content c.args.frames.now) c.args.own.now in
    let here : Here = here_at c.args.w.now c.args.shared.now c.args.r.domain c.args.r.segment in
    let now : Contents = contents_of (g.H.ObjectStore.content c.loop-done.heap) (g.F.SegmentFrames.content c.loop-done.frames) c.loop-done.own in
    let mid : Contents = contents_of (g.H.ObjectStore.content c.run_in_frame-done.new.heap) (g.F.SegmentFrames.content
    c.run_in_frame-done.new.frames) c.loop-done.own in
    let far = onward_by c.local_steps_keep.ensures first here c.args.r.thread c.requires.acting now c.loop-done.done c.loop-done.invariant.0 mid
    c.run_in_frame-done.result (c.run_in_frame-done.ensures.runs c.loop-done.own c.args.shared.now c.args.r.thread) in
    let same = c.work-worked.ensures.undone c.in-Undone.is in (
      g.H.ObjectStore.content c.run_in_frame-done.new.heap,
      c.loop-done.own,
      c.args.shared.now,
      subst (λ (frames : FrameContent). MayAct (contents_of (g.H.ObjectStore.content c.run_in_frame-done.new.heap) frames c.loop-done.own) here)
          (sym same.1) far.acting.may,
    )

pub leave-requires-clause-stands : goal.leave-requires-clause-stands
leave-requires-clause-stands g c =
    let same = c.work-worked.ensures.undone c.in-Undone.is in
    let place = ap (λ (at : StandsAt). place_of at) (c.work-worked.ensures.stays c.in-Undone.is) in
    subst (λ (frames : FrameContent). StandsThere frames c.args.w.now.classes c.args.r.segment (place_of c.work-worked.new.at)) (sym same.1)
    (subst (λ (at : PlaceInCode). StandsThere (g.F.SegmentFrames.content c.run_in_frame-done.new.frames) c.args.w.now.classes c.args.r.segment at)
    (sym place) c.run_in_frame-done.ensures.stands)

pub leave-requires-clause-paid : goal.leave-requires-clause-paid
leave-requires-clause-paid g c =
    let first : Contents = contents_of (g.H.ObjectStore.content c.args.heap.now) (g.F.SegmentFrames.content c.args.frames.now) c.args.own.now in
    let here : Here = here_at c.args.w.now c.args.shared.now c.args.r.domain c.args.r.segment in
    let now : Contents = contents_of (g.H.ObjectStore.content c.loop-done.heap) (g.F.SegmentFrames.content c.loop-done.frames) c.loop-done.own in
    let mid : Contents = contents_of (g.H.ObjectStore.content c.run_in_frame-done.new.heap) (g.F.SegmentFrames.content
    c.run_in_frame-done.new.frames) c.loop-done.own in
    let far = onward_by c.local_steps_keep.ensures first here c.args.r.thread c.requires.acting now c.loop-done.done c.loop-done.invariant.0 mid
    c.run_in_frame-done.result (c.run_in_frame-done.ensures.runs c.loop-done.own c.args.shared.now c.args.r.thread) in
    let same = c.work-worked.ensures.undone c.in-Undone.is in
    subst (λ (frames : FrameContent). PaysFrames frames c.args.r.segment) (sym same.1) far.acting.pays

pub returns-then-leave-clause-leads : goal.returns-then-leave-clause-leads
returns-then-leave-clause-leads g c =
    let first : Contents = contents_of (g.H.ObjectStore.content c.args.heap.now) (g.F.SegmentFrames.content c.args.frames.now) c.args.own.now in
    let here : Here = here_at c.args.w.now c.args.shared.now c.args.r.domain c.args.r.segment in
    let now : Contents = contents_of (g.H.ObjectStore.content c.loop-done.heap) (g.F.SegmentFrames.content c.loop-done.frames) c.loop-done.own in
    let mid : Contents = contents_of (g.H.ObjectStore.content c.run_in_frame-done.new.heap) (g.F.SegmentFrames.content
    c.run_in_frame-done.new.frames) c.loop-done.own in
    let far = onward_by c.local_steps_keep.ensures first here c.args.r.thread c.requires.acting now c.loop-done.done c.loop-done.invariant.0 mid
    c.run_in_frame-done.result (c.run_in_frame-done.ensures.runs c.loop-done.own c.args.shared.now c.args.r.thread) in
    let same = c.work-worked.ensures.undone c.in-Undone.is in
    let before : Contents = contents_of (g.H.ObjectStore.content c.work-worked.new.heap) (g.F.SegmentFrames.content c.work-worked.new.frames)
    c.work-worked.new.own in
    let new : Contents = contents_of (g.H.ObjectStore.content c.work-worked.new.heap) (g.F.SegmentFrames.content c.leave.new.frames)
    c.work-worked.new.own in
    let is_mid : before ≡ mid = λ i. contents_of (same.0 i) (same.1 i) (same.2 i) in
    let free = subst (λ (frames : FrameContent). WaitsForNone frames c.args.w.now.classes c.args.r.segment c.loop-done.own.state c.args.r.thread) same.1
    (c.leave.ensures.free c.if-leave.true c.loop-done.own.state) in
    let steps = subst (λ (x : Contents). Steps x new here c.args.r.thread c.leave.new.went) is_mid
    (c.leave.ensures.steps c.if-leave.true (g.H.ObjectStore.content c.work-worked.new.heap) c.work-worked.new.own c.args.shared.now) in
    comes_to first new here c.args.r.thread ((c.loop-done.done + c.run_in_frame-done.result) + 1) c.leave.new.went (c.leave.ensures.leaving c.if-leave.true)
    (leaves_by c.local_steps_keep.ensures first here c.args.r.thread c.requires.acting mid (c.loop-done.done + c.run_in_frame-done.result) far new
    c.leave.new.went free c.holds.ensures.literals steps)

pub returns-then-leave-clause-keeps : goal.returns-then-leave-clause-keeps
returns-then-leave-clause-keeps g c =
    let first : Contents = contents_of (g.H.ObjectStore.content c.args.heap.now) (g.F.SegmentFrames.content c.args.frames.now) c.args.own.now in
    let here : Here = here_at c.args.w.now c.args.shared.now c.args.r.domain c.args.r.segment in
    let now : Contents = contents_of (g.H.ObjectStore.content c.loop-done.heap) (g.F.SegmentFrames.content c.loop-done.frames) c.loop-done.own in
    let mid : Contents = contents_of (g.H.ObjectStore.content c.run_in_frame-done.new.heap) (g.F.SegmentFrames.content
    c.run_in_frame-done.new.frames) c.loop-done.own in
    let far = onward_by c.local_steps_keep.ensures first here c.args.r.thread c.requires.acting now c.loop-done.done c.loop-done.invariant.0 mid
    c.run_in_frame-done.result (c.run_in_frame-done.ensures.runs c.loop-done.own c.args.shared.now c.args.r.thread) in
    let same = c.work-worked.ensures.undone c.in-Undone.is in
    let before : Contents = contents_of (g.H.ObjectStore.content c.work-worked.new.heap) (g.F.SegmentFrames.content c.work-worked.new.frames)
    c.work-worked.new.own in
    let new : Contents = contents_of (g.H.ObjectStore.content c.work-worked.new.heap) (g.F.SegmentFrames.content c.leave.new.frames)
    c.work-worked.new.own in
    let is_mid : before ≡ mid = λ i. contents_of (same.0 i) (same.1 i) (same.2 i) in
    let free = subst (λ (frames : FrameContent). WaitsForNone frames c.args.w.now.classes c.args.r.segment c.loop-done.own.state c.args.r.thread) same.1
    (c.leave.ensures.free c.if-leave.true c.loop-done.own.state) in
    let steps = subst (λ (x : Contents). Steps x new here c.args.r.thread c.leave.new.went) is_mid
    (c.leave.ensures.steps c.if-leave.true (g.H.ObjectStore.content c.work-worked.new.heap) c.work-worked.new.own c.args.shared.now) in
    pools_kept_leaving c.local_steps_keep.ensures first here c.args.r.thread c.requires.acting mid (c.loop-done.done + c.run_in_frame-done.result) far new
    c.leave.new.went free c.holds.ensures.literals steps

pub returns-in-Undone-clause-leads : goal.returns-in-Undone-clause-leads
returns-in-Undone-clause-leads g c =
    let first : Contents = contents_of (g.H.ObjectStore.content c.args.heap.now) (g.F.SegmentFrames.content c.args.frames.now) c.args.own.now in
    let here : Here = here_at c.args.w.now c.args.shared.now c.args.r.domain c.args.r.segment in
    let now : Contents = contents_of (g.H.ObjectStore.content c.loop-done.heap) (g.F.SegmentFrames.content c.loop-done.frames) c.loop-done.own in
    let mid : Contents = contents_of (g.H.ObjectStore.content c.run_in_frame-done.new.heap) (g.F.SegmentFrames.content
    c.run_in_frame-done.new.frames) c.loop-done.own in
    let far = onward_by c.local_steps_keep.ensures first here c.args.r.thread c.requires.acting now c.loop-done.done c.loop-done.invariant.0 mid
    c.run_in_frame-done.result (c.run_in_frame-done.ensures.runs c.loop-done.own c.args.shared.now c.args.r.thread) in
    let same = c.work-worked.ensures.undone c.in-Undone.is in
    let kept = c.leave.ensures.no c.if-leave.false in
    let frames = kept.0 ∙ same.1 in
    let new : Contents = contents_of (g.H.ObjectStore.content c.work-worked.new.heap) (g.F.SegmentFrames.content c.leave.new.frames)
    c.work-worked.new.own in
    let is_mid : new ≡ mid = λ i. contents_of (same.0 i) (frames i) (same.2 i) in
    subst (λ (how : Went). StepsComeTo first new here c.args.r.thread (c.loop-done.done + c.run_in_frame-done.result) how)
    (sym (kept.1 ∙ c.loop-done.invariant.3))
    (subst (λ (x : Contents). StepsLead first x here c.args.r.thread (c.loop-done.done + c.run_in_frame-done.result)) (sym is_mid) far.leads)

pub returns-in-Undone-clause-keeps : goal.returns-in-Undone-clause-keeps
returns-in-Undone-clause-keeps g c =
    let first : Contents = contents_of (g.H.ObjectStore.content c.args.heap.now) (g.F.SegmentFrames.content c.args.frames.now) c.args.own.now in
    let here : Here = here_at c.args.w.now c.args.shared.now c.args.r.domain c.args.r.segment in
    let now : Contents = contents_of (g.H.ObjectStore.content c.loop-done.heap) (g.F.SegmentFrames.content c.loop-done.frames) c.loop-done.own in
    let mid : Contents = contents_of (g.H.ObjectStore.content c.run_in_frame-done.new.heap) (g.F.SegmentFrames.content
    c.run_in_frame-done.new.frames) c.loop-done.own in
    let far = onward_by c.local_steps_keep.ensures first here c.args.r.thread c.requires.acting now c.loop-done.done c.loop-done.invariant.0 mid
    c.run_in_frame-done.result (c.run_in_frame-done.ensures.runs c.loop-done.own c.args.shared.now c.args.r.thread) in
    let same = c.work-worked.ensures.undone c.in-Undone.is in
    let kept = c.leave.ensures.no c.if-leave.false in
    let frames = kept.0 ∙ same.1 in
    subst (KeepsDomains (g.F.SegmentFrames.content c.args.frames.now)) (sym frames)
    (pools_kept c.local_steps_keep.ensures first here c.args.r.thread c.requires.acting mid (c.loop-done.done + c.run_in_frame-done.result) far)

pub loop-done-preserved : goal.loop-done-preserved
loop-done-preserved g c =
    let first : Contents = contents_of (g.H.ObjectStore.content c.args.heap.now) (g.F.SegmentFrames.content c.args.frames.now) c.args.own.now in
    let here : Here = here_at c.args.w.now c.args.shared.now c.args.r.domain c.args.r.segment in
    let now : Contents = contents_of (g.H.ObjectStore.content c.loop-done.heap) (g.F.SegmentFrames.content c.loop-done.frames) c.loop-done.own in
    let mid : Contents = contents_of (g.H.ObjectStore.content c.run_in_frame-done.new.heap) (g.F.SegmentFrames.content
    c.run_in_frame-done.new.frames) c.loop-done.own in
    let far = onward_by c.local_steps_keep.ensures first here c.args.r.thread c.requires.acting now c.loop-done.done c.loop-done.invariant.0 mid
    c.run_in_frame-done.result (c.run_in_frame-done.ensures.runs c.loop-done.own c.args.shared.now c.args.r.thread) in
    let new : Contents = contents_of (g.H.ObjectStore.content c.work-worked.new.heap) (g.F.SegmentFrames.content c.work-worked.new.frames)
    c.work-worked.new.own in
    let done : c.work-worked.result ≢ Work.Undone = λ undone. (let both : Work.AtInstruction ≡ Work.Undone = sym c.in-AtInstruction.is ∙ undone in absurd cc) in
    let on = onward_by_one c.local_steps_keep.ensures first here c.args.r.thread c.requires.acting mid (c.loop-done.done + c.run_in_frame-done.result) far new
    (c.work-worked.ensures.free done) c.holds.ensures.literals (c.work-worked.ensures.steps done) in
    let more : c.loop-done.done + c.run_in_frame-done.result + 1 ≤ c.args.most =
    omega (arith, c.run_in_frame-done.ensures.few, c.loop-done.invariant.2, c.if-done-most.false) in
    (on, c.work-worked.ensures.stands c.in-AtInstruction.is, more, c.loop-done.invariant.3)

pub returns-in-AtNeed-clause-leads : goal.returns-in-AtNeed-clause-leads
returns-in-AtNeed-clause-leads g c =
    let first : Contents = contents_of (g.H.ObjectStore.content c.args.heap.now) (g.F.SegmentFrames.content c.args.frames.now) c.args.own.now in
    let here : Here = here_at c.args.w.now c.args.shared.now c.args.r.domain c.args.r.segment in
    let now : Contents = contents_of (g.H.ObjectStore.content c.loop-done.heap) (g.F.SegmentFrames.content c.loop-done.frames) c.loop-done.own in
    let mid : Contents = contents_of (g.H.ObjectStore.content c.run_in_frame-done.new.heap) (g.F.SegmentFrames.content
    c.run_in_frame-done.new.frames) c.loop-done.own in
    let far = onward_by c.local_steps_keep.ensures first here c.args.r.thread c.requires.acting now c.loop-done.done c.loop-done.invariant.0 mid
    c.run_in_frame-done.result (c.run_in_frame-done.ensures.runs c.loop-done.own c.args.shared.now c.args.r.thread) in
    let new : Contents = contents_of (g.H.ObjectStore.content c.work-worked.new.heap) (g.F.SegmentFrames.content c.work-worked.new.frames)
    c.work-worked.new.own in
    let done : c.work-worked.result ≢ Work.Undone = λ undone. (let both : Work.AtNeed ≡ Work.Undone = sym c.in-AtNeed.is ∙ undone in absurd cc) in
    let on = onward_by_one c.local_steps_keep.ensures first here c.args.r.thread c.requires.acting mid (c.loop-done.done + c.run_in_frame-done.result) far new
    (c.work-worked.ensures.free done) c.holds.ensures.literals (c.work-worked.ensures.steps done) in
    subst (λ (how : Went). StepsComeTo first new here c.args.r.thread ((c.loop-done.done + c.run_in_frame-done.result) + 1) how) (sym c.loop-done.invariant.3)
    on.leads

pub returns-in-AtNeed-clause-keeps : goal.returns-in-AtNeed-clause-keeps
returns-in-AtNeed-clause-keeps g c =
    let first : Contents = contents_of (g.H.ObjectStore.content c.args.heap.now) (g.F.SegmentFrames.content c.args.frames.now) c.args.own.now in
    let here : Here = here_at c.args.w.now c.args.shared.now c.args.r.domain c.args.r.segment in
    let now : Contents = contents_of (g.H.ObjectStore.content c.loop-done.heap) (g.F.SegmentFrames.content c.loop-done.frames) c.loop-done.own in
    let mid : Contents = contents_of (g.H.ObjectStore.content c.run_in_frame-done.new.heap) (g.F.SegmentFrames.content
    c.run_in_frame-done.new.frames) c.loop-done.own in
    let far = onward_by c.local_steps_keep.ensures first here c.args.r.thread c.requires.acting now c.loop-done.done c.loop-done.invariant.0 mid
    c.run_in_frame-done.result (c.run_in_frame-done.ensures.runs c.loop-done.own c.args.shared.now c.args.r.thread) in
    let new : Contents = contents_of (g.H.ObjectStore.content c.work-worked.new.heap) (g.F.SegmentFrames.content c.work-worked.new.frames)
    c.work-worked.new.own in
    let done : c.work-worked.result ≢ Work.Undone = λ undone. (let both : Work.AtNeed ≡ Work.Undone = sym c.in-AtNeed.is ∙ undone in absurd cc) in
    let on = onward_by_one c.local_steps_keep.ensures first here c.args.r.thread c.requires.acting mid (c.loop-done.done + c.run_in_frame-done.result) far new
    (c.work-worked.ensures.free done) c.holds.ensures.literals (c.work-worked.ensures.steps done) in
    pools_kept c.local_steps_keep.ensures first here c.args.r.thread c.requires.acting new ((c.loop-done.done + c.run_in_frame-done.result) + 1) on

pub returns-clause-leads : goal.returns-clause-leads
returns-clause-leads g c =
    let first : Contents = contents_of (g.H.ObjectStore.content c.args.heap.now) (g.F.SegmentFrames.content c.args.frames.now) c.args.own.now in
    let here : Here = here_at c.args.w.now c.args.shared.now c.args.r.domain c.args.r.segment in
    let now : Contents = contents_of (g.H.ObjectStore.content c.loop-done.heap) (g.F.SegmentFrames.content c.loop-done.frames) c.loop-done.own in
    subst (λ (how : Went). StepsComeTo first now here c.args.r.thread c.loop-done.done how) (sym c.loop-done.invariant.3)
    c.loop-done.invariant.0.leads

pub returns-clause-keeps : goal.returns-clause-keeps
returns-clause-keeps g c =
    let first : Contents = contents_of (g.H.ObjectStore.content c.args.heap.now) (g.F.SegmentFrames.content c.args.frames.now) c.args.own.now in
    let here : Here = here_at c.args.w.now c.args.shared.now c.args.r.domain c.args.r.segment in
    let now : Contents = contents_of (g.H.ObjectStore.content c.loop-done.heap) (g.F.SegmentFrames.content c.loop-done.frames) c.loop-done.own in
    pools_kept c.local_steps_keep.ensures first here c.args.r.thread c.requires.acting now c.loop-done.done c.loop-done.invariant.0
