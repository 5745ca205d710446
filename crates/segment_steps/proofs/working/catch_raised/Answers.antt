-- By the handler that catches the object.
use Rattle.std.proofs.Common.{sym, subst}
use Rattle.jk_model.specs.declared.steps.Raise.{Raise}
use Rattle.heap_laws.specs.RaisableObjects.{MayBeRaised}
use Rattle.segment_steps.specs.RaisingHere.{RaisedHere}
use Rattle.segment_steps.specs.declared.went.Went.TheVariants as Goes
use Rattle.list_lemmas.proofs.ItemsByPlace.{item_lent, none_lent}
use Rattle.step_contents.specs.Contents.{contents_of, here_at}
use Rattle.step_contents.specs.StandingFrames.{place_of}
use Rattle.segment_steps.proofs.CaughtByTop.{caught_here, stands_at_handler, there_at_handler}
use Rattle.segment_steps.proofs.working.catch_raised.Goals as goal

pub catch_here-requires-clause-top : goal.catch_here-requires-clause-top
catch_here-requires-clause-top g c = (c.requires.stands.frame, c.requires.stands.top, c.requires.stands.head)

pub catch_here-requires-clause-throwable : goal.catch_here-requires-clause-throwable
catch_here-requires-clause-throwable g c =
    subst (λ (r : Raise). MayBeRaised c.args.w.now.classes ((g.H.ObjectStore.content c.args.heap.now).heap c.args.r.domain) r) c.in-Object.is
    c.requires.raise

pub unreachable-requires : goal.unreachable-requires
unreachable-requires g c =
    let at = place_of c.args.at.now in
    there_at_handler (g.F.SegmentFrames.content c.catch_here.new.frames) c.args.w.now.classes c.args.r.segment at c.requires.stands.place
    c.in-Some.n c.in-Some.ensures.stands (none_lent at.scope.code.instrs c.in-Some.n c.in-None.ensures)

pub returns-clause-caught : goal.returns-clause-caught
returns-clause-caught g c = λ done own shared.
    let new = g.F.SegmentFrames.content c.catch_here.new.frames in
    subst
    (λ (r : Raise). RaisedHere (contents_of (g.H.ObjectStore.content c.args.heap.now) (g.F.SegmentFrames.content c.args.frames.now) own)
    (contents_of (g.H.ObjectStore.content c.args.heap.now) new own) (here_at c.args.w.now shared c.args.r.domain c.args.r.segment) r Goes.GoesOn)
    (sym c.in-Object.is)
    (caught_here (g.H.ObjectStore.content c.args.heap.now) (g.F.SegmentFrames.content c.args.frames.now)
    (g.F.SegmentFrames.content c.catch_here.new.frames) c.args.w.now c.args.r.domain c.args.r.segment c.in-Object.thrown c.in-Some.ensures.caught own shared)

pub returns-clause-stands : goal.returns-clause-stands
returns-clause-stands g c = λ at_instruction.
    let at = place_of c.args.at.now in
    stands_at_handler (g.F.SegmentFrames.content c.catch_here.new.frames) c.args.w.now.classes c.args.r.segment at c.requires.stands.place
    c.in-Some.n c.in-Some.ensures.stands c.in-Some-get.instr.now
    (item_lent at.scope.code.instrs c.in-Some.n c.in-Some-get.instr c.in-Some-get.ensures)
