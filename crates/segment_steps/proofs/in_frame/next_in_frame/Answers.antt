-- Where it goes on there is an instruction.
use Rattle.std.proofs.Common.{◌≡◌, ◌<◌, List, get_or, length, refl, sym, subst}
use Rattle.std.proofs.lemmas.Option.{slice_get_read}
use Rattle.jk_model.specs.declared.instructions.Instr.{Instr}
use Rattle.step_contents.specs.StandingFrames.{place_of}
use Rattle.segment_steps.proofs.AccessesMade.{is_within}
use Rattle.segment_steps.proofs.in_frame.next_in_frame.Goals as goal

pub bounds-instrs-n : goal.bounds-instrs-n
bounds-instrs-n g c =
    let at = place_of c.args.here.now in
    subst (λ (xs : List Instr). c.in-Some.n < length xs) (sym c.as_slice-instrs.ensures)
    (is_within c.heap_rows_keep.ensures (g.H.ObjectStore.content c.args.heap.now) (g.H.ObjectStore.content c.take_turn.new.heap)
    (g.F.SegmentFrames.content c.args.frames.now) (g.F.SegmentFrames.content c.take_turn.new.frames) c.args.w.now c.args.d c.args.s at
    c.requires.place c.requires.ready c.requires.may c.in-Some.n c.in-Some.ensures.some)

pub returns-clause-there : goal.returns-clause-there
returns-clause-there g c =
    let at = place_of c.args.here.now in
    let within = is_within c.heap_rows_keep.ensures (g.H.ObjectStore.content c.args.heap.now) (g.H.ObjectStore.content c.take_turn.new.heap)
    (g.F.SegmentFrames.content c.args.frames.now) (g.F.SegmentFrames.content c.take_turn.new.frames) c.args.w.now c.args.d c.args.s at
    c.requires.place c.requires.ready c.requires.may c.in-Some.n c.in-Some.ensures.some in
    let i = c.index-instrs-n.result in
    slice_get_read at.scope.code.instrs (length at.scope.code.instrs) c.in-Some.n i refl within
    (subst (λ (xs : List Instr). i ≡ get_or xs c.in-Some.n i) c.as_slice-instrs.ensures c.index-instrs-n.is)
