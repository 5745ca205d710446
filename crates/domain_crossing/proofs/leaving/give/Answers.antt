-- By the value, and by what comes of it.
use Rattle.std.proofs.Common.{Option, sym, subst}
use Rattle.jk_model.specs.declared.steps.Raise.TheVariants as Raised
use Rattle.jk_model.specs.declared.steps.Standing.TheVariants as Stands
use Rattle.jk_model.specs.declared.values.Value.{Value}
use Rattle.domain_crossing.specs.declared.answers.Left.TheVariants as Became
use Rattle.domain_crossing.specs.PassedValues.{Crossing, GivesSo}
use Rattle.domain_crossing.proofs.leaving.give.Goals as goal

pub returns-in_default : goal.returns-in_default
returns-in_default g c =
    let x : Crossing = record { world = c.args.w.now; heap = g.H.ObjectStore.content c.args.heap.now; from = c.args.from; to = c.args.below.domain } in
    let frames = g.F.SegmentFrames.content c.args.frames.now in
    let after = g.F.SegmentFrames.content c.resume.new.frames in
    subst (λ (o : Option Value). GivesSo x c.args.below.segment frames o Became.Delivered x.heap after) (sym c.in_default.is)
    (GivesSo.nothing after c.resume.ensures)

pub pass-requires : goal.pass-requires
pass-requires g c = c.requires.copy c.in-Some.v c.in-Some.is

pub returns-in-As : goal.returns-in-As
returns-in-As g c =
    let x : Crossing = record { world = c.args.w.now; heap = g.H.ObjectStore.content c.args.heap.now; from = c.args.from; to = c.args.below.domain } in
    let frames = g.F.SegmentFrames.content c.args.frames.now in
    let new = g.H.ObjectStore.content c.pass.new.heap in
    let after = g.F.SegmentFrames.content c.resume-in-As.new.frames in
    subst (λ (o : Option Value). GivesSo x c.args.below.segment frames o Became.Delivered new after) (sym c.in-Some.is)
    (GivesSo.arrives c.in-Some.v c.in-As.v new after c.in-As.ensures c.resume-in-As.ensures)

pub returns-in-Uncopiable : goal.returns-in-Uncopiable
returns-in-Uncopiable g c =
    let x : Crossing = record { world = c.args.w.now; heap = g.H.ObjectStore.content c.args.heap.now; from = c.args.from; to = c.args.below.domain } in
    let frames = g.F.SegmentFrames.content c.args.frames.now in
    let new = g.H.ObjectStore.content c.pass.new.heap in
    subst (λ (o : Option Value). GivesSo x c.args.below.segment frames o (Became.Raised (Raised.Standing Stands.NotCopiable)) new frames) (sym c.in-Some.is)
    (GivesSo.is_uncopied c.in-Some.v new c.in-Uncopiable.ensures)

pub returns-in-TooLarge : goal.returns-in-TooLarge
returns-in-TooLarge g c =
    let x : Crossing = record { world = c.args.w.now; heap = g.H.ObjectStore.content c.args.heap.now; from = c.args.from; to = c.args.below.domain } in
    let frames = g.F.SegmentFrames.content c.args.frames.now in
    let new = g.H.ObjectStore.content c.pass.new.heap in
    subst (λ (o : Option Value). GivesSo x c.args.below.segment frames o (Became.Raised (Raised.Standing Stands.OutOfMemoryError)) new frames)
    (sym c.in-Some.is) (GivesSo.has_no_room c.in-Some.v new c.in-TooLarge.ensures)
