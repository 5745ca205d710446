-- The new frame stands at the first instruction of the method's code.
use Rattle.std.proofs.Common.{◌≡◌, ◌<◌, List, get_or, length, refl, sym, subst}
use Rattle.list_lemmas.proofs.ItemsByPlace.{item_read}
use Rattle.jk_model.specs.declared.frames.FrameHead.{FrameHead}
use Rattle.jk_model.specs.declared.instructions.Instr.{Instr}
use Rattle.frame_store.specs.FrameContents.{HasArguments}
use Rattle.type_rows.specs.CodeViews.{scope_of}
use Rattle.call_ops.proofs.FramesBegin.{stands_first}
use Rattle.call_ops.proofs.running.begin.Goals as goal

pub call-requires : goal.call-requires
call-requires g c =
    subst (λ (h : FrameHead). HasArguments (g.F.SegmentFrames.content c.args.frames.now) c.args.s h c.args.given) (sym c.call_head-head.ensures)
    (c.requires.may (scope_of c.args.code) c.requires.scope)

pub bounds-instrs-0 : goal.bounds-instrs-0
bounds-instrs-0 g c =
    subst (λ (xs : List Instr). 0 < length xs) (sym c.as_slice-instrs.ensures) (c.requires.first (scope_of c.args.code) c.requires.scope)

pub returns-in-Ok-clause-stands : goal.returns-in-Ok-clause-stands
returns-in-Ok-clause-stands g c = λ n is.
    let i = c.index-instrs-0.result in
    stands_first c.args.t.now (g.F.SegmentFrames.content c.args.frames.now) (g.F.SegmentFrames.content c.call.new.self) c.args.s c.args.m c.args.given
    (scope_of c.args.code) c.requires.scope c.call_head-head.result c.call_head-head.ensures
    (c.requires.may (scope_of c.args.code) c.requires.scope) c.in-Ok.ensures.ok i
    (item_read c.args.code.code.now.instrs 0 i (c.requires.first (scope_of c.args.code) c.requires.scope)
    (subst (λ (xs : List Instr). i ≡ get_or xs 0 i) c.as_slice-instrs.ensures c.index-instrs-0.is))

pub returns-in-Ok-clause-stays : goal.returns-in-Ok-clause-stays
returns-in-Ok-clause-stays g c = λ none. absurd (none 0 refl)
