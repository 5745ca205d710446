-- The frame that begins runs its method.
use Rattle.std.proofs.Common.{List, refl, subst, ◌∙◌}
use Rattle.jk_model_classes.specs.declared.records.ClassRecord.{ClassRecord}
use Rattle.jk_model_typing.specs.Scopes.{IsScopeOf}
use Rattle.jk_model_typing.specs.Typing.{IsLeastTyping}
use Rattle.type_rows.specs.CodeViews.{scope_of}
use Rattle.number_check.specs.declared.stores.TheConstants.{SEGMENT}
use Rattle.number_check.proofs.FramesBegin.{begins_to_run}
use Rattle.number_check.proofs.running.run_in.Goals as goal

pub go_on-after-requires : goal.go_on-after-requires
go_on-after-requires g c =
    let classes = c.args.world.now.classes in
    let scope = scope_of c.view_of-view.result in
    begins_to_run (g.F.SegmentFrames.content c.put_locals.new.frames) SEGMENT classes _ c.args.method scope c.in_ok-typing.typing.frames
    c.as_slice.result.now c.put_locals.ensures refl refl
    (subst (λ (l : List ClassRecord). IsScopeOf l c.args.method scope) c.classes.ensures c.view_of-view.ensures.scope) refl refl
    (subst (λ (l : List ClassRecord). IsLeastTyping l c.args.method c.in_ok-typing.typing.frames) c.classes-2.ensures c.in_ok-typing.ensures)
    c.expect_start.ensures (λ f top. c.as_slice.ensures ∙ c.in_ok-first.ensures f top) c.view_of-view.ensures.short
