-- An object was caught by the top frame, which stands at its handler.
use Rattle.std.proofs.Common.{◌≡◌, ℕ, List, Some, None, slice_get, refl, sym, subst, ◌∙◌}
use Rattle.std.proofs.lemmas.Option.{none-some, same_Some}
use Rattle.jk_model.specs.declared.identifiers.DomainId.{DomainId}
use Rattle.jk_model.specs.declared.identifiers.SegmentNo.{SegmentNo}
use Rattle.jk_model.specs.declared.instructions.Instr.{Instr}
use Rattle.jk_model.specs.declared.steps.Raise.TheVariants as Raised
use Rattle.jk_model_classes.specs.declared.records.ClassRecord.{ClassRecord}
use Rattle.jk_model_classes.specs.Worlds.{WorldRecord}
use Rattle.jk_model_heaps.specs.declared.shapes.Unwound.TheVariants as Unwound
use Rattle.jk_model_sharing.specs.SharedStates.{SharedState}
use Rattle.class_init.specs.KeptStates.{KeptState}
use Rattle.exception_unwind.specs.CaughtHere.{StandsAtHandler}
use Rattle.exception_unwind.specs.UnwoundFrames.{IsUnwound}
use Rattle.frame_store.specs.FrameContents.{FrameContent}
use Rattle.object_store.specs.HeapContents.{HeapContent}
use Rattle.step_contents.specs.Contents.{contents_of, here_at}
use Rattle.step_contents.specs.PlacesInCode.{IsPlaceIn, PlaceInCode}
use Rattle.step_contents.specs.StandingTops.{StandsThere}
use Rattle.segment_steps.specs.RaisingHere.{RaisedHere}
use Rattle.segment_steps.specs.declared.went.Went.TheVariants as Goes

pub caught_here : (heaps : HeapContent) (frames new : FrameContent) (w : WorldRecord) (d : DomainId) (s : SegmentNo) (a : ℕ)
    → ((own : KeptState) (shared : SharedState)
    → IsUnwound (contents_of heaps frames own) (contents_of heaps new own) (here_at w shared d s) a Unwound.Caught)
    → (own : KeptState) (shared : SharedState)
    → RaisedHere (contents_of heaps frames own) (contents_of heaps new own) (here_at w shared d s) (Raised.Object a) Goes.GoesOn
caught_here heaps frames new w d s a caught own shared = λ x may set.
    let went = caught own shared x may set in (
      went.0,
      Unwound.Caught,
      record { thrown = a; made = may.run.inside; is_raised = (refl, refl); unwinds = went.1 },
      refl,
      went.2,
    )

module _ (new : FrameContent) (classes : List ClassRecord) (s : SegmentNo) (at : PlaceInCode) (place : IsPlaceIn classes at) (n : ℕ)
    (handler : StandsAtHandler new classes s at.head n) where
  pub there_at_handler : slice_get at.scope.code.instrs n ≡ None → ⊥
  there_at_handler nothing = (let there = handler at refl place in none-some there.instr (sym nothing ∙ there.there))

  pub stands_at_handler : (instr : Instr) → slice_get at.scope.code.instrs n ≡ Some instr
      → StandsThere new classes s (record { head = record at.head { at = n }; scope = at.scope; instr = instr })
  stands_at_handler instr is =
      let there = handler at refl place in
      subst (λ (i : Instr). StandsThere new classes s (record { head = record at.head { at = n }; scope = at.scope; instr = i }))
      (same_Some there.instr instr (sym there.there ∙ is)) there.stands
