-- The class that a frame needs, by its need, or else by the instruction at which it stands.
use Rattle.std.proofs.Common.{inl, inr, ◌≡◌, List, Option, Some, None, slice_get, refl, sym, ap, subst, ◌∙◌}
use Rattle.std.proofs.lemmas.Option.{none-some}
use Rattle.jk_model.specs.declared.frames.FrameHead.{FrameHead}
use Rattle.jk_model.specs.declared.identifiers.ClassId.{ClassId}
use Rattle.jk_model.specs.declared.instructions.Instr.{Instr}
use Rattle.jk_model_classes.specs.declared.records.ClassRecord.{ClassRecord}
use Rattle.jk_model_typing.specs.Scopes.{CodeScope}
use Rattle.jk_model_frames.specs.Frames.{FrameState}
use Rattle.jk_model_heaps.specs.RunningCode.{InstrNeeds, RunsCode}
use Rattle.row_laws.proofs.StandsHere.{code_is_one}
use Rattle.step_contents.specs.Operands.{NeedsClass}
use Rattle.step_contents.specs.PlacesInCode.{IsPlaceIn, PlaceInCode}
use Rattle.step_contents.specs.StandingFrames.{IsPlaceOf}
use Rattle.segment_steps.specs.Meetings.{NeedsOf}

module _ (classes : List ClassRecord) (f : FrameState) where
  -- ---- The code of a frame, and its place there.

  abbrev pub place_at : RunsCode classes f → PlaceInCode
  place_at code = record { head = f.head; scope = code.scope; instr = code.instr }

  pub is_place : (code : RunsCode classes f) → IsPlaceIn classes (place_at code)
  is_place code = record { method = code.method; is_method = code.is_method; is_scope = code.is_scope; stands = code.stands }

  abbrev pub code_at : (at : PlaceInCode) → at.head ≡ f.head → IsPlaceIn classes at → RunsCode classes f
  code_at at same is = record {
    method = is.method;
    is_method = ap (λ (h : FrameHead). h.method) (sym same) ∙ is.is_method;
    scope = at.scope;
    is_scope = is.is_scope;
    instr = at.instr;
    stands = ap (λ (h : FrameHead). slice_get at.scope.code.instrs h.at) (sym same) ∙ is.stands;
  }

  -- what the instruction of its code needs, that at its place does
  pub needs_there : (at : PlaceInCode) (same : at.head ≡ f.head) (is : IsPlaceIn classes at) (code : RunsCode classes f) (c : ClassId)
      → InstrNeeds code.scope code.instr c → InstrNeeds at.scope at.instr c
  needs_there at same is code c needs =
      let one = code_is_one classes f code (code_at at same is) in
      subst (λ (i : Instr). InstrNeeds at.scope i c) one.1 (subst (λ (s : CodeScope). InstrNeeds s code.instr c) one.0 needs)

  -- ---- By its need, or where it has none.

  pub by_need : (c : ClassId) → f.head.need ≡ Some c → NeedsOf classes f (Some c)
  by_need c some = inl some

  pub by_nothing : f.head.need ≡ None → IsPlaceOf classes f.head None → NeedsOf classes f None
  by_nothing none nowhere = λ c needs. elim needs [
    | inl some ↦ none-some c (sym none ∙ some)
    | inr by_code ↦ nowhere (place_at by_code.1.0) refl (is_place by_code.1.0)
  ]

  pub by_instr : f.head.need ≡ None → (at : PlaceInCode) → at.head ≡ f.head → IsPlaceIn classes at → (o : Option ClassId) → NeedsClass at o
      → NeedsOf classes f o
  by_instr none at same is None never = λ c needs. elim needs [
    | inl some ↦ none-some c (sym none ∙ some)
    | inr by_code ↦ never c (needs_there at same is by_code.1.0 c by_code.1.1)
  ]
  by_instr none at same is (Some c) needs = inr (none, (code_at at same is, needs))
