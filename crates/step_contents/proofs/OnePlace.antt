-- A frame stands nowhere where its method has no code, or its code no instruction at the frame's place.
use Rattle.std.proofs.Common.{◌≡◌, List, Some, None, slice_get, sym, subst, ap, ◌∙◌}
use Rattle.std.proofs.lemmas.Option.{same_Some}
use Rattle.jk_model.specs.declared.frames.FrameHead.{FrameHead}
use Rattle.jk_model.specs.declared.identifiers.MemberId.{MemberId}
use Rattle.jk_model_classes.specs.declared.records.ClassRecord.{ClassRecord}
use Rattle.jk_model_typing.specs.Scopes.{CodeScope, IsScopeOf}
use Rattle.typing_lemmas.proofs.OneScope.{one-scope}
use Rattle.step_contents.specs.PlacesInCode.{IsPlaceIn, PlaceInCode}

module _ (classes : List ClassRecord) (head : FrameHead) where
  pub no_method : head.method ≡ None → (at : PlaceInCode) → at.head ≡ head → IsPlaceIn classes at → ⊥
  no_method e at same h =
      let none : None ≡ Some h.method = sym e ∙ ap (λ (x : FrameHead). x.method) (sym same) ∙ h.is_method in
      absurd cc

  scope_there : (m : MemberId) → head.method ≡ Some m → (at : PlaceInCode) → at.head ≡ head → IsPlaceIn classes at
      → IsScopeOf classes m at.scope
  scope_there m e at same h =
      let method : h.method ≡ m = same_Some h.method m (sym h.is_method ∙ ap (λ (x : FrameHead). x.method) same ∙ e) in
      subst (λ (x : MemberId). IsScopeOf classes x at.scope) method h.is_scope

  pub no_code : (m : MemberId) → head.method ≡ Some m → ((s : CodeScope) → IsScopeOf classes m s → ⊥)
      → (at : PlaceInCode) → at.head ≡ head → IsPlaceIn classes at → ⊥
  no_code m e none at same h = none at.scope (scope_there m e at same h)

  pub no_instr : (m : MemberId) (s : CodeScope) → head.method ≡ Some m → IsScopeOf classes m s → slice_get s.code.instrs head.at ≡ None
      → (at : PlaceInCode) → at.head ≡ head → IsPlaceIn classes at → ⊥
  no_instr m s e is none at same h =
      let one : at.scope ≡ s = one-scope classes m at.scope s (scope_there m e at same h) is in
      let here : slice_get s.code.instrs head.at ≡ slice_get at.scope.code.instrs at.head.at =
      ap (λ (x : CodeScope). slice_get x.code.instrs head.at) (sym one)
      ∙ ap (λ (x : FrameHead). slice_get at.scope.code.instrs x.at) (sym same) in
      let no : None ≡ Some at.instr = sym none ∙ here ∙ h.stands in
      absurd cc
