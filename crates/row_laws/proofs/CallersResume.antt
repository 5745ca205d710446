-- A frame that stands at a call goes on after it with the answer.
use Rattle.std.proofs.Common.{inl, inr, ◌≡◌, ℕ, ◌+◌, false, not, pos, List, [], ◌∷◌, ◌++◌, Option, Some, None, refl, sym, ap, subst, ◌∙◌}
use Rattle.std.specs.Option.{option_map_or}
use Rattle.jk_model.specs.declared.instructions.Instr.{Instr}
use Rattle.jk_model.specs.declared.values.Value.{Value}
use Rattle.jk_model_classes.specs.declared.records.ClassRecord.{ClassRecord}
use Rattle.jk_model_classes.specs.declared.records.MethodRecord.{MethodRecord}
use Rattle.jk_model_classes.specs.declared.records.TypeRef.{TypeRef}
use Rattle.jk_model_typing.specs.FrameTypes.{value_of}
use Rattle.jk_model_typing.specs.Scopes.{CodeScope, result_values}
use Rattle.jk_model_typing.specs.Typing.{GoesOnAt, leaves_line}
use Rattle.jk_model_frames.specs.Frames.{FrameState}
use Rattle.jk_model_domains.specs.Objects.{NamedObject}
use Rattle.jk_model_domains.specs.ValueTypes.{EachValueFits, FrameHolds, HoldsDeclared}
use Rattle.jk_model_heaps.specs.CalledFrames.{as_entries, resumed}
use Rattle.jk_model_heaps.specs.RunningCode.{NamesMethod, RunsCode}
use Rattle.jk_model_sealing.specs.AnsweringFrames.{AwaitsResult}
use Rattle.jk_model_sealing.specs.FittingFrames.{FitsAtCall, FitsHere, IsCall}
use Rattle.jk_model_sealing.specs.SealedInsides.{Surroundings}
use Rattle.number_laws.proofs.ValuesFit.{fits-append}
use Rattle.heap_laws.specs.FittingOutcomes.{IsResult}
use Rattle.heap_laws.specs.SoundCodes.{AreSoundCodes}
use Rattle.type_rows.proofs.RowsAreDetermined.{row-determined}
use Rattle.row_laws.proofs.CallersFit.{same_named}
use Rattle.row_laws.proofs.HeldValues.{fits_here}
use Rattle.row_laws.proofs.StandsHere.{code_is_one, goes, goes_on}

-- control goes on behind a call
behind_call : (place op : ℕ) (i : Instr) → i.op ≡ op → leaves_line op ≡ false → GoesOnAt place i (pos (place + 1))
behind_call place op i is stays = inl (ap not (ap leaves_line is ∙ stays), refl)

goes_behind : (place : ℕ) (i : Instr) → IsCall i → GoesOnAt place i (pos (place + 1))
goes_behind place i (inl op) = behind_call place 0xb6 i op refl
goes_behind place i (inr (inl op)) = behind_call place 0xb7 i op refl
goes_behind place i (inr (inr (inl op))) = behind_call place 0xb8 i op refl
goes_behind place i (inr (inr (inr op))) = behind_call place 0xb9 i op refl

module _ (around : Surroundings) (sound : AreSoundCodes around.classes) (heap : List NamedObject) (f : FrameState)
    (at : FitsAtCall around.classes heap f) where
  abbrev code : RunsCode around.classes f
  code = record {
    method = at.typing.method;
    is_method = at.typing.is_method;
    scope = at.typing.scope;
    is_scope = at.typing.is_scope;
    instr = at.instr;
    stands = at.is_instr;
  }

  abbrev s : CodeScope
  s = at.typing.scope

  -- the answer fits what the call leaves on the stack
  answer_fits : (v : Option Value) (o : Option TypeRef) → IsResult around heap o v
      → EachValueFits s heap (as_entries v) (option_map_or (λ (t : TypeRef). value_of s.classes t ∷ []) o [])
  answer_fits (Some v) (Some t) (held, known) =
      (fits_here s heap v t (subst (λ (classes : List ClassRecord). HoldsDeclared classes heap v t) (sym at.typing.is_scope.all) held), tt)
  answer_fits (Some v) None h = absurd h
  answer_fits None (Some t) h = absurd h
  answer_fits None None h = tt

  -- the call that waits is this one
  same_result : (result : Option TypeRef) → AwaitsResult around.classes f result → at.called.result ≡ result
  same_result result (other, member, called, names, is) =
      let one = code_is_one around.classes f other code in
      let here : NamesMethod s at.instr member called =
      subst (λ (i : Instr). NamesMethod s i member called) one.1 (subst (λ (x : CodeScope). NamesMethod x other.instr member called) one.0 names) in
      let same = same_named s at.instr at.member at.called at.names member called here in
      ap (λ (x : MethodRecord). x.result) (sym same.1) ∙ is

  pub resumes : (result : Option TypeRef) (v : Option Value) → AwaitsResult around.classes f result → IsResult around heap result v
      → FitsHere around.classes heap (resumed v f)
  resumes result v awaits answer =
      let left = goes around.classes sound f code at.typing in
      let same : at.after ≡ left.after = row-determined s f.head.at at.instr at.typing.type at.after left.after at.row left.row in
      let fits : EachValueFits s heap (as_entries v) (result_values s at.called) =
      answer_fits v at.called.result (subst (λ (o : Option TypeRef). IsResult around heap o v) (sym (same_result result awaits)) answer) in
      let stack : EachValueFits s heap (f.stack ++ as_entries v) at.after.stack =
      subst (EachValueFits s heap (f.stack ++ as_entries v)) (sym at.left)
      (fits-append s heap f.stack (as_entries v) at.below (result_values s at.called) at.stack fits) in
      let answered : FrameState = record f { stack = f.stack ++ as_entries v } in
      let holds : FrameHolds s heap answered at.after = record { locals = at.locals; stack = stack } in
      goes_on around.classes sound f code at.typing heap answered (f.head.at + 1) refl (subst (FrameHolds s heap answered) same holds)
      (goes_behind f.head.at at.instr at.is_call)
