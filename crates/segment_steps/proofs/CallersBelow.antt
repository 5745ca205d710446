-- The frame below a top frame that initialises no class waits for its answer, and goes on with it.
use Rattle.std.proofs.Common.{inl, inr, ◌≡◌, ◌≢◌, ◌⊎◌, ◌+◌, List, [], ◌∷◌, ◌++◌, Option, Some, None, sym, ap, subst, ◌∙◌, arith}
use Rattle.std.proofs.lemmas.List.{length-append}
use Rattle.std.proofs.lemmas.Option.{none-some, same_Some, slice_get_within}
use Rattle.jk_model.specs.declared.identifiers.ClassId.{ClassId}
use Rattle.jk_model.specs.declared.identifiers.MemberId.{MemberId}
use Rattle.jk_model.specs.declared.values.Value.{Value}
use Rattle.jk_model_classes.specs.declared.records.ClassRecord.{ClassRecord}
use Rattle.jk_model_classes.specs.declared.records.MethodRecord.{MethodRecord}
use Rattle.jk_model_classes.specs.declared.records.TypeRef.{TypeRef}
use Rattle.jk_model_classes.specs.Lookups.{MethodIs}
use Rattle.class_lemmas.proofs.OneRecord.{one_method}
use Rattle.jk_model_domains.specs.Objects.{NamedObject}
use Rattle.jk_model_frames.specs.Frames.{FrameState}
use Rattle.jk_model_heaps.specs.CalledFrames.{as_entries, resumed}
use Rattle.jk_model_heaps.specs.RunningCode.{RunsCode}
use Rattle.jk_model_sealing.specs.AnsweringFrames.{AwaitsResult, EachAnswers, FrameAnswers, FramesAnswer, GivesResult}
use Rattle.jk_model_sealing.specs.FittingFrames.{FitsAsCaller, FitsAtCall, FitsHere, FramesFit}
use Rattle.jk_model_sealing.specs.SealedInsides.{Surroundings}
use Rattle.jk_model_typing.specs.Scopes.{CodeScope}
use Rattle.typing_lemmas.proofs.OneScope.{one-scope}
use Rattle.number_laws.proofs.ValuesFit.{fits-length, long_slots}
use Rattle.heap_laws.specs.FittingOutcomes.{IsResult}
use Rattle.heap_laws.specs.SoundCodes.{AreSoundCodes}
use Rattle.row_laws.proofs.CallersResume.{resumes}
use Rattle.segment_steps.specs.Returning.{MayResume}

module _ (classes : List ClassRecord) where
  fit_caller : (heap : List NamedObject) (A : FrameState → Type 0) (lower : List FrameState) (below f : FrameState)
      → FramesFit A classes heap ((lower ++ below ∷ []) ++ f ∷ []) → FitsAsCaller classes heap below f
  fit_caller heap A [] below f h = h.0
  fit_caller heap A (c ∷ []) below f h = h.1.0
  fit_caller heap A (c ∷ d ∷ more) below f h = fit_caller heap A (d ∷ more) below f h.1

  each_caller : (lower : List FrameState) (below f : FrameState) → EachAnswers classes ((lower ++ below ∷ []) ++ f ∷ [])
      → (f.head.initialises ≢ None) ⊎ FrameAnswers classes below f
  each_caller [] below f h = h.0
  each_caller (c ∷ []) below f h = h.1.0
  each_caller (c ∷ d ∷ more) below f h = each_caller (d ∷ more) below f h.1

  answered_caller : (lower : List FrameState) (below f : FrameState) → FramesAnswer classes ((lower ++ below ∷ []) ++ f ∷ [])
      → (f.head.initialises ≢ None) ⊎ FrameAnswers classes below f
  answered_caller [] below f h = each_caller [] below f h.1
  answered_caller (c ∷ more) below f h = each_caller (c ∷ more) below f h.1

  -- the lowest frame initialises no class
  pub lowest_plain : (callers : List FrameState) (f : FrameState) (c : ClassId) → FramesAnswer classes (callers ++ f ∷ [])
      → f.head.initialises ≡ Some c → callers ≢ []
  lowest_plain [] f c answers is = λ e. none-some c (sym answers.0 ∙ is)
  lowest_plain (g ∷ more) f c answers is = λ e. absurd cc

-- ---- What its method answers.

-- a frame that fits after an answer may go on with it
fits_after : (around : Surroundings) (sound : AreSoundCodes around.classes) (heap : List NamedObject) (f : FrameState) (v : Option Value)
    → FitsAtCall around.classes heap f → FitsHere around.classes heap (resumed v f) → MayResume f v
fits_after around sound heap f v at (t, holds) =
    let typing = t.is_least.typing in
    let low = slice_get_within t.frames (f.head.at + 1) (Some t.type) t.stands in
    let short = (sound.decoded t.method typing.scope typing.scope_is).short in
    let many = fits-length t.scope heap (f.stack ++ as_entries v) t.type.stack holds.stack in
    let few = long_slots t.type.stack in
    let sized = (typing.sized (f.head.at + 1) t.type t.stands).stack in
    let scope : t.scope ≡ typing.scope = one-scope around.classes t.method t.scope typing.scope t.is_scope typing.scope_is in
    let room : f.head.max_stack ≡ typing.scope.code.max_stack = t.room.1 ∙ ap (λ (s : CodeScope). s.code.max_stack) scope in
    record {
      no_need = at.no_need;
      place = omega (arith, low, typing.as_many, short);
      room = omega (arith, length-append f.stack (as_entries v), many, few, sized, room);
    }

module _ (around : Surroundings) (sound : AreSoundCodes around.classes) (heap : List NamedObject) (A : FrameState → Type 0)
    (lower : List FrameState) (below f : FrameState) (plain : f.head.initialises ≡ None) (code : RunsCode around.classes f)
    (v : Option Value) (answer : IsResult around heap code.scope.method.result v) where
  -- what its method answers
  result_is : (result : Option TypeRef) → GivesResult around.classes f result → code.scope.method.result ≡ result
  result_is result (m, method, is, there, answers) =
      let member : m ≡ code.method = same_Some m code.method (sym is ∙ code.is_method) in
      let here : MethodIs around.classes code.method method = subst (λ (k : MemberId). MethodIs around.classes k method) member there in
      let one : method ≡ code.scope.method =
      one_method around.classes code.method method code.scope.method here (code.is_scope.class, code.is_scope.class_is, code.is_scope.method) in
      sym (ap (λ (r : MethodRecord). r.result) one) ∙ answers

  at_call : FitsAsCaller around.classes heap below f → FitsAtCall around.classes heap below
  at_call (inl (some, fits)) = absurd (some plain)
  at_call (inr (none, call)) = call

  awaits : (f.head.initialises ≢ None) ⊎ FrameAnswers around.classes below f → AwaitsResult around.classes below code.scope.method.result
  awaits (inl some) = absurd (some plain)
  awaits (inr (result, awaited, given)) = subst (AwaitsResult around.classes below) (sym (result_is result given)) awaited

  pub may_resume : FramesFit A around.classes heap ((lower ++ below ∷ []) ++ f ∷ [])
      → FramesAnswer around.classes ((lower ++ below ∷ []) ++ f ∷ []) → MayResume below v
  may_resume fit answers =
      let at = at_call (fit_caller around.classes heap A lower below f fit) in
      fits_after around sound heap below v at
      (resumes around sound heap below at code.scope.method.result v (awaits (answered_caller around.classes lower below f answers)) answer)
