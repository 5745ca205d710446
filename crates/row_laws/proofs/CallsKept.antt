-- What is kept of the frame that calls a method of the system, and that it fits what is done next.
use Rattle.std.proofs.Common.{◌≡◌, ℕ, ◌+◌, List, [], ◌++◌, length, append-nil, Option, Some, None, sym, ap, subst, ◌∙◌}
use Rattle.std.specs.List.{AllByRecursion}
use Rattle.jk_model.specs.declared.identifiers.MemberId.{MemberId}
use Rattle.jk_model.specs.declared.values.Value.{Value}
use Rattle.jk_model_classes.specs.declared.records.Body.TheVariants as Does
use Rattle.jk_model_classes.specs.declared.records.MethodRecord.{MethodRecord}
use Rattle.jk_model_classes.specs.declared.records.TypeRef.{TypeRef}
use Rattle.jk_model_classes.specs.Lookups.{MethodIs}
use Rattle.jk_model_frames.specs.Frames.{FrameState}
use Rattle.jk_model_domains.specs.NumberRows.{IsOnTop, Replaces}
use Rattle.jk_model_domains.specs.Objects.{NamedObject}
use Rattle.jk_model_domains.specs.OwnStates.{OwnState, state_of}
use Rattle.jk_model_heaps.specs.CalledFrames.{as_entries, at_place}
use Rattle.jk_model_heaps.specs.Heaps.{IsGrown}
use Rattle.jk_model_heaps.specs.RunningCode.{NamesMethod, RunsCode}
use Rattle.jk_model_heaps.specs.Workings.{Inside, Outcome, Setting, Working}
use Rattle.jk_model_call_rows.specs.CallRows.{given_count}
use Rattle.jk_model_sealing.specs.AnsweringFrames.{AwaitsResult}
use Rattle.jk_model_sealing.specs.FittingFrames.{FitsAtCall, FitsHere, IsCall}
use Rattle.jk_model_sealing.specs.SealedInsides.{IsKnownValue, Surroundings}
use Rattle.jk_model_sealing.specs.SealedRuns.{NamesKnown}
use Rattle.jk_model_system_rows.specs.declared.meanings.SystemMeaning.{SystemMeaning}
use Rattle.jk_model_system_rows.specs.Answers.{Answer, Answered, Ends, Fails, Gives, Tells, Wants}
use Rattle.jk_model_system_rows.specs.Meanings.{meaning_of}
use Rattle.jk_model_system_rows.specs.SystemCalls.{Answering, DoesSystem}
use Rattle.jk_model_system_rows.specs.SystemRows.{SystemRow}
use Rattle.heap_laws.proofs.StillFits.{fits_at_call, fits_here, names_known}
use Rattle.heap_laws.specs.FittingOutcomes.{FitsOutcome, IsResult}
use Rattle.heap_laws.specs.KeptInsides.{IsKept, KeepsInside}
use Rattle.heap_laws.specs.RunningFrames.{RunsWell}
use Rattle.row_laws.proofs.CallersFit.{caller_fits}
use Rattle.row_laws.proofs.CallersResume.{resumes}
use Rattle.row_laws.proofs.NamesStayKnown.{known-parts, replaced-known}
use Rattle.row_laws.specs.GivenByMeaning.{BeginsMethod}
use Rattle.row_laws.proofs.SystemAnswersKept.{AnswerFits, KeepsAnswer}
use Rattle.row_laws.proofs.KnownMethods.{HasMeaning, has_meaning}
use Rattle.row_laws.proofs.RowsKept.{row_kept}
use Rattle.std.proofs.lemmas.Option.{same_Some}

-- ---- The frame.

module _ (around : Surroundings) (x : Setting) (w : Working) (runs : RunsWell around x w) (code : RunsCode around.classes w.frame)
    (call : IsCall code.instr) (found : MemberId) (named : MethodRecord) (names : NamesMethod code.scope code.instr found named)
    (given : List Value) (many : length given ≡ given_count code.instr.op named) (inside : Inside) (grown : IsGrown w.inside.heap inside.heap) where
  abbrev f : FrameState
  f = w.frame

  abbrev heap : List NamedObject
  heap = inside.heap

  -- the frame without what it gave stands at its call
  left_standing : (g : FrameState) → Replaces f g given [] → FitsAtCall around.classes heap g × AwaitsResult around.classes g named.result
  left_standing g rep =
      let left = caller_fits around.classes runs.setting.codes w.inside.heap f g runs.fits.0 runs.fits.1 code runs.no_need call found named names given
      many rep in
      (fits_at_call w.inside.heap heap grown around.classes g left.0, left.1)

  goes_on : (g : FrameState) (v : Option Value) → Replaces f g given (as_entries v) → IsResult around heap named.result v
      → FitsHere around.classes heap (at_place g (f.head.at + 1))
  goes_on g v rep fits =
      let left : FrameState = record f { stack = rep.below } in
      let same : left ≡ record f { stack = rep.below ++ [] } =
      ap (λ (vs : List Value). let y : FrameState = record f { stack = vs } in y) (sym (append-nil rep.below)) in
      let standing = left_standing left (record { below = rep.below; before = rep.before; after = same }) in
      let here = resumes around runs.setting.codes heap left standing.0 named.result v standing.1 fits in
      subst (λ (y : FrameState). FitsHere around.classes heap (at_place y (f.head.at + 1))) (sym rep.after) here

  known_now : NamesKnown around.caps heap f
  known_now = names_known w.inside.heap heap grown around.caps f runs.known

  result_known : (result : Option TypeRef) (v : Option Value) → IsResult around heap result v → AllByRecursion (IsKnownValue around.caps heap) (as_entries v)
  result_known None None h = tt
  result_known None (Some v) h = absurd h
  result_known (Some t) None h = absurd h
  result_known (Some t) (Some v) h = (h.1, tt)

  replaced : (g : FrameState) (pushed : List Value) → Replaces f g given pushed → AllByRecursion (IsKnownValue around.caps heap) pushed
      → NamesKnown around.caps heap g
  replaced g pushed rep known = replaced-known around.caps heap f g given pushed known_now rep known

  abbrev FrameKept : FrameState → Outcome → Type 0
  FrameKept g outcome =
      (g.head ≡ f.head) × NamesKnown around.caps heap g × FitsOutcome around x code.scope (record { inside = inside; frame = g }) outcome

  head_kept : (g : FrameState) (pushed : List Value) → Replaces f g given pushed → g.head ≡ f.head
  head_kept g pushed rep = ap (λ (y : FrameState). y.head) rep.after

  stands_still : FitsHere around.classes heap f
  stands_still = fits_here w.inside.heap heap grown around.classes f runs.fits

  frame_kept : (answer : Answer) (g : FrameState) (outcome : Outcome) → AnswerFits around heap named.result answer
      → Answering f given answer g outcome → FrameKept g outcome
  frame_kept (Gives v) g outcome fits (rep, is) = (
    head_kept g (as_entries v) rep,
    replaced g (as_entries v) rep (result_known named.result v fits),
    subst (FitsOutcome around x code.scope (record { inside = inside; frame = g })) (sym is) (goes_on g v rep fits),
  )
  frame_kept (Tells text) g outcome fits (rep, is) = (
    head_kept g [] rep,
    replaced g [] rep tt,
    subst (FitsOutcome around x code.scope (record { inside = inside; frame = g })) (sym is)
        (goes_on g None rep (subst (λ (o : Option TypeRef). IsResult around heap o None) (sym fits) tt)),
  )
  frame_kept (Fails r) g outcome fits (same, is) = (
    ap (λ (y : FrameState). y.head) same,
    subst (NamesKnown around.caps heap) (sym same) known_now,
    subst (FitsOutcome around x code.scope (record { inside = inside; frame = g })) (sym is)
        (subst (FitsHere around.classes heap) (sym same) stands_still, fits),
  )
  frame_kept (Wants request) g outcome fits (rep, is) =
      let left = left_standing g rep in (
        head_kept g [] rep,
        replaced g [] rep tt,
        subst (FitsOutcome around x code.scope (record { inside = inside; frame = g })) (sym is)
            (record {
              stands = left.0;
              awaits = subst (AwaitsResult around.classes g) (sym fits.0) left.1;
              known = fits.1;
            }),
      )
  frame_kept Ends g outcome fits (same, is) = (
    ap (λ (y : FrameState). y.head) same,
    subst (NamesKnown around.caps heap) (sym same) known_now,
    subst (FitsOutcome around x code.scope (record { inside = inside; frame = g })) (sym is)
        (subst (FitsHere around.classes heap) (sym same) stands_still),
  )

-- ---- All that is kept.

module _ (around : Surroundings) (x : Setting) (w : Working) (runs : RunsWell around x w) (code : RunsCode around.classes w.frame)
    (call : IsCall code.instr) (found : MemberId) (named : MethodRecord) (names : NamesMethod code.scope code.instr found named)
    (given : List Value) (many : length given ≡ given_count code.instr.op named) (top : IsOnTop w.frame given) (m : MemberId)
    (method : MethodRecord) (number : ℕ) (is : MethodIs around.classes m method) (system : method.body ≡ Does.System number)
    (same_result : method.result ≡ named.result) (begins : BeginsMethod around w.inside.heap m method given) where
  given_known : AllByRecursion (IsKnownValue around.caps w.inside.heap) given
  given_known =
      (known-parts (IsKnownValue around.caps w.inside.heap) top.0 given
      (subst (AllByRecursion (IsKnownValue around.caps w.inside.heap)) top.1 runs.known.1)).1

  meant : HasMeaning m method
  meant = has_meaning around.classes runs.setting.codes m method number is system

  answer_kept : (meaning : SystemMeaning) → meaning_of m ≡ Some meaning → (done : Answered) → SystemRow x meaning given w.inside done
      → KeepsAnswer around x w.inside named.result done
  answer_kept meaning means done row =
      let one : meaning ≡ meant.meaning = same_Some meaning meant.meaning (sym means ∙ meant.means) in
      let kept = row_kept around x runs.setting w.inside runs.inside done m method given begins given_known meant.meaning
      (meant.params, meant.static, meant.of_class) (subst (λ (y : SystemMeaning). SystemRow x y given w.inside done) one row) in
      subst (λ (o : Option TypeRef). KeepsAnswer around x w.inside o done) (sym meant.result ∙ same_result) kept

  kept_with : (new : Working) (outcome : Outcome) (done : Answered) → KeepsAnswer around x w.inside named.result done
      → Answering w.frame given done.answer new.frame outcome → new.inside ≡ done.inside → IsKept around x w new × FitsOutcome around x code.scope new outcome
  kept_with new outcome done keeps answering same =
      let inside : KeepsInside around x w.inside new.inside =
      subst (KeepsInside around x w.inside) (sym same) keeps.inside in
      let fits = subst (λ (i : Inside). AnswerFits around i.heap named.result done.answer) (sym same) keeps.answer in
      let frame = frame_kept around x w runs code call found named names given many new.inside inside.grown done.answer new.frame outcome fits answering in (
        record {
          inside = inside;
          states = λ c. ap (λ (own : OwnState). state_of own c) (ap (λ (i : Inside). i.own) same ∙ keeps.own);
          head = frame.0;
          known = frame.1;
        },
        frame.2,
      )

  pub call_kept : (new : Working) (outcome : Outcome) → DoesSystem x m given w new outcome
      → IsKept around x w new × FitsOutcome around x code.scope new outcome
  call_kept new outcome does =
      kept_with new outcome does.done (answer_kept does.meaning does.means does.done does.row) does.answering does.inside
