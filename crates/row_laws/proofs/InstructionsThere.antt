-- Where a frame runs, its instruction is done: there is a row of it, and what comes next.
use Rattle.std.proofs.Common.{inl, inr, ◌≡◌, ◌≢◌, ℕ, List, [], ◌∷◌, ◌++◌, Option, Some, None, refl, sym, ◌∙◌}
use Rattle.std.proofs.lemmas.Option.{none-some}
use Rattle.list_lemmas.proofs.LastItems.{last_of}
use Rattle.jk_model.specs.declared.identifiers.ClassId.{ClassId}
use Rattle.jk_model.specs.declared.identifiers.ThreadNo.{ThreadNo}
use Rattle.jk_model.specs.declared.instructions.Instr.{Instr}
use Rattle.jk_model.specs.declared.steps.After.{After}
use Rattle.jk_model.specs.declared.values.Value.{Value}
use Rattle.jk_model_classes.specs.declared.records.ClassRecord.{ClassRecord}
use Rattle.jk_model_domains.specs.NumberRows.{NumberRow, divides_by_zero, exchanges, jumps, returns as row_returns, returns_nothing, switches, uses_local}
use Rattle.jk_model_domains.specs.OwnStates.{HasState}
use Rattle.jk_model_frames.specs.Frames.{FrameState}
use Rattle.jk_model_heaps.specs.RunningCode.{RunsCode}
use Rattle.jk_model_heaps.specs.Workings.{Asks, Calls, Crosses, GoesOn, Outcome, Raises, Returns, Run, Says, Setting, Terminates, Working}
use Rattle.jk_model_running.specs.Executions.{Executes, IsOutcome, calls as by_call, heap as by_heap, numbers as by_number, system as by_system}
use Rattle.jk_model_running.specs.LocalSteps.{Continues, TopFrame, asks, calls, crosses, ends, ends_initialiser, goes_on, raises, returns, says, terminates}
use Rattle.jk_model_running.specs.Raising.{after_raising}
use Rattle.jk_model_running.specs.Ways.{Went}
use Rattle.jk_model_sealing.specs.AnsweringFrames.{FramesAnswer}
use Rattle.jk_model_sealing.specs.SealedInsides.{Surroundings}
use Rattle.jk_model_typing.specs.Scopes.{CodeScope}
use Rattle.row_laws.proofs.RowsOfCalls.{row_there as call_there}
use Rattle.row_laws.proofs.OperandsFound.{operands_found}
use Rattle.row_laws.proofs.RowsFromOperands.{row_there as heap_there}
use Rattle.heap_laws.specs.FittingOutcomes.{FitsOutcome}
use Rattle.heap_laws.specs.KeptInsides.{IsKept}
use Rattle.heap_laws.specs.RunningFrames.{RunsWell}
use Rattle.row_laws.proofs.CallsOfSystem.{row_there as system_there}
use Rattle.row_laws.specs.StandingFrames.{StandsTyped}
use Rattle.row_laws.proofs.StandsHere.{stands_typed}
use Rattle.row_laws.specs.KeptRuns.{ActsWell}
use Rattle.row_laws.proofs.ActingSegments.{in_progress, stand}
use Rattle.row_laws.proofs.InstructionsFollowed.{may, same, was}
use Rattle.row_laws.proofs.KindsOfInstructions.{kind_of}
use Rattle.row_laws.proofs.NumberRowsThere.{number_row_there}
use Rattle.row_laws.proofs.RaisesThere.{raise_there}
use Rattle.row_laws.proofs.StatesOfFrames.{in_progress_there}

-- ---- There is a row.

outcome_there : (s : CodeScope) (place : ℕ) (i : Instr) (f g : FrameState) (after : After) → NumberRow s place i f g after
    → (outcome : Outcome) × IsOutcome after outcome
outcome_there s place i f g after (exchanges taken pushed h rep) = (_, refl)
outcome_there s place i f g after (uses_local h) = (_, refl)
outcome_there s place i f g after (jumps taken holds next h rep at) = (_, refl)
outcome_there s place i f g after (switches key next h rep at) = (_, refl)
outcome_there s place i f g after (divides_by_zero taken divides top same) = (_, refl)
outcome_there s place i f g after (row_returns v h rep) = (_, refl)
outcome_there s place i f g after (returns_nothing op same) = (_, refl)

module _ (around : Surroundings) (x : Setting) (w : Working) (runs : RunsWell around x w) (code : RunsCode around.classes w.frame) where
  abbrev Done : Type 0
  Done = (new : Working) × (outcome : Outcome) × Executes x code.scope code.instr w new outcome

  typed : StandsTyped around.classes w.inside.heap w.frame code
  typed = stands_typed around.classes runs.setting.codes w.frame code runs.fits.0 w.inside.heap runs.fits.1

  number_done : ((g : FrameState) × (after : After) × NumberRow code.scope w.frame.head.at code.instr w.frame g after) → Done
  number_done (g, after, row) =
      let next = outcome_there code.scope w.frame.head.at code.instr w.frame g after row in
      (record { inside = w.inside; frame = g }, next.0, by_number after row refl next.1)

  pub instruction_there : Done
  instruction_there = elim (kind_of code.scope w.frame.head.at code.instr typed.before typed.after typed.typed.row) [
    | inl number ↦ number_done (number_row_there around x w runs code number)
    | inr (inl heap) ↦
        let row = heap_there x w code.scope code.instr (operands_found around x w runs code heap) in
        (row.0, row.1, by_heap row.2)
    | inr (inr call) ↦ elim (call_there around x w runs code call) [
      | inl row ↦ (row.0, row.1, by_call row.2)
      | inr system ↦ (let row = system_there around x w runs code system in (row.0, row.1, by_system system row.2))
    ]
  ]

-- ---- What comes next.

pub lowest_plain : (classes : List ClassRecord) (callers : List FrameState) (f : FrameState) (c : ClassId) → FramesAnswer classes (callers ++ f ∷ [])
    → f.head.initialises ≡ Some c → callers ≢ []
lowest_plain classes [] f c answers is = λ e. none-some c (sym answers.0 ∙ is)
lowest_plain classes (g ∷ callers) f c answers is = λ e. absurd cc

module _ (around : Surroundings) (x : Setting) (t : ThreadNo) (old : Run) (acts : ActsWell around x t old) (top : TopFrame old)
    (code : RunsCode around.classes top.frame) (no_need : top.frame.head.need ≡ None) (w : Working)
    (kept : IsKept around x (record { inside = old.inside; frame = top.frame }) w) where
  abbrev Follows : Outcome → Type 0
  Follows outcome = (new : Run) × (went : Went) × Continues x top.callers w outcome new went

  plain_returns : (v : Option Value) → w.frame.head.initialises ≡ None → (callers : List FrameState) → top.callers ≡ callers → Follows (Returns v)
  plain_returns v plain [] are = (_, _, ends v plain are)
  plain_returns v plain (f ∷ more) are = let last = last_of f more in (_, _, returns v last.0 last.1 plain (are ∙ last.2))

  initialiser_returns : (v : Option Value) (c : ClassId) → w.frame.head.initialises ≡ Some c → Follows (Returns v)
  initialiser_returns v c is =
      let before : top.frame.head.initialises ≡ Some c = was around x t old acts top code no_need w kept (Some c) is in
      let state : HasState w.inside.own c =
      in_progress_there t w.inside.own c
      (in_progress around x t old acts top w.inside kept.inside (same around x t old acts top code no_need w kept) c before) in
      (_, _, ends_initialiser v c is state (lowest_plain around.classes top.callers top.frame c (stand around x t old acts top).1 before))

  returns_by : (v : Option Value) (o : Option ClassId) → w.frame.head.initialises ≡ o → Follows (Returns v)
  returns_by v None is = plain_returns v is top.callers refl
  returns_by v (Some c) is = initialiser_returns v c is

  pub follows_there : (outcome : Outcome) → FitsOutcome around x code.scope w outcome → Follows outcome
  follows_there (GoesOn n) h = (_, _, goes_on n)
  follows_there (Says text n) h = (_, _, says text n)
  follows_there (Calls called) h = (_, _, calls called)
  follows_there (Returns v) h = returns_by v w.frame.head.initialises refl
  follows_there (Raises r) h =
      let way = raise_there around x t _ (may around x t old acts top code no_need w kept r h.0 h.1) r h.1 in
      (way.1, after_raising way.0, raises r way.1 way.0 way.2)
  follows_there (Crosses k m) h = (_, _, crosses k m)
  follows_there (Asks request) h = (_, _, asks request)
  follows_there Terminates h = (_, _, terminates)
