-- What an instruction on numbers leaves: a frame that fits where it goes on, a value that fits the result, or an ArithmeticException; and
-- nothing else changes.
use Rattle.std.proofs.Common.{inl, ◌≡◌, List, Option, Some, None, refl, sym, subst, ◌∙◌, arith}
use Rattle.std.proofs.lemmas.Option.{same_Some}
use Rattle.jk_model.specs.declared.steps.After.{After}
use Rattle.jk_model.specs.declared.steps.After.TheVariants as Next
use Rattle.jk_model.specs.declared.steps.Raise.{Raise}
use Rattle.jk_model.specs.declared.steps.Raise.TheVariants as Raised
use Rattle.jk_model.specs.declared.values.Value.{Value}
use Rattle.jk_model_classes.specs.declared.records.ClassRecord.{ClassRecord}
use Rattle.jk_model_classes.specs.declared.records.TypeRef.{TypeRef}
use Rattle.jk_model_classes.specs.Classes.{AreOrdered}
use Rattle.jk_model_frames.specs.Frames.{FrameState}
use Rattle.jk_model_domains.specs.NumberRows.{NumberRow, divides_by_zero, exchanges, jumps, returns, returns_nothing, switches, uses_local}
use Rattle.jk_model_domains.specs.ValueTypes.{HoldsDeclared}
use Rattle.jk_model_heaps.specs.RunningCode.{RunsCode}
use Rattle.jk_model_heaps.specs.Workings.{Outcome, Setting, Working}
use Rattle.jk_model_running.specs.Executions.{IsOutcome}
use Rattle.jk_model_sealing.specs.SealedInsides.{Surroundings}
use Rattle.jk_model_sealing.specs.FittingFrames.{FitsHere}
use Rattle.heap_laws.proofs.GrownHeaps.{grown_self}
use Rattle.number_laws.proofs.HeadsStay.{number-head}
use Rattle.number_laws.proofs.ResultsFit.{none_returned, returned_fits}
use Rattle.number_laws.proofs.TypesKept.{rows_kept}
use Rattle.heap_laws.specs.FittingOutcomes.{FitsOutcome, IsResult}
use Rattle.heap_laws.specs.KeptInsides.{IsKept}
use Rattle.heap_laws.specs.RaisableObjects.{MayBeRaised}
use Rattle.heap_laws.specs.RunningFrames.{RunsWell}
use Rattle.row_laws.specs.StandingFrames.{StandsTyped}
use Rattle.row_laws.proofs.HeldValues.{held_here}
use Rattle.row_laws.proofs.NamesStayKnown.{number-known, returned-known}
use Rattle.row_laws.proofs.StandsHere.{stands_typed}
use Rattle.row_laws.proofs.SystemParents.{below_listed}

module _ (around : Surroundings) (x : Setting) (w : Working) (runs : RunsWell around x w) (code : RunsCode around.classes w.frame) where
  abbrev Row : FrameState → After → Type 0
  Row g after = NumberRow code.scope w.frame.head.at code.instr w.frame g after

  abbrev left : FrameState → Working
  left g = record w { frame = g }

  typed : StandsTyped around.classes w.inside.heap w.frame code
  typed = stands_typed around.classes runs.setting.codes w.frame code runs.fits.0 w.inside.heap runs.fits.1

  ordered : AreOrdered code.scope.classes
  ordered = subst AreOrdered (sym code.is_scope.all) runs.setting.codes.ordered

  kept : (g : FrameState) (after : After) → Row g after → IsKept around x w (left g)
  kept g after row = record {
    inside = record { sealed = runs.inside; grown = grown_self w.inside.heap; tasks = λ a n is. inl is; pages = (refl, refl) };
    states = λ c. refl;
    head = number-head code.scope w.frame.head.at code.instr w.frame g after row;
    known = number-known around.caps w.inside.heap code.scope w.frame.head.at code.instr w.frame g runs.known after row;
  }

  -- only a division by 0 raises something
  raised : (g : FrameState) (a : After) → Row g a → (r : Raise) → a ≡ Next.Raise r → FitsHere around.classes w.inside.heap g
      × MayBeRaised around.classes w.inside.heap r
  raised g a (divides_by_zero taken divides top same) r e =
      let fresh : Raised.Fresh (record { 0 = 19 }) ≡ r = cc in (
        subst (FitsHere around.classes w.inside.heap) (sym same) runs.fits,
        subst (MayBeRaised around.classes w.inside.heap) fresh (omega arith, below_listed around.classes runs.setting.codes 9 19 9 refl),
      )
  raised g a (exchanges taken pushed h rep) r e = absurd cc
  raised g a (uses_local h) r e = absurd cc
  raised g a (jumps taken holds next h rep at) r e = absurd cc
  raised g a (switches key next h rep at) r e = absurd cc
  raised g a (returns v h rep) r e = absurd cc
  raised g a (returns_nothing op same) r e = absurd cc

  abbrev Fits : FrameState → Outcome → Type 0
  Fits g outcome = FitsOutcome around x code.scope (left g) outcome

  result_by : (g : FrameState) (v : Value) (o : Option TypeRef) → code.scope.method.result ≡ o → Row g (Next.Return (Some v))
      → IsResult around w.inside.heap o (Some v)
  result_by g v None none row =
      let fits = returned_fits code.scope w.inside.heap w.frame.head.at code.instr w.frame g typed.before typed.after v ordered typed.typed row in
      let both : Some fits.0 ≡ None = sym fits.1 ∙ none in
      absurd cc
  result_by g v (Some t) some row =
      let fits = returned_fits code.scope w.inside.heap w.frame.head.at code.instr w.frame g typed.before typed.after v ordered typed.typed row in
      let same : fits.0 ≡ t = same_Some fits.0 t (sym fits.1 ∙ some) in
      let held : HoldsDeclared code.scope.classes w.inside.heap v t =
      subst (HoldsDeclared code.scope.classes w.inside.heap v) same (held_here code.scope w.inside.heap v fits.0 fits.2) in (
        subst (λ (classes : List ClassRecord). HoldsDeclared classes w.inside.heap v t) code.is_scope.all held,
        returned-known around.caps w.inside.heap code.scope w.frame.head.at code.instr w.frame g runs.known (Next.Return (Some v)) row v refl,
      )

  fits : (g : FrameState) (after : After) (outcome : Outcome) → Row g after → IsOutcome after outcome → Fits g outcome
  fits g (Next.Goto n) outcome row e =
      let there = rows_kept code.scope w.inside.heap w.frame.head.at code.instr w.frame g typed.before typed.after n typed.typed row in
      subst (Fits g) (sym e)
      (typed.goes_on w.inside.heap g n (number-head code.scope w.frame.head.at code.instr w.frame g (Next.Goto n) row) there.0 there.1)
  fits g (Next.Raise r) outcome row e = subst (Fits g) (sym e) (raised g (Next.Raise r) row r refl)
  fits g (Next.Return (Some v)) outcome row e = subst (Fits g) (sym e) (result_by g v code.scope.method.result refl row)
  fits g (Next.Return None) outcome row e =
      subst (Fits g) (sym e)
      (subst (λ (o : Option TypeRef). IsResult around w.inside.heap o None)
      (sym (none_returned code.scope w.inside.heap w.frame.head.at code.instr w.frame g typed.before typed.after typed.typed row)) tt)
  fits g (Next.Call m) outcome row e = absurd e
  fits g (Next.Crossing k m) outcome row e = absurd e
  fits g Next.Terminate outcome row e = absurd e

  pub number_kept : (g : FrameState) (after : After) (outcome : Outcome) → Row g after → IsOutcome after outcome
      → IsKept around x w (left g) × Fits g outcome
  number_kept g after outcome row e = (kept g after row, fits g after outcome row e)
