-- A step that changes nothing of what domains share and prints nothing is what a segment that acts does.
use Rattle.std.proofs.Common.{List, [], ◌<◌, ◌^◌, ℕ, Option, Some, None, Result, Ok, Err, append-nil, refl, sym, ap, subst, arith}
use Rattle.std.specs.Prelude.{IfOk, OnErr, OnOk}
use Rattle.system_calls.specs.SystemSteps.{printed}
use Rattle.jk_model.specs.declared.identifiers.ThreadNo.{ThreadNo}
use Rattle.jk_model.specs.declared.output.Line.{Line}
use Rattle.jk_model.specs.Outside.{Appends}
use Rattle.jk_model_heaps.specs.Workings.{Run, Setting}
use Rattle.jk_model_running.specs.LocalSteps.{LocalStep}
use Rattle.jk_model_running.specs.Ways.{Asks, Crosses, Ended, GoesOn, Left, Says, Terminates}
use Rattle.jk_model_running.specs.Ways.{Went as Way}
use Rattle.jk_outside.specs.SeveralLines.{PrintsLines}
use Rattle.step_contents.specs.Contents.{Becomes, Contents, Here, LeftBehind, left_behind}
use Rattle.segment_steps.specs.ActingSegments.{Acted, ActsSo, MayAct, crosses, ended, goes_on, leaves, terminates}
use Rattle.segment_steps.specs.StepsAlone.{IsWent, Stepped, Steps, went_so}
use Rattle.segment_steps.specs.declared.went.Went.{Went}
use Rattle.segment_steps.specs.declared.went.Went.TheVariants as Goes

module _ {old : Contents} {here : Here} (x : Setting) (t : ThreadNo) (may : MayAct old here) (new : Contents) (run : Run)
    (becomes : Becomes old new here may.run run) where
  acted_by : (way : Way) (went : Went) → IsWent way went → LocalStep x t may.run run way → Acted x t may (left_behind new here.shared) went []
  acted_by GoesOn went is step =
      subst (λ (k : Went). Acted x t may (left_behind new here.shared) k []) (sym is) (goes_on run step becomes refl)
  acted_by (Says text) went is step = absurd is
  acted_by (Ended v) went is step =
      subst (λ (k : Went). Acted x t may (left_behind new here.shared) k []) (sym is) (ended run v step becomes refl)
  acted_by (Left a) went is step =
      subst (λ (k : Went). Acted x t may (left_behind new here.shared) k []) (sym is) (leaves run a step becomes refl)
  acted_by (Crosses k m) went is step =
      subst (λ (k : Went). Acted x t may (left_behind new here.shared) k []) (sym is) (crosses run k m step becomes refl)
  acted_by (Asks request) went is step = absurd is
  acted_by Terminates went is step =
      subst (λ (k : Went). Acted x t may (left_behind new here.shared) k []) (sym is) (terminates run step becomes refl)

pub acted : {old : Contents} {here : Here} (x : Setting) (t : ThreadNo) (may : MayAct old here) (new : Contents) (went : Went)
    → Stepped x t may new went → Acted x t may (left_behind new here.shared) went []
acted x t may new went s = acted_by x t may new s.run s.becomes s.way went s.is_went s.steps

pub acts_alone : (old new : Contents) (here : Here) (t : ThreadNo) (went : Went) (GoOut : List Line → Type 0) → Steps old new here t went
    → GoOut [] → ActsSo old here t (left_behind new here.shared) went GoOut
acts_alone old new here t went GoOut steps none = λ x may is. ([], acted x t may new went (steps x may is), none)

-- ---- Lines.

-- lines went out so
abbrev pub gone_out : {E : Type 0} → Result (Unit {0}) E → Option (List ℕ) → Option (List ℕ) → List (List ℕ) → List (List ℕ) → ℕ → ℕ → List Line
    → Type 0
gone_out result bytes new_bytes pieces new_pieces faults new_faults lines = PrintsLines bytes new_bytes pieces new_pieces faults new_faults result lines

-- nothing was printed

appends_none : (a : Option (List ℕ)) → Appends a a []
appends_none None = refl
appends_none (Some bytes) = ap Some (sym (append-nil bytes))

pub prints_none : {E : Type 0} (bytes : Option (List ℕ)) (pieces : List (List ℕ)) (faults : ℕ) → faults < 2 ^ 64
    → PrintsLines {E = E} bytes bytes pieces pieces faults faults (Ok tt) []
prints_none bytes pieces faults fits = record {
  ok = appends_none bytes;
  pieces = sym (append-nil pieces);
  part = tt;
  pieces_part = tt;
  cause = tt;
  calm = refl;
  faults = record { later = omega arith; fits = fits };
}

-- ---- By the answer.

module _ {E : Type 0} (old : Contents) (here : Here) (t : ThreadNo) (left : LeftBehind) where
  pub went_well : (result : Result Went E) (GoOut : List Line → Type 0) → ActsSo old here t left (went_so result) GoOut
      → IfOk result (λ went. ActsSo old here t left went GoOut)
  went_well (Ok went) GoOut acts = acts
  went_well (Err e) GoOut acts = tt

  pub went_badly : (result : Result Went E) (GoOut : List Line → Type 0) → ActsSo old here t left (went_so result) GoOut
      → OnErr result (ActsSo old here t left Goes.GoesOn GoOut)
  went_badly (Ok went) GoOut acts = tt
  went_badly (Err e) GoOut acts = acts

module _ {E : Type 0} (P : Type 0) where
  pub on_err_so : (result : Result Went E) → OnErr (printed result) P → OnErr result P
  on_err_so (Ok went) h = tt
  on_err_so (Err e) h = h

  pub on_ok_so : (result : Result Went E) → OnOk (printed result) P → OnOk result P
  on_ok_so (Ok went) h = h
  on_ok_so (Err e) h = tt
