-- A step of a segment that crosses to another domain stands at the call: an invokeinterface of the method, which isn't one of java/lang/Object, and
-- the frame fits as before it.
use Rattle.std.proofs.Common.{◌≡◌, ◌≢◌, ◌⊎◌, inl, inr, List, [], ◌∷◌, ◌++◌, Option, Some, None, refl, sym, ap, subst, ◌∙◌}
use Rattle.std.specs.Prelude.{⊤}
use Rattle.std.proofs.lemmas.Option.{same_Some}
use Rattle.jk_model.specs.declared.identifiers.CapId.{CapId}
use Rattle.jk_model.specs.declared.identifiers.ClassId.{ClassId}
use Rattle.jk_model.specs.declared.identifiers.MemberId.{MemberId}
use Rattle.jk_model.specs.declared.identifiers.ThreadNo.{ThreadNo}
use Rattle.jk_model.specs.declared.opcodes.TheConstants.{INVOKEINTERFACE}
use Rattle.jk_model_classes.specs.declared.records.ClassRecord.{ClassRecord}
use Rattle.jk_model_classes.specs.declared.records.Link.TheVariants as To
use Rattle.jk_model_classes.specs.Classes.{OBJECT}
use Rattle.jk_model_classes.specs.Lookups.{MethodIs}
use Rattle.jk_model_classes.specs.Worlds.{NamedClass}
use Rattle.jk_model_typing.specs.Scopes.{LeadsToLink}
use Rattle.jk_model_frames.specs.Frames.{FrameState}
use Rattle.jk_model_domains.specs.Objects.{NamedObject}
use Rattle.jk_model_heaps.specs.declared.shapes.Unwound.{Unwound}
use Rattle.jk_model_heaps.specs.declared.shapes.Unwound.TheVariants as Unwinding
use Rattle.jk_model_heaps.specs.Capabilities.{CapRange}
use Rattle.jk_model_heaps.specs.RunningCode.{RunsCode}
use Rattle.jk_model_heaps.specs.Workings.{Inside, Outcome, Run, Setting, Working}
use Rattle.jk_model_heaps.specs.Workings.{Crosses as CrossesTo}
use Rattle.jk_model_running.specs.LocalSteps.{Continues, DoesInstr, LocalStep, asks, calls, crosses, does, ends, ends_initialiser, goes_on, lacks_constants, meets_broken, need_falls, overflows, raises, returns, says, sets_constants, terminates, touches}
use Rattle.jk_model_running.specs.Raising.{after_raising}
use Rattle.jk_model_running.specs.Ways.{Went, Crosses}
use Rattle.jk_model_sealing.specs.FittingFrames.{FitsHere}
use Rattle.jk_model_machine_state.specs.Machines.{Machine, Segment}
use Rattle.jk_model_machine_state.specs.Places.{RunningSegment, with_run}
use Rattle.jk_model_crossings.specs.RemoteCalls.{RemoteCall}
use Rattle.list_lemmas.proofs.LastItems.{one_last}
use Rattle.row_laws.specs.HeapRowLaws.{HeapRowsKeep}
use Rattle.row_laws.specs.KeptRuns.{ActsWell}
use Rattle.row_laws.proofs.StepsKept.{here_of}
use Rattle.row_laws.proofs.TargetsThatFail.{call_goes}
use Rattle.machine_laws.specs.CallsAndAnswers.{StandsAtCall}
use Rattle.machine_laws.proofs.InstructionsThatCross.{CrossingCall, IsNoCrossing, crossing_call}
use Rattle.machine_laws.proofs.RunsAgain.{inside_there, runs_there}

-- the frame stands at a call of the method
pub record CrossesAt (classes : List ClassRecord) (heap : List NamedObject) (f : FrameState) (m : MemberId) : Type 0 where
  pub no_need : f.head.need ≡ None
  pub code : RunsCode classes f
  pub interface : code.instr.op ≡ INVOKEINTERFACE
  pub names : (c : ClassId) × LeadsToLink code.scope code.instr (To.Method c m)
  pub not_object : m.class ≢ OBJECT
  pub fits : FitsHere classes heap f

-- it is the top one
pub record CrossesHere (classes : List ClassRecord) (run : Run) (m : MemberId) : Type 0 where
  pub callers : List FrameState
  pub frame : FrameState
  pub are_frames : run.frames ≡ callers ++ frame ∷ []
  pub at : CrossesAt classes run.inside.heap frame m

abbrev pub IsAtCrossing : List ClassRecord → Run → Went → Type 0
IsAtCrossing classes run (Crosses k m) = CrossesHere classes run m
IsAtCrossing classes run went = ⊤

-- ---- A step.

abbrev called_of : Outcome → Option MemberId
called_of (CrossesTo k m) = Some m
called_of outcome = None

raised_no : (classes : List ClassRecord) (run : Run) (unwound : Unwound) → IsAtCrossing classes run (after_raising unwound)
raised_no classes run Unwinding.Caught = tt
raised_no classes run (Unwinding.Uncaught a) = tt

continued : (x : Setting) (callers : List FrameState) (w : Working) (outcome : Outcome) (new : Run) (went : Went)
    → Continues x callers w outcome new went
    → ((k : CapId) (m : MemberId) → outcome ≡ CrossesTo k m → CrossesAt x.classes w.inside.heap w.frame m) → IsAtCrossing x.classes new went
continued x callers w outcome new went (goes_on n) at = tt
continued x callers w outcome new went (says text n) at = tt
continued x callers w outcome new went (calls called) at = tt
continued x callers w outcome new went (ends_initialiser v c initialises state some) at = tt
continued x callers w outcome new went (returns v lower below plain are) at = tt
continued x callers w outcome new went (ends v plain are) at = tt
continued x callers w outcome new went (raises r run unwound rises) at = raised_no x.classes run unwound
continued x callers w outcome new went (crosses k m) at =
    record { callers = callers; frame = w.frame; are_frames = refl; at = at k m refl }
continued x callers w outcome new went (asks request) at = tt
continued x callers w outcome new went terminates at = tt

-- The surroundings have the setting's own classes.
module _ (x : Setting) (table : List NamedClass) (caps : List CapRange) (t : ThreadNo) (old : Run) (rows : HeapRowsKeep)
    (acts : ActsWell (record { classes = x.classes; table = table; caps = caps }) x t old) where
  module _ (at : DoesInstr x t old) where
    abbrev working : Working
    working = record { inside = old.inside; frame = at.top.frame }

    calls_at : (k : CapId) (m : MemberId) → at.outcome ≡ CrossesTo k m
        → IsNoCrossing at.outcome ⊎ CrossingCall x at.code.scope at.code.instr working at.working at.outcome
        → CrossesAt x.classes at.working.inside.heap at.working.frame m
    calls_at k m is (inl none) = absurd (subst IsNoCrossing is none)
    calls_at k m is (inr c) =
        let goes = call_goes x at.code.scope at.code.instr working c.call c.cap c.member c.through in
        let member : c.member ≡ m = same_Some c.member m (ap called_of (sym c.crosses ∙ is)) in
        subst (λ (w : Working). CrossesAt x.classes w.inside.heap w.frame m) (sym c.same)
        (subst (CrossesAt x.classes old.inside.heap at.top.frame) member
        (record {
          no_need = at.no_need;
          code = at.code;
          interface = goes.0;
          names = (
            c.call.names.0,
            subst (λ (n : MemberId). LeadsToLink at.code.scope at.code.instr (To.Method c.call.names.0 n)) (sym goes.1.method_is) c.call.names.1,
          );
          not_object = subst (λ (n : MemberId). n.class ≢ OBJECT) (sym goes.1.method_is) goes.1.no_object;
          fits = here_of rows x table caps t old acts at.top at.no_need;
        }))

  step_at : (new : Run) (went : Went) → LocalStep x t old new went → IsAtCrossing x.classes new went
  step_at new went (touches class at room is) = tt
  step_at new went (overflows class at unwound short rises) = raised_no x.classes new unwound
  step_at new went (meets_broken at unwound rises) = raised_no x.classes new unwound
  step_at new went (need_falls at plain is) = tt
  step_at new went (sets_constants at of set sets falls) = tt
  step_at new went (lacks_constants at of unwound lacks rises) = raised_no x.classes new unwound
  step_at new went (does at way continues) =
      continued x at.top.callers at.working at.outcome new way continues
      (λ k m is. calls_at at k m is (crossing_call x at.code.scope at.code.instr (working at) at.working at.outcome at.executes))

pub crosses_at : HeapRowsKeep → (x : Setting) (table : List NamedClass) (caps : List CapRange) (t : ThreadNo) (old new : Run) (went : Went)
    → ActsWell (record { classes = x.classes; table = table; caps = caps }) x t old → LocalStep x t old new went → IsAtCrossing x.classes new went
crosses_at rows x table caps t old new went acts step = step_at x table caps t old rows acts new went step

-- ---- In the machine in which it has run.

pub stands_at : (m : Machine) (t : ThreadNo) (p : RunningSegment m t) (run : Run) (c : RemoteCall (with_run p run) t) (member : MemberId)
    → c.method ≡ member → CrossesHere m.classes run member → StandsAtCall c
stands_at m t p run c member is h = record {
  no_need = there.no_need;
  code = there.code;
  interface = there.interface;
  names = (
    there.names.0,
    there.names.1,
    subst (λ (classes : List ClassRecord). MethodIs classes c.method c.named) (sym there.code.is_scope.all) c.is_named,
  );
  not_object = there.not_object;
  fits = there.fits;
}
  where
    frame : h.frame ≡ c.frame
    frame =
        (one_last h.callers c.callers h.frame c.frame
        (sym h.are_frames
        ∙ ap (λ (s : Segment). s.frames) (sym (runs_there m t p (record p.segment { frames = run.frames }) run.inside refl c.place).1)
        ∙ c.are_frames)).1

    there : CrossesAt m.classes c.place.home.inside.heap c.frame c.method
    there =
        subst (CrossesAt m.classes c.place.home.inside.heap c.frame) (sym is)
        (subst (λ (f : FrameState). CrossesAt m.classes c.place.home.inside.heap f member) frame
        (subst (λ (heap : List NamedObject). CrossesAt m.classes heap h.frame member)
        (ap (λ (inside : Inside). inside.heap) (sym (inside_there m t p (record p.segment { frames = run.frames }) run.inside refl c.place))) h.at))
