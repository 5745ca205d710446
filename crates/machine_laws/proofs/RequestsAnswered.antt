-- The top frame of a thread has made a call, which has left it, and takes its answer: the machine is sealed where it was but for that thread.
use Rattle.std.proofs.Common.{◌≡◌, ◌==◌, inl, inr, Bool, true, false, cond, List, [], ◌∷◌, ◌++◌, Option, Some, None, refl, sym, ap, subst, ◌∙◌, arith}
use Rattle.jk_model.specs.declared.identifiers.ThreadNo.{ThreadNo}
use Rattle.jk_model.specs.declared.values.Value.{Value}
use Rattle.jk_model_classes.specs.declared.records.ClassRecord.{ClassRecord}
use Rattle.jk_model_classes.specs.declared.records.TypeRef.{TypeRef}
use Rattle.jk_model_domains.specs.Objects.{NamedObject}
use Rattle.jk_model_frames.specs.Frames.{FrameState, frames_chunks}
use Rattle.jk_model_heaps.specs.CalledFrames.{as_entries, resumed}
use Rattle.jk_model_heaps.specs.Capabilities.{CapRange}
use Rattle.jk_model_heaps.specs.Workings.{Inside}
use Rattle.jk_model_sealing.specs.FittingFrames.{FitsAsTop, FitsAtCall}
use Rattle.jk_model_sealing.specs.SealedInsides.{IsKnownValue, Surroundings}
use Rattle.jk_model_sealing.specs.SealedRuns.{AreSealedFrames}
use Rattle.jk_model_machine_state.specs.Machines.{DomainState, Machine, Segment, caps_of}
use Rattle.jk_model_machine_state.specs.Places.{RunningSegment, setting_of, with_running}
use Rattle.jk_model_crossings.specs.Answers.{Receives}
use Rattle.jk_model_runs.specs.Sealed.{IsSealed, TopFits, surroundings}
use Rattle.list_lemmas.proofs.LastItems.{each-append, one_last}
use Rattle.heap_laws.specs.ClassesInProgress.{count_initialisers}
use Rattle.heap_laws.specs.FittingOutcomes.{IsResult}
use Rattle.row_laws.proofs.CallersResume.{resumes}
use Rattle.row_laws.proofs.InstructionsFollowed.{value_known}
use Rattle.row_laws.proofs.ActingSegments.{stays_inside}
use Rattle.row_laws.proofs.FramesInARow.{chunks_same, count_same}
use Rattle.machine_laws.specs.CallsAndAnswers.{IsAnswerOf, IsKnownAnswer}
use Rattle.machine_laws.specs.SealedCrossings.{Answered}
use Rattle.machine_laws.specs.SoundMachines.{HasSoundClasses, IsSealedAtCall}
use Rattle.machine_laws.proofs.AnswersSealed.{SuitsCall, an_answer, no_answer, suits_by}
use Rattle.machine_laws.proofs.ChangedItems.{parts_stay}
use Rattle.machine_laws.proofs.RaisesSealed.{flagged, place, sealed as sealed_there, waiting}
use Rattle.machine_laws.proofs.RunningSegmentsFit.{frames_weaker, home_there, running_frames}
use Rattle.machine_laws.proofs.RunsAgain.{runs_on, set_inside}
use Rattle.machine_laws.proofs.SealedAfterRuns.{sealed_after}
use Rattle.machine_laws.proofs.SegmentsThatRan.{HasRun}
use Rattle.machine_laws.proofs.TopFramesReplaced.{frames_replaced}

-- a value of its type, where the call returns one
is_result : (classes : List ClassRecord) (heap : List NamedObject) (around : Surroundings) → around.classes ≡ classes → (v : Option Value)
    → IsKnownAnswer around.caps heap v → (o : Option TypeRef) → IsAnswerOf classes heap o v → IsResult around heap o v
is_result classes heap around same None known o h =
    no_answer around.classes heap heap around o (subst (λ (c : List ClassRecord). IsAnswerOf c heap o None) (sym same) h)
is_result classes heap around same (Some v) known o h =
    an_answer around.classes heap heap around v v (λ t holds. holds) known o
    (subst (λ (c : List ClassRecord). IsAnswerOf c heap o (Some v)) (sym same) h)

caps_by : (b : Bool) (inside : Inside) (e : DomainState) → (cond b (record e { inside = Some inside }) e).caps ≡ e.caps
caps_by true inside e = refl
caps_by false inside e = refl

module _ (m : Machine) (t : ThreadNo) (p : RunningSegment m t) (waits : IsSealedAtCall m t) (sound : HasSoundClasses m) (a : Answered p)
    (callers : List FrameState) (caller : FrameState) (are : p.segment.frames ≡ callers ++ caller ∷ []) where
  abbrev there : Machine
  there = flagged m t p waits sound

  abbrev here : RunningSegment there t
  here = place m t p waits sound

  abbrev inside : Inside
  inside = p.home.inside

  abbrev around : Surroundings
  around = surroundings there here.home.domain

  abbrev goes_on : Segment
  goes_on = record p.segment { frames = callers ++ resumed a.answer caller ∷ [] }

  caps_same : caps_of there ≡ caps_of m
  caps_same =
      parts_stay (set_inside p.segment.shared.domain inside) (λ (e : DomainState). e.caps)
      (λ e. caps_by (e.number.0 == p.segment.shared.domain.0) inside e) m.domains

  known : IsKnownAnswer (caps_of there) inside.heap a.answer
  known = subst (λ (caps : List CapRange). IsKnownAnswer caps inside.heap a.answer) (sym caps_same) a.known

  suits : SuitsCall around inside.heap caller a.answer
  suits =
      suits_by there here.home.domain.table (caps_of there) inside.heap inside.heap p.segment.frames callers caller a.answer a.answer a.awaits are
      (λ o h. is_result m.classes inside.heap around refl a.answer known o h)

  stands : FitsAtCall m.classes inside.heap caller
  stands =
      subst (FitsAtCall m.classes inside.heap) (one_last a.awaits.callers callers a.awaits.caller caller (sym a.awaits.are_frames ∙ are)).1 a.stands

  frames_before : AreSealedFrames around (TopFits there inside (waiting m t p waits sound)) inside.heap (callers ++ caller ∷ [])
  frames_before =
      subst (AreSealedFrames around (TopFits there inside (waiting m t p waits sound)) inside.heap) are
      (running_frames there t here (sealed_there m t p waits sound))

  frames_after : AreSealedFrames around (FitsAsTop m.classes inside.heap) inside.heap goes_on.frames
  frames_after =
      frames_replaced around inside.heap (TopFits there inside (waiting m t p waits sound)) (FitsAsTop m.classes inside.heap) callers caller
      (resumed a.answer caller) (refl, refl) (λ h. h) (λ h. h)
      (λ k. (
        k.0,
        each-append (IsKnownValue around.caps inside.heap) caller.stack (as_entries a.answer) k.1
            (value_known around inside.heap suits.result a.answer suits.is),
      ))
      (inr (inl stands.no_need, resumes around sound.codes inside.heap caller stands suits.result a.answer suits.awaits suits.is)) frames_before

  abbrev has_run : HasRun there t
  has_run = record {
    place = here;
    sealed = sealed_there m t p waits sound;
    segment = goes_on;
    inside = inside;
    number = refl;
    domain = refl;
    keeps = stays_inside around (setting_of here) inside
        ((sealed_there m t p waits sound).domains.insides here.home.domain inside (home_there there t here (sealed_there m t p waits sound))
        here.home.is_inside);
    frames = frames_weaker around inside.heap (FitsAsTop m.classes inside.heap) (TopFits there inside goes_on) (λ f top. inl top) goes_on.frames
        frames_after;
    progress = record {
      own = λ c.
          let count = count_same c callers caller (resumed a.answer caller) refl in
          let before = ap (count_initialisers c) are in
          omega (arith, count, before);
      others = λ u c apart. refl;
    };
    chunks =
        let cost = chunks_same callers caller (resumed a.answer caller) refl in
        let before = ap frames_chunks are in
        omega (arith, cost, before);
  }

  goes_on_sealed : IsSealed (with_running p goes_on inside)
  goes_on_sealed = subst IsSealed (runs_on m t p (waiting m t p waits sound) inside refl here goes_on inside) (sealed_after there t has_run)

pub received_sealed : (m new : Machine) (t : ThreadNo) (p : RunningSegment m t) (a : Answered p) → IsSealedAtCall m t → HasSoundClasses m
    → Receives p p.home.inside.heap a.answer new → IsSealed new
received_sealed m new t p a waits sound r =
    subst IsSealed (sym r.leads) (goes_on_sealed m t p waits sound a r.callers r.caller r.are_frames)
