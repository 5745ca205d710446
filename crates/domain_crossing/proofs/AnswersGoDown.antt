-- What comes back from a segment, which was taken off, goes to the segment below it.
use Rattle.std.proofs.Common.{◌≡◌, ℕ, ◌+◌, ◌≤◌, false, List, [], ◌∷◌, ◌++◌, length, Option, Some, None, refl, sym, ap, subst, ◌∙◌, arith}
use Rattle.std.proofs.lemmas.List.{length-append}
use Rattle.std.proofs.lemmas.Option.{slice_get_within}
use Rattle.jk_model.specs.declared.identifiers.ClassId.{ClassId}
use Rattle.jk_model.specs.declared.identifiers.DomainId.{DomainId}
use Rattle.jk_model.specs.declared.identifiers.ThreadNo.{ThreadNo}
use Rattle.jk_model.specs.declared.steps.Raise.{Raise}
use Rattle.jk_model.specs.declared.values.Value.{Value}
use Rattle.jk_model.specs.declared.values.Value.TheVariants as Held
use Rattle.jk_model_classes.specs.declared.records.TypeRef.{TypeRef}
use Rattle.jk_model_classes.specs.Classes.{IsSubclass}
use Rattle.jk_model_typing.specs.Scopes.{CodeScope}
use Rattle.jk_model_domains.specs.Objects.{NamedObject}
use Rattle.jk_model_domains.specs.OwnStates.{zero_of}
use Rattle.jk_model_frames.specs.Frames.{FrameState, frames_chunks}
use Rattle.jk_model_heaps.specs.CalledFrames.{as_entries, resumed}
use Rattle.jk_model_heaps.specs.SystemClasses.{THREAD_DEATH}
use Rattle.jk_model_heaps.specs.Workings.{with_heap}
use Rattle.jk_model_sealing.specs.AnsweringFrames.{AwaitsResult}
use Rattle.jk_model_sealing.specs.FittingFrames.{FitsAtCall, FitsHere, FramesFit}
use Rattle.jk_model_sealing.specs.SealedInsides.{IsKnownValue, Surroundings}
use Rattle.jk_model_sharing.specs.Segments.{PlacedSegment, SharedSegment, segment_numbered, top_of}
use Rattle.jk_model_sharing.specs.SharedStates.{popped}
use Rattle.jk_model_machine_state.specs.Machines.{Segment, caps_of}
use Rattle.jk_model_machine_state.specs.Places.{RunningSegment, with_running}
use Rattle.jk_model_machine_state.specs.Places.{without_top as without_running}
use Rattle.jk_model_crossings.specs.Answers.{Receives}
use Rattle.jk_model_crossings.specs.Throwing.{Brings, IsThrowable, TopTwo}
use Rattle.jk_model_runs.specs.Sealed.{surroundings}
use Rattle.typing_lemmas.proofs.OneScope.{one-scope}
use Rattle.number_laws.proofs.ValuesFit.{fits-length, long_slots}
use Rattle.object_store.specs.HeapContents.{HeapBecomes, HeapContent}
use Rattle.frame_store.specs.FrameContents.{Changes, Ends, FrameContent, StoredSegment, TopFrame}
use Rattle.heap_laws.specs.SoundCodes.{AreSoundCodes}
use Rattle.heap_laws.proofs.NewObjects.{zero_fits}
use Rattle.row_laws.proofs.CallersResume.{resumes}
use Rattle.list_lemmas.proofs.FoundItems.{maps_nothing}
use Rattle.list_lemmas.proofs.TestsAndOrders.{mapped_option}
use Rattle.graph_copy.specs.AskedOfCopies.{MayCopy}
use Rattle.machine_laws.specs.CallsAndAnswers.{Awaits, IsAnswerOf}
use Rattle.row_laws.proofs.FramesInARow.{chunks_same, fit_top}
use Rattle.machine_parts.specs.MachineParts.{MachineParts, machine_of}
use Rattle.domain_crossing.specs.declared.answers.Left.{Left}
use Rattle.domain_crossing.specs.declared.taking.Below.{Below}
use Rattle.domain_crossing.specs.declared.taking.Taken.{Taken}
use Rattle.domain_crossing.specs.AnsweredFrames.{MayResume, TopMayResume, TopResumes}
use Rattle.domain_crossing.specs.AskedOfCrossings.{MayCross}
use Rattle.domain_crossing.specs.Crossings.{LeavesByReturn}
use Rattle.domain_crossing.specs.LeftParts.{LeavesInParts}
use Rattle.domain_crossing.specs.PassedValues.{BringsSo, Crossing, GivesSo}
use Rattle.domain_crossing.specs.TakenSegments.{IsToldOf, told_of}
use Rattle.domain_crossing.proofs.CopiesMayBeMade.{crossing_may_copy}
use Rattle.domain_crossing.proofs.FitsAfterwards.{KeepsWords, frames_of_any, kept_copied, kept_itself, kept_same, same_content}
use Rattle.domain_crossing.proofs.FramesOfParts.{HaveFrames}
use Rattle.domain_crossing.proofs.PartsLeft.{leaves_change_machines}
use Rattle.domain_crossing.proofs.PassagesOfParts.{answer_too_large, answer_uncopiable, copy_passes, heap_is}
use Rattle.domain_crossing.proofs.SegmentsFound.{top_numbered}
use Rattle.domain_crossing.proofs.TopsTakenOff.{all, apart_in_shared, fits, frames_left, frames_on, gone, is_left, is_running, kept, now_is, now_top, over, set_so, stood_below, stored_below, taken_apart, taken_off, taker, two, under}

-- ---- A frame that waits may go on.

-- one that fits after an answer may go on with it
may_after : (around : Surroundings) (sound : AreSoundCodes around.classes) (heap : List NamedObject) (f : FrameState) (v : Option Value)
    → FitsAtCall around.classes heap f → FitsHere around.classes heap (resumed v f) → MayResume f v
may_after around sound heap f v at (t, holds) =
    let typing = t.is_least.typing in
    let low = slice_get_within t.frames (f.head.at + 1) (Some t.type) t.stands in
    let short = (sound.decoded t.method typing.scope typing.scope_is).short in
    let many = fits-length t.scope heap (f.stack ++ as_entries v) t.type.stack holds.stack in
    let few = long_slots t.type.stack in
    let sized = (typing.sized (f.head.at + 1) t.type t.stands).stack in
    let scope : t.scope ≡ typing.scope = one-scope around.classes t.method t.scope typing.scope t.is_scope typing.scope_is in
    let room : f.head.max_stack ≡ typing.scope.code.max_stack = t.room.1 ∙ ap (λ (s : CodeScope). s.code.max_stack) scope in
    record {
      no_need = at.no_need;
      place = omega (arith, low, typing.as_many, short);
      room = omega (arith, length-append f.stack (as_entries v), many, few, sized, room);
    }

as_many : (f : FrameState) (v w : Option Value) → length (as_entries v) ≡ length (as_entries w) → MayResume f v → MayResume f w
as_many f v w same may = record {
  no_need = may.no_need;
  place = may.place;
  room = subst (λ (n : ℕ). length f.stack + n ≤ f.head.max_stack) same may.room;
}

-- so may one that awaits an answer of another domain
may_resume : (around : Surroundings) (sound : AreSoundCodes around.classes) (heap other : List NamedObject) (f : FrameState) (v : Option Value)
    → FitsAtCall around.classes heap f → (result : Option TypeRef) → AwaitsResult around.classes f result
    → IsAnswerOf around.classes other result v → MayResume f v
may_resume around sound heap other f None at None awaits answer =
    may_after around sound heap f None at (resumes around sound heap f at None None awaits tt)
may_resume around sound heap other f None at (Some t) awaits answer = absurd answer
may_resume around sound heap other f (Some v) at None awaits answer = absurd answer
may_resume around sound heap other f (Some v) at (Some t) awaits answer =
    as_many f (Some (zero_of t)) (Some v) refl
    (may_after around sound heap f (Some (zero_of t)) at
    (resumes around sound heap f at (Some t) (Some (zero_of t)) awaits (zero_fits around heap t)))

-- ---- What code is told.

-- The top segment was taken off, and this was told of it.
pub record HasTaken (p : MachineParts) (t : ThreadNo) (cross : MayCross p) (r : RunningSegment (machine_of p) t) (taken : Taken)
    (new : FrameContent) : Type 0 where
  pub told : IsToldOf (over p t cross r) taken
  pub ends : Ends p.frames new (over p t cross r).segment.number

module _ (p : MachineParts) (t : ThreadNo) (cross : MayCross p) (r : RunningSegment (machine_of p) t) (taken : Taken) (new : FrameContent)
    (h : HasTaken p t cross r taken new) where
  pub none_left : taken.below ≡ None → top_of (over p t cross r).lower ≡ None
  none_left none = maps_nothing told_of (top_of (over p t cross r).lower) (sym none ∙ h.told.below)

  pub one_left : (below : Below) → taken.below ≡ Some below
      → (b : SharedSegment) × (top_of (over p t cross r).lower ≡ Some b) × (told_of b ≡ below)
  one_left below some = mapped_option told_of (top_of (over p t cross r).lower) below (sym h.told.below ∙ some)

  pub orphan_is : r.segment.shared.orphan ≡ taken.orphan
  orphan_is = ap (λ (s : Segment). s.shared.orphan) (is_running p t cross r) ∙ sym h.told.orphan

  pub from_is : r.segment.shared.domain ≡ taken.domain
  from_is = ap (λ (s : Segment). s.shared.domain) (is_running p t cross r) ∙ sym h.told.domain

-- ---- What the parts are then.

pub record WentDown (p : MachineParts) (t : ThreadNo) (heap : HeapContent) (after : FrameContent) : Type 0 where
  pub frames : HaveFrames (record { world = p.world; owns = p.owns; shared = popped t p.shared; heap = heap; frames = after })
  pub quotas : (d : DomainId) → after.quota d ≡ p.frames.quota d
  pub words : KeepsWords p.world.classes p.heap heap

module _ (p : MachineParts) (t : ThreadNo) (cross : MayCross p) (r : RunningSegment (machine_of p) t) (new : FrameContent)
    (ends : Ends p.frames new (over p t cross r).segment.number) (b : SharedSegment) (is : top_of (over p t cross r).lower ≡ Some b) where
  abbrev pub pair : TopTwo (machine_of p) t
  pair = two p t cross r new ends b is

  abbrev pub below_segment : Segment
  below_segment = under p t cross r new ends b is

  abbrev pub x : Crossing
  x = record { world = p.world; heap = p.heap; from = r.segment.shared.domain; to = b.domain }

  -- it is there for its flags
  pub is_there : (placed : PlacedSegment) × (segment_numbered (popped t p.shared).threads b.number ≡ Some placed)
  is_there =
      let parts = taken_off p t cross r new ends in
      let top = now_top p t cross r new ends b is in (
        record { thread = top.thread; segment = top.segment },
        ap (λ (s : SharedSegment). segment_numbered parts.shared.threads s.number) (sym (now_is p t cross r new ends b is))
            ∙ top_numbered parts.shared.threads (apart_in_shared parts (taken_apart p t cross r new ends b is)) t top,
      )

  -- ---- What the copy asks.

  pub may_copy : (v : Value) → IsKnownValue (caps_of (machine_of p)) r.home.inside.heap v → MayCopy p.heap p.world x.from x.to (v ∷ [])
  may_copy v known = crossing_may_copy p cross x.from x.to r.home (taker p t cross r new ends b is) (v ∷ []) (known, tt)

  -- ---- The parts, where the store of heaps or the frames of the segment below are others.

  abbrev pub in_parts : HeapContent → FrameContent → MachineParts
  in_parts heap after = record { world = p.world; owns = p.owns; shared = popped t p.shared; heap = heap; frames = after }

  leaves : (heap : HeapContent) (after : FrameContent) (objects : List NamedObject) (words : ℕ) (frames : List FrameState)
      → HeapBecomes p.heap heap b.domain objects words
      → Changes new after b.number b.domain (Some (let s : StoredSegment = record { domain = b.domain; frames = frames } in s)) (new.used b.domain)
      → machine_of (in_parts heap after)
      ≡ with_running pair.below (record below_segment { frames = frames }) (with_heap pair.below.home.inside objects)
  leaves heap after objects words frames becomes changes =
      leaves_change_machines p (in_parts heap after) t pair objects frames cross.fitting.domains (all p t cross r) cross.sealed in_all
    where
      in_all : LeavesInParts p t pair objects frames (in_parts heap after)
      in_all = record {
        mid = new;
        owner = (over p t cross r).segment.domain;
        kept = kept p t cross r new ends;
        gone = gone p t cross r new ends;
        chunks = new.used b.domain;
        below = changes;
        words = words;
        copied = becomes;
        popped_off = refl;
        world = refl;
        owns = refl;
      }

  -- nothing of the frames is other
  stays : Changes new new b.number b.domain (Some (stored_below p t cross r new ends b is)) (new.used b.domain)
  stays = record {
    domains = record { pages = refl; took_all = refl; quota = λ d. refl; first_page = λ d. refl };
    becomes = stood_below p t cross r new ends b is;
    others = λ n differ. refl;
    uses = refl;
    other_domains = λ d differ. refl;
  }

  -- nothing of the heaps is other
  heap_stays : HeapBecomes p.heap p.heap b.domain pair.below.home.inside.heap (p.heap.used b.domain)
  heap_stays = record {
    domains = record { pages = refl; took_all = refl; quota = λ d. refl; first_page = λ d. refl };
    becomes = heap_is p b.domain (taker p t cross r new ends b is) cross.fitting;
    others = λ d differ. refl;
    uses = refl;
    other_uses = λ d differ. refl;
    mark = λ d a. refl;
  }

  still : (heap : HeapContent) → heap ≡ p.heap → machine_of (in_parts heap new) ≡ without_running r
  still heap same = (λ i. machine_of (in_parts (same i) new)) ∙ is_left p t cross r new ends b is

  quotas_kept : (d : DomainId) → new.quota d ≡ p.frames.quota d
  quotas_kept d = (gone p t cross r new ends).domains.quota d

  -- the frames as they were left
  with_heaps : (heap : HeapContent) → KeepsWords p.world.classes p.heap heap → WentDown p t heap new
  with_heaps heap words = record {
    frames = frames_of_any (taken_off p t cross r new ends) p.owns heap (frames_left p t cross r new ends b is);
    quotas = quotas_kept;
    words = words;
  }

  -- ---- An answer.

  module _ (v : Option Value) (awaits : Awaits p.world.classes r.home.inside.heap below_segment.frames v) where
    abbrev callers : List FrameState
    callers = awaits.callers

    abbrev caller : FrameState
    caller = awaits.caller

    top_frame : TopFrame new b.number caller
    top_frame = record {
      segment = stored_below p t cross r new ends b is;
      is_there = stood_below p t cross r new ends b is;
      lower = callers;
      frames = awaits.are_frames;
    }

    call : FitsAtCall p.world.classes (taker p t cross r new ends b is).inside.heap caller
    call =
        let well = fits p t cross r new ends b is in
        fit_top p.world.classes well.home.inside.heap (FitsAtCall p.world.classes well.home.inside.heap) callers caller
        (subst (λ (fs : List FrameState). FramesFit (FitsAtCall p.world.classes well.home.inside.heap) p.world.classes well.home.inside.heap fs)
        awaits.are_frames well.frames.fit)

    may : MayResume caller v
    may =
        may_resume (surroundings (machine_of p) (taker p t cross r new ends b is).domain) cross.sound.codes
        (taker p t cross r new ends b is).inside.heap r.home.inside.heap caller v call awaits.result awaits.awaits awaits.answer

    pub may_go_on : TopMayResume new b.number v
    may_go_on = (caller, top_frame, may)

    -- the caller goes on with this
    changes : (after : FrameContent) (w : Option Value) → ((f : FrameState) → TopResumes new after b.number f w)
        → Changes new after b.number b.domain
        (Some (let s : StoredSegment = record { domain = b.domain; frames = callers ++ resumed w caller ∷ [] } in s)) (new.used b.domain)
    changes after w goes =
        set_so new after b.number (stored_below p t cross r new ends b is) callers caller (resumed w caller) (stood_below p t cross r new ends b is)
        awaits.are_frames (goes caller top_frame may.no_need)

    receives : (heap : HeapContent) (after : FrameContent) (objects : List NamedObject) (words : ℕ) (w : Option Value)
        → HeapBecomes p.heap heap b.domain objects words → ((f : FrameState) → TopResumes new after b.number f w)
        → Receives pair.below objects w (machine_of (in_parts heap after))
    receives heap after objects words w becomes goes = record {
      callers = callers;
      caller = caller;
      are_frames = awaits.are_frames;
      leads = leaves heap after objects words (callers ++ resumed w caller ∷ []) becomes (changes after w goes);
    }

    went : (heap : HeapContent) (after : FrameContent) (w : Option Value) → KeepsWords p.world.classes p.heap heap
        → ((f : FrameState) → TopResumes new after b.number f w) → WentDown p t heap after
    went heap after w words goes =
        let others = changes after w goes in
        record {
          frames = frames_of_any (record (taken_off p t cross r new ends) { frames = after }) p.owns heap
              (frames_on p t cross r new ends b is after (callers ++ resumed w caller ∷ [])
              (chunks_same callers caller (resumed w caller) refl ∙ ap frames_chunks (sym awaits.are_frames)) others);
          quotas = λ d. others.domains.quota d ∙ quotas_kept d;
          words = words;
        }

  pub gives_down : (v : Option Value) (left : Left) (heap : HeapContent) (after : FrameContent)
      → Awaits p.world.classes r.home.inside.heap below_segment.frames v → r.segment.shared.orphan ≡ false
      → GivesSo x b.number new v left heap after
      → LeavesByReturn (machine_of p) t v left (machine_of (in_parts heap after)) × WentDown p t heap after
  gives_down v left heap after awaits own (GivesSo.nothing then goes) = (
    LeavesByReturn.gives_nothing pair (machine_of (in_parts p.heap then)) own
        (receives None awaits p.heap then pair.below.home.inside.heap (p.heap.used b.domain) None heap_stays goes),
    went None awaits p.heap then None (kept_itself p cross.fitting) goes,
  )
  gives_down v left heap after awaits own (GivesSo.arrives y u filled then (answer, copied) goes) = (
    LeavesByReturn.gives y u pair (filled.heap b.domain) (machine_of (in_parts filled then)) own
        (copy_passes p x.from x.to r.home (taker p t cross r new ends b is) (y ∷ []) cross.fitting filled (u ∷ []) answer copied)
        (receives (Some y) awaits filled then (filled.heap b.domain) (p.heap.used b.domain + copied.words) (Some u) copied.becomes goes),
    went (Some y) awaits filled then (Some u) (kept_copied p cross.fitting filled x.from x.to (y ∷ []) (u ∷ []) copied) goes,
  )
  gives_down v left heap after awaits own (GivesSo.is_uncopied y filled (a, answer, same)) = (
    subst (LeavesByReturn (machine_of p) t (Some y) _) (sym (still filled (same_content p.heap filled same)))
        (LeavesByReturn.is_uncopiable y pair own
        (answer_uncopiable p x.from x.to r.home (taker p t cross r new ends b is) (y ∷ []) cross.fitting a answer)),
    with_heaps filled (kept_same p cross.fitting filled same),
  )
  gives_down v left heap after awaits own (GivesSo.has_no_room y filled (n, answer, same)) = (
    subst (LeavesByReturn (machine_of p) t (Some y) _) (sym (still filled (same_content p.heap filled same)))
        (LeavesByReturn.is_too_large y pair own
        (answer_too_large p x.from x.to r.home (taker p t cross r new ends b is) (y ∷ []) cross.fitting n answer)),
    with_heaps filled (kept_same p cross.fitting filled same),
  )

  -- ---- A throwable.

  pub brings_down : (a : ℕ) (thrown : IsThrowable r a) (class : ClassId) (raised : Raise) (heap : HeapContent) → thrown.class ≡ class
      → BringsSo x class a raised heap → Brings pair a raised (machine_of (in_parts heap new)) × WentDown p t heap new
  brings_down a thrown class raised heap of_class (BringsSo.is_death dies) = (
    subst (Brings pair a _) (sym (still p.heap refl))
        (Brings.is_death thrown (subst (λ (c : ClassId). IsSubclass p.world.classes c THREAD_DEATH) (sym of_class) dies)),
    with_heaps p.heap (kept_itself p cross.fitting),
  )
  brings_down a thrown class raised heap of_class (BringsSo.is_uncopied filled alive (o, answer, same)) = (
    subst (Brings pair a _) (sym (still filled (same_content p.heap filled same)))
        (Brings.is_uncopiable thrown (λ dies. alive (subst (λ (c : ClassId). IsSubclass p.world.classes c THREAD_DEATH) of_class dies))
        (answer_uncopiable p x.from x.to r.home (taker p t cross r new ends b is) (Held.Obj a ∷ []) cross.fitting o answer)),
    with_heaps filled (kept_same p cross.fitting filled same),
  )
  brings_down a thrown class raised heap of_class (BringsSo.has_no_room filled alive (n, answer, same)) = (
    subst (Brings pair a _) (sym (still filled (same_content p.heap filled same)))
        (Brings.is_too_large thrown (λ dies. alive (subst (λ (c : ClassId). IsSubclass p.world.classes c THREAD_DEATH) of_class dies))
        (answer_too_large p x.from x.to r.home (taker p t cross r new ends b is) (Held.Obj a ∷ []) cross.fitting n answer)),
    with_heaps filled (kept_same p cross.fitting filled same),
  )
  brings_down a thrown class raised heap of_class (BringsSo.arrives c filled alive (answer, copied)) = (
    subst (Brings pair a _)
        (sym (leaves filled new (filled.heap b.domain) (p.heap.used b.domain + copied.words) below_segment.frames copied.becomes stays))
        (Brings.is_copied thrown (λ dies. alive (subst (λ (k : ClassId). IsSubclass p.world.classes k THREAD_DEATH) of_class dies))
        (filled.heap b.domain) c
        (copy_passes p x.from x.to r.home (taker p t cross r new ends b is) (Held.Obj a ∷ []) cross.fitting filled (Held.Obj c ∷ []) answer copied)),
    with_heaps filled (kept_copied p cross.fitting filled x.from x.to (Held.Obj a ∷ []) (Held.Obj c ∷ []) copied),
  )
