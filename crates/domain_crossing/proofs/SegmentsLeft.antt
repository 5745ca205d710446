-- A segment is left: what code has done to the parts is so to the machine, and the parts fit again.
use Rattle.std.proofs.Common.{◌≡◌, ℕ, Bool, false, true, List, [], ◌∷◌, Option, Some, None, refl, sym, ap, subst, ◌∙◌}
use Rattle.jk_model.specs.declared.identifiers.ClassId.{ClassId}
use Rattle.jk_model.specs.declared.identifiers.DomainId.{DomainId}
use Rattle.jk_model.specs.declared.identifiers.SegmentNo.{SegmentNo}
use Rattle.jk_model.specs.declared.identifiers.ThreadNo.{ThreadNo}
use Rattle.jk_model.specs.declared.steps.Raise.{Raise}
use Rattle.jk_model.specs.declared.values.Value.{Value}
use Rattle.jk_model_domains.specs.Objects.{NamedObject, Plain, object_named}
use Rattle.jk_model_domains.specs.OwnStates.{OwnState}
use Rattle.jk_model_sharing.specs.Segments.{PlacedSegment, SharedSegment, segment_numbered, top_of, with_revoked}
use Rattle.jk_model_sharing.specs.SharedStates.{SharedState, popped, with_flags}
use Rattle.jk_model_machine_state.specs.Machines.{caps_of, without_thread}
use Rattle.jk_model_machine_state.specs.Places.{RunningSegment}
use Rattle.jk_model_crossings.specs.Throwing.{IsThrowable, TopTwo}
use Rattle.jk_model_sealing.specs.SealedInsides.{IsKnownValue}
use Rattle.object_store.specs.HeapContents.{HeapContent}
use Rattle.frame_store.specs.FrameContents.{FrameContent}
use Rattle.graph_copy.specs.AskedOfCopies.{MayCopy}
use Rattle.machine_laws.specs.CallsAndAnswers.{IsKnownAnswer, IsTaken}
use Rattle.machine_parts.specs.FittingParts.{AreFittingParts}
use Rattle.machine_parts.specs.MachineParts.{MachineParts, machine_of}
use Rattle.domain_crossing.specs.declared.answers.Left.{Left}
use Rattle.domain_crossing.specs.declared.answers.Left.TheVariants as Became
use Rattle.domain_crossing.specs.declared.taking.Below.{Below}
use Rattle.domain_crossing.specs.declared.taking.Taken.{Taken}
use Rattle.domain_crossing.specs.AnsweredFrames.{TopMayResume}
use Rattle.domain_crossing.specs.AskedOfCrossings.{MayCross}
use Rattle.domain_crossing.specs.Crossings.{LeavesByReturn, LeavesByThrow}
use Rattle.domain_crossing.specs.PassedValues.{BringsSo, Crossing, GivesSo}
use Rattle.domain_crossing.specs.TakenSegments.{told_of}
use Rattle.domain_crossing.proofs.AnswersGoDown.{HasTaken, WentDown, brings_down, from_is, gives_down, in_parts, is_there, may_copy, may_go_on, none_left, one_left, orphan_is, pair}
use Rattle.domain_crossing.proofs.FitsAfterwards.{fits_after, frames_of_any, kept_itself}
use Rattle.domain_crossing.proofs.FramesOfParts.{HaveFrames}
use Rattle.domain_crossing.proofs.PassagesOfParts.{heap_is}
use Rattle.domain_crossing.proofs.TopsTakenOff.{frames_ended, frames_revoked, gone, is_lowest, is_revoked, over, thread_ended}

-- ---- The parts fit again.

abbrev pub with_owns : MachineParts → List (Option OwnState) → MachineParts
with_owns p owns = record { world = p.world; owns = owns; shared = p.shared; heap = p.heap; frames = p.frames }

pub fits_down : (p : MachineParts) (t : ThreadNo) (heap : HeapContent) (after : FrameContent) → WentDown p t heap after
    → (owns : List (Option OwnState)) → AreFittingParts (with_owns p owns) → (shared : SharedState) → shared ≡ popped t p.shared
    → AreFittingParts (record { world = p.world; owns = owns; shared = shared; heap = heap; frames = after })
fits_down p t heap after went owns fit shared same =
    subst (λ (s : SharedState). AreFittingParts (record { world = p.world; owns = owns; shared = s; heap = heap; frames = after })) (sym same)
    (fits_after (with_owns p owns) fit (popped t p.shared) heap after refl refl went.words went.quotas
    (frames_of_any (in_parts_of p t heap after) owns heap went.frames))
  where
    in_parts_of : MachineParts → ThreadNo → HeapContent → FrameContent → MachineParts
    in_parts_of p t heap after = record { world = p.world; owns = p.owns; shared = popped t p.shared; heap = heap; frames = after }

module _ (p : MachineParts) (t : ThreadNo) (cross : MayCross p) (r : RunningSegment (machine_of p) t) (taken : Taken) (new : FrameContent)
    (h : HasTaken p t cross r taken new) where
  abbrev alone : MachineParts
  alone = record { world = p.world; owns = p.owns; shared = popped t p.shared; heap = p.heap; frames = new }

  -- ---- It was the lowest.

  module _ (none : taken.below ≡ None) where
    pub went_ended : WentDown p t p.heap new
    went_ended = record {
      frames = frames_ended p t cross r new h.ends (none_left p t cross r taken new h none);
      quotas = (gone p t cross r new h.ends).domains.quota;
      words = kept_itself p cross.fitting;
    }

    pub ended_by_return : (v : Option Value) → LeavesByReturn (machine_of p) t v Became.Ended (machine_of alone)
    ended_by_return v =
        subst (LeavesByReturn (machine_of p) t v Became.Ended) (sym (thread_ended p t cross r new h.ends (none_left p t cross r taken new h none)))
        (LeavesByReturn.ends v r (is_lowest p t cross r new h.ends (none_left p t cross r taken new h none)))

    pub ended_by_throw : (a : ℕ) (thrown : IsThrowable r a) (class : ClassId) → thrown.class ≡ class → (left : Left)
        → (taken.orphan ≡ true → left ≡ Became.Ended) → (taken.orphan ≡ false → left ≡ Became.EndedBy class)
        → LeavesByThrow (machine_of p) t a left (machine_of alone)
    ended_by_throw a thrown class of_class left orphan other =
        subst (LeavesByThrow (machine_of p) t a left) (sym (thread_ended p t cross r new h.ends (none_left p t cross r taken new h none)))
        (by taken.orphan refl)
      where
        lowest : r.lower ≡ []
        lowest = is_lowest p t cross r new h.ends (none_left p t cross r taken new h none)

        by : (b : Bool) → taken.orphan ≡ b → LeavesByThrow (machine_of p) t a left (without_thread t (machine_of p))
        by true is =
            subst (λ (l : Left). LeavesByThrow (machine_of p) t a l (without_thread t (machine_of p))) (sym (orphan is))
            (LeavesByThrow.ends_orphan r lowest (orphan_is p t cross r taken new h ∙ is))
        by false is =
            subst (λ (l : Left). LeavesByThrow (machine_of p) t a l (without_thread t (machine_of p)))
            (ap Became.EndedBy of_class ∙ sym (other is)) (LeavesByThrow.is_uncaught r thrown lowest (orphan_is p t cross r taken new h ∙ is))

  -- ---- One is below.

  module _ (below : Below) (some : taken.below ≡ Some below) where
    pub found : (b : SharedSegment) × (top_of (over p t cross r).lower ≡ Some b) × (told_of b ≡ below)
    found = one_left p t cross r taken new h below some

    abbrev b : SharedSegment
    b = found.0

    number : b.number ≡ below.segment
    number = ap (λ (x : Below). x.segment) found.2

    domain : b.domain ≡ below.domain
    domain = ap (λ (x : Below). x.domain) found.2

    abbrev two : TopTwo (machine_of p) t
    two = pair p t cross r new h.ends b found.1

    pub flags_there : (placed : PlacedSegment) × (segment_numbered (popped t p.shared).threads below.segment ≡ Some placed)
    flags_there =
        subst (λ (n : SegmentNo). (placed : PlacedSegment) × (segment_numbered (popped t p.shared).threads n ≡ Some placed)) number
        (is_there p t cross r new h.ends b found.1)

    -- ---- An orphan's answer is dropped.

    abbrev pub flagged_down : MachineParts
    flagged_down = record {
      world = p.world;
      owns = p.owns;
      shared = with_flags below.segment (with_revoked true) (popped t p.shared);
      heap = p.heap;
      frames = new;
    }

    abbrev flagged_by : SegmentNo → MachineParts
    flagged_by n = record {
      world = p.world;
      owns = p.owns;
      shared = with_flags n (with_revoked true) (popped t p.shared);
      heap = p.heap;
      frames = new;
    }

    module _ (orphan : taken.orphan ≡ true) where
      pub dropped_return : (v : Option Value) → LeavesByReturn (machine_of p) t v Became.Delivered (machine_of flagged_down)
      dropped_return v =
          subst (λ (n : SegmentNo). LeavesByReturn (machine_of p) t v Became.Delivered (machine_of (flagged_by n))) number
          (subst (LeavesByReturn (machine_of p) t v Became.Delivered) (sym (is_revoked p t cross r new h.ends b found.1))
          (LeavesByReturn.drops v two (orphan_is p t cross r taken new h ∙ orphan)))

      pub dropped_throw : (a : ℕ) → LeavesByThrow (machine_of p) t a Became.Delivered (machine_of flagged_down)
      dropped_throw a =
          subst (λ (n : SegmentNo). LeavesByThrow (machine_of p) t a Became.Delivered (machine_of (flagged_by n))) number
          (subst (LeavesByThrow (machine_of p) t a Became.Delivered) (sym (is_revoked p t cross r new h.ends b found.1))
          (LeavesByThrow.drops_throwable two (orphan_is p t cross r taken new h ∙ orphan)))

    pub fits_dropped : (owns : List (Option OwnState)) → AreFittingParts (with_owns p owns) → (shared : SharedState)
        → shared ≡ with_flags below.segment (with_revoked true) (popped t p.shared)
        → AreFittingParts (record { world = p.world; owns = owns; shared = shared; heap = p.heap; frames = new })
    fits_dropped owns fit shared same =
        subst (λ (s : SharedState). AreFittingParts (record { world = p.world; owns = owns; shared = s; heap = p.heap; frames = new })) (sym same)
        (fits_after (with_owns p owns) fit (with_flags below.segment (with_revoked true) (popped t p.shared)) p.heap new refl refl
        (kept_itself (with_owns p owns) fit) (gone p t cross r new h.ends).domains.quota
        (frames_of_any flagged_down owns p.heap
        (subst (λ (n : SegmentNo). HaveFrames (flagged_by n)) number (frames_revoked p t cross r new h.ends b found.1))))

    -- ---- It goes on, or something is raised there.

    abbrev crossing : DomainId → DomainId → Crossing
    crossing from to = record { world = p.world; heap = p.heap; from = from; to = to }

    from : r.segment.shared.domain ≡ taken.domain
    from = from_is p t cross r taken new h

    pub copy_asked : (v : Value) → IsKnownValue (caps_of (machine_of p)) r.home.inside.heap v
        → MayCopy p.heap p.world taken.domain below.domain (v ∷ [])
    copy_asked v known =
        subst (λ (d : DomainId). MayCopy p.heap p.world d below.domain (v ∷ [])) from
        (subst (λ (d : DomainId). MayCopy p.heap p.world r.segment.shared.domain d (v ∷ [])) domain
        (may_copy p t cross r new h.ends b found.1 v known))

    module _ (v : Option Value) (is_taken : IsTaken (machine_of p) t v) (own : taken.orphan ≡ false) where
      owned : r.segment.shared.orphan ≡ false
      owned = orphan_is p t cross r taken new h ∙ own

      pub answer_asked : (y : Value) → v ≡ Some y → MayCopy p.heap p.world taken.domain below.domain (y ∷ [])
      answer_asked y is =
          copy_asked y
          (subst (IsKnownAnswer (caps_of (machine_of p)) r.home.inside.heap) is (is_taken two owned).1)

      pub resume_asked : TopMayResume new below.segment v
      resume_asked =
          subst (λ (n : SegmentNo). TopMayResume new n v) number (may_go_on p t cross r new h.ends b found.1 v (is_taken two owned).0)

      pub given : (left : Left) (heap : HeapContent) (after : FrameContent)
          → GivesSo (crossing taken.domain below.domain) below.segment new v left heap after
          → LeavesByReturn (machine_of p) t v left (machine_of (in_parts p t cross r new h.ends b found.1 heap after)) × WentDown p t heap after
      given left heap after gives =
          gives_down p t cross r new h.ends b found.1 v left heap after (is_taken two owned).0 owned
          (subst (λ (d : DomainId). GivesSo (crossing d b.domain) b.number new v left heap after) (sym from)
          (subst (λ (d : DomainId). GivesSo (crossing taken.domain d) b.number new v left heap after) (sym domain)
          (subst (λ (n : SegmentNo). GivesSo (crossing taken.domain below.domain) n new v left heap after) (sym number) gives)))

    pub brought : (a : ℕ) (thrown : IsThrowable r a) (class : ClassId) → thrown.class ≡ class → taken.orphan ≡ false → (raised : Raise)
        → (heap : HeapContent) → BringsSo (crossing taken.domain below.domain) class a raised heap
        → LeavesByThrow (machine_of p) t a (Became.Raised raised) (machine_of (in_parts p t cross r new h.ends b found.1 heap new))
        × WentDown p t heap new
    brought a thrown class of_class own raised heap brings =
        let down = brings_down p t cross r new h.ends b found.1 a thrown class raised heap of_class
        (subst (λ (d : DomainId). BringsSo (crossing d b.domain) class a raised heap) (sym from)
        (subst (λ (d : DomainId). BringsSo (crossing taken.domain d) class a raised heap) (sym domain) brings)) in (
          LeavesByThrow.brings two raised (machine_of (in_parts p t cross r new h.ends b found.1 heap new))
              (orphan_is p t cross r taken new h ∙ own) down.0,
          down.1,
        )

  -- ---- The throwable is in the heap of the domain that is left.

  pub thrown_there : (a : ℕ) (thrown : IsThrowable r a) → object_named (p.heap.heap taken.domain) a ≡ Some (Plain thrown.class thrown.fields)
  thrown_there a thrown =
      subst (λ (d : DomainId). object_named (p.heap.heap d) a ≡ Some (Plain thrown.class thrown.fields)) (from_is p t cross r taken new h)
      (ap (λ (objects : List NamedObject). object_named objects a) (heap_is p r.segment.shared.domain r.home cross.fitting) ∙ thrown.is_object)
