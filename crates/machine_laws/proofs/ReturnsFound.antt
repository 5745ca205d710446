-- What the lowest frame of a thread's top segment has returned goes to the segment below, is dropped, or raises something there; or the thread ends.
use Rattle.std.proofs.Common.{◌≡◌, ℕ, suc, inl, inr, Bool, true, false, List, [], ◌∷◌, ◌++◌, Option, Some, None, refl, subst, ◌∙◌}
use Rattle.jk_model.specs.declared.identifiers.ThreadNo.{ThreadNo}
use Rattle.jk_model.specs.declared.output.Line.TheVariants.{Ended}
use Rattle.jk_model.specs.declared.steps.Raise.TheVariants as Raised
use Rattle.jk_model.specs.declared.steps.Standing.TheVariants as Stands
use Rattle.jk_model.specs.declared.values.Value.{Value}
use Rattle.jk_model_domains.specs.Objects.{NamedObject}
use Rattle.jk_model_graphs.specs.Copies.{EachCorresponds}
use Rattle.jk_model_frames.specs.Frames.{FrameState}
use Rattle.jk_model_heaps.specs.CalledFrames.{resumed}
use Rattle.jk_model_heaps.specs.Workings.{with_heap}
use Rattle.jk_model_machine_state.specs.Machines.{Machine, Segment, caps_of, without_thread}
use Rattle.jk_model_machine_state.specs.Places.{RunningSegment, with_running, without_top}
use Rattle.jk_model_crossings.specs.Answers.{Receives, Returns}
use Rattle.jk_model_crossings.specs.Passages.{Passes}
use Rattle.jk_model_crossings.specs.Throwing.{TopTwo, passed_down, with_revoked_below}
use Rattle.jk_model_runs.specs.Sealed.{IsSealed, surroundings}
use Rattle.list_lemmas.proofs.LastItems.{last_of}
use Rattle.heap_laws.proofs.SealedGraphs.{sealed_is_wholly_there}
use Rattle.machine_laws.specs.CallsAndAnswers.{Awaits, IsKnownAnswer, IsLeft, IsTaken}
use Rattle.machine_laws.specs.SoundMachines.{HasSoundClasses}
use Rattle.machine_laws.proofs.PassagesDecided.{passages_are_decided}
use Rattle.machine_laws.proofs.RunningSegmentsFit.{home_there}
use Rattle.machine_laws.proofs.SegmentsRunAgain.{EndsSo}
use Rattle.machine_laws.proofs.ThrowablesSealed.{stands_brought}
use Rattle.machine_laws.proofs.ThrowsFound.{raises_found, two}
use Rattle.machine_laws.proofs.TopSegmentsTaken.{without}

one_value : (pairs : List (ℕ × ℕ)) (v : Value) (ws : List Value) → EachCorresponds pairs (v ∷ []) ws → (w : Value) × (ws ≡ w ∷ [])
one_value pairs v (w ∷ []) h = (w, refl)
one_value pairs v (w ∷ x ∷ ws) h = absurd h.1
one_value pairs v [] h = absurd h

-- the frame that called goes on
pub received : (m : Machine) (t : ThreadNo) (below : RunningSegment m t) (heap : List NamedObject) (v : Option Value) (callers : List FrameState)
    (caller : FrameState) → below.segment.frames ≡ callers ++ caller ∷ [] → (new : Machine) × Receives below heap v new
received m t below heap v callers caller are = (
  with_running below (record below.segment { frames = callers ++ resumed v caller ∷ [] }) (with_heap below.home.inside heap),
  record { callers = callers; caller = caller; are_frames = are; leads = refl },
)

module _ (m : Machine) (t : ThreadNo) (sealed : IsSealed m) (sound : HasSoundClasses m) (s : TopTwo m t) (left : s.left.segment.frames ≡ [])
    (orphan : s.left.segment.shared.orphan ≡ false) where
  by_value : (v : Option Value) → Awaits m.classes s.left.home.inside.heap s.below.segment.frames v
      → IsKnownAnswer (caps_of m) s.left.home.inside.heap v → EndsSo (λ n lines new. Returns m t v n lines new)
  by_value None a known =
      let r = received (without_top s.left) t s.below s.below.home.inside.heap None a.callers a.caller a.are_frames in
      (1, [], r.0, Returns.gives_nothing s r.0 orphan r.1)
  by_value (Some x) a known =
      elim (passages_are_decided (passed_down s (x ∷ []))
      (sealed_is_wholly_there (surroundings m s.left.home.domain) s.left.home.domain.quotas.heap s.left.home.inside (x ∷ [])
      (sealed.domains.insides s.left.home.domain s.left.home.inside (home_there m t s.left sealed) s.left.home.is_inside) (known, tt))) [
        | inl not ↦
            let b = stands_brought m t sealed sound s left (Raised.Standing Stands.NotCopiable) tt in
            let raised = raises_found (without m t sealed s left) t b.met_there (Raised.Standing Stands.NotCopiable) b.may (without_top s.left) b.is in
            (suc raised.0, raised.1, raised.2, Returns.is_uncopiable x s raised.0 raised.1 raised.2 orphan not raised.3)
        | inr (inl large) ↦
            let b = stands_brought m t sealed sound s left (Raised.Standing Stands.OutOfMemoryError) tt in
            let raised = raises_found (without m t sealed s left) t b.met_there (Raised.Standing Stands.OutOfMemoryError) b.may (without_top s.left) b.is in
            (suc raised.0, raised.1, raised.2, Returns.is_too_large x s raised.0 raised.1 raised.2 orphan large raised.3)
        | inr (inr (heap, values, passes)) ↦
            let one = one_value passes.pairs x values passes.copy.values in
            let r = received (without_top s.left) t s.below heap (Some one.0) a.callers a.caller a.are_frames in
            (1, [], r.0, Returns.gives x one.0 s heap r.0 orphan (subst (Passes (passed_down s (x ∷ [])) heap) one.1 passes) r.1)
      ]

pub returns_there : (m : Machine) (t : ThreadNo) (p : RunningSegment m t) (v : Option Value) → IsSealed m → HasSoundClasses m → IsLeft p
    → IsTaken m t v → EndsSo (λ n lines new. Returns m t v n lines new)
returns_there m t p v sealed sound gone taken = by_lower p.lower refl
  where
    by_orphan : (front : List Segment) (last : Segment) (are : p.lower ≡ front ++ last ∷ []) (orphan : Bool) → p.segment.shared.orphan ≡ orphan
        → EndsSo (λ n lines new. Returns m t v n lines new)
    by_orphan front last are true orphan =
        let s = two m t sealed p front last are in
        (1, [], with_revoked_below s, Returns.drops v s orphan)
    by_orphan front last are false orphan =
        let s = two m t sealed p front last are in
        by_value m t sealed sound s gone orphan v (taken s orphan).0 (taken s orphan).1

    by_lower : (lower : List Segment) → p.lower ≡ lower → EndsSo (λ n lines new. Returns m t v n lines new)
    by_lower [] lowest = (1, Ended t ∷ [], without_thread t m, Returns.ends v p lowest)
    by_lower (u ∷ lower) is = let f = last_of u lower in by_orphan f.0 f.1 (is ∙ f.2) p.segment.shared.orphan refl
