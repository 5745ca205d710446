-- The lowest frame of a thread's top segment has returned: its answer goes to the segment below as a copy, or the thread ends.
use Rattle.std.specs.Prelude.{◌≡◌, ℕ, suc, true, false, List, [], ◌∷◌, ◌++◌, Option, Some, None}
use Rattle.jk_model.specs.declared.identifiers.ThreadNo.{ThreadNo}
use Rattle.jk_model.specs.declared.output.Line.{Line}
use Rattle.jk_model.specs.declared.output.Line.TheVariants.{Ended}
use Rattle.jk_model.specs.declared.steps.Raise.TheVariants as Raised
use Rattle.jk_model.specs.declared.steps.Standing.TheVariants as Stands
use Rattle.jk_model.specs.declared.values.Value.{Value}
use Rattle.jk_model_domains.specs.Objects.{NamedObject}
use Rattle.jk_model_frames.specs.Frames.{FrameState}
use Rattle.jk_model_heaps.specs.CalledFrames.{resumed}
use Rattle.jk_model_heaps.specs.Workings.{with_heap}
use Rattle.jk_model_machine_state.specs.Machines.{Machine, without_thread}
use Rattle.jk_model_machine_state.specs.Places.{RunningSegment, with_running, without_top}
use Rattle.jk_model_crossings.specs.Throwing.{RaisesInThread, TopTwo, passed_down, with_revoked_below}
use Rattle.jk_model_crossings.specs.Passages.{IsTooLarge, IsUncopiable, Passes}

-- The half of the domain that takes: its heap is this one, and the frame that called goes on after its call with the answer.
pub record Receives {m : Machine} {t : ThreadNo} (below : RunningSegment m t) (heap : List NamedObject) (v : Option Value) (new : Machine) : Type 0 where
  pub callers : List FrameState
  pub caller : FrameState
  pub are_frames : below.segment.frames ≡ callers ++ caller ∷ []
  pub leads : new ≡ with_running below (record below.segment { frames = callers ++ resumed v caller ∷ [] }) (with_heap below.home.inside heap)

-- So many segments are left. The half of the domain that gives is that its segment, whose frames have all returned, is taken off.
pub data Returns (m : Machine) (t : ThreadNo) : Option Value → ℕ → List Line → Machine → Type 0 where
  -- the lowest segment, an orphan or not
  ends : (v : Option Value) (p : RunningSegment m t) → p.lower ≡ [] → Returns m t v 1 (Ended t ∷ []) (without_thread t m)
  -- an orphan's answer is dropped
  drops : (v : Option Value) (s : TopTwo m t) → s.left.segment.shared.orphan ≡ true → Returns m t v 1 [] (with_revoked_below s)
  gives_nothing : (s : TopTwo m t) (new : Machine) → s.left.segment.shared.orphan ≡ false
      → Receives s.below s.below.home.inside.heap None new → Returns m t None 1 [] new
  gives : (v w : Value) (s : TopTwo m t) (heap : List NamedObject) (new : Machine) → s.left.segment.shared.orphan ≡ false
      → Passes (passed_down s (v ∷ [])) heap (w ∷ []) → Receives s.below heap (Some w) new → Returns m t (Some v) 1 [] new
  -- what may not be copied, or is too large, raises a standing throwable of the domain below
  is_uncopiable : (v : Value) (s : TopTwo m t) (n : ℕ) (lines : List Line) (new : Machine) → s.left.segment.shared.orphan ≡ false
      → IsUncopiable (passed_down s (v ∷ [])) → RaisesInThread (without_top s.left) t (Raised.Standing Stands.NotCopiable) n lines new
      → Returns m t (Some v) (suc n) lines new
  is_too_large : (v : Value) (s : TopTwo m t) (n : ℕ) (lines : List Line) (new : Machine) → s.left.segment.shared.orphan ≡ false
      → IsTooLarge (passed_down s (v ∷ [])) → RaisesInThread (without_top s.left) t (Raised.Standing Stands.OutOfMemoryError) n lines new
      → Returns m t (Some v) (suc n) lines new
