-- What code is told of a live thread.
use Rattle.std.specs.Prelude.{◌≡◌, ℕ, List, Some, slice_get}
use Rattle.jk_model.specs.declared.identifiers.ThreadNo.{ThreadNo}
use Rattle.jk_model_sharing.specs.Segments.{SharedSegment, SharedThread, top_segment}
use Rattle.kernel_turns.specs.RunningPlaces.{runs}
use Rattle.kernel_turns.specs.declared.running.Running.{Running}

-- threads have different numbers, and segments too
pub record AreApart (list : List SharedThread) : Type 0 where
  pub threads : (i j : ℕ) (a b : SharedThread) → slice_get list i ≡ Some a → slice_get list j ≡ Some b → a.number ≡ b.number → i ≡ j
  pub segments : (i j k l : ℕ) (a b : SharedThread) (s r : SharedSegment) → slice_get list i ≡ Some a → slice_get list j ≡ Some b
      → slice_get a.segments k ≡ Some s → slice_get b.segments l ≡ Some r → s.number ≡ r.number → (i ≡ j) × (k ≡ l)

-- the thread's top segment, and its flags
pub record IsRunning (list : List SharedThread) (t : ThreadNo) (x : Running) : Type 0 where
  pub segment : SharedSegment
  pub is_top : top_segment list t ≡ Some segment
  pub runs_there : x.runs ≡ runs t segment
  pub suspended : x.info.suspended ≡ segment.suspended
  pub stop : x.info.stop ≡ segment.stop
  pub revoked : x.info.revoked ≡ segment.revoked
  pub orphan : x.info.orphan ≡ segment.orphan
