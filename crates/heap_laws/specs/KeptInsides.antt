-- What an instruction keeps of its domain's inside and of the frame that runs it.
use Rattle.std.specs.Prelude.{◌≡◌, ◌⊎◌, ℕ, Some}
use Rattle.jk_model.specs.declared.identifiers.ClassId.{ClassId}
use Rattle.jk_model.specs.declared.identifiers.SegmentNo.{SegmentNo}
use Rattle.jk_model_domains.specs.Objects.{Task, object_named}
use Rattle.jk_model_domains.specs.OwnStates.{state_of}
use Rattle.jk_model_heaps.specs.Heaps.{IsGrown}
use Rattle.jk_model_heaps.specs.Workings.{Inside, Setting, Working}
use Rattle.jk_model_sealing.specs.SealedInsides.{IsSealedInside, Surroundings}
use Rattle.jk_model_sealing.specs.SealedRuns.{NamesKnown}

pub record KeepsInside (around : Surroundings) (x : Setting) (old new : Inside) : Type 0 where
  pub sealed : IsSealedInside around x.quota new
  -- each name keeps an object that is alike
  pub grown : IsGrown old.heap new.heap
  -- a new Task is one of the running segment
  pub tasks : (a : ℕ) (n : SegmentNo) → object_named new.heap a ≡ Some (Task n)
      → (object_named old.heap a ≡ Some (Task n)) ⊎ (n ≡ x.segment)
  pub pages : (new.heap_at ≡ old.heap_at) × (new.stack_at ≡ old.stack_at)

-- The frame's head stays, and so does how far each class is initialised.
pub record IsKept (around : Surroundings) (x : Setting) (w new : Working) : Type 0 where
  pub inside : KeepsInside around x w.inside new.inside
  pub states : (c : ClassId) → state_of new.inside.own c ≡ state_of w.inside.own c
  pub head : new.frame.head ≡ w.frame.head
  pub known : NamesKnown around.caps new.inside.heap new.frame
