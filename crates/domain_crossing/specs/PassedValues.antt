-- One value that passes from a domain to another: as an answer, or as a throwable.
use Rattle.std.specs.Prelude.{ℕ, [], ◌∷◌, Option, None, Some}
use Rattle.jk_model.specs.declared.identifiers.ClassId.{ClassId}
use Rattle.jk_model.specs.declared.identifiers.DomainId.{DomainId}
use Rattle.jk_model.specs.declared.identifiers.SegmentNo.{SegmentNo}
use Rattle.jk_model.specs.declared.steps.Raise.{Raise}
use Rattle.jk_model.specs.declared.steps.Raise.TheVariants as Raised
use Rattle.jk_model.specs.declared.steps.Standing.TheVariants as Stands
use Rattle.jk_model.specs.declared.values.Value.{Value}
use Rattle.jk_model.specs.declared.values.Value.TheVariants as Held
use Rattle.jk_model_classes.specs.Classes.{IsSubclass}
use Rattle.jk_model_classes.specs.Worlds.{WorldRecord}
use Rattle.jk_model_frames.specs.Frames.{FrameState}
use Rattle.jk_model_heaps.specs.SystemClasses.{THREAD_DEATH}
use Rattle.object_store.specs.HeapContents.{HeapContent, IsSame}
use Rattle.frame_store.specs.FrameContents.{FrameContent}
use Rattle.graph_copy.specs.declared.answers.CopyAnswer.TheVariants as Answered
use Rattle.graph_copy.specs.CopyAnswers.{Copies, CopyAnswers}
use Rattle.domain_crossing.specs.declared.answers.Left.{Left}
use Rattle.domain_crossing.specs.declared.answers.Left.TheVariants as Became
use Rattle.domain_crossing.specs.declared.passing.Passed.{Passed}
use Rattle.domain_crossing.specs.declared.passing.Passed.TheVariants as Came
use Rattle.domain_crossing.specs.AnsweredFrames.{TopResumes}

-- The heaps before, and from which domain a value passes to which.
pub record Crossing : Type 0 where
  pub world : WorldRecord
  pub heap : HeapContent
  pub from : DomainId
  pub to : DomainId

-- ---- A value.

-- it arrives as this one
abbrev pub Arrives : Crossing → Value → Value → HeapContent → Type 0
Arrives x v u new =
    CopyAnswers x.heap x.world x.from x.to (v ∷ []) Answered.Copied × Copies x.heap new x.world.classes x.from x.to (v ∷ []) (u ∷ [])

-- it leads to an object that may not be copied, or is too large, and all is as before
abbrev pub IsUncopied : Crossing → Value → HeapContent → Type 0
IsUncopied x v new = (a : ℕ) × CopyAnswers x.heap x.world x.from x.to (v ∷ []) (Answered.NotCopiable a) × IsSame x.heap new

abbrev pub HasNoRoom : Crossing → Value → HeapContent → Type 0
HasNoRoom x v new = (n : ℕ) × CopyAnswers x.heap x.world x.from x.to (v ∷ []) (Answered.NoRoom n) × IsSame x.heap new

abbrev pub PassesSo : Crossing → Value → Passed → HeapContent → Type 0
PassesSo x v (Came.As u) new = Arrives x v u new
PassesSo x v Came.Uncopiable new = IsUncopied x v new
PassesSo x v Came.TooLarge new = HasNoRoom x v new

-- ---- An answer, to the frame on top of a segment, which goes on with it where it arrives.

pub data GivesSo (x : Crossing) (s : SegmentNo) (frames : FrameContent) : Option Value → Left → HeapContent → FrameContent → Type 0 where
  nothing : (after : FrameContent) → ((f : FrameState) → TopResumes frames after s f None) → GivesSo x s frames None Became.Delivered x.heap after
  arrives : (v u : Value) (new : HeapContent) (after : FrameContent) → Arrives x v u new
      → ((f : FrameState) → TopResumes frames after s f (Some u)) → GivesSo x s frames (Some v) Became.Delivered new after
  is_uncopied : (v : Value) (new : HeapContent) → IsUncopied x v new
      → GivesSo x s frames (Some v) (Became.Raised (Raised.Standing Stands.NotCopiable)) new frames
  has_no_room : (v : Value) (new : HeapContent) → HasNoRoom x v new
      → GivesSo x s frames (Some v) (Became.Raised (Raised.Standing Stands.OutOfMemoryError)) new frames

-- ---- A throwable of a class.

pub data BringsSo (x : Crossing) (class : ClassId) (a : ℕ) : Raise → HeapContent → Type 0 where
  is_death : IsSubclass x.world.classes class THREAD_DEATH → BringsSo x class a (Raised.Standing Stands.Remote) x.heap
  is_uncopied : (new : HeapContent) → (IsSubclass x.world.classes class THREAD_DEATH → ⊥) → IsUncopied x (Held.Obj a) new
      → BringsSo x class a (Raised.Standing Stands.Remote) new
  has_no_room : (new : HeapContent) → (IsSubclass x.world.classes class THREAD_DEATH → ⊥) → HasNoRoom x (Held.Obj a) new
      → BringsSo x class a (Raised.Standing Stands.OutOfMemoryError) new
  arrives : (b : ℕ) (new : HeapContent) → (IsSubclass x.world.classes class THREAD_DEATH → ⊥) → Arrives x (Held.Obj a) (Held.Obj b) new
      → BringsSo x class a (Raised.Object b) new
