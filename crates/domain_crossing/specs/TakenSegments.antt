-- What is told of a thread's top segment that was taken off, and of the one that was below it.
use Rattle.std.specs.Prelude.{◌≡◌, ℕ, List, [], ◌∷◌, ◌++◌, Option, Some, option_map, slice_get}
use Rattle.jk_model.specs.declared.identifiers.ThreadNo.{ThreadNo}
use Rattle.jk_model_sharing.specs.Segments.{SharedSegment, SharedThread, thread_numbered, top_of}
use Rattle.domain_crossing.specs.declared.taking.Below.{Below}
use Rattle.domain_crossing.specs.declared.taking.Taken.{Taken}

-- Threads have different numbers, and so have segments.
pub record AreApart (list : List SharedThread) : Type 0 where
  pub threads : (i j : ℕ) (a b : SharedThread) → slice_get list i ≡ Some a → slice_get list j ≡ Some b → a.number ≡ b.number → i ≡ j
  pub segments : (i j k l : ℕ) (a b : SharedThread) (s r : SharedSegment) → slice_get list i ≡ Some a → slice_get list j ≡ Some b
      → slice_get a.segments k ≡ Some s → slice_get b.segments l ≡ Some r → s.number ≡ r.number → (i ≡ j) × (k ≡ l)

-- The top segment of a thread, and those below it.
pub record TopStands (threads : List SharedThread) (t : ThreadNo) : Type 0 where
  pub thread : SharedThread
  pub is_thread : thread_numbered threads t ≡ Some thread
  pub lower : List SharedSegment
  pub segment : SharedSegment
  pub are_segments : thread.segments ≡ lower ++ segment ∷ []

-- ---- What is told.

abbrev pub told_of : SharedSegment → Below
told_of s = record { segment = s.number; domain = s.domain }

-- of the segment below; nothing where there is none
abbrev pub IsToldBelow : {threads : List SharedThread} {t : ThreadNo} → TopStands threads t → Option Below → Type 0
IsToldBelow top below = below ≡ option_map told_of (top_of top.lower)

pub record IsToldOf {threads : List SharedThread} {t : ThreadNo} (top : TopStands threads t) (taken : Taken) : Type 0 where
  pub domain : taken.domain ≡ top.segment.domain
  pub orphan : taken.orphan ≡ top.segment.orphan
  pub below : IsToldBelow top taken.below
