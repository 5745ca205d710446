-- A throwable that has left all frames of a thread's top segment: it leaves the segment, and goes on to the one below as a copy, from
-- domain to domain, until a frame catches it or no segment is left.
use Rattle.std.specs.Prelude.{◌≡◌, ℕ, suc, true, false, List, [], ◌∷◌, Some}
use Rattle.jk_model.specs.declared.identifiers.ClassId.{ClassId}
use Rattle.jk_model.specs.declared.identifiers.ThreadNo.{ThreadNo}
use Rattle.jk_model.specs.declared.output.Line.{Line}
use Rattle.jk_model.specs.declared.output.Line.TheVariants.{Ended, EndedBy}
use Rattle.jk_model.specs.declared.steps.Raise.{Raise}
use Rattle.jk_model.specs.declared.steps.Raise.TheVariants as Raised
use Rattle.jk_model.specs.declared.steps.Standing.TheVariants as Stands
use Rattle.jk_model.specs.declared.values.Value.{Value}
use Rattle.jk_model.specs.declared.values.Value.TheVariants as Held
use Rattle.jk_model_classes.specs.declared.records.ClassRecord.{ClassRecord}
use Rattle.jk_model_classes.specs.Classes.{IsSubclass, record_of}
use Rattle.jk_model_domains.specs.Objects.{NamedObject, Plain, object_named}
use Rattle.jk_model_heaps.specs.declared.shapes.Unwound.TheVariants.{Caught, Uncaught}
use Rattle.jk_model_heaps.specs.SystemClasses.{THREAD_DEATH}
use Rattle.jk_model_heaps.specs.Workings.{Run, with_heap}
use Rattle.jk_model_running.specs.Raising.{RaisesIn}
use Rattle.jk_model_sharing.specs.Segments.{with_revoked}
use Rattle.jk_model_machine_state.specs.Machines.{Machine, without_thread}
use Rattle.jk_model_machine_state.specs.Places.{RunningSegment, run_of, setting_of, with_flags, with_run, with_running, without_top}
use Rattle.jk_model_crossings.specs.Passages.{IsTooLarge, IsUncopiable, Passage, Passes, passage}

-- ---- The segment that is left, and the one below.

-- the class of the throwable, an object of the running segment's domain
pub record IsThrowable {m : Machine} {t : ThreadNo} (p : RunningSegment m t) (a : ℕ) : Type 0 where
  pub class : ClassId
  pub fields : List Value
  pub is_object : object_named p.home.inside.heap a ≡ Some (Plain class fields)
  pub of_class : ClassRecord
  pub is_class : record_of m.classes class ≡ Some of_class

-- the top segment, and the one below it, which is on top where the top one is taken off
pub record TopTwo (m : Machine) (t : ThreadNo) : Type 0 where
  pub left : RunningSegment m t
  pub below : RunningSegment (without_top left) t

-- revoked is pending for the segment below, whose caller's answer was dropped
abbrev pub with_revoked_below : {m : Machine} {t : ThreadNo} → TopTwo m t → Machine
with_revoked_below s = with_flags s.below (with_revoked true s.below.segment.shared)

-- ---- What is raised in the segment below, and in which machine: the throwable's copy; or, in its place, a standing throwable of the domain
-- below.

abbrev pub IsDeath : {m : Machine} {t : ThreadNo} {p : RunningSegment m t} {a : ℕ} → IsThrowable p a → Type 0
IsDeath {m = m} b = IsSubclass m.classes b.class THREAD_DEATH

-- these values, from the domain of the segment that is left to that of the segment below; taking a segment off changes no domain
abbrev pub passed_down : {m : Machine} {t : ThreadNo} → TopTwo m t → List Value → Passage
passed_down s given = record (passage s.below.home s.below.home given) {
  from = s.left.home.domain.table;
  source = record { heap = s.left.home.inside.heap; values = given };
}

-- the heap of the domain below has become this one
abbrev pub received : {m : Machine} {t : ThreadNo} → TopTwo m t → List NamedObject → Machine
received s heap = with_running s.below s.below.segment (with_heap s.below.home.inside heap)

pub data Brings {m : Machine} {t : ThreadNo} (s : TopTwo m t) (a : ℕ) : Raise → Machine → Type 0 where
  -- a ThreadDeath, and what may not be copied, arrives as a RemoteException
  is_death : (b : IsThrowable s.left a) → IsDeath b → Brings s a (Raised.Standing Stands.Remote) (without_top s.left)
  is_uncopiable : (b : IsThrowable s.left a) → (IsDeath b → ⊥) → IsUncopiable (passed_down s (Held.Obj a ∷ []))
      → Brings s a (Raised.Standing Stands.Remote) (without_top s.left)
  is_too_large : (b : IsThrowable s.left a) → (IsDeath b → ⊥) → IsTooLarge (passed_down s (Held.Obj a ∷ []))
      → Brings s a (Raised.Standing Stands.OutOfMemoryError) (without_top s.left)
  is_copied : (b : IsThrowable s.left a) → (IsDeath b → ⊥) → (heap : List NamedObject) (c : ℕ)
      → Passes (passed_down s (Held.Obj a ∷ [])) heap (Held.Obj c ∷ []) → Brings s a (Raised.Object c) (received s heap)

-- ---- The way down. The object leaves the top segment of thread t, which has no frame left; so many segments are left in all.

pub data Throws (t : ThreadNo) : ℕ → Machine → ℕ → List Line → Machine → Type 0 where
  -- the lowest segment: the thread ends by the throwable's class, and an orphan's thread just ends
  ends : (m : Machine) (a : ℕ) (p : RunningSegment m t) (b : IsThrowable p a) → p.lower ≡ [] → p.segment.shared.orphan ≡ false
      → Throws t 1 m a (EndedBy t b.of_class.name ∷ []) (without_thread t m)
  ends_orphan : (m : Machine) (a : ℕ) (p : RunningSegment m t) → p.lower ≡ [] → p.segment.shared.orphan ≡ true
      → Throws t 1 m a (Ended t ∷ []) (without_thread t m)
  -- an orphan's throwable is dropped
  drops : (m : Machine) (a : ℕ) (s : TopTwo m t) → s.left.segment.shared.orphan ≡ true → Throws t 1 m a [] (with_revoked_below s)
  -- it is raised below, and caught there, or leaves that segment too
  caught : (m mid : Machine) (a : ℕ) (s : TopTwo m t) (r : Raise) → s.left.segment.shared.orphan ≡ false → Brings s a r mid
      → (p : RunningSegment mid t) (run : Run) → RaisesIn (setting_of p) (run_of p) r run Caught → Throws t 1 m a [] (with_run p run)
  goes_on : (n : ℕ) (m mid new : Machine) (a b : ℕ) (lines : List Line) (s : TopTwo m t) (r : Raise) → s.left.segment.shared.orphan ≡ false
      → Brings s a r mid → (p : RunningSegment mid t) (run : Run) → RaisesIn (setting_of p) (run_of p) r run (Uncaught b)
      → Throws t n (with_run p run) b lines new → Throws t (suc n) m a lines new

-- ---- This is raised in the top segment of thread t: it is caught there, or leaves the segment. So many segments are left.

pub data RaisesInThread (m : Machine) (t : ThreadNo) (r : Raise) : ℕ → List Line → Machine → Type 0 where
  caught : (p : RunningSegment m t) (run : Run) → RaisesIn (setting_of p) (run_of p) r run Caught → RaisesInThread m t r 0 [] (with_run p run)
  goes_down : (p : RunningSegment m t) (run : Run) (a n : ℕ) (lines : List Line) (new : Machine)
      → RaisesIn (setting_of p) (run_of p) r run (Uncaught a) → Throws t n (with_run p run) a lines new → RaisesInThread m t r n lines new
