-- What `enter`, `leave` and `raise_across` answer, and to which machine each leads. Each does what is done across two domains; what is
-- raised after it in the segment that is on top then is the caller's, and both together are one of the cases by which a thread goes on.
-- The clauses stand at the three functions, in src/entering.rt, src/leaving.rt and src/raising.rt. The own states of domains aren't lent:
-- each clause holds for all that fit.
--
-- None is lent an allocator, and none has an answer for want of memory. That all marks are 0 after each is a part of how parts fit.
use Rattle.std.specs.Prelude.{◌≡◌, ℕ, suc, true, false, List, [], ◌∷◌, Option, Some, None}
use Rattle.jk_model.specs.declared.identifiers.ThreadNo.{ThreadNo}
use Rattle.jk_model.specs.declared.output.Line.{Line}
use Rattle.jk_model.specs.declared.steps.Raise.{Raise}
use Rattle.jk_model.specs.declared.steps.Raise.TheVariants as Raised
use Rattle.jk_model.specs.declared.steps.Standing.TheVariants as Stands
use Rattle.jk_model.specs.declared.values.Value.{Value}
use Rattle.jk_model_domains.specs.Objects.{NamedObject}
use Rattle.jk_model_machine_state.specs.Machines.{Machine, without_thread}
use Rattle.jk_model_machine_state.specs.Places.{RunningSegment, without_top}
use Rattle.jk_model_crossings.specs.Answers.{Receives, Returns}
use Rattle.jk_model_crossings.specs.Passages.{IsTooLarge, IsUncopiable, Passes}
use Rattle.jk_model_crossings.specs.RemoteCalls.{Enters, Refuses, RemoteCall}
use Rattle.jk_model_crossings.specs.Throwing.{Brings, IsThrowable, RaisesInThread, Throws, TopTwo, passed_down, with_revoked_below}
use Rattle.domain_crossing.specs.declared.answers.Crossed.{Crossed}
use Rattle.domain_crossing.specs.declared.answers.Crossed.TheVariants as Called
use Rattle.domain_crossing.specs.declared.answers.Left.{Left}
use Rattle.domain_crossing.specs.declared.answers.Left.TheVariants as Became
use Rattle.domain_crossing.specs.PrintedOfThreads.{PrintedOf}

-- ---- A call: it enters, or the first rule that applies refuses it and nothing changed.

abbrev pub CrossesSo : {m : Machine} {t : ThreadNo} → RemoteCall m t → Crossed → Machine → Type 0
CrossesSo c Called.Entered new = Enters c new
CrossesSo {m = m} c (Called.Refused r) new = Refuses c r × (new ≡ m)

-- ---- A segment whose lowest frame has returned. The segment is left; what has come of the thread is this, before anything is raised below.

pub data LeavesByReturn (m : Machine) (t : ThreadNo) : Option Value → Left → Machine → Type 0 where
  -- the lowest segment, an orphan or not
  ends : (v : Option Value) (p : RunningSegment m t) → p.lower ≡ [] → LeavesByReturn m t v Became.Ended (without_thread t m)
  -- an orphan's answer is dropped, and RevokedException is pending below
  drops : (v : Option Value) (s : TopTwo m t) → s.left.segment.shared.orphan ≡ true → LeavesByReturn m t v Became.Delivered (with_revoked_below s)
  gives_nothing : (s : TopTwo m t) (new : Machine) → s.left.segment.shared.orphan ≡ false
      → Receives s.below s.below.home.inside.heap None new → LeavesByReturn m t None Became.Delivered new
  gives : (v w : Value) (s : TopTwo m t) (heap : List NamedObject) (new : Machine) → s.left.segment.shared.orphan ≡ false
      → Passes (passed_down s (v ∷ [])) heap (w ∷ []) → Receives s.below heap (Some w) new → LeavesByReturn m t (Some v) Became.Delivered new
  -- what is raised below is a standing throwable of the domain there
  is_uncopiable : (v : Value) (s : TopTwo m t) → s.left.segment.shared.orphan ≡ false → IsUncopiable (passed_down s (v ∷ []))
      → LeavesByReturn m t (Some v) (Became.Raised (Raised.Standing Stands.NotCopiable)) (without_top s.left)
  is_too_large : (v : Value) (s : TopTwo m t) → s.left.segment.shared.orphan ≡ false → IsTooLarge (passed_down s (v ∷ []))
      → LeavesByReturn m t (Some v) (Became.Raised (Raised.Standing Stands.OutOfMemoryError)) (without_top s.left)

-- ---- A segment that a throwable has left.

pub data LeavesByThrow (m : Machine) (t : ThreadNo) (a : ℕ) : Left → Machine → Type 0 where
  is_uncaught : (p : RunningSegment m t) (b : IsThrowable p a) → p.lower ≡ [] → p.segment.shared.orphan ≡ false
      → LeavesByThrow m t a (Became.EndedBy b.class) (without_thread t m)
  ends_orphan : (p : RunningSegment m t) → p.lower ≡ [] → p.segment.shared.orphan ≡ true → LeavesByThrow m t a Became.Ended (without_thread t m)
  drops_throwable : (s : TopTwo m t) → s.left.segment.shared.orphan ≡ true → LeavesByThrow m t a Became.Delivered (with_revoked_below s)
  -- a copy, or a standing throwable of the domain below, is raised there
  brings : (s : TopTwo m t) (r : Raise) (mid : Machine) → s.left.segment.shared.orphan ≡ false → Brings s a r mid
      → LeavesByThrow m t a (Became.Raised r) mid

-- ---- Laws: what is left, and what is raised below after it, are together a case of `Returns` or of `Throws`. The kernel cites them.

pub record HalvesMakeReturns : Type 0 where
  pub delivered : (m : Machine) (t : ThreadNo) (v : Option Value) (new : Machine) → LeavesByReturn m t v Became.Delivered new → Returns m t v 1 [] new
  pub ended : (m : Machine) (t : ThreadNo) (v : Option Value) (new : Machine) (lines : List Line) → LeavesByReturn m t v Became.Ended new
      → PrintedOf m.classes t Became.Ended lines → Returns m t v 1 lines new
  pub raised : (m : Machine) (t : ThreadNo) (v : Option Value) (r : Raise) (n : ℕ) (lines : List Line) (mid new : Machine)
      → LeavesByReturn m t v (Became.Raised r) mid → RaisesInThread mid t r n lines new → Returns m t v (suc n) lines new

pub record HalvesMakeThrows : Type 0 where
  pub delivered : (m : Machine) (t : ThreadNo) (a : ℕ) (new : Machine) → LeavesByThrow m t a Became.Delivered new → Throws t 1 m a [] new
  -- an end by a throwable's class, and an orphan's end
  pub ended : (m : Machine) (t : ThreadNo) (a : ℕ) (left : Left) (new : Machine) (lines : List Line) → LeavesByThrow m t a left new
      → PrintedOf m.classes t left lines → ((r : Raise) → left ≡ Became.Raised r → ⊥) → Throws t 1 m a lines new
  pub raised : (m : Machine) (t : ThreadNo) (a : ℕ) (r : Raise) (n : ℕ) (lines : List Line) (mid new : Machine)
      → LeavesByThrow m t a (Became.Raised r) mid → RaisesInThread mid t r n lines new → Throws t (suc n) m a lines new
