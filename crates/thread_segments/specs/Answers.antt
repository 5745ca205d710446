-- What the calls answer, and the state that those which may be refused leave.
use Rattle.std.specs.Prelude.{◌≡◌, ℕ, ◌-◌, List, Option, Some, None, option_and_then, option_map, Result, Err}
use Rattle.jk_model.specs.Capabilities.{last_number}
use Rattle.jk_model.specs.declared.capabilities.CapStatus.{CapStatus}
use Rattle.jk_model.specs.declared.identifiers.CapId.{CapId}
use Rattle.jk_model.specs.declared.identifiers.ClassId.{ClassId}
use Rattle.jk_model.specs.declared.identifiers.DomainId.{DomainId}
use Rattle.jk_model.specs.declared.identifiers.SegmentNo.{SegmentNo}
use Rattle.jk_model.specs.declared.identifiers.ThreadNo.{ThreadNo}
use Rattle.jk_model.specs.declared.script.Quotas.{Quotas}
use Rattle.jk_model.specs.declared.steps.Raise.{Raise}
use Rattle.jk_model.specs.declared.steps.Raise.TheVariants.{Fresh}
use Rattle.jk_model_classes.specs.declared.sharing.Stub.{Stub}
use Rattle.jk_model_heaps.specs.Capabilities.{CapRange, OwnedCapability, capability_numbered}
use Rattle.jk_model_heaps.specs.SystemClasses.{ILLEGAL_ARGUMENT_EXCEPTION}
use Rattle.jk_model_sharing.specs.BoundNames.{Binds, BoundName, Unbinds}
use Rattle.jk_model_sharing.specs.CapabilityCalls.{Creates, Revokes, count_numbers, status_of}
use Rattle.jk_model_sharing.specs.Segments.{segment_below, segment_numbered, top_segment}
use Rattle.jk_model_sharing.specs.SharedStates.{MayBegin, SharedDomain, SharedState, begun, caps_of, domain_numbered, stub_for, with_caps, with_domain}
use Rattle.thread_stacks.specs.declared.segments.SegmentInfo.{SegmentInfo}
pub use Rattle.thread_stacks.specs.StackAnswers.{EndsWith, IsLeastAbove, IsLiveNumber, info_of, number_of, thread_number}

-- ---- Domains.

-- so many steps are paid at once: a domain with a budget has so many fewer
abbrev pub spent_steps : ℕ → DomainId → SharedState → SharedState
spent_steps n d s = with_domain d (λ (e : SharedDomain). record e { steps_left = option_map (λ (k : ℕ). k - n) e.steps_left }) s

abbrev pub quotas_of : SharedState → DomainId → Option Quotas
quotas_of s d = option_map (λ (e : SharedDomain). e.quotas) (domain_numbered s d)

-- none where the domain has no budget
abbrev pub steps_left_of : SharedState → DomainId → Option ℕ
steps_left_of s d = option_and_then (λ (e : SharedDomain). e.steps_left) (domain_numbered s d)

-- how many numbers of capabilities are in no range yet
abbrev pub count_numbers_left : SharedState → ℕ
count_numbers_left s = last_number - count_numbers (caps_of s)

-- ---- Segments.

-- the number of a thread's top segment; none of a thread that isn't live
abbrev pub top_number : SharedState → ThreadNo → Option SegmentNo
top_number s t = option_map number_of (top_segment s.threads t)

-- the number of the segment directly below one; none below a lowest one
abbrev pub number_below : SharedState → SegmentNo → Option SegmentNo
number_below s n = option_map number_of (segment_below s.threads n)

-- what is known of a segment; nothing where it isn't there
abbrev pub segment_info : SharedState → SegmentNo → Option SegmentInfo
segment_info s n = option_map info_of (segment_numbered s.threads n)

-- ---- Threads.

-- A thread begins, unless as many live ones were started in the domain as its quota allows: then all is as before.
pub data Begins (s : SharedState) (d : DomainId) : Option ThreadNo → SharedState → Type 0 where
  refused : (MayBegin s d → ⊥) → Begins s d None s
  begins : MayBegin s d → Begins s d (Some (record { 0 = s.next_thread })) (begun d s)

-- ---- Capabilities.

-- what is known of a capability; nothing where it wasn't given out
abbrev pub known_status : SharedState → CapId → Option CapStatus
known_status s k = option_map status_of (capability_numbered (caps_of s) k)

-- the class that a capability's target had; none where it wasn't given out
abbrev pub known_class : SharedState → CapId → Option ClassId
known_class s k = option_map (λ (c : OwnedCapability). c.capability.class) (capability_numbered (caps_of s) k)

-- A domain creates a capability at an object of a class, which must have a stub.
pub data CreatesFor (s : SharedState) (d : DomainId) (class : ClassId) (target : ℕ) : Result CapId Raise → SharedState → Type 0 where
  no_stub : stub_for s class ≡ None → CreatesFor s d class target (Err (Fresh ILLEGAL_ARGUMENT_EXCEPTION)) s
  has_stub : (stub : Stub) (e : SharedDomain) (answer : Result CapId Raise) (range : CapRange) → stub_for s class ≡ Some stub
      → domain_numbered s d ≡ Some e → Creates e.caps class target answer range
      → CreatesFor s d class target answer (with_caps d range s)

-- A domain revokes a capability.
pub record RevokesFor (s : SharedState) (d : DomainId) (k : CapId) (answer : Result (Unit {0}) Raise) (new : SharedState) : Type 0 where
  pub domain : SharedDomain
  pub is_domain : domain_numbered s d ≡ Some domain
  pub range : CapRange
  pub revokes : Revokes domain.caps k answer range
  pub becomes : new ≡ with_caps d range s

-- ---- Names.

-- A domain binds a name as asked.
pub record BindsFor (s : SharedState) (asked : BoundName) (answer : Result (Unit {0}) Raise) (new : SharedState) : Type 0 where
  pub domain : SharedDomain
  pub is_domain : domain_numbered s asked.binder ≡ Some domain
  pub names : List BoundName
  pub binds : Binds s.names domain.quotas.names asked answer names
  pub becomes : new ≡ record s { names = names }

-- A domain removes a name.
pub record UnbindsFor (s : SharedState) (d : DomainId) (text : List ℕ) (answer : Result (Unit {0}) Raise) (new : SharedState) : Type 0 where
  pub names : List BoundName
  pub unbinds : Unbinds s.names d text answer names
  pub becomes : new ≡ record s { names = names }
