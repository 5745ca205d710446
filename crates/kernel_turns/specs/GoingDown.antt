-- How what is raised goes down a thread: in the top segment, and where no frame of that catches it, in the one below, until it is caught or no
-- segment is left.
use Rattle.std.specs.Prelude.{◌≡◌, ℕ, ⊤, List, length, Option, Some}
use Rattle.std.specs.Option.{option_map_or}
use Rattle.jk_model.specs.declared.identifiers.ThreadNo.{ThreadNo}
use Rattle.jk_model.specs.declared.output.Line.{Line}
use Rattle.jk_model.specs.declared.steps.Raise.{Raise}
use Rattle.jk_model_classes.specs.declared.records.ClassRecord.{ClassRecord}
use Rattle.jk_model_classes.specs.Classes.{record_of}
use Rattle.jk_model_classes.specs.Worlds.{WorldRecord}
use Rattle.jk_model_domains.specs.OwnStates.{OwnState}
use Rattle.jk_model_sharing.specs.Segments.{SharedThread, thread_numbered}
use Rattle.jk_model_sharing.specs.SharedStates.{SharedState}
use Rattle.jk_model_machine_state.specs.Machines.{Machine}
use Rattle.jk_model_crossings.specs.RemoteCalls.{Enters, Refuses, RemoteCall}
use Rattle.jk_model_crossings.specs.Throwing.{RaisesInThread}
use Rattle.object_store.specs.HeapContents.{HeapContent}
use Rattle.frame_store.specs.FrameContents.{FrameContent}
use Rattle.heap_laws.specs.RaisableObjects.{MayBeRaised}
use Rattle.machine_laws.proofs.RaisesWhereMet.{IsMet, met}
use Rattle.machine_parts.specs.MachineParts.{MachineParts}
use Rattle.domain_crossing.specs.PrintedOfThreads.{PrintedOf}
use Rattle.domain_crossing.specs.declared.answers.Left.{Left}
use Rattle.domain_crossing.specs.declared.answers.Left.TheVariants as Became
use Rattle.domain_ends.specs.TidyParts.{AreTidyParts}
use Rattle.kernel_parts.specs.SoundKernels.{KernelContent, kernel_machine}

-- ---- What comes of a thread whose top segment was left, or in whose top segment something is to be raised: so many segments are left then, these
-- lines are printed, and this is the machine.

abbrev pub IsDone : Machine → ThreadNo → Left → ℕ → List Line → Machine → Type 0
IsDone m t left n lines new = (n ≡ 0) × PrintedOf m.classes t left lines × (new ≡ m)

abbrev pub ComesOf : Machine → ThreadNo → Left → ℕ → List Line → Machine → Type 0
ComesOf m t Became.Delivered n lines new = IsDone m t Became.Delivered n lines new
ComesOf m t (Became.Raised r) n lines new = RaisesInThread m t r n lines new
ComesOf m t Became.Ended n lines new = IsDone m t Became.Ended n lines new
ComesOf m t (Became.EndedBy c) n lines new = IsDone m t (Became.EndedBy c) n lines new

-- ---- When it may be so.

-- The running segment of a sealed machine has become the one in which this may be raised. Its top frame may have made a call.
pub record IsRaisable (m : Machine) (t : ThreadNo) (r : Raise) : Type 0 where
  pub sealed : Machine
  pub met_there : IsMet sealed t
  pub is : m ≡ met sealed t met_there
  pub may : MayBeRaised sealed.classes met_there.inside.heap r

-- the class by which a thread ends is there
abbrev pub IsToldWell : List ClassRecord → Left → Type 0
IsToldWell classes Became.Delivered = ⊤
IsToldWell classes (Became.Raised r) = ⊤
IsToldWell classes Became.Ended = ⊤
IsToldWell classes (Became.EndedBy c) = (r : ClassRecord) × (record_of classes c ≡ Some r)

abbrev pub MayBeSo : Machine → ThreadNo → Left → Type 0
MayBeSo m t Became.Delivered = ⊤
MayBeSo m t (Became.Raised r) = IsRaisable m t r
MayBeSo m t Became.Ended = ⊤
MayBeSo m t (Became.EndedBy c) = (r : ClassRecord) × (record_of m.classes c ≡ Some r)

abbrev pub MayGoDown : KernelContent → ThreadNo → Left → Type 0
MayGoDown k t left = AreTidyParts k × MayBeSo (kernel_machine k) t left

-- how many segments a live thread has
abbrev pub height : ThreadNo → SharedState → ℕ
height t s = option_map_or (λ (e : SharedThread). length e.segments) (thread_numbered s.threads t) 0

-- ---- A call through a capability: it enters, or what it raises is raised in the segment that calls.

abbrev pub parts_so : WorldRecord → List (Option OwnState) → SharedState → HeapContent → FrameContent → MachineParts
parts_so world owns shared heap frames = record { world = world; owns = owns; shared = shared; heap = heap; frames = frames }

abbrev pub CallsAcross : {m : Machine} {t : ThreadNo} → RemoteCall m t → Left → Machine → Type 0
CallsAcross c Became.Delivered new = Enters c new
CallsAcross {m = m} c (Became.Raised r) new = Refuses c r × (new ≡ m)
CallsAcross c Became.Ended new = ⊥
CallsAcross c (Became.EndedBy class) new = ⊥
