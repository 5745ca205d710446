-- What an instruction works on, what it reads of the machine around it, and what is done after it. These are all the parts that
-- the rows of instructions and of system methods speak of: one domain, one frame, and of capabilities their numbers and
-- interfaces alone.
use Rattle.std.specs.Prelude.{◌≡◌, ℕ, ◌+◌, List, Option}
use Rattle.jk_model.specs.declared.identifiers.CapId.{CapId}
use Rattle.jk_model.specs.declared.identifiers.ClassId.{ClassId}
use Rattle.jk_model.specs.declared.identifiers.MemberId.{MemberId}
use Rattle.jk_model.specs.declared.identifiers.SegmentNo.{SegmentNo}
use Rattle.jk_model.specs.declared.steps.Raise.{Raise}
use Rattle.jk_model.specs.declared.values.Value.{Value}
use Rattle.jk_model_classes.specs.declared.records.ClassRecord.{ClassRecord}
use Rattle.jk_model_frames.specs.Frames.{FrameState}
use Rattle.jk_model_domains.specs.NumberRows.{Replaces}
use Rattle.jk_model_domains.specs.Objects.{NamedObject}
use Rattle.jk_model_domains.specs.OwnStates.{OwnState}
use Rattle.jk_model_heaps.specs.Capabilities.{KnownCapabilities}

-- what a domain has while it lives
pub record Inside : Type 0 where
  pub own : OwnState
  pub heap : List NamedObject
  -- the first page of its heap, and of its stacks, in their pools; none where there is no pool
  pub heap_at : Option ℕ
  pub stack_at : Option ℕ

-- What stays as it is while an instruction is done.
pub record Setting : Type 0 where
  pub classes : List ClassRecord
  pub caps : KnownCapabilities
  -- the domain's name, in ASCII
  pub name : List ℕ
  -- the running segment
  pub segment : SegmentNo
  -- how many words the domain's heap may have, and how many of its chunks are free as the step begins
  pub quota : ℕ
  pub chunks : ℕ

pub record Working : Type 0 where
  pub inside : Inside
  pub frame : FrameState

-- A segment while it runs: what its domain has inside, and its frames, lowest first.
pub record Run : Type 0 where
  pub inside : Inside
  pub frames : List FrameState

-- ---- What a program asks of package jk that touches more than its own domain's inside.

pub data Request : Type 0 where
  -- a capability for an object of a class that implements jk/Remote, by its name
  Creates : ClassId → ℕ → Request
  Revokes : CapId → Request
  Binds : List ℕ → CapId → Request
  LooksUp : List ℕ → Request
  Unbinds : List ℕ → Request
  -- of the segment of a Task
  Suspends : SegmentNo → Request
  Resumes : SegmentNo → Request
  Stops : SegmentNo → Request

-- ---- What is done after an instruction.

pub data Outcome : Type 0 where
  -- the frame goes on at this place
  GoesOn : ℕ → Outcome
  -- the domain says a text, and the frame goes on at this place
  Says : List ℕ → ℕ → Outcome
  -- another frame is put on top, and this one stays at its place until that returns
  Calls : FrameState → Outcome
  Returns : Option Value → Outcome
  Raises : Raise → Outcome
  -- a call through a capability of a method, whose receiver and arguments still stand on the stack
  Crosses : CapId → MemberId → Outcome
  -- the arguments have left the stack, and the frame stays at its place until the answer comes
  Asks : Request → Outcome
  -- the domain is killed
  Terminates : Outcome

-- ---- The shapes of most rows.

-- entries are taken off the stack and others put in their place, the inside becomes this, and the next instruction follows
pub record GoesOnWith (w : Working) (taken pushed : List Value) (inside : Inside) (new : Working) (outcome : Outcome) : Type 0 where
  pub replaced : Replaces w.frame new.frame taken pushed
  pub inside_is : new.inside ≡ inside
  pub goes_on : outcome ≡ GoesOn (w.frame.head.at + 1)

-- nothing changes, and this is raised
abbrev pub RaisesHere : Working → Raise → Working → Outcome → Type 0
RaisesHere w r new outcome = (new ≡ w) × (outcome ≡ Raises r)

abbrev pub with_heap : Inside → List NamedObject → Inside
with_heap inside heap = record inside { heap = heap }

abbrev pub with_own : Inside → OwnState → Inside
with_own inside own = record inside { own = own }
