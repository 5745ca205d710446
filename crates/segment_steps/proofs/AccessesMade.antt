-- Accesses at a top frame whose place is stored: that they may be made, and what they leave.
use Rattle.std.proofs.Common.{inl, inr, ◌≡◌, ℕ, ◌+◌, ◌^◌, ◌<◌, length, Option, Some, None, slice_get, refl}
use Rattle.std.proofs.lemmas.Option.{slice_get_cases}
use Rattle.std.specs.Prelude.{IfNone, IfSome}
use Rattle.jk_model.specs.declared.identifiers.DomainId.{DomainId}
use Rattle.jk_model.specs.declared.identifiers.SegmentNo.{SegmentNo}
use Rattle.jk_model.specs.declared.identifiers.ThreadNo.{ThreadNo}
use Rattle.jk_model.specs.declared.steps.After.TheVariants as Next
use Rattle.jk_model.specs.declared.steps.Raise.{Raise}
use Rattle.jk_model_classes.specs.Worlds.{WorldRecord}
use Rattle.jk_model_sharing.specs.SharedStates.{SharedState}
use Rattle.class_init.specs.KeptStates.{KeptState}
use Rattle.frame_store.specs.FrameContents.{FrameContent}
use Rattle.heap_ops.specs.HeapSteps.{HeapDone}
use Rattle.object_store.specs.HeapContents.{HeapContent}
use Rattle.row_laws.specs.HeapRowLaws.{HeapRowsKeep}
use Rattle.step_contents.specs.Conditions.{MayDo}
use Rattle.step_contents.specs.Contents.{Contents, contents_of, here_at}
use Rattle.step_contents.specs.InstructionKinds.{IsAccess}
use Rattle.step_contents.specs.PlacesInCode.{IsPlaceIn, PlaceInCode}
use Rattle.step_contents.specs.StandingTops.{StandsThere}
use Rattle.segment_steps.specs.ActingSegments.{MayAct}
use Rattle.segment_steps.specs.InFrameTurns.{Accesses, GoesOnInFrame, IsReadyAt, MayActOnceStored, StaysAsItIs, StoresPlace, TakesNoTurn, TakesTurn}
use Rattle.segment_steps.specs.StepsAlone.{StandsReady}
use Rattle.segment_steps.specs.declared.meeting.Runs.{Runs}
use Rattle.segment_steps.proofs.AccessesInFrame.{access_needs_no_class}
use Rattle.segment_steps.proofs.ContentsStay.{StaySame}
use Rattle.segment_steps.proofs.HeapsFollowed.{RaisesStay, else_nothing}
use Rattle.segment_steps.proofs.HeapsFollowed.{next_there as there_after_heaps}
use Rattle.segment_steps.proofs.NumbersBegin.{next_fits}
use Rattle.segment_steps.proofs.NumbersInFrame.{next_there}
use Rattle.segment_steps.proofs.StandingHere.{may_do}
use Rattle.step_contents.proofs.InstructionsBegin.{is_some_setting, some_setting}

module _ (heap : HeapContent) (mid : FrameContent) (own : KeptState) (world : WorldRecord) (shared : SharedState) (d : DomainId) (s : SegmentNo)
    (at : PlaceInCode) (access : IsAccess at.instr.op) (may : MayAct (contents_of heap mid own) (here_at world shared d s))
    (stands : StandsThere mid world.classes s at) where
  abbrev c : Contents
  c = contents_of heap mid own

  -- whichever thread it is
  abbrev runs : Runs
  runs = record { thread = (let t : ThreadNo = record { 0 = 0 } in t); domain = d; segment = s }

  abbrev ready : StandsReady mid world.classes own.state runs at
  ready = record {
    frame = stands.frame;
    top = stands.top;
    head = stands.head;
    no_need = stands.no_need;
    place = stands.place;
    ready = λ k needs. absurd (access_needs_no_class at.scope at.instr access k needs);
  }

  abbrev pub does_here : MayDo c (here_at world shared d s) at
  does_here = may_do c world shared runs at ready may

  pub next_fits_there : at.head.at + 1 < 2 ^ 32
  next_fits_there = next_fits does_here

  -- where something is raised
  pub nothing_else : HeapRowsKeep → RaisesStay → (heaps : HeapContent) (new : FrameContent) (raise : Raise)
      → HeapDone c (contents_of heaps new own) (here_at world shared d s) at (Next.Raise raise) → StaySame c (contents_of heaps new own)
  nothing_else rows stays heaps new raise done =
      else_nothing c (contents_of heaps new own) world shared runs at ready rows stays may (Next.Raise raise) done (λ n is. cc)

  pub there_after : HeapRowsKeep → (heaps : HeapContent) (new : FrameContent) (n : ℕ)
      → HeapDone c (contents_of heaps new own) (here_at world shared d s) at (Next.Goto n) → slice_get at.scope.code.instrs n ≡ None → ⊥
  there_after rows heaps new n done =
      there_after_heaps c world shared runs at ready heaps new own rows may (some_setting does_here) (is_some_setting does_here) n done

-- wherever a turn goes on there is an instruction
pub is_there : HeapRowsKeep → (old_heap heap : HeapContent) (old new : FrameContent) (world : WorldRecord) (d : DomainId) (s : SegmentNo) (at : PlaceInCode)
    → IsPlaceIn world.classes at → IsReadyAt old world.classes s at → MayActOnceStored old_heap old world d s at → (n : ℕ)
    → TakesTurn old_heap heap old new world d s at n → slice_get at.scope.code.instrs n ≡ None → ⊥
is_there rows old_heap heap old new world d s at place begins may n (inl (same, did)) =
    next_there old new world.classes s at place (begins did.numbers) n did.does
is_there rows old_heap heap old new world d s at place begins may n (inr did) =
    let acts = may.2 did.mid did.stores in
    there_after old_heap did.mid may.0 world may.1 d s at did.access acts.0 acts.1 rows heap new n (did.does may.0 may.1)

pub is_within : HeapRowsKeep → (old_heap heap : HeapContent) (old new : FrameContent) (world : WorldRecord) (d : DomainId) (s : SegmentNo) (at : PlaceInCode)
    → IsPlaceIn world.classes at → IsReadyAt old world.classes s at → MayActOnceStored old_heap old world d s at → (n : ℕ)
    → TakesTurn old_heap heap old new world d s at n → n < length at.scope.code.instrs
is_within rows old_heap heap old new world d s at place begins may n did =
    elim (slice_get_cases at.scope.code.instrs n).1 [
      | inl there ↦ there.1
      | inr past ↦ absurd (is_there rows old_heap heap old new world d s at place begins may n did past.1)
    ]

-- ---- What is answered of either of them.

pub no_turn_by_access : (old_heap heap : HeapContent) (old new : FrameContent) (s : SegmentNo) (at : PlaceInCode) (o : Option ℕ)
    → IfNone o (StoresPlace old new s at) → IfNone o (heap ≡ old_heap) → IfNone o (TakesNoTurn old_heap heap old new s at)
no_turn_by_access old_heap heap old new s at None stores same = (same, inr stores)
no_turn_by_access old_heap heap old new s at (Some n) stores same = tt

pub turn_by_access : (old_heap heap : HeapContent) (old new : FrameContent) (world : WorldRecord) (d : DomainId) (s : SegmentNo) (at : PlaceInCode)
    (o : Option ℕ) → IfSome o (λ (n : ℕ). Accesses old_heap heap old new world d s at n)
    → IfSome o (λ (n : ℕ). TakesTurn old_heap heap old new world d s at n)
turn_by_access old_heap heap old new world d s at None did = tt
turn_by_access old_heap heap old new world d s at (Some n) did = inr did

pub no_turn_by_numbers : (heap : HeapContent) (old new : FrameContent) (s : SegmentNo) (at : PlaceInCode) (o : Option ℕ)
    → IfNone o (StaysAsItIs old new s) → IfNone o (TakesNoTurn heap heap old new s at)
no_turn_by_numbers heap old new s at None stays = (refl, inl stays)
no_turn_by_numbers heap old new s at (Some n) stays = tt

pub turn_by_numbers : (heap : HeapContent) (old new : FrameContent) (world : WorldRecord) (d : DomainId) (s : SegmentNo) (at : PlaceInCode)
    (o : Option ℕ) → IfSome o (λ (n : ℕ). GoesOnInFrame old new world.classes s at n)
    → IfSome o (λ (n : ℕ). TakesTurn heap heap old new world d s at n)
turn_by_numbers heap old new world d s at None did = tt
turn_by_numbers heap old new world d s at (Some n) did = inl (refl, did)
