-- An instruction whose opcode is in the range of returns is one on numbers, where typing has a row for it, and needs no class: so a frame that
-- stands there may do it, and waits for none.
use Rattle.std.proofs.Common.{inl, inr, ◌<◌, ◌≤◌, ◌⊎◌, ℕ, IsTrue, lit<, arith}
use Rattle.std.specs.List.{AllByRecursion}
use Rattle.jk_model.proofs.EachItem.{all_at}
use Rattle.jk_model.specs.declared.identifiers.ClassId.{ClassId}
use Rattle.jk_model.specs.declared.instructions.Instr.{Instr}
use Rattle.jk_model_classes.specs.Worlds.{WorldRecord}
use Rattle.jk_model_domains.specs.NumberRows.{IsOfNumbers, number_opcodes}
use Rattle.jk_model_domains.specs.OwnStates.{OwnState}
use Rattle.jk_model_heap_rows.specs.HeapRows.{heap_opcodes}
use Rattle.jk_model_heaps.specs.RunningCode.{InstrNeeds}
use Rattle.jk_model_sharing.specs.SharedStates.{SharedState}
use Rattle.jk_model_typing.specs.Scopes.{CodeScope}
use Rattle.class_init.specs.KeptStates.{KeptState}
use Rattle.frame_store.specs.FrameContents.{FrameContent}
use Rattle.number_ops.specs.NumberSteps.{IsReady}
use Rattle.object_store.specs.HeapContents.{HeapContent}
use Rattle.step_contents.specs.Conditions.{MayDo}
use Rattle.step_contents.specs.Contents.{contents_of, here_at}
use Rattle.step_contents.specs.InstructionKinds.{HasRow}
use Rattle.step_contents.specs.OpcodeTests.{is_listed}
use Rattle.step_contents.specs.PlacesInCode.{PlaceInCode}
use Rattle.step_contents.specs.StandingTops.{StandsThere}
use Rattle.step_contents.proofs.KindsByOpcode.{listed_item, one_of_kinds, row_group}
use Rattle.segment_steps.specs.ActingSegments.{MayAct}
use Rattle.segment_steps.specs.StandingTops.{WaitsForNone}
use Rattle.segment_steps.specs.StepsAlone.{StandsReady}
use Rattle.segment_steps.specs.declared.meeting.Runs.{Runs}
use Rattle.segment_steps.proofs.NumbersBegin.{has_row, numbers_ready}
use Rattle.segment_steps.proofs.ReadyClasses.{stands_ready, waits_for_none}
use Rattle.segment_steps.proofs.StandingHere.{may_do}

-- ---- By its opcode.

-- the opcodes of a row are all below those of returns, or all above them
abbrev IsRowApart : ℕ × ℕ → Type 0
IsRowApart r = (r.1 < 0xac) ⊎ (0xb1 < r.0)

heaps_are_apart : AllByRecursion IsRowApart heap_opcodes
heaps_are_apart = (
  inl (lit< tt),
  (inl (lit< tt), (inl (lit< tt), (inl (lit< tt), (inr (lit< tt), (inr (lit< tt), (inr (lit< tt), tt)))))),
)

no_heap : (op : ℕ) → IsTrue (is_listed heap_opcodes op) → 0xac ≤ op → op ≤ 0xb1 → ⊥
no_heap op listed from to =
    let (k, r, there, within) = listed_item heap_opcodes op listed in
    elim (all_at IsRowApart heap_opcodes k r heaps_are_apart there) [
      | inl below ↦ absurd (omega (arith, below, within.1, from))
      | inr above ↦ absurd (omega (arith, above, within.0, to))
    ]

of_numbers : (at : PlaceInCode) → HasRow at → 0xac ≤ at.instr.op → at.instr.op ≤ 0xb1 → IsOfNumbers at.scope at.instr
of_numbers at row from to = elim (one_of_kinds at.instr.op (omega (arith, to)) (row_group at row)) [
  | inl ldc ↦ absurd (omega (arith, ldc, from))
  | inr (inl call) ↦ absurd (omega (arith, call.0, to))
  | inr (inr (inl heap)) ↦ absurd (no_heap at.instr.op heap from to)
  | inr (inr (inr number)) ↦ inl (listed_item number_opcodes at.instr.op number)
]

needs_none : (s : CodeScope) (i : Instr) → 0xac ≤ i.op → i.op ≤ 0xb1 → (c : ClassId) → InstrNeeds s i c → ⊥
needs_none s i from to c needs = elim needs [
  | inl field ↦ elim field.0 [ inl a ↦ absurd (omega (arith, to, a)) | inr b ↦ absurd (omega (arith, to, b)) ]
  | inr (inl method) ↦ absurd (omega (arith, to, method.0))
  | inr (inr named) ↦ absurd (omega (arith, to, named.0))
]

-- ---- Where a frame stands there.

module _ (frames : FrameContent) (world : WorldRecord) (r : Runs) (at : PlaceInCode) (st : StandsThere frames world.classes r.segment at)
    (from : 0xac ≤ at.instr.op) (to : at.instr.op ≤ 0xb1) where
  pub return_ready : (own : OwnState) → StandsReady frames world.classes own r at
  return_ready own = stands_ready frames world.classes own r at st (λ c needs. absurd (needs_none at.scope at.instr from to c needs))

  pub return_waits_for_none : (own : OwnState) → WaitsForNone frames world.classes r.segment own r.thread
  return_waits_for_none own = waits_for_none frames world.classes own r at (return_ready own)

  pub return_begins : (heaps : HeapContent) (own : KeptState) (shared : SharedState)
      → MayAct (contents_of heaps frames own) (here_at world shared r.domain r.segment)
      → IsReady frames world.classes r.segment at.head at.instr
  return_begins heaps own shared may =
      let doing : MayDo (contents_of heaps frames own) (here_at world shared r.domain r.segment) at =
      may_do (contents_of heaps frames own) world shared r at (return_ready own.state) may in
      numbers_ready doing (of_numbers at (has_row doing) from to)
