-- What an instruction on numbers finds in the top frame, by what the typing of instructions asks of it; and which instructions
-- do what to the operand stack.
use Rattle.std.specs.Prelude.{◌≡◌, ℕ, ◌+◌, ◌⊎◌, ⊤, Bool, ℤ, pos, List, [], ◌∷◌, ◌++◌, length, map, Option, Some}
use Rattle.jk_model.specs.declared.identifiers.SegmentNo.{SegmentNo}
use Rattle.jk_model.specs.declared.instructions.Instr.{Instr}
use Rattle.jk_model.specs.declared.values.Value.{Value}
use Rattle.jk_model.specs.declared.values.Value.TheVariants as Held
use Rattle.jk_model.specs.declared.instructions.SwitchCase.{SwitchCase}
use Rattle.jk_model.specs.declared.identifiers.MemberId.{MemberId}
use Rattle.jk_model.specs.declared.opcodes.TheConstants.{LDC_W, LDC2_W}
use Rattle.jk_model_classes.specs.declared.records.ClassRecord.{ClassRecord}
use Rattle.jk_model_classes.specs.declared.records.Link.TheVariants as To
use Rattle.jk_model_typing.specs.Scopes.{CodeScope, IsScopeOf, LeadsToLink}
use Rattle.jk_model_typing.specs.Groups.{Group, Shape, Always, LoadsLocal, StoresLocal, IncrementsLocal, LoadsConstant, LoadsLong, ReturnsInt, ReturnsLong, ReturnsReference, Takes, Drops, Copies, Swaps}
use Rattle.jk_model_domains.specs.NumberRows.{Calculates, DividesByZero, Decides, Moves, values_slots, value_slots}
use Rattle.frame_store.specs.FrameContents.{FrameContent}
use Rattle.number_laws.specs.KnownValues.{AreMet}
use Rattle.number_ops.specs.TopChanges.{HasInLocal, HasLocals, OnTop, OnTopWithRoom, Turns}

-- what a shape that works on the stack finds there
abbrev pub FindsShape : FrameContent → SegmentNo → Shape → Type 0
FindsShape c s (Takes demands gives) =
    (taken : List Value) × AreMet demands taken × OnTopWithRoom c s taken (length gives)
FindsShape c s (Drops n) = (taken : List Value) × (values_slots taken ≡ n) × OnTop c s taken
FindsShape c s (Copies below top) =
    (skipped : List Value) × (copied : List Value) × (values_slots skipped ≡ below) × (values_slots copied ≡ top)
    × OnTopWithRoom c s (skipped ++ copied) (length copied + length skipped + length copied)
FindsShape c s Swaps =
    (v : Value) × (w : Value) × (value_slots v ≡ 1) × (value_slots w ≡ 1) × OnTopWithRoom c s (v ∷ w ∷ []) 2
FindsShape c s _ = ⊤

abbrev pub FindsValue : FrameContent → SegmentNo → Type 0
FindsValue c s = (v : Value) × OnTop c s (v ∷ [])

abbrev pub Finds : FrameContent → SegmentNo → Instr → Group → Type 0
Finds c s i (Always shape) = FindsShape c s shape
Finds c s i (LoadsLocal demand) = (n : ℕ) × (v : Value) × (i.a ≡ pos n) × HasInLocal c s n v × OnTopWithRoom c s [] 1
Finds c s i (StoresLocal demand) =
    (n : ℕ) × (v : Value) × (i.a ≡ pos n) × OnTop c s (v ∷ []) × HasLocals c s (n + value_slots v)
Finds c s i IncrementsLocal = (n : ℕ) × (x : ℤ) × (i.a ≡ pos n) × HasInLocal c s n (Held.Int x)
Finds c s i LoadsConstant = OnTopWithRoom c s [] 1
Finds c s i LoadsLong = OnTopWithRoom c s [] 1
Finds c s i ReturnsInt = FindsValue c s
Finds c s i ReturnsLong = FindsValue c s
Finds c s i ReturnsReference = FindsValue c s
Finds c s i _ = ⊤

-- ---- Changes.

-- the stack was changed as pop, pop2, swap or a dup says
abbrev pub Moved : FrameContent → FrameContent → SegmentNo → ℕ → Type 0
Moved old new s op = (taken : List Value) × (pushed : List Value) × Moves op taken pushed × Turns old new s taken pushed

-- the stack was changed as an instruction of arithmetic says
abbrev pub Calculated : FrameContent → FrameContent → SegmentNo → ℕ → Type 0
Calculated old new s op =
    (taken : List Value) × (pushed : List Value) × Calculates op taken pushed × Turns old new s taken pushed

-- it would divide by 0, and nothing changed
abbrev pub Refused : FrameContent → FrameContent → SegmentNo → ℕ → Type 0
Refused old new s op = (taken : List Value) × DividesByZero op taken × OnTop old s taken × (new ≡ old)

-- a jump took its operands, and holds or not
abbrev pub Decided : FrameContent → FrameContent → SegmentNo → ℕ → Bool → Type 0
Decided old new s op holds = (taken : List Value) × Decides op taken holds × Turns old new s taken []

-- ---- Constants.

-- What ldc and ldc2_w find in the pool of the class of the method that the frame runs.
pub record HasConstant (classes : List ClassRecord) (method : Option MemberId) (i : Instr) : Type 0 where
  pub member : MemberId
  pub method_is : method ≡ Some member
  pub scope : CodeScope
  pub scope_is : IsScopeOf classes member scope
  pub int : i.op ≡ LDC_W → (n : ℤ) × LeadsToLink scope i (To.Int n)
  pub long : i.op ≡ LDC2_W → (n : ℤ) × LeadsToLink scope i (To.Long n)

-- the value of a constant of the pool to which the instruction's operand leads
abbrev pub IsLinked : CodeScope → Instr → Value → Type 0
IsLinked scope i (Held.Int n) = LeadsToLink scope i (To.Int n)
IsLinked scope i (Held.Long n) = LeadsToLink scope i (To.Long n)
IsLinked scope i _ = ⊥

-- ldc and ldc2_w push a constant of the pool
abbrev pub HasNumber : CodeScope → Instr → Type 0
HasNumber scope i = ((n : ℤ) × LeadsToLink scope i (To.Int n)) ⊎ ((n : ℤ) × LeadsToLink scope i (To.Long n))

-- ---- Switches.

abbrev pub keys_of : List SwitchCase → List ℤ
keys_of cases = map (λ (c : SwitchCase). c.key) cases
