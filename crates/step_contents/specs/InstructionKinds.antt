-- Which of the step crates does an instruction, and which instructions are accesses of elements and fields.
use Rattle.std.specs.Prelude.{ℕ, IsTrue, List, [], ◌∷◌}
use Rattle.jk_model.specs.declared.opcodes.TheConstants.{AALOAD, ARRAYLENGTH, BASTORE, GETFIELD, IALOAD, IASTORE, LALOAD, LASTORE, PUTFIELD, SALOAD, SASTORE}
use Rattle.jk_model_typing.specs.declared.frames.FrameType.{FrameType}
use Rattle.jk_model_typing.specs.Rows.{Row}
use Rattle.jk_model_domains.specs.NumberRows.{IsOfNumbers}
use Rattle.jk_model_call_rows.specs.CallRows.{IsOfCalls}
use Rattle.jk_model_heap_rows.specs.HeapRows.{IsOfHeaps}
use Rattle.step_contents.specs.OpcodeTests.{is_listed}
use Rattle.step_contents.specs.PlacesInCode.{PlaceInCode}
use Rattle.step_contents.specs.declared.kinds.Kind.{Kind}
use Rattle.step_contents.specs.declared.kinds.Kind.TheVariants as Of

-- typing has a row for the instruction there
abbrev pub HasRow : PlaceInCode → Type 0
HasRow at = (before : FrameType) × (after : FrameType) × Row at.scope at.head.at at.instr before after

-- the instruction is of these rows, and of no other's
abbrev pub IsOfKind : PlaceInCode → Kind → Type 0
IsOfKind at Of.Numbers = IsOfNumbers at.scope at.instr
IsOfKind at Of.Heap = IsOfHeaps at.scope at.instr
IsOfKind at Of.Call = IsOfCalls at.instr

-- iaload, laload; aaload to saload; iastore, lastore; bastore to sastore; getfield, putfield; arraylength
abbrev pub access_opcodes : List (ℕ × ℕ)
access_opcodes =
    (IALOAD, LALOAD) ∷ (AALOAD, SALOAD) ∷ (IASTORE, LASTORE) ∷ (BASTORE, SASTORE) ∷ (GETFIELD, PUTFIELD) ∷ (ARRAYLENGTH, ARRAYLENGTH) ∷ []

-- The opcode is that of an access: it loads an element of an array or stores a number into one, takes an array's length, or gets or puts
-- a field of an object.
abbrev pub IsAccess : ℕ → Type 0
IsAccess op = IsTrue (is_listed access_opcodes op)
