-- The bytes that instructions are written as.
use Rattle.std.specs.Prelude.{◌≡◌, ℕ, ◌+◌, ◌&&◌, ℤ, List, [], ◌∷◌, ◌++◌, length, replicate, Option, Some, None, if◌then◌else◌}
use Rattle.std.specs.Int.{w8, w16, w32, cast_unsigned}
use Rattle.jk_model.specs.declared.class_file.PoolEntry.{PoolEntry}
use Rattle.jk_model.specs.declared.opcodes.TheConstants.{SIPUSH, LDC_W, LDC2_W, IINC, LOOKUPSWITCH, NEWARRAY, WIDE, MULTIANEWARRAY}
use Rattle.jk_model.specs.ClassFile.{u2, u4}
use Rattle.jk_model.specs.Instructions.{gap}
use Rattle.asm_reader.specs.declared.items.CodeLine.{CodeLine}
use Rattle.asm_reader.specs.declared.items.Constant.{Constant}
use Rattle.asm_reader.specs.declared.items.Constant.TheVariants.{Long}
use Rattle.asm_reader.specs.declared.items.MemberKind.TheVariants.{InterfaceMethod}
use Rattle.asm_reader.specs.declared.items.Statement.{Statement}
use Rattle.asm_reader.specs.declared.items.Statement.TheVariants.{Simple, Push, Load, OnLocal, Increment, Jump, OnMember, OnClass, NewArray, NewArrays, Switch}
use Rattle.asm_reader.specs.declared.items.SwitchLine.{SwitchLine}
use Rattle.jkasm.specs.CodePlaces.{is_byte, is_byte_step, line_size, IsOffset, IsShortOffset}
use Rattle.jkasm.specs.Constants.{Value, Reference, Says, ClassAt}

-- ldc2_w for a long, and ldc_w for all else
abbrev pub load_op : Constant → ℕ
load_op (Long n) = LDC2_W
load_op constant = LDC_W

-- keys and offsets of a switch whose opcode stands at this place
abbrev pub AreCasesWritten : List CodeLine → ℕ → List SwitchLine → List ℕ → Type 0
AreCasesWritten codes at [] bytes = bytes ≡ []
AreCasesWritten codes at (c ∷ cases) bytes =
    (offset : ℤ) × (rest : List ℕ) × IsOffset codes at c.label offset × AreCasesWritten codes at cases rest
    × (bytes ≡ u4 (cast_unsigned w32 c.key) ++ u4 (cast_unsigned w32 offset) ++ rest)

-- The bytes of an instruction whose opcode stands at this place, in a code of these lines. The count of
-- invokeinterface is 1, and the gap of a switch is filled with zeros.
abbrev pub IsWritten : List PoolEntry → List CodeLine → ℕ → Statement → List ℕ → Type 0
IsWritten pool codes at (Simple op) bytes = bytes ≡ op ∷ []
IsWritten pool codes at (Push n) bytes = bytes ≡ SIPUSH ∷ u2 (cast_unsigned w16 n)
IsWritten pool codes at (Load constant) bytes =
    (i : ℕ) × Says pool i (Value constant) × (bytes ≡ load_op constant ∷ u2 i)
IsWritten pool codes at (OnLocal op local) bytes =
    bytes ≡ (if is_byte local then op ∷ local ∷ [] else WIDE ∷ op ∷ u2 local)
IsWritten pool codes at (Increment local step) bytes =
    bytes ≡ (if is_byte local && is_byte_step step then IINC ∷ local ∷ cast_unsigned w8 step ∷ []
    else WIDE ∷ IINC ∷ u2 local ++ u2 (cast_unsigned w16 step))
IsWritten pool codes at (Jump op label) bytes =
    (offset : ℤ) × IsOffset codes at label offset × IsShortOffset offset × (bytes ≡ op ∷ u2 (cast_unsigned w16 offset))
IsWritten pool codes at (OnMember op InterfaceMethod class name descriptor) bytes =
    (i : ℕ) × Says pool i (Reference InterfaceMethod class name descriptor) × (bytes ≡ op ∷ u2 i ++ 1 ∷ 0 ∷ [])
IsWritten pool codes at (OnMember op kind class name descriptor) bytes =
    (i : ℕ) × Says pool i (Reference kind class name descriptor) × (bytes ≡ op ∷ u2 i)
IsWritten pool codes at (OnClass op class) bytes = (i : ℕ) × ClassAt pool i class × (bytes ≡ op ∷ u2 i)
IsWritten pool codes at (NewArray kind) bytes = bytes ≡ NEWARRAY ∷ kind ∷ []
IsWritten pool codes at (NewArrays class dims) bytes =
    (i : ℕ) × ClassAt pool i class × (bytes ≡ MULTIANEWARRAY ∷ u2 i ++ dims ∷ [])
IsWritten pool codes at (Switch default cases) bytes =
    (offset : ℤ) × (rest : List ℕ) × IsOffset codes at default offset × AreCasesWritten codes at cases rest
    × (bytes ≡ LOOKUPSWITCH ∷ replicate (gap at) 0 ++ u4 (cast_unsigned w32 offset) ++ u4 (length cases) ++ rest)

-- the bytes of a line: of its instruction, or none
abbrev pub IsLineWritten : List PoolEntry → List CodeLine → ℕ → Option Statement → List ℕ → Type 0
IsLineWritten pool codes at None bytes = bytes ≡ []
IsLineWritten pool codes at (Some statement) bytes = IsWritten pool codes at statement bytes

-- the bytes of lines that begin at this place, in a code of all these lines
abbrev pub AreWritten : List PoolEntry → List CodeLine → ℕ → List CodeLine → List ℕ → Type 0
AreWritten pool codes at [] bytes = bytes ≡ []
AreWritten pool codes at (line ∷ lines) bytes =
    (front : List ℕ) × (rest : List ℕ) × IsLineWritten pool codes at line.statement front × (bytes ≡ front ++ rest)
    × AreWritten pool codes (at + line_size at line.statement) lines rest
