-- What is written for the operands of an instruction: the index of a constant, or offsets to labels.
use Rattle.std.specs.Prelude.{◌≡◌, ℕ, ◌∷◌, ◌++◌, ℤ, pos, ◌-ℤ◌, IsSome, List, [], length, flat_map, replicate, Option, Some, None, min, unwrap_or}
use Rattle.std.specs.Int.{w16, w32, cast_unsigned}
use Rattle.std.specs.List.{AllByRecursion}
use Rattle.jk_model.specs.declared.class_file.PoolEntry.{PoolEntry}
use Rattle.jk_model.specs.declared.opcodes.TheConstants.{LOOKUPSWITCH}
use Rattle.jk_model.specs.ClassFile.{u2, u4}
use Rattle.jk_model.specs.Instructions.{gap}
use Rattle.asm_reader.specs.declared.items.CodeLine.{CodeLine}
use Rattle.asm_reader.specs.declared.items.MemberKind.{MemberKind}
use Rattle.asm_reader.specs.declared.items.MemberKind.TheVariants.{InterfaceMethod}
use Rattle.asm_reader.specs.declared.items.SwitchLine.{SwitchLine}
use Rattle.jkasm.specs.CodePlaces.{label_place, IsOffset, IsShortOffset}
use Rattle.jkasm.specs.Constants.{PoolConstant, Says}
use Rattle.jkasm.specs.Labels.{FAR}

-- ---- Constants.

-- After a code stand an opcode, the index of an entry that says this, and more bytes.
pub record HasIndex (pool : List PoolEntry) (old new : List ℕ) (op : ℕ) (constant : PoolConstant) (more : List ℕ) : Type 0 where
  pub index : ℕ
  pub says : Says pool index constant
  pub appended : new ≡ old ++ (op ∷ u2 index ++ more)

-- the count and the zero of invokeinterface
abbrev pub member_end : MemberKind → List ℕ
member_end InterfaceMethod = 1 ∷ 0 ∷ []
member_end kind = []

-- ---- Labels. A place that no code has counts as FAR.

-- the offset from a place to that of a label, where it has one
abbrev pub known_offset : ℕ → Option ℕ → Option ℤ
known_offset at None = None
known_offset at (Some place) = Some (pos (min place FAR) -ℤ pos at)

-- an offset in four bytes
abbrev pub offset_bytes : List CodeLine → ℕ → List ℕ → List ℕ
offset_bytes codes at label = u4 (cast_unsigned w32 (unwrap_or (known_offset at (label_place 0 codes label)) (pos 0)))

-- a key, and an offset
abbrev pub case_bytes : List CodeLine → ℕ → SwitchLine → List ℕ
case_bytes codes at c = u4 (cast_unsigned w32 c.key) ++ offset_bytes codes at c.label

-- lookupswitch, whose opcode stands at this place
abbrev pub switch_bytes : List CodeLine → ℕ → List ℕ → List SwitchLine → List ℕ
switch_bytes codes at default cases =
    LOOKUPSWITCH ∷ replicate (gap at) 0 ++ offset_bytes codes at default ++ u4 (length cases) ++ flat_map (case_bytes codes at) cases

-- the labels of these cases stand in a code of these lines
abbrev pub DoStand : List CodeLine → List SwitchLine → Type 0
DoStand codes cases = AllByRecursion (λ (c : SwitchLine). IsSome (label_place 0 codes c.label)) cases

-- After a code stands a jump to a label, which 16 bits reach.
pub record JumpsTo (codes : List CodeLine) (at : ℕ) (old new : List ℕ) (op : ℕ) (label : List ℕ) : Type 0 where
  pub offset : ℤ
  pub is_offset : IsOffset codes at label offset
  pub short : IsShortOffset offset
  pub appended : new ≡ old ++ op ∷ u2 (cast_unsigned w16 offset)
