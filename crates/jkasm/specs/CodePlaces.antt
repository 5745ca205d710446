-- How many bytes an instruction takes, and the places that labels stand for.
use Rattle.std.specs.Prelude.{◌≡◌, ℕ, ◌+◌, ◌*◌, ◌&&◌, ℤ, pos, negsuc, ◌-ℤ◌, ◌≤ℤ◌, int_le, Bool, false, List, [], ◌∷◌, length, Option, Some, None, nat_lt, bytes_eq, if◌then◌else◌}
use Rattle.jk_model.specs.Instructions.{gap}
use Rattle.asm_reader.specs.declared.items.CodeLine.{CodeLine}
use Rattle.asm_reader.specs.declared.items.MemberKind.TheVariants.{InterfaceMethod}
use Rattle.asm_reader.specs.declared.items.Statement.{Statement}
use Rattle.asm_reader.specs.declared.items.Statement.TheVariants.{Simple, Push, Load, OnLocal, Increment, Jump, OnMember, OnClass, NewArray, NewArrays, Switch}

-- ---- Sizes. `wide` stands exactly where an operand needs it.

abbrev pub is_byte : ℕ → Bool
is_byte n = nat_lt n 256

abbrev pub is_byte_step : ℤ → Bool
is_byte_step n = int_le (negsuc 127) n && int_le n (pos 127)

-- how many bytes an instruction takes whose opcode stands at this place
abbrev pub statement_size : ℕ → Statement → ℕ
statement_size at (Simple op) = 1
statement_size at (Push n) = 3
statement_size at (Load constant) = 3
statement_size at (OnLocal op local) = if is_byte local then 2 else 4
statement_size at (Increment local step) = if is_byte local && is_byte_step step then 3 else 6
statement_size at (Jump op label) = 3
statement_size at (OnMember op InterfaceMethod class name descriptor) = 5
statement_size at (OnMember op kind class name descriptor) = 3
statement_size at (OnClass op class) = 3
statement_size at (NewArray kind) = 2
statement_size at (NewArrays class dims) = 4
statement_size at (Switch default cases) = 9 + gap at + 8 * length cases

abbrev pub line_size : ℕ → Option Statement → ℕ
line_size at None = 0
line_size at (Some statement) = statement_size at statement

-- the place after these lines, from a place on
abbrev pub place_after : ℕ → List CodeLine → ℕ
place_after at [] = at
place_after at (line ∷ lines) = place_after (at + line_size at line.statement) lines

-- ---- Labels.

abbrev pub is_label : Option (List ℕ) → List ℕ → Bool
is_label None label = false
is_label (Some own) label = bytes_eq own label

-- the place that a label stands for, in lines that begin at this place
abbrev pub label_place : ℕ → List CodeLine → List ℕ → Option ℕ
label_place at [] label = None
label_place at (line ∷ lines) label =
    if is_label line.label label then Some at else label_place (at + line_size at line.statement) lines label

-- so many bytes of an offset from a place to a label
abbrev pub IsOffset : List CodeLine → ℕ → List ℕ → ℤ → Type 0
IsOffset codes at label offset = (place : ℕ) × (label_place 0 codes label ≡ Some place) × (offset ≡ pos place -ℤ pos at)

-- one of 16 bits
abbrev pub IsShortOffset : ℤ → Type 0
IsShortOffset offset = (negsuc 32767 ≤ℤ offset) × (offset ≤ℤ pos 32767)
