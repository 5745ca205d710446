-- An opcode for which typing has a row is that of ldc, of a call, or is listed among those on objects or those on numbers.
use Rattle.std.proofs.Common.{◌≡◌, ℕ, suc, ◌<◌, ◌≤◌, ◌⊎◌, Bool, true, false, not, ◌==◌, ◌&&◌, ◌||◌, nat_le, List, [], ◌∷◌, map, refl, subst, inl, inr, IsTrue, Some, slice_get, lit≤}
use Rattle.std.specs.List.{AllByRecursion, range_with_len}
use Rattle.std.proofs.lemmas.Bool.{eqb-true}
use Rattle.std.proofs.lemmas.Grind.{common_steps}
use Rattle.std.proofs.Common.{arith}
use Rattle.list_lemmas.proofs.ItemsByPlace.{agree_within}
use Rattle.jk_model.proofs.EachItem.{all_at}
use Rattle.jk_model.specs.declared.instructions.Instr.{Instr}
use Rattle.jk_model_classes.specs.declared.records.Link.TheVariants as To
use Rattle.jk_model_classes.specs.Items.{HasItem}
use Rattle.jk_model_typing.specs.Groups.{Group, Shape, NoGroup, group_of, has_group}
use Rattle.jk_model_typing.specs.Rows.{HasShape}
use Rattle.jk_model_typing.specs.Scopes.{CodeScope, LeadsToLink}
use Rattle.jk_model_domains.specs.NumberRows.{IsOfNumbers, number_opcodes}
use Rattle.jk_model_heap_rows.specs.HeapRows.{IsOfHeaps, heap_opcodes}
use Rattle.step_contents.specs.PlacesInCode.{PlaceInCode}
use Rattle.step_contents.specs.InstructionKinds.{HasRow, IsAccess, access_opcodes}
use Rattle.step_contents.specs.OpcodeTests.{is_listed}

-- ---- Opcodes of a table.

abbrev IsInRow : ℕ → ℕ × ℕ → Type 0
IsInRow op r = (r.0 ≤ op) × (op ≤ r.1)

pub listed_item : (rows : List (ℕ × ℕ)) (op : ℕ) → IsTrue (is_listed rows op) → HasItem (λ (r : ℕ × ℕ). (r.0 ≤ op) × (op ≤ r.1)) rows
listed_item [] op h = absurd cc
listed_item (r ∷ rows) op h = by (nat_le r.0 op && nat_le op r.1) refl h (listed_item rows op)
  where
    by : (b : Bool) → (nat_le r.0 op && nat_le op r.1) ≡ b → IsTrue (b || is_listed rows op) → (IsTrue (is_listed rows op) → HasItem (IsInRow op) rows)
        → HasItem (IsInRow op) (r ∷ rows)
    by true e h later = (0, r, refl, (grind (arith, common_steps), grind (arith, common_steps)))
    by false e h later = let row = later h in (suc row.0, row.1, row.2, row.3)

-- ---- No opcode is left out.

-- invokevirtual to invokeinterface
abbrev is_call : ℕ → Bool
is_call op = nat_le 0xb6 op && nat_le op 0xb9

is_known : ℕ → Bool
is_known op = not (has_group op) || (op == 0x13) || is_call op || is_listed heap_opcodes op || is_listed number_opcodes op

always : ℕ → Bool
always op = true

all_known : map is_known (range_with_len 0 256) ≡ map always (range_with_len 0 256)
unfolding is_known always
all_known = refl

abbrev pub IsOneOfKinds : ℕ → Type 0
IsOneOfKinds op =
    (op ≡ 0x13) ⊎ ((0xb6 ≤ op) × (op ≤ 0xb9)) ⊎ IsTrue (is_listed heap_opcodes op) ⊎ IsTrue (is_listed number_opcodes op)

between : (op : ℕ) → IsTrue (is_call op) → (0xb6 ≤ op) × (op ≤ 0xb9)
between op h = (grind (arith, common_steps), grind (arith, common_steps))

of_parts : (op : ℕ) (group ldc call heap number : Bool) → group ≡ true → (op == 0x13) ≡ ldc → is_call op ≡ call
    → is_listed heap_opcodes op ≡ heap → is_listed number_opcodes op ≡ number
    → (not group || ldc || call || heap || number) ≡ true → IsOneOfKinds op
of_parts op false ldc call heap number g a b c d h = absurd cc
of_parts op true true call heap number g a b c d h = inl (eqb-true op 0x13 a)
of_parts op true false true heap number g a b c d h = inr (inl (between op b))
of_parts op true false false true number g a b c d h = inr (inr (inl c))
of_parts op true false false false true g a b c d h = inr (inr (inr d))
of_parts op true false false false false g a b c d h = absurd cc

pub one_of_kinds : (op : ℕ) → op < 256 → has_group op ≡ true → IsOneOfKinds op
unfolding is_known always
one_of_kinds op lt group =
    of_parts op (has_group op) (op == 0x13) (is_call op) (is_listed heap_opcodes op) (is_listed number_opcodes op) group refl refl refl refl
    (agree_within is_known always true 256 op all_known lt)

-- ---- What has a row has a group.

abbrev is_group : Group → Bool
is_group group = elim group as (λ _. Bool) [ NoGroup ↦ false | _ ↦ true ]

group_there : (s : CodeScope) (i : Instr) (group : Group) (shape : Shape) → HasShape s i group shape → is_group group ≡ true
group_there s i NoGroup shape h = absurd h
group_there s i _ shape h = refl

pub row_group : (at : PlaceInCode) → HasRow at → has_group at.instr.op ≡ true
row_group at (before, after, row) = group_there at.scope at.instr (group_of at.instr.op) row.shape row.shape_is

-- ---- ldc loads an int where it loads no text.

pub constant_of_numbers : (at : PlaceInCode) → HasRow at → at.instr.op ≡ 0x13
    → ((text : List ℕ) → LeadsToLink at.scope at.instr (To.Text text) → ⊥) → IsOfNumbers at.scope at.instr
constant_of_numbers at (before, after, row) op none =
    elim (subst (λ (n : ℕ). HasShape at.scope at.instr (group_of n) row.shape) op row.shape_is) [
      | inl int ↦ inr (op, (int.0, int.1))
      | inr text ↦ absurd (none text.0 text.1)
    ]

-- ---- Of the others each is of one kind.

pub heap_opcode : (at : PlaceInCode) → IsTrue (is_listed heap_opcodes at.instr.op) → IsOfHeaps at.scope at.instr
heap_opcode at h = inl (listed_item heap_opcodes at.instr.op h)

pub number_opcode : (at : PlaceInCode) → HasRow at → at.instr.op < 256 → (at.instr.op ≡ 0x13 → ⊥)
    → ((0xb6 ≤ at.instr.op) × (at.instr.op ≤ 0xb9) → ⊥) → is_listed heap_opcodes at.instr.op ≡ false → IsOfNumbers at.scope at.instr
number_opcode at row lt no_ldc no_call no_heap = elim (one_of_kinds at.instr.op lt (row_group at row)) [
  | inl ldc ↦ absurd (no_ldc ldc)
  | inr (inl call) ↦ absurd (no_call call)
  | inr (inr (inl heap)) ↦ absurd cc
  | inr (inr (inr number)) ↦ inl (listed_item number_opcodes at.instr.op number)
]

-- ---- An access is one of those on objects.

-- a row of the table of opcodes on objects has all opcodes of a row
abbrev IsCovered : ℕ × ℕ → Type 0
IsCovered r = (place : ℕ) × (wide : ℕ × ℕ) × (slice_get heap_opcodes place ≡ Some wide) × (wide.0 ≤ r.0) × (r.1 ≤ wide.1)

accesses_are_covered : AllByRecursion IsCovered access_opcodes
accesses_are_covered = (
  (0, (0x2e, 0x2f), refl, lit≤ tt, lit≤ tt),
  (
    (1, (0x32, 0x35), refl, lit≤ tt, lit≤ tt),
    (
      (2, (0x4f, 0x50), refl, lit≤ tt, lit≤ tt),
      (
        (3, (0x53, 0x56), refl, lit≤ tt, lit≤ tt),
        ((4, (0xb2, 0xb5), refl, lit≤ tt, lit≤ tt), ((5, (0xbb, 0xc1), refl, lit≤ tt, lit≤ tt), tt)),
      ),
    ),
  ),
)

pub access_of_heaps : (at : PlaceInCode) → IsAccess at.instr.op → IsOfHeaps at.scope at.instr
access_of_heaps at access =
    let (k, r, there, within) = listed_item access_opcodes at.instr.op access in
    let (place, wide, is, low, high) = all_at IsCovered access_opcodes k r accesses_are_covered there in
    inl (place, wide, is, (omega (arith, low, within.0), omega (arith, within.1, high)))
