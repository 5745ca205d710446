-- An instruction for which typing has a row is one on numbers, one on objects, or a call.
use Rattle.std.proofs.Common.{inl, inr, ◌≡◌, ℕ, suc, ◌<◌, ◌≤◌, ◌⊎◌, Bool, true, false, not, ◌==◌, ◌&&◌, ◌||◌, cond, nat_le, List, [], ◌∷◌, map, find, Some, refl, subst, arith}
use Rattle.std.specs.Prelude.{option_map}
use Rattle.std.specs.List.{range_with_len}
use Rattle.std.specs.Option.{unwrap_or}
use Rattle.std.proofs.lemmas.Bool.{eqb-true}
use Rattle.std.proofs.lemmas.Grind.{common_steps}
use Rattle.list_lemmas.proofs.ItemsByPlace.{agree_within}
use Rattle.jk_model.specs.Instructions.{Row as TableRow, format_among}
use Rattle.jk_model.specs.declared.instructions.Instr.{Instr}
use Rattle.jk_model_classes.specs.Items.{HasItem}
use Rattle.jk_model_typing.specs.declared.frames.FrameType.{FrameType}
use Rattle.jk_model_typing.specs.Groups.{Group, NoGroup, Shape, group_of, groups, has_group}
use Rattle.jk_model_typing.specs.Rows.{HasShape, Row}
use Rattle.jk_model_typing.specs.Scopes.{CodeScope}
use Rattle.jk_model_domains.specs.NumberRows.{IsOfNumbers, number_opcodes}
use Rattle.jk_model_call_rows.specs.CallRows.{IsOfCalls}
use Rattle.jk_model_heap_rows.specs.HeapRows.{IsOfHeaps, heap_opcodes}
use Rattle.row_laws.proofs.OpcodesByKind.{is_in}

-- ---- Opcodes of a table.

in_row : (rows : List (ℕ × ℕ)) (op : ℕ) → is_in rows op ≡ true → HasItem (λ (r : ℕ × ℕ). (r.0 ≤ op) × (op ≤ r.1)) rows
in_row [] op h = absurd cc
in_row (r ∷ rows) op h = by (nat_le r.0 op && nat_le op r.1) refl h (in_row rows op)
  where
    by : (b : Bool) → (nat_le r.0 op && nat_le op r.1) ≡ b → (b || is_in rows op) ≡ true
        → (is_in rows op ≡ true → HasItem (λ (x : ℕ × ℕ). (x.0 ≤ op) × (op ≤ x.1)) rows)
        → HasItem (λ (x : ℕ × ℕ). (x.0 ≤ op) × (op ≤ x.1)) (r ∷ rows)
    by true e h later = (0, r, refl, (grind (arith, common_steps), grind (arith, common_steps)))
    by false e h later = let row = later h in (suc row.0, row.1, row.2, row.3)

-- ---- No opcode is left out.

-- invokevirtual to invokeinterface
abbrev is_call : ℕ → Bool
is_call op = nat_le 0xb6 op && nat_le op 0xb9

is_known : ℕ → Bool
is_known op = not (has_group op) || (op == 0x13) || is_call op || is_in heap_opcodes op || is_in number_opcodes op

always : ℕ → Bool
always op = true

all_known : map is_known (range_with_len 0 256) ≡ map always (range_with_len 0 256)
unfolding is_known always
all_known = refl

abbrev IsOneOfKinds : ℕ → Type 0
IsOneOfKinds op =
    (op ≡ 0x13) ⊎ ((0xb6 ≤ op) × (op ≤ 0xb9)) ⊎ (is_in heap_opcodes op ≡ true) ⊎ (is_in number_opcodes op ≡ true)

between : (op : ℕ) → is_call op ≡ true → (0xb6 ≤ op) × (op ≤ 0xb9)
between op h = (grind (arith, common_steps), grind (arith, common_steps))

by_parts : (op : ℕ) (group ldc call heap number : Bool) → group ≡ true → (op == 0x13) ≡ ldc → is_call op ≡ call → is_in heap_opcodes op ≡ heap
    → is_in number_opcodes op ≡ number → (not group || ldc || call || heap || number) ≡ true → IsOneOfKinds op
by_parts op false ldc call heap number g a b c d h = absurd cc
by_parts op true true call heap number g a b c d h = inl (eqb-true op 0x13 a)
by_parts op true false true heap number g a b c d h = inr (inl (between op b))
by_parts op true false false true number g a b c d h = inr (inr (inl c))
by_parts op true false false false true g a b c d h = inr (inr (inr d))
by_parts op true false false false false g a b c d h = absurd cc

one_of_kinds : (op : ℕ) → op < 256 → has_group op ≡ true → IsOneOfKinds op
unfolding is_known always
one_of_kinds op lt group =
    by_parts op (has_group op) (op == 0x13) (is_call op) (is_in heap_opcodes op) (is_in number_opcodes op) group refl refl refl refl
    (agree_within is_known always true 256 op all_known lt)

-- ---- What has a row has a group, and its opcode is a byte.

abbrev is_group : Group → Bool
is_group group = elim group as (λ _. Bool) [ NoGroup ↦ false | _ ↦ true ]

group_there : (s : CodeScope) (i : Instr) (group : Group) (shape : Shape) → HasShape s i group shape → is_group group ≡ true
group_there s i NoGroup shape h = absurd h
group_there s i _ shape h = refl

-- each row of a table ends below 256
abbrev ends_low : List (TableRow Group) → Bool
ends_low [] = true
ends_low (r ∷ rows) = nat_le r.last 255 && ends_low rows

groups_end_low : ends_low groups ≡ true
groups_end_low = refl

first_part : (a b : Bool) → (a && b) ≡ true → a ≡ true
first_part true b h = refl
first_part false b h = absurd cc

second_part : (a b : Bool) → (a && b) ≡ true → b ≡ true
second_part true b h = h
second_part false b h = absurd cc

low_by : (rows : List (TableRow Group)) (op : ℕ) → ends_low rows ≡ true → is_group (format_among NoGroup rows op) ≡ true → op < 256
low_by [] op low has = absurd cc
low_by (r ∷ rows) op low has =
    by (nat_le r.first op && nat_le op r.last) refl has (low_by rows op (second_part (nat_le r.last 255) (ends_low rows) low))
  where
    by : (b : Bool) → (nat_le r.first op && nat_le op r.last) ≡ b
        → is_group (unwrap_or (option_map (λ (y : TableRow Group). y.format)
        (cond b (Some r) (find (λ (y : TableRow Group). nat_le y.first op && nat_le op y.last) rows))) NoGroup) ≡ true
        → (is_group (format_among NoGroup rows op) ≡ true → op < 256) → op < 256
    by true e h later =
        let last : nat_le r.last 255 ≡ true = first_part (nat_le r.last 255) (ends_low rows) low in
        let most : nat_le op r.last ≡ true = second_part (nat_le r.first op) (nat_le op r.last) e in
        grind (arith, common_steps)
    by false e h later = later h

opcode_low : (op : ℕ) → has_group op ≡ true → op < 256
opcode_low op h = low_by groups op groups_end_low h

-- ---- ldc loads an int or a text.

module _ (s : CodeScope) (place : ℕ) (i : Instr) (before after : FrameType) (row : Row s place i before after) where
  grouped : has_group i.op ≡ true
  grouped = group_there s i (group_of i.op) row.shape row.shape_is

  constant : i.op ≡ 0x13 → IsOfNumbers s i ⊎ IsOfHeaps s i
  constant op = elim (subst (λ (n : ℕ). HasShape s i (group_of n) row.shape) op row.shape_is) [
    | inl int ↦ inl (inr (op, (int.0, int.1)))
    | inr text ↦ inr (inr (op, (text.0, text.1)))
  ]

  pub kind_of : IsOfNumbers s i ⊎ IsOfHeaps s i ⊎ IsOfCalls i
  kind_of = elim (one_of_kinds i.op (opcode_low i.op grouped) grouped) [
    | inl ldc ↦ elim (constant ldc) [ inl number ↦ inl number | inr heap ↦ inr (inl heap) ]
    | inr (inl call) ↦ inr (inr call)
    | inr (inr (inl heap)) ↦ inr (inl (inl (in_row heap_opcodes i.op heap)))
    | inr (inr (inr number)) ↦ inl (inl (in_row number_opcodes i.op number))
  ]
