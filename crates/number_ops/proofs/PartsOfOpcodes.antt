-- The tests give each opcode a kind that it is of.
use Rattle.std.proofs.Common.{◌≡◌, ℕ, ◌<◌, Bool, true, map, refl, IsTrue}
use Rattle.std.specs.List.{range_with_len}
use Rattle.list_lemmas.proofs.ItemsByPlace.{agree_within}
use Rattle.number_ops.specs.Parts.{is_part, jump_part, local_part, number_part, part_at}

is_of_its_part : ℕ → Bool
is_of_its_part op = is_part op (part_at op)

always : ℕ → Bool
always op = true

all_parts : map is_of_its_part (range_with_len 0 256) ≡ map always (range_with_len 0 256)
unfolding is_of_its_part always local_part number_part jump_part part_at
all_parts = refl

pub has_part : (op : ℕ) → op < 256 → IsTrue (is_part op (part_at op))
unfolding is_of_its_part always
has_part op lt = agree_within is_of_its_part always true 256 op all_parts lt
