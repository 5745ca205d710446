-- The tests of the code give each opcode the group that the table of the definitions gives it.
use Rattle.std.proofs.Common.{◌≡◌, ℕ, ◌<◌, map, refl}
use Rattle.std.specs.List.{range_with_len}
use Rattle.list_lemmas.proofs.ItemsByPlace.{agree_within as agree}
use Rattle.jk_model_typing.specs.Groups.{NoGroup, group_of}
use Rattle.type_rows.specs.OpcodeGroups.{local_group, element_group, stack_group, number_group, jump_group, object_group, group_at}

all_groups : map group_at (range_with_len 0 256) ≡ map group_of (range_with_len 0 256)
unfolding local_group element_group stack_group number_group jump_group object_group group_at
all_groups = refl

pub same_group : (op : ℕ) → op < 256 → group_at op ≡ group_of op
same_group op lt = agree group_at group_of NoGroup 256 op all_groups lt
