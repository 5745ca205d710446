-- The tests of the code give each opcode the format that the table of the definitions gives it.
use Rattle.std.proofs.Common.{◌≡◌, ℕ, ◌<◌, map, refl}
use Rattle.std.specs.List.{range_with_len}
use Rattle.list_lemmas.proofs.ItemsByPlace.{agree_within as agree}
use Rattle.jk_model.specs.Instructions.{Format, format_of, WideFormat, wide_format_of}
use Rattle.jk_opcodes.specs.Formats.{constant_format, local_format, number_format, other_format, format_at, wide_format_at}

all_formats : map format_at (range_with_len 0 256) ≡ map format_of (range_with_len 0 256)
unfolding format_at constant_format local_format number_format other_format
all_formats = refl

pub same_format : (op : ℕ) → op < 256 → format_at op ≡ format_of op
same_format op lt = agree format_at format_of Format.NoOpcode 256 op all_formats lt

all_wide_formats : map wide_format_at (range_with_len 0 256) ≡ map wide_format_of (range_with_len 0 256)
unfolding wide_format_at
all_wide_formats = refl

pub same_wide_format : (op : ℕ) → op < 256 → wide_format_at op ≡ wide_format_of op
same_wide_format op lt = agree wide_format_at wide_format_of WideFormat.NotWide 256 op all_wide_formats lt
