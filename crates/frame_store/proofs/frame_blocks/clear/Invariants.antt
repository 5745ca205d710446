-- The first values of the block are unset.
use Rattle.std.proofs.Common.{◌≡◌, ◌+◌, ◌*◌, ◌<◌, ◌≤◌, ℕ, length, get_or}
use Rattle.jk_model.specs.declared.values.Value.TheVariants.{Unset}
use Rattle.frame_store.proofs.frame_blocks.clear.Given as goal

abbrev pub invariant-loop-k : goal.invariant-loop-k
invariant-loop-k l =
    (l.start ≡ 20 * l.block)
    × (length l.values.items ≡ length l.initial.values.items)
    × ((j : ℕ) → j < l.k → get_or l.values.items (l.start + j) Unset ≡ Unset)
    × ((j : ℕ) → j < 20 * l.block → get_or l.values.items j Unset ≡ get_or l.initial.values.items j Unset)
    × ((j : ℕ) → 20 * l.block + 20 ≤ j → get_or l.values.items j Unset ≡ get_or l.initial.values.items j Unset)
