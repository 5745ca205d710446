-- The words from `from` up to `at` are cleared.
use Rattle.std.proofs.Common.{◌≡◌, ◌+◌, ◌≤◌, ◌++◌, Some, ℕ, length, take, drop, replicate}
use Rattle.word_pool.proofs.pool.WordPool.clear.Given as goal

abbrev pub invariant-loop-at : goal.invariant-loop-at
invariant-loop-at l =
    let now = l.self-inside.block.content in let old = l.initial.self-inside.block.content in
    (l.at ≤ l.fn.from + l.fn.len) × (length now ≡ length old)
    × ((n : ℕ) × (l.at ≡ l.fn.from + n) × (now ≡ take l.fn.from old ++ replicate n (Some 0) ++ drop l.at old))
