-- All entries so far are good.
use Rattle.std.proofs.Common.{take}
use Rattle.std.specs.List.{AllByRecursion}
use Rattle.jk_model.specs.ClassFile.{IsGoodEntry}
use Rattle.const_pool.proofs.judge.judge_pool.Given as goal

abbrev pub invariant-loop-i : goal.invariant-loop-i
invariant-loop-i l = AllByRecursion (IsGoodEntry l.pool) (take l.i l.pool)
