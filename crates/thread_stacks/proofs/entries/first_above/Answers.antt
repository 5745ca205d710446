-- Numbers rise: those up to the one asked for are in front.
use Rattle.std.proofs.Common.{nat_le, rules}
use Rattle.std.proofs.lemmas.List.Sorted.{IsPartitionPoint-from_clause, IsPartitionedBy-leb}
use Rattle.thread_stacks.specs.declared.entries.ThreadEntry.{ThreadEntry}
use Rattle.thread_stacks.specs.Stacks.{thread_key}
use Rattle.thread_stacks.proofs.ItemsByKey.{non_decreasing}
use Rattle.thread_stacks.proofs.NextEntry.{starts}
use Rattle.thread_stacks.proofs.entries.first_above.Goals as goal

pub returns : goal.returns
returns c =
    let es = c.args.entries.now in
    let start = c.partition_point.result in
    let point =
    IsPartitionPoint-from_clause (λ (e : ThreadEntry). nat_le e.number c.args.above) es start c.partition_point.ensures.partitioned
    (IsPartitionedBy-leb thread_key es c.args.above (non_decreasing thread_key es c.requires)) (λ a r g h. search rules) in
    starts es c.args.above start c.partition_point.ensures.bound point.0 point.1
