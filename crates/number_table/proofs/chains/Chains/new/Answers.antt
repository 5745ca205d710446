-- All nodes are free at first.
use Rattle.std.proofs.Common.{◌<◌, ◌^◌, arith}
use Rattle.number_table.proofs.FreeChains.{free_chains}
use Rattle.number_table.proofs.chains.Chains.new.Goals as goal

pub invariant_of-result : goal.invariant_of-result
invariant_of-result c =
    let free = c.in_ok-nodes.ensures.free in
    let few : c.args.size < 2 ^ 63 = omega (arith, free.size, c.in_ok-nodes.ensures.few) in
    record { ok = free_chains _ _ c.args.size c.args.last few c.requires.few_stacks free c.in_ok-stacks.ensures }
