-- The node at which the walk ends is at the position.
use Rattle.std.proofs.Common.{arith, sym, ap}
use Rattle.std.proofs.lemmas.List.{get_or_read}
use Rattle.number_table.specs.Chains.{no_node}
use Rattle.number_table.specs.declared.chains.Node.{Node}
use Rattle.number_table.proofs.NodeOfAKey.{place_of-at}
use Rattle.number_table.proofs.chains.Chains.at.Goals as goal

pub returns-clause-at : goal.returns-clause-at
returns-clause-at c =
    let i = c.loop-number.invariant in
    let s = c.args.self.now in
    let is = get_or_read s.nodes.items _ _ i.0 c.index-in-loop-number.ensures no_node in
    sym (place_of-at s.nodes.items c.loop-number.number c.args.stack c.args.position s.ok.apart
    (record { within = i.0; stack = i.1; position = omega (arith, i.2, c.loop-number-test.false, ap (λ (x : Node). x.position) is) }))
