-- The second link is the one that a node on top may have.
use Rattle.std.proofs.Common.{List, subst}
use Rattle.std.proofs.lemmas.List.{get_or_read}
use Rattle.number_table.specs.Chains.{no_stack, stack_at, JumpsFrom}
use Rattle.number_table.specs.declared.chains.Node.{Node}
use Rattle.number_table.specs.declared.chains.Stack.{Stack}
use Rattle.number_table.proofs.chains.Chains.move_top.Goals as goal

pub link_top-requires-clause-jumps : goal.link_top-requires-clause-jumps
link_top-requires-clause-jumps c =
    let s = c.args.self.now in
    let jump = c.jump_above-jump.result in
    let t = get_or_read s.stacks.items _ _ c.requires.from_there c.index.ensures no_stack in
    let u = get_or_read s.stacks.items _ _ c.requires.to_there c.index-under.ensures no_stack in
    let Nodes : List Node → Type 0 = λ xs. JumpsFrom xs c.index-under.result.now c.index.result.now.top jump in
    let Under : Stack → Type 0 = λ k. JumpsFrom s.nodes.items k c.index.result.now.top jump in
    let Taken : Stack → Type 0 = λ k. JumpsFrom s.nodes.items (stack_at s.stacks.items c.args.to) k.top jump in
    subst Taken t (subst Under u (subst Nodes c.as_slice.ensures.value c.jump_above-jump.ensures))
