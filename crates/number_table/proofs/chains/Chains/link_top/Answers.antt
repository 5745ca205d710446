-- The move keeps the chains.
use Rattle.std.proofs.Common.{arith, ap, subst, sym}
use Rattle.std.proofs.lemmas.List.{get_or_read}
use Rattle.number_table.specs.Chains.{no_stack, no_node, stack_at, JumpsFrom}
use Rattle.number_table.specs.declared.chains.Stack.{Stack}
use Rattle.number_table.proofs.MovesKeepChains.{count_le, move_is, moves, chains_new}
use Rattle.number_table.proofs.chains.Chains.link_top.Goals as goal

pub overflow_add-under : goal.overflow_add-under
overflow_add-under c =
    let s = c.args.self.now in
    let is = get_or_read s.stacks.items _ _ c.requires.to_there c.index-under.ensures no_stack in
    omega (arith, count_le s.nodes.items s.stacks.items c.args.to s.ok c.requires.to_there, s.ok.few, ap (λ (x : Stack). x.count) is)

pub invariant_of-self : goal.invariant_of-self
invariant_of-self c =
    let s = c.args.self.now in
    let t = get_or_read s.stacks.items _ _ c.requires.from_there c.index-taken.ensures no_stack in
    let top = s.ok.top c.args.from c.requires.from_there c.requires.some in
    let u = get_or_read s.stacks.items _ _ c.requires.to_there c.index-under.ensures no_stack in
    let Under : Stack → Type 0 = λ k. JumpsFrom s.nodes.items k c.index-taken.result.now.top c.args.jump in
    let Taken : Stack → Type 0 = λ k. JumpsFrom s.nodes.items (stack_at s.stacks.items c.args.to) k.top c.args.jump in
    let m =
    move_is s.nodes.items s.stacks.items c.args.from c.args.to c.args.jump c.index-taken.result.now
    c.index-under.result.now c.index.result.now s.ok c.requires.from_there c.requires.to_there c.requires.apart c.requires.some
    t
    u
    (get_or_read s.nodes.items _ _ (omega (arith, top.0, ap (λ (x : Stack). x.top) t)) c.index.ensures no_node)
    (subst Under (sym u) (subst Taken (sym t) c.requires.jumps)) in
    record { ok = chains_new _ _ _ _ _ _ _ _ m }

pub returns-clause-moves : goal.returns-clause-moves
returns-clause-moves c =
    let s = c.args.self.now in
    let t = get_or_read s.stacks.items _ _ c.requires.from_there c.index-taken.ensures no_stack in
    let top = s.ok.top c.args.from c.requires.from_there c.requires.some in
    let u = get_or_read s.stacks.items _ _ c.requires.to_there c.index-under.ensures no_stack in
    let Under : Stack → Type 0 = λ k. JumpsFrom s.nodes.items k c.index-taken.result.now.top c.args.jump in
    let Taken : Stack → Type 0 = λ k. JumpsFrom s.nodes.items (stack_at s.stacks.items c.args.to) k.top c.args.jump in
    let m =
    move_is s.nodes.items s.stacks.items c.args.from c.args.to c.args.jump c.index-taken.result.now
    c.index-under.result.now c.index.result.now s.ok c.requires.from_there c.requires.to_there c.requires.apart c.requires.some
    t
    u
    (get_or_read s.nodes.items _ _ (omega (arith, top.0, ap (λ (x : Stack). x.top) t)) c.index.ensures no_node)
    (subst Under (sym u) (subst Taken (sym t) c.requires.jumps)) in
    moves s _ _ _ _ _ m
