-- The top node is at the highest position.
use Rattle.std.proofs.Common.{◌∙◌, ◌-◌, arith, sym, ap}
use Rattle.std.proofs.lemmas.List.{get_or_read}
use Rattle.number_table.specs.declared.chains.Stack.{Stack}
use Rattle.number_table.specs.Chains.{no_stack, count_of}
use Rattle.number_table.proofs.NodeOfAKey.{place_of-at}
use Rattle.number_table.proofs.chains.Chains.top.Goals as goal

pub returns-clause-top : goal.returns-clause-top
returns-clause-top c =
    let s = c.args.self.now in
    let is = get_or_read s.stacks.items _ _ c.requires.there c.index.ensures no_stack in
    let t = s.ok.top c.args.stack c.requires.there c.requires.some in
    ap (λ (x : Stack). x.top) is
    ∙ sym (place_of-at s.nodes.items _ c.args.stack (count_of s.stacks.items c.args.stack - 1) s.ok.apart
    (record { within = t.0; stack = t.1; position = omega (arith, t.2) }))
