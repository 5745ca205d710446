-- One method more is asked for.
use Rattle.std.proofs.Common.{arith, sym, ◌∙◌}
use Rattle.std.proofs.lemmas.Option.{same_Some}
use Rattle.list_lemmas.proofs.ItemsByPlace.{item_read}
use Rattle.link_rules.proofs.FinalsOfAClass.{before_all, before_first, before_next, few_methods, method_at}
use Rattle.link_rules.proofs.final_methods.first_named.Goals as goal

pub loop-i-init : goal.loop-i-init
loop-i-init c = before_first c.args.t.now c.args.class c.args.d c.args.methods.now

pub overflow_cast-m : goal.overflow_cast-m
overflow_cast-m c =
    omega (arith, few_methods c.args.t.now c.args.class c.args.d c.args.above.now c.ordered.ensures.members c.requires.above)

pub overriding-requires-clause-method : goal.overriding-requires-clause-method
overriding-requires-clause-method c = λ final is.
    same_Some final c.index-above-i.result
    (sym (method_at c.args.t.now c.args.class c.args.d c.args.above.now c.loop-i.i final c.requires.above is)
    ∙ item_read c.args.above.now c.loop-i.i c.index-above-i.result (omega arith) c.index-above-i.is)

pub loop-i-preserved : goal.loop-i-preserved
loop-i-preserved c =
    before_next c.args.t.now c.args.class c.args.d c.loop-i.i c.args.methods.now c.loop-i.best c.overriding.result c.earlier-best.result
    c.loop-i.invariant c.overriding.ensures c.earlier-best.ensures

pub returns : goal.returns
returns c =
    before_all c.args.t.now c.args.class c.args.d c.args.above.now c.args.methods.now c.loop-i.i c.loop-i.best c.requires.above
    (omega arith) c.loop-i.invariant
