-- A method is a constructor, or none is.
use Rattle.std.proofs.Common.{refl}
use Rattle.class_lemmas.proofs.SomeItem.{none_at_all}
use Rattle.link_rules.proofs.ClosedClasses.{IsInit, init_later, init_there}
use Rattle.link_rules.proofs.made_classes.has_init.Goals as goal

pub returns-then-eq : goal.returns-then-eq
returns-then-eq c = (
  λ t. init_there c.args.methods.now c.loop-i.i _ c.eq.result c.loop-i-test.true c.eq.ensures c.if-eq.true,
  λ h. refl,
)

pub loop-i-preserved : goal.loop-i-preserved
loop-i-preserved c = init_later c.args.methods.now c.loop-i.i _ c.eq.result c.loop-i-test.true c.eq.ensures c.if-eq.false c.loop-i.invariant

pub returns : goal.returns
returns c = (λ t. absurd cc, λ h. absurd (none_at_all IsInit c.args.methods.now c.loop-i.i c.loop-i-test.false c.loop-i.invariant h))
