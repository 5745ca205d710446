-- All are, or one isn't.
use Rattle.std.proofs.Common.{arith}
use Rattle.jk_model.specs.ClassFile.{NamesEntry, IsClassEntry}
use Rattle.class_rules.proofs.AllItems.{all_yet, all_more, all_are, one_is_not}
use Rattle.class_rules.proofs.attributes.are_classes.Goals as goal

pub loop-i-init : goal.loop-i-init
loop-i-init c = all_yet (NamesEntry IsClassEntry c.args.pool.now) c.args.indices.now

pub loop-i-preserved : goal.loop-i-preserved
loop-i-preserved c =
    all_more (NamesEntry IsClassEntry c.args.pool.now) c.args.indices.now c.loop-i.i-index _ c.loop-i-test.true
    (c.is_class.ensures.0 c.if-not-is_class.false) c.loop-i.invariant

pub returns-then-not-is_class : goal.returns-then-not-is_class
returns-then-not-is_class c =
    one_is_not (NamesEntry IsClassEntry c.args.pool.now) c.args.indices.now c.loop-i.i-index _ c.loop-i-test.true
    (λ h. let t = c.is_class.ensures.1 h in absurd cc)

pub returns : goal.returns
returns c = all_are (NamesEntry IsClassEntry c.args.pool.now) c.args.indices.now c.loop-i.i-index (omega arith) c.loop-i.invariant
