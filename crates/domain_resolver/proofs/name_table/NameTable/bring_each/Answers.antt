-- One class after the other is brought in.
use Rattle.domain_resolver.proofs.BroughtInTurn.{brings_then, clash_after, in_list, named_further, all_named}
use Rattle.domain_resolver.proofs.name_table.NameTable.bring_each.Goals as goal

pub returns-in_err-bring-clause-some : goal.returns-in_err-bring-clause-some
returns-in_err-bring-clause-some c =
    brings_then c.args.classes.now c.args.wanted.now _ c.args.self.now c.loop-class.self c.bring.new.self c.loop-class.invariant.0
    c.in_err-bring.ensures.some (in_list c.args.wanted.now c.loop-class.class-index _ c.loop-class-test.true)

pub returns-then-not-branch-clause-done : goal.returns-then-not-branch-clause-done
returns-then-not-branch-clause-done c =
    clash_after c.args.classes.now c.args.wanted.now _ c.args.self.now c.loop-class.self c.bring.new.self c.loop-class.invariant.0
    (rw c.if-not-branch.true at c.in_ok-bring.ensures.done) (in_list c.args.wanted.now c.loop-class.class-index _ c.loop-class-test.true)

pub returns-then-not-branch-clause-some : goal.returns-then-not-branch-clause-some
returns-then-not-branch-clause-some c =
    brings_then c.args.classes.now c.args.wanted.now _ c.args.self.now c.loop-class.self c.bring.new.self c.loop-class.invariant.0
    c.in_ok-bring.ensures.some (in_list c.args.wanted.now c.loop-class.class-index _ c.loop-class-test.true)

pub loop-class-preserved : goal.loop-class-preserved
loop-class-preserved c = (
  brings_then c.args.classes.now c.args.wanted.now _ c.args.self.now c.loop-class.self c.bring.new.self c.loop-class.invariant.0
      c.in_ok-bring.ensures.some (in_list c.args.wanted.now c.loop-class.class-index _ c.loop-class-test.true),
  named_further c.args.classes.now c.args.wanted.now _ c.loop-class.self c.bring.new.self c.loop-class.class-index _
      c.in_ok-bring.ensures.some c.loop-class-test.true c.loop-class.invariant.1 (rw c.if-not-branch.false at c.in_ok-bring.ensures.done),
)

pub returns-clause-done : goal.returns-clause-done
returns-clause-done c = all_named c.loop-class.self c.args.wanted.now c.loop-class.class-index c.loop-class-test.false c.loop-class.invariant.1
