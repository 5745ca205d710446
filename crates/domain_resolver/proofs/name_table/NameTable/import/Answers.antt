-- Each class that was brought in brings in those to which it refers.
use Rattle.std.proofs.Common.{arith}
use Rattle.domain_resolver.proofs.ReachedClassesNamed.{first_imported, first_clash, importing_begins, importing_goes_on, importing_ends, entry_at, later_clash, later_imported, room}
use Rattle.domain_resolver.proofs.name_table.NameTable.import.Goals as goal

pub returns-in_err-bring-clause-some : goal.returns-in_err-bring-clause-some
returns-in_err-bring-clause-some c =
    first_imported c.args.classes.now c.args.self.now c.bring.new.self c.args.class c.in_err-bring.ensures.some

pub returns-then-not-branch-clause-done : goal.returns-then-not-branch-clause-done
returns-then-not-branch-clause-done c =
    first_clash c.args.classes.now c.args.self.now c.bring.new.self c.args.class (rw c.if-not-branch.true at c.in_ok-bring.ensures.done)

pub returns-then-not-branch-clause-some : goal.returns-then-not-branch-clause-some
returns-then-not-branch-clause-some c =
    first_imported c.args.classes.now c.args.self.now c.bring.new.self c.args.class c.in_ok-bring.ensures.some

pub loop-next-init : goal.loop-next-init
loop-next-init c =
    rw c.len-next.ensures
    (importing_begins c.args.classes.now c.args.self.now c.bring.new.self c.args.class c.in_ok-bring.ensures.some
    (rw c.if-not-branch.false at c.in_ok-bring.ensures.done))

pub returns-in_err-bring_referred-clause-some : goal.returns-in_err-bring_referred-clause-some
returns-in_err-bring_referred-clause-some c =
    let at = entry_at c.loop-next.self c.loop-next.next c.in-Some.class c.in-Some.ensures in
    later_imported c.args.classes.now c.args.self.now c.loop-next.self c.bring_referred.new.self c.args.class c.loop-next.next
    at.entry c.loop-next.invariant at.there (rw at.classed c.in_err-bring_referred.ensures.some)

pub returns-then-not-branch-2-clause-done : goal.returns-then-not-branch-2-clause-done
returns-then-not-branch-2-clause-done c =
    let at = entry_at c.loop-next.self c.loop-next.next c.in-Some.class c.in-Some.ensures in
    later_clash c.args.classes.now c.args.self.now c.loop-next.self c.bring_referred.new.self c.args.class c.loop-next.next
    at.entry c.loop-next.invariant at.there (rw at.classed (rw c.if-not-branch-2.true at c.in_ok-bring_referred.ensures.done))

pub returns-then-not-branch-2-clause-some : goal.returns-then-not-branch-2-clause-some
returns-then-not-branch-2-clause-some c =
    let at = entry_at c.loop-next.self c.loop-next.next c.in-Some.class c.in-Some.ensures in
    later_imported c.args.classes.now c.args.self.now c.loop-next.self c.bring_referred.new.self c.args.class c.loop-next.next
    at.entry c.loop-next.invariant at.there (rw at.classed c.in_ok-bring_referred.ensures.some)

pub loop-next-smaller : goal.loop-next-smaller
loop-next-smaller c =
    let few = room c.args.classes.now c.args.self.now c.loop-next.self c.args.class c.loop-next.invariant.imported c.names_differ.ensures in
    omega (arith, few, c.loop-next-test.true)

pub loop-next-preserved : goal.loop-next-preserved
loop-next-preserved c =
    let at = entry_at c.loop-next.self c.loop-next.next c.in-Some.class c.in-Some.ensures in
    importing_goes_on c.args.classes.now c.args.self.now c.loop-next.self c.bring_referred.new.self c.args.class c.loop-next.next
    at.entry c.loop-next.invariant at.there (rw at.classed c.in_ok-bring_referred.ensures.some)
    (rw at.classed (rw c.if-not-branch-2.false at c.in_ok-bring_referred.ensures.done))

pub returns-clause-done : goal.returns-clause-done
returns-clause-done c =
    importing_ends c.args.classes.now c.args.self.now c.loop-next.self c.args.class c.loop-next.next c.loop-next.invariant
    (rw c.len.ensures at c.loop-next-test.false)
