-- Each pair goes on with the cases, or is where they stop.
use Rattle.std.proofs.Common.{None, rules}
use Rattle.std.proofs.lemmas.Result.{err_from_is_err_and}
use mir.Syntax.{w32}
use mir.Val.{SFits}
use Rattle.std.proofs.lemmas.Int.{to_z-of_z}
use Rattle.jk_opcodes.specs.Switches.{lookup_cases_at}
use Rattle.jk_opcodes.proofs.LoopReadsCases.{lookup_goes_on, lookup_ends, lookup_is_done}
use Rattle.jk_opcodes.proofs.switches.lookup_cases.Goals as goal

pub returns-in_err-case : goal.returns-in_err-case
returns-in_err-case c =
    let p = err_from_is_err_and c.from_residual.result c.from_residual.ensures.1 in
    rw (p.1, p.2) (lookup_ends c.in_err-case.field-0.0 c.args.at c.loop.before c.loop.cases c.args.count c.loop.counter c.loop.rest.now
    (lookup_cases_at c.args.at None c.args.count c.args.bytes.now) c.loop-test.true c.in_err-case.ensures c.loop.invariant)

pub loop-preserved : goal.loop-preserved
loop-preserved c =
    let fits : SFits w32 (c.in_ok-case.case.key) = search rules in
    let key = to_z-of_z w32 (c.in_ok-case.case.key) fits in
    rw (c.in_ok-push.ensures.ok, key) (lookup_goes_on c.args.at c.loop.before c.loop.cases c.args.count c.loop.counter c.loop.rest.now c.in_ok-case.case
    c.in_ok-case.after.now (lookup_cases_at c.args.at None c.args.count c.args.bytes.now) c.loop-test.true c.in_ok-case.ensures c.loop.invariant)

pub returns : goal.returns
returns c =
    lookup_is_done c.args.at c.loop.before c.loop.cases c.args.count c.loop.counter c.loop.rest.now
    (lookup_cases_at c.args.at None c.args.count c.args.bytes.now) c.loop-test.false c.loop.invariant
