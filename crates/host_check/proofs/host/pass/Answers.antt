-- Each thread that is served draws at most a thousand numbers.
use Rattle.std.proofs.Common.{ℕ, ◌+◌, ◌-◌, ◌<◌, ◌≤◌, arith}
use Rattle.host_check.proofs.NumbersOfCalls.{serve, served_few, served_more, served_none}
use Rattle.host_check.proofs.host.pass.Goals as goal

fewer_left : (n : ℕ) → n < 16 → 16 - (n + 1) < 16 - n
fewer_left n less = omega (arith, less)

one_more : (n : ℕ) → n < 16 → n + 1 ≤ 16
one_more n less = omega (arith, less)

pub loop-served-init : goal.loop-served-init
loop-served-init c = (served_none c.args.kernel.now, (let low : 0 ≤ 16 = omega arith in low))

pub turns-requires : goal.turns-requires
turns-requires c =
    let l = c.loop-served in
    record { budget = c.requires.budget; few = serve l.served c.args.kernel.now l.kernel c.loop-served-test.true c.requires.few l.invariant.0 }

pub returns-in_err-changed : goal.returns-in_err-changed
returns-in_err-changed c =
    let l = c.loop-served in
    served_few (l.served + 1) c.args.kernel.now c.turns.new.kernel (one_more l.served c.loop-served-test.true)
    (served_more l.served c.args.kernel.now l.kernel c.turns.new.kernel l.invariant.0 c.turns.ensures)

pub loop-served-preserved : goal.loop-served-preserved
loop-served-preserved c =
    let l = c.loop-served in (
      served_more l.served c.args.kernel.now l.kernel c.turns.new.kernel l.invariant.0 c.turns.ensures,
      one_more l.served c.loop-served-test.true,
    )

pub loop-served-smaller : goal.loop-served-smaller
loop-served-smaller c = fewer_left c.loop-served.served c.loop-served-test.true

pub returns-in_default : goal.returns-in_default
returns-in_default c =
    let l = c.loop-served in served_few l.served c.args.kernel.now l.kernel l.invariant.1 l.invariant.0

pub returns : goal.returns
returns c =
    let l = c.loop-served in served_few l.served c.args.kernel.now l.kernel l.invariant.1 l.invariant.0
