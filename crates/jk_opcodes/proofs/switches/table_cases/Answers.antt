-- Each key goes on with the cases, or is where they stop.
use Rattle.std.proofs.Common.{◌≡◌, arith, ◌<◌}
use Rattle.std.specs.Prelude.{pos, ◌+ℤ◌, ◌-ℤ◌, ◌≤ℤ◌, ◌<ℤ◌}
use Rattle.std.proofs.lemmas.Result.{err_from_is_err_and}
use mir.Syntax.{w32}
use mir.Val.{to_z, of_z}
use Rattle.std.proofs.lemmas.Int.{ints}
use Rattle.jk_opcodes.specs.Switches.{table_cases_at, span, nat_of}
use Rattle.jk_opcodes.proofs.LoopReadsCases.{span_step, table_goes_on, table_ends, table_is_done}
use Rattle.jk_opcodes.proofs.switches.table_cases.Goals as goal

pub loop-cases-preserved : goal.loop-cases-preserved
loop-cases-preserved c =
    let key = to_z w32 c.loop-cases.key-bits in
    let high = to_z w32 (of_z w32 c.args.high) in
    let low = to_z w32 (of_z w32 c.args.low) in
    let below : key <ℤ high = omega (arith, ints) in
    let next : to_z w32 (of_z w32 (key +ℤ pos 1)) ≡ key +ℤ pos 1 = omega (arith, ints) in
    let goes =
    table_goes_on c.args.at key high c.loop-cases.cases c.loop-cases.rest.now c.in_ok-case.case c.in_ok-case.after.now
    (table_cases_at c.args.at low (span low high) c.args.bytes.now) below c.in_ok-case.ensures c.loop-cases.invariant.so_far in
    let order : (key +ℤ pos 1) ≤ℤ high = omega (arith, ints) in
    rw (next, c.in_ok-push.ensures.ok) record { order = order; so_far = goes }

pub returns-then-high-key : goal.returns-then-high-key
returns-then-high-key c =
    let key = to_z w32 c.loop-cases.key-bits in
    let high = to_z w32 (of_z w32 c.args.high) in
    let low = to_z w32 (of_z w32 c.args.low) in
    let same : key ≡ high = omega (arith, ints) in
    let is_high : high ≡ c.args.high = omega (arith, ints) in
    let is_low : low ≡ c.args.low = omega (arith, ints) in
    let done =
    table_is_done c.args.at key high c.loop-cases.cases c.loop-cases.rest.now c.in_ok-case.case c.in_ok-case.after.now
    (table_cases_at c.args.at low (span low high) c.args.bytes.now) same c.in_ok-case.ensures c.loop-cases.invariant.so_far in
    rw c.in_ok-push.ensures.ok (rw (is_high, is_low) at done)

pub returns-in_err-case : goal.returns-in_err-case
returns-in_err-case c =
    let p = err_from_is_err_and c.from_residual.result c.from_residual.ensures.1 in
    let key = to_z w32 c.loop-cases.key-bits in
    let high = to_z w32 (of_z w32 c.args.high) in
    let low = to_z w32 (of_z w32 c.args.low) in
    let is_high : high ≡ c.args.high = omega (arith, ints) in
    let is_low : low ≡ c.args.low = omega (arith, ints) in
    let ends =
    table_ends c.in_err-case.field-0.0 c.args.at key high c.loop-cases.cases c.loop-cases.rest.now
    (table_cases_at c.args.at low (span low high) c.args.bytes.now) c.in_err-case.ensures c.loop-cases.invariant.so_far in
    rw (p.1, p.2) (rw (is_high, is_low) at ends)

pub loop-cases-smaller : goal.loop-cases-smaller
loop-cases-smaller c =
    let key = to_z w32 c.loop-cases.key-bits in
    let high = to_z w32 (of_z w32 c.args.high) in
    let below : key <ℤ high = omega (arith, ints) in
    let next : to_z w32 (of_z w32 (key +ℤ pos 1)) ≡ key +ℤ pos 1 = omega (arith, ints) in
    let step = span_step key high below in
    let falls : nat_of (high -ℤ (key +ℤ pos 1)) < nat_of (high -ℤ key) = omega arith in
    rw next falls
