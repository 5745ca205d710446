-- Each turn of the loop writes one digit.
use Rattle.std.proofs.Common.{◌≡◌, ◌+◌, ◌-◌, refl, arith}
use Rattle.system_calls.proofs.DigitsInTurn.{all_written, nothing_written, one_written}
use Rattle.system_calls.proofs.short_texts.digits_of.Goals as goal

pub loop-rest-init : goal.loop-rest-init
loop-rest-init c = nothing_written c.args.n _ c.requires refl refl

pub returns-then-rest-eq0-clause-digits : goal.returns-then-rest-eq0-clause-digits
returns-then-rest-eq0-clause-digits c =
    let h = c.loop-rest.invariant in
    let next : c.loop-rest.from ≡ c.loop-rest.from - 1 + 1 = omega (arith, h.low) in
    all_written c.args.n c.loop-rest.from (c.loop-rest.from - 1) c.loop-rest.rest c.loop-rest.units h next
    (omega (arith, h.low, h.high, h.many)) c.if-rest-eq0.true

pub loop-rest-preserved : goal.loop-rest-preserved
loop-rest-preserved c =
    let h = c.loop-rest.invariant in
    let next : c.loop-rest.from ≡ c.loop-rest.from - 1 + 1 = omega (arith, h.low) in
    one_written c.args.n c.loop-rest.from (c.loop-rest.from - 1) c.loop-rest.rest c.loop-rest.units h next
    (omega (arith, h.low, h.high, h.many)) c.if-rest-eq0.false
