-- Each turn puts one more unit.
use Rattle.std.proofs.Common.{◌+◌, ◌<◌, length, drop, arith, rules}
use Rattle.jk_model.specs.Text.{shown, shown_unit}
use Rattle.jk_outside.proofs.BufferFills.{IsHeld, length_held}
use Rattle.jk_outside.proofs.SentInOrder.{SoFar-nil, SoFar-append, BreaksOff-at}
use Rattle.jk_outside.proofs.Splits.{OnErr-from, flat_map-more, flat_map-split}
use Rattle.jk_outside.proofs.line_buffer.LineBuffer.put_escaped.Goals as goal

pub loop-unit-init : goal.loop-unit-init
loop-unit-init g c =
    let held : IsHeld c.self.inside.bytes c.args.self.now c.self.inside.len = record { size = search rules; within = omega arith; front = c.self.view_is } in
    SoFar-nil _ _ _ _ (omega (arith, length_held _ _ _ held)) (g.met.S.Sink.faults_fit c.args.sink.now)

pub returns-in_err-put_unit-clause-part : goal.returns-in_err-put_unit-clause-part
returns-in_err-put_unit-clause-part g c =
    OnErr-from c.from_residual.result
    (BreaksOff-at _ _ _ _ _ _ _ _ _ _ _ _ (shown c.args.units.now)
    (shown (drop (c.loop-unit.unit-index + 1) c.args.units.now)) c.loop-unit.invariant c.in_err-put_unit.ensures.part
    (flat_map-split shown_unit c.args.units.now c.loop-unit.unit-index 0 (omega arith)))

pub loop-unit-preserved : goal.loop-unit-preserved
loop-unit-preserved g c =
    let within : c.loop-unit.unit-index < length c.args.units.now = omega arith in
    rw (flat_map-more shown_unit c.args.units.now c.loop-unit.unit-index 0 within)
    (SoFar-append _ _ _ _ _ _ _ _ _ _ _ _ _ _ c.loop-unit.invariant c.in_ok-put_unit.ensures.sent c.in_ok-put_unit.ensures.held
    c.in_ok-put_unit.ensures.calm c.in_ok-put_unit.ensures.faults c.in_ok-put_unit.ensures.few)
