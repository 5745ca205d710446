-- Each turn puts one more part, and the end of the line follows the last.
use Rattle.std.proofs.Common.{◌<◌, length, arith}
use Rattle.std.proofs.lemmas.Result.{err_from_is_err_and}
use Rattle.jk_outside.specs.Lines.{part_text}
use Rattle.jk_outside.proofs.PartsInOrder.{no_part, Prints-broken, Prints-ended}
use Rattle.jk_outside.proofs.SentInOrder.{SoFar-nil, SoFar-append}
use Rattle.jk_outside.proofs.Splits.{flat_map-more}
use Rattle.jk_outside.proofs.line_output.print_parts.Goals as goal

pub loop-part-init : goal.loop-part-init
loop-part-init g c = rw c.new-buffer.ensures (SoFar-nil _ _ _ _ (omega arith) (g.met.S.Sink.faults_fit c.args.sink.now))

pub loop-part-preserved : goal.loop-part-preserved
loop-part-preserved g c =
    let within : c.loop-part.part-index < length c.args.parts.now = omega arith in
    rw (flat_map-more part_text c.args.parts.now c.loop-part.part-index no_part within)
    (SoFar-append _ _ _ _ _ _ _ _ _ _ _ _ _ _ c.loop-part.invariant c.in_ok-put_part.ensures.sent c.in_ok-put_part.ensures.held
    c.in_ok-put_part.ensures.calm c.in_ok-put_part.ensures.faults c.in_ok-put_part.ensures.few)

pub returns-in_err-put_part : goal.returns-in_err-put_part
returns-in_err-put_part g c =
    let failed = err_from_is_err_and c.from_residual.result c.from_residual.ensures.1 in
    rw failed.1 (Prints-broken _ _ _ _ _ _ _ _ _ _ _ c.args.parts.now c.loop-part.part-index
    (omega arith) c.loop-part.invariant c.in_err-put_part.ensures.part c.in_err-put_part.ensures.cause c.in_err-put_part.ensures.faults)

pub returns : goal.returns
returns g c =
    Prints-ended _ _ _ _ _ _ _ _ _ _ c.end_line.result c.args.parts.now c.loop-part.part-index
    (omega arith) c.loop-part.invariant c.end_line.ensures.sent c.end_line.ensures.part c.end_line.ensures.cause c.end_line.ensures.calm
    c.end_line.ensures.faults
