-- What came of the line is what came of all, where those before it went out.
use Rattle.std.proofs.Common.{rules, ◌≡◌, Result, Ok, Err, subst}
use Rattle.std.proofs.lemmas.Result.{err_from_is_err_and}
use Rattle.jk_outside.specs.SeveralLines.{PrintsLines}
use Rattle.jk_outside.specs.declared.sinks.SinkFailed.{SinkFailed}
use Rattle.jk_outside.proofs.LinesInTurn.{prints_next, prints_no_more}
use Rattle.jk_outside.proofs.several_lines.print_next.Goals as goal

pub returns-in_err-so_far : goal.returns-in_err-so_far
returns-in_err-so_far g c = λ bytes pieces faults before so_far.
    let failed = err_from_is_err_and c.from_residual.result c.from_residual.ensures.1 in
    let is : c.args.so_far ≡ Err c.in_err-so_far.field-0.0 = search rules in
    let P : Result (Unit {0}) SinkFailed → Type 0 = λ r. PrintsLines bytes (g.S.Sink.bytes c.args.out.now) pieces (g.S.Sink.pieces c.args.out.now) faults
    (g.S.Sink.faults c.args.out.now) r before in
    rw failed.1 (prints_no_more _ _ _ _ _ _ c.in_err-so_far.field-0.0 _ before _ (subst P is so_far))

pub returns : goal.returns
returns g c = λ bytes pieces faults before so_far.
    let is : c.args.so_far ≡ Ok tt = search rules in
    let P : Result (Unit {0}) SinkFailed → Type 0 = λ r. PrintsLines bytes (g.S.Sink.bytes c.args.out.now) pieces (g.S.Sink.pieces c.args.out.now) faults
    (g.S.Sink.faults c.args.out.now) r before in
    let e = c.print_line.ensures in
    prints_next _ _ _ _ _ _ _ _ _ before _ c.print_line.result (subst P is so_far) e.ok e.pieces e.part e.pieces_part e.cause e.calm e.faults
