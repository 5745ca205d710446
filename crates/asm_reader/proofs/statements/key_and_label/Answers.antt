-- A word is cut at its first `=`.
use Rattle.std.proofs.Common.{sym}
use Rattle.asm_reader.proofs.CasesAreWrittenOnce.{without_equals, cut_at_equals}
use Rattle.asm_reader.proofs.statements.key_and_label.Goals as goal

pub returns-in_err-end : goal.returns-in_err-end
returns-in_err-end c = rw c.from_residual.ensures (without_equals c.args.word.now (sym c.in_err-end.ensures))

pub returns : goal.returns
returns c = cut_at_equals c.args.word.now c.in_ok-end.end (sym c.in_ok-end.ensures)
