-- The events so far are those of the lines before the rest, and the rest gets shorter.
use Rattle.std.proofs.Common.{length}
use Rattle.jk_model.specs.ScriptGrammar.{line_event}
use Rattle.script_reader.proofs.LinesInTurn.{AreRead}
use Rattle.script_reader.proofs.script.read_lines.Given as goal

abbrev pub invariant-loop-line : goal.invariant-loop-line
invariant-loop-line l = AreRead line_event l.bytes l.rest l.number l.events

abbrev pub decreases-loop-line : goal.decreases-loop-line
decreases-loop-line l = length l.rest
