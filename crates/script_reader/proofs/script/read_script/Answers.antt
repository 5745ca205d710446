-- There is at most one event a line.
use Rattle.script_reader.proofs.LinesInTurn.{few_events}
use Rattle.jk_model.specs.ScriptGrammar.{line_event}
use Rattle.script_reader.proofs.script.read_script.Goals as goal

pub returns-clause-few : goal.returns-clause-few
returns-clause-few c = few_events line_event c.args.bytes.now c.read.result c.read.ensures
