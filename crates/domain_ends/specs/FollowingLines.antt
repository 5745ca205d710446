-- What goes out of lines that follow those of what happened before.
use Rattle.std.specs.Prelude.{◌++◌, List, Result, Ok}
use Rattle.jk_model.specs.declared.output.Line.{Line}
use Rattle.kernel_events.specs.PrintedLines.{Prints, SinkState}

-- these lines are printed in turn after others that all went out
abbrev pub PrintsMore : {E : Type 0} → SinkState → SinkState → Result (Unit {0}) E → List Line → Type 0
PrintsMore {E = E} old new result after =
    (from : SinkState) (before : List Line) → Prints {E = E} from old (Ok tt) before → Prints {E = E} from new result (before ++ after)
