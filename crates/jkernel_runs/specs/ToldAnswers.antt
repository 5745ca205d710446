-- What is printed of a folder that was to be opened, by what the kernel answers.
use Rattle.std.specs.Prelude.{◌≡◌, ℕ, List, [], ◌∷◌, Option, Some, None, Result, Ok, Err}
use Rattle.jk_model.specs.declared.identifiers.DomainId.{DomainId}
use Rattle.jk_model.specs.declared.output.Line.{Line}
use Rattle.jk_model.specs.declared.output.Line.TheVariants as Says
use Rattle.kernel_events.specs.PrintedLines.{SinkState}
use Rattle.kernel_openings.specs.declared.answers.AddAnswer.{AddAnswer}
use Rattle.kernel_openings.specs.declared.answers.AddAnswer.TheVariants as Adding
use Rattle.kernel_openings.specs.AddedDomains.{line_of}
use Rattle.jkernel_runs.specs.Events.{GoesOut}
use Rattle.jkernel_runs.specs.declared.stop.Stop.{Stop}
use Rattle.jkernel_runs.specs.declared.stop.Stop.TheVariants.{ReadFault, OutOfMemory}

-- the line of an answer; none where the run stops
abbrev pub line_told : List ℕ → Result DomainId AddAnswer → Option Line
line_told name (Ok number) = Some (Says.Loaded name)
line_told name (Err e) = line_of name e

-- why a run stops at an answer that has no line
abbrev pub IsStopOf : Result DomainId AddAnswer → Result (Unit {0}) Stop → Type 0
IsStopOf (Err Adding.ReadFault) result = result ≡ Err ReadFault
IsStopOf (Err Adding.OutOfMemory) result = result ≡ Err OutOfMemory
IsStopOf added result = ⊥

abbrev pub TellsLine : Option Line → Result DomainId AddAnswer → SinkState → SinkState → Result (Unit {0}) Stop → Type 0
TellsLine (Some line) added old new result = GoesOut (line ∷ []) old new result
TellsLine None added old new result = IsStopOf added result × (new ≡ old)

abbrev pub Tells : List ℕ → Result DomainId AddAnswer → SinkState → SinkState → Result (Unit {0}) Stop → Type 0
Tells name added old new result = TellsLine (line_told name added) added old new result
