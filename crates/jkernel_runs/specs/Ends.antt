-- How a run of the program ends, and what it says of it.
use Rattle.std.specs.Prelude.{◌≡◌, ℕ, ◌⊎◌, ⊤, List, [], Option, Some, None, Result, Ok, Err}
use Rattle.jk_model.specs.declared.script.Event.{Event}
use Rattle.jk_model.specs.declared.script.ScriptFault.{ScriptFault}
use Rattle.jk_model.specs.Outside.{Tree, FileIs, HasRisen}
use Rattle.command_words.specs.CommandLine.{IsNoCall}
use Rattle.command_words.specs.declared.error.CallError.{CallError}
use Rattle.command_words.specs.declared.error.CallError.TheVariants.{Usage as NoCall, OutOfMemory as NoMemory}
use Rattle.jkernel_runs.specs.Messages.{usage_text, fault_text, read_text, write_text, memory_text}
use Rattle.jkernel_runs.specs.Events.{Moment}
use Rattle.jkernel_runs.specs.Scripts.{IsScript, IsAtFault}
use Rattle.jkernel_runs.specs.Statuses.{HasFault, LacksScript, EndsDone, EndsForFiles, EndsForMemory, EndsInLines, IsUnread}
use Rattle.jkernel_runs.specs.declared.ends.End.{End}
use Rattle.jkernel_runs.specs.declared.ends.End.TheVariants.{Done, Usage, Refused, Stopped}
use Rattle.jkernel_runs.specs.declared.status.Status.{Status}
use Rattle.jkernel_runs.specs.declared.status.Status.TheVariants as statuses
use Rattle.jkernel_runs.specs.declared.stop.Stop.{Stop}
use Rattle.jkernel_runs.specs.declared.stop.Stop.TheVariants.{ReadFault, WriteFault, OutOfMemory}

-- What an end says of the words, the tree, the output and what was asked.
abbrev pub EndsSo : Option Tree → List (List ℕ) → Moment → Moment → End → Type 0
EndsSo tree words a b Done = EndsDone tree words a b
EndsSo tree words a b Usage = IsNoCall words × (b.out ≡ a.out) × (b.asked ≡ a.asked)
EndsSo tree words a b (Refused fault) = HasFault tree words fault × IsUnread words a b
EndsSo tree words a b (Stopped ReadFault) = (HasRisen a.files_faults b.files_faults ⊎ LacksScript tree words) × EndsForFiles tree words a b
EndsSo tree words a b (Stopped WriteFault) = HasRisen a.out.faults b.out.faults × EndsInLines tree words a b
EndsSo tree words a b (Stopped OutOfMemory) = EndsForMemory tree words a b

-- the end of a run of events
abbrev pub end_of : Result (Unit {0}) Stop → End
end_of (Ok x) = Done
end_of (Err stop) = Stopped stop

-- the end of a run whose words were not taken
abbrev pub end_untaken : CallError → End
end_untaken NoCall = Usage
end_untaken NoMemory = Stopped OutOfMemory

-- the status of an end
abbrev pub status_of : End → Status
status_of Done = statuses.Done
status_of Usage = statuses.Usage
status_of (Refused fault) = statuses.ScriptRefused
status_of (Stopped ReadFault) = statuses.ReadFault
status_of (Stopped WriteFault) = statuses.WriteFault
status_of (Stopped OutOfMemory) = statuses.OutOfMemory

-- what is said of an end on the error sink
abbrev pub message_of : End → List ℕ
message_of Done = []
message_of Usage = usage_text
message_of (Refused fault) = fault_text fault
message_of (Stopped ReadFault) = read_text
message_of (Stopped WriteFault) = write_text
message_of (Stopped OutOfMemory) = memory_text

-- ---- The script that is read.

-- a told tree has this text at a path
abbrev pub HasText : Option Tree → List ℕ → List ℕ → Type 0
HasText None path text = ⊥
HasText (Some tree) path text = tree.file path ≡ Some text

-- a told tree has no file at a path
abbrev pub IsMissing : Option Tree → List ℕ → Type 0
IsMissing None path = ⊥
IsMissing (Some tree) path = tree.file path ≡ None

-- What was found at a path: a script's events, or why there are none. The counts are those of the files.
abbrev pub ScriptEnds : Option Tree → List ℕ → ℕ → ℕ → Result (List Event) End → Type 0
ScriptEnds tree path files files' (Ok events) = (text : List ℕ) × FileIs tree path text × IsScript text events
ScriptEnds tree path files files' (Err (Refused fault)) = (text : List ℕ) × FileIs tree path text × IsAtFault text fault
ScriptEnds tree path files files' (Err (Stopped ReadFault)) = HasRisen files files' ⊎ IsMissing tree path
ScriptEnds tree path files files' (Err (Stopped OutOfMemory)) = ⊤
ScriptEnds tree path files files' (Err _) = ⊥

-- an answer that a script without fault may get
abbrev pub AnswersScript : ℕ → ℕ → Result (List Event) End → Type 0
AnswersScript files files' (Ok events) = ⊤
AnswersScript files files' (Err (Stopped ReadFault)) = HasRisen files files'
AnswersScript files files' (Err (Stopped OutOfMemory)) = ⊤
AnswersScript files files' (Err _) = ⊥

-- an answer that a script with this fault may get
abbrev pub AnswersFault : ScriptFault → ℕ → ℕ → Result (List Event) End → Type 0
AnswersFault fault files files' (Err (Refused found)) = found ≡ fault
AnswersFault fault files files' (Err (Stopped ReadFault)) = HasRisen files files'
AnswersFault fault files files' (Err (Stopped OutOfMemory)) = ⊤
AnswersFault fault files files' _ = ⊥

-- an end of a run whose script has no fault
abbrev pub EndsWell : ℕ → ℕ → ℕ → ℕ → End → Type 0
EndsWell files files' faults faults' Done = ⊤
EndsWell files files' faults faults' (Stopped ReadFault) = HasRisen files files'
EndsWell files files' faults faults' (Stopped WriteFault) = HasRisen faults faults'
EndsWell files files' faults faults' (Stopped OutOfMemory) = ⊤
EndsWell files files' faults faults' _ = ⊥

-- an end of a run of the demo
abbrev pub EndsDemo : ℕ → ℕ → End → Type 0
EndsDemo faults faults' Done = ⊤
EndsDemo faults faults' (Stopped WriteFault) = HasRisen faults faults'
EndsDemo faults faults' (Stopped OutOfMemory) = ⊤
EndsDemo faults faults' _ = ⊥

-- an end of a run whose script has this fault
abbrev pub EndsRefused : ScriptFault → ℕ → ℕ → End → Type 0
EndsRefused fault files files' (Refused found) = found ≡ fault
EndsRefused fault files files' (Stopped ReadFault) = HasRisen files files'
EndsRefused fault files files' (Stopped OutOfMemory) = ⊤
EndsRefused fault files files' _ = ⊥
