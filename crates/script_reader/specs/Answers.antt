-- What is answered where memory may run out: what the grammar says, or that none was left.
use Rattle.std.specs.Prelude.{◌≡◌, ℕ, Result, Ok, Err}
use Rattle.jk_model.specs.declared.script.FaultKind.{FaultKind}
use Rattle.jk_model.specs.declared.script.ScriptFault.{ScriptFault}
use Rattle.jk_model.specs.ScriptGrammar.{fault_at}
use Rattle.script_reader.specs.declared.error.LineError.{LineError}
use Rattle.script_reader.specs.declared.error.LineError.TheVariants as Line
use Rattle.script_reader.specs.declared.error.ScriptError.{ScriptError}
use Rattle.script_reader.specs.declared.error.ScriptError.TheVariants as Script

-- of a line: this value, or its fault
abbrev pub Gives : {X : Type 0} → Result X FaultKind → Result X LineError → Type 0
Gives meaning (Ok x) = meaning ≡ Ok x
Gives meaning (Err (Line.Fault kind)) = meaning ≡ Err kind
Gives meaning (Err Line.OutOfMemory) = Unit {0}

-- of a script: this value, or its first fault
abbrev pub GivesAll : {X : Type 0} → Result X ScriptFault → Result X ScriptError → Type 0
GivesAll meaning (Ok x) = meaning ≡ Ok x
GivesAll meaning (Err (Script.Fault fault)) = meaning ≡ Err fault
GivesAll meaning (Err Script.OutOfMemory) = Unit {0}

-- what the line of a number stands for, with its fault as one of the script
abbrev pub at_line : {X : Type 0} → ℕ → Result X FaultKind → Result X ScriptFault
at_line n (Ok x) = Ok x
at_line n (Err kind) = Err (fault_at n kind)
