-- The exit statuses.
use Rattle.std.specs.Prelude.{ℕ}
use Rattle.jkernel_runs.specs.declared.status.Status.{Status}
use Rattle.jkernel_runs.specs.declared.status.Status.TheVariants.{Done, Usage, ScriptRefused, ReadFault, WriteFault, OutOfMemory}

abbrev pub code_of : Status → ℕ
code_of Done = 0
code_of Usage = 2
code_of ScriptRefused = 3
code_of ReadFault = 4
code_of WriteFault = 5
code_of OutOfMemory = 6
