-- The errors as the faults of the definitions.
use Rattle.std.specs.Prelude.{ℕ}
use Rattle.jk_model.specs.Instructions.{Fault}
use Rattle.jk_opcodes.specs.declared.errors.CodeError.{CodeError}
use Rattle.jk_opcodes.specs.declared.errors.CodeError.TheVariants as errors
use Rattle.jk_opcodes.specs.declared.errors.Stop.{Stop}
use Rattle.jk_opcodes.specs.declared.errors.Stop.TheVariants as stops
use Rattle.jk_opcodes.specs.declared.errors.StepError.{StepError}
use Rattle.jk_opcodes.specs.declared.errors.StepError.TheVariants as steps

-- a fault and its place, as an error
abbrev pub error_of : Fault → ℕ → CodeError
error_of Fault.IllegalOpcode place = errors.IllegalOpcode place
error_of Fault.BadSwitch place = errors.BadSwitch place
error_of Fault.BadOperand place = errors.BadOperand place
error_of Fault.FloatOpcode place = errors.FloatOpcode place
error_of Fault.Subroutine place = errors.Subroutine place
error_of Fault.Monitor place = errors.Monitor place

-- a fault, as what stops a step
abbrev pub stop_of : Fault → Stop
stop_of Fault.IllegalOpcode = stops.IllegalOpcode
stop_of Fault.BadSwitch = stops.BadSwitch
stop_of Fault.BadOperand = stops.BadOperand
stop_of Fault.FloatOpcode = stops.FloatOpcode
stop_of Fault.Subroutine = stops.Subroutine
stop_of Fault.Monitor = stops.Monitor

-- what stops a step, and its place, as an error
abbrev pub stop_error : ℕ → Stop → CodeError
stop_error place stops.IllegalOpcode = errors.IllegalOpcode place
stop_error place stops.CutInstruction = errors.CutInstruction place
stop_error place stops.BadSwitch = errors.BadSwitch place
stop_error place stops.BadOperand = errors.BadOperand place
stop_error place stops.FloatOpcode = errors.FloatOpcode place
stop_error place stops.Subroutine = errors.Subroutine place
stop_error place stops.Monitor = errors.Monitor place

abbrev pub code_error : ℕ → StepError → CodeError
code_error place steps.Memory = errors.OutOfMemory
code_error place (steps.Stop stop) = stop_error place stop
