-- What is answered of a code.
use Rattle.std.specs.Prelude.{ℕ, List, Result, Ok, Err}
use Rattle.jk_model.specs.declared.instructions.Instr.{Instr}
use Rattle.jk_model.specs.Instructions.{Decodes, Fault, HasFault, IsCutAt}
use Rattle.jk_opcodes.specs.declared.errors.CodeError.{CodeError}
use Rattle.jk_opcodes.specs.declared.errors.CodeError.TheVariants as errors

-- the code is these instructions, or stops being any here
abbrev pub IsAnswer : List ℕ → Result (List Instr) CodeError → Type 0
IsAnswer code (Ok instrs) = Decodes code instrs
IsAnswer code (Err (errors.IllegalOpcode place)) = HasFault code Fault.IllegalOpcode place
IsAnswer code (Err (errors.CutInstruction place)) = IsCutAt code place
IsAnswer code (Err (errors.BadSwitch place)) = HasFault code Fault.BadSwitch place
IsAnswer code (Err (errors.BadOperand place)) = HasFault code Fault.BadOperand place
IsAnswer code (Err (errors.FloatOpcode place)) = HasFault code Fault.FloatOpcode place
IsAnswer code (Err (errors.Subroutine place)) = HasFault code Fault.Subroutine place
IsAnswer code (Err (errors.Monitor place)) = HasFault code Fault.Monitor place
IsAnswer code (Err errors.OutOfMemory) = Unit {0}
