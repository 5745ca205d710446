-- The row of the definition that a row of the code's table of instructions is.
use Rattle.asm_reader.specs.declared.mnemonics.Mnemonic as code
use Rattle.asm_reader.specs.Mnemonics.{Mnemonic}

abbrev pub row_of : code.Mnemonic → Mnemonic
row_of m = record { name = m.name.now; op = m.op; operands = m.operands }
