-- A name stands for one instruction.
use Rattle.asm_reader.proofs.OneStatement.{by_operands}
use Rattle.asm_reader.proofs.statements.statement_of.Goals as goal

pub returns : goal.returns
returns c =
    by_operands c.args.words.now c.in-Some.name.now c.in-Some.operands.now c.in-Some-mnemonic_named.mnemonic c.with_operands.result
    c.in-Some.ensures c.in-Some-mnemonic_named.ensures c.with_operands.ensures
