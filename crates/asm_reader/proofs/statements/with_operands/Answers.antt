-- Each sort of operands has a function of its own.
use Rattle.asm_reader.proofs.statements.with_operands.Goals as goal

pub returns-in-Number : goal.returns-in-Number
returns-in-Number c = rw c.in-Number.is (c.push_of.ensures c.args.mnemonic.op)

pub returns-in-WideConstant : goal.returns-in-WideConstant
returns-in-WideConstant c = rw c.in-WideConstant.is (c.wide_constant_of.ensures c.args.mnemonic.op)

pub returns-in-LocalAndStep : goal.returns-in-LocalAndStep
returns-in-LocalAndStep c = rw c.in-LocalAndStep.is (c.increment_of.ensures c.args.mnemonic.op)

pub returns-in-ArrayKind : goal.returns-in-ArrayKind
returns-in-ArrayKind c = rw c.in-ArrayKind.is (c.new_array_of.ensures c.args.mnemonic.op)
