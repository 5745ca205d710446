-- What an opcode needs is there, or is missed.
use Rattle.class_rules.proofs.NeededKinds.{needed_answer, none_needed}
use Rattle.class_rules.proofs.codes.operands.has_bad_entry.Goals as goal

pub returns-in-Some : goal.returns-in-Some
returns-in-Some c =
    needed_answer c.uses_entry.result c.args.pool.now c.args.instr.now c.in-Some.kind c.in-Some.ensures c.uses_entry.ensures

pub returns-in-None : goal.returns-in-None
returns-in-None c = none_needed c.args.pool.now c.args.instr.now c.in-None.ensures
