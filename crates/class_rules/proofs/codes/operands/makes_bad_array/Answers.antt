-- The class of an array is judged by what is known of its name.
use Rattle.class_rules.proofs.ArraysByFacts.{bad_array, no_class}
use Rattle.class_rules.proofs.codes.operands.makes_bad_array.Goals as goal

pub returns-in-Some-class_name_at : goal.returns-in-Some-class_name_at
returns-in-Some-class_name_at c =
    bad_array c.is_wrong_array.result c.args.pool.now.entries.now c.args.instr.now c.in-Some.i c.in-Some-class_name_at.name c.in-Some.ensures.is
    c.in-Some-class_name_at.ensures c.is_wrong_array.ensures

pub returns-in-None : goal.returns-in-None
returns-in-None c = no_class c.args.pool.now.entries.now c.args.instr.now c.in-Some.i c.in-Some.ensures.is c.in-None.ensures
