-- C16 is asked, and after it C17.
use Rattle.std.proofs.Common.{refl}
use Rattle.jk_model.specs.declared.output.Rule.TheVariants.{C16, C17}
use Rattle.class_rules.proofs.FirstOfAll.{hold_after, fault_at}
use Rattle.class_rules.proofs.fault.fault_of_whole.Goals as goal

pub returns-in-Some : goal.returns-in-Some
returns-in-Some c =
    fault_at c.args.c.now c.args.path.now 10 C16 c.in-Some.number _ refl c.requires.earlier c.in_ok-number.ensures c.in-Some.is

pub returns-in-Some-2 : goal.returns-in-Some-2
returns-in-Some-2 c =
    let after_duplicates = hold_after c.args.c.now c.args.path.now 10 C16 _ refl c.requires.earlier c.in_ok-number.ensures c.in_default.is in
    fault_at c.args.c.now c.args.path.now 11 C17 c.in-Some-2.number _ refl after_duplicates c.in_ok-number-2.ensures c.in-Some-2.is

pub returns : goal.returns
returns c =
    let after_duplicates = hold_after c.args.c.now c.args.path.now 10 C16 _ refl c.requires.earlier c.in_ok-number.ensures c.in_default.is in
    hold_after c.args.c.now c.args.path.now 11 C17 _ refl after_duplicates c.in_ok-number-2.ensures c.in_default-2.is
