-- Each rule is asked after those before it.
use Rattle.std.proofs.Common.{refl}
use Rattle.jk_model.specs.declared.output.Rule.TheVariants.{C6, C7, C8, C9}
use Rattle.class_rules.proofs.FirstOfAll.{hold_before_none, hold_after, fault_at}
use Rattle.class_rules.proofs.fault.fault_of_parts.Goals as goal

pub returns-in-Some : goal.returns-in-Some
returns-in-Some c path =
    fault_at c.args.c.now path 0 C6 c.in-Some.number _ refl (hold_before_none c.args.c.now path) c.bad_flags.ensures c.in-Some.is

pub returns-in-Some-bad_names : goal.returns-in-Some-bad_names
returns-in-Some-bad_names c path =
    let after_flags = hold_after c.args.c.now path 0 C6 _ refl (hold_before_none c.args.c.now path) c.bad_flags.ensures c.in_default.is in
    fault_at c.args.c.now path 1 C7 c.in-Some-bad_names.number _ refl after_flags c.bad_names.ensures c.in-Some-bad_names.is

pub returns-in-Some-bad_descriptors : goal.returns-in-Some-bad_descriptors
returns-in-Some-bad_descriptors c path =
    let after_flags = hold_after c.args.c.now path 0 C6 _ refl (hold_before_none c.args.c.now path) c.bad_flags.ensures c.in_default.is in
    let after_names = hold_after c.args.c.now path 1 C7 _ refl after_flags c.bad_names.ensures c.in_default-bad_names.is in
    fault_at c.args.c.now path 2 C8 c.in-Some-bad_descriptors.number _ refl after_names c.bad_descriptors.ensures c.in-Some-bad_descriptors.is

pub returns-in-Some-2 : goal.returns-in-Some-2
returns-in-Some-2 c path =
    let after_flags = hold_after c.args.c.now path 0 C6 _ refl (hold_before_none c.args.c.now path) c.bad_flags.ensures c.in_default.is in
    let after_names = hold_after c.args.c.now path 1 C7 _ refl after_flags c.bad_names.ensures c.in_default-bad_names.is in
    let after_descriptors = hold_after c.args.c.now path 2 C8 _ refl after_names c.bad_descriptors.ensures c.in_default-bad_descriptors.is in
    fault_at c.args.c.now path 3 C9 c.in-Some-2.number _ refl after_descriptors c.in_ok-number.ensures c.in-Some-2.is

pub returns : goal.returns
returns c path =
    let after_flags = hold_after c.args.c.now path 0 C6 _ refl (hold_before_none c.args.c.now path) c.bad_flags.ensures c.in_default.is in
    let after_names = hold_after c.args.c.now path 1 C7 _ refl after_flags c.bad_names.ensures c.in_default-bad_names.is in
    let after_descriptors = hold_after c.args.c.now path 2 C8 _ refl after_names c.bad_descriptors.ensures c.in_default-bad_descriptors.is in
    hold_after c.args.c.now path 3 C9 _ refl after_descriptors c.in_ok-number.ensures c.in_default-2.is
