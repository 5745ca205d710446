-- Each rule is asked after those before it, and codes are judged where C9 holds.
use Rattle.std.proofs.Common.{refl, [], arith}
use Rattle.jk_model.specs.declared.output.Rule.TheVariants.{C9, C10, C11, C12, C13, C14, C15}
use Rattle.class_rules.proofs.FirstOfAll.{hold_after, fault_at}
use Rattle.class_rules.proofs.fault.fault_of_methods.Goals as goal

pub judge_methods-requires : goal.judge_methods-requires
judge_methods-requires c = record {
  facts = c.requires.known;
  short = c.requires.short;
  attributes = λ spot broken. c.requires.earlier [] C9 (3, C9, omega arith, refl, refl) spot broken;
}

pub returns-in-Some : goal.returns-in-Some
returns-in-Some c path =
    fault_at c.args.c.now path 4 C10 c.in-Some.number _ refl (c.requires.earlier path) c.bad_floats.ensures c.in-Some.is

pub returns-in-Some-bad_code : goal.returns-in-Some-bad_code
returns-in-Some-bad_code c path =
    let after_floats = hold_after c.args.c.now path 4 C10 _ refl (c.requires.earlier path) c.bad_floats.ensures c.in_default.is in
    fault_at c.args.c.now path 5 C11 c.in-Some-bad_code.number _ refl after_floats c.bad_code.ensures c.in-Some-bad_code.is

pub returns-in-Some-bad_monitor : goal.returns-in-Some-bad_monitor
returns-in-Some-bad_monitor c path =
    let after_floats = hold_after c.args.c.now path 4 C10 _ refl (c.requires.earlier path) c.bad_floats.ensures c.in_default.is in
    let after_subroutines = hold_after c.args.c.now path 5 C11 _ refl after_floats c.bad_code.ensures c.in_default-bad_code.is in
    fault_at c.args.c.now path 6 C12 c.in-Some-bad_monitor.number _ refl after_subroutines c.bad_monitor.ensures c.in-Some-bad_monitor.is

pub returns-in-Some-native_method : goal.returns-in-Some-native_method
returns-in-Some-native_method c path =
    let after_floats = hold_after c.args.c.now path 4 C10 _ refl (c.requires.earlier path) c.bad_floats.ensures c.in_default.is in
    let after_subroutines = hold_after c.args.c.now path 5 C11 _ refl after_floats c.bad_code.ensures c.in_default-bad_code.is in
    let after_monitors = hold_after c.args.c.now path 6 C12 _ refl after_subroutines c.bad_monitor.ensures c.in_default-bad_monitor.is in
    fault_at c.args.c.now path 7 C13 c.in-Some-native_method.number _ refl after_monitors c.native_method.ensures c.in-Some-native_method.is

pub returns-in-Some-bad_code-2 : goal.returns-in-Some-bad_code-2
returns-in-Some-bad_code-2 c path =
    let after_floats = hold_after c.args.c.now path 4 C10 _ refl (c.requires.earlier path) c.bad_floats.ensures c.in_default.is in
    let after_subroutines = hold_after c.args.c.now path 5 C11 _ refl after_floats c.bad_code.ensures c.in_default-bad_code.is in
    let after_monitors = hold_after c.args.c.now path 6 C12 _ refl after_subroutines c.bad_monitor.ensures c.in_default-bad_monitor.is in
    let after_native = hold_after c.args.c.now path 7 C13 _ refl after_monitors c.native_method.ensures c.in_default-native_method.is in
    fault_at c.args.c.now path 8 C14 c.in-Some-bad_code-2.number _ refl after_native c.bad_code-2.ensures c.in-Some-bad_code-2.is

pub returns-in-Some-bad_code-3 : goal.returns-in-Some-bad_code-3
returns-in-Some-bad_code-3 c path =
    let after_floats = hold_after c.args.c.now path 4 C10 _ refl (c.requires.earlier path) c.bad_floats.ensures c.in_default.is in
    let after_subroutines = hold_after c.args.c.now path 5 C11 _ refl after_floats c.bad_code.ensures c.in_default-bad_code.is in
    let after_monitors = hold_after c.args.c.now path 6 C12 _ refl after_subroutines c.bad_monitor.ensures c.in_default-bad_monitor.is in
    let after_native = hold_after c.args.c.now path 7 C13 _ refl after_monitors c.native_method.ensures c.in_default-native_method.is in
    let after_class_constants = hold_after c.args.c.now path 8 C14 _ refl after_native c.bad_code-2.ensures c.in_default-bad_code-2.is in
    fault_at c.args.c.now path 9 C15 c.in-Some-bad_code-3.number _ refl after_class_constants c.bad_code-3.ensures c.in-Some-bad_code-3.is

pub returns : goal.returns
returns c path =
    let after_floats = hold_after c.args.c.now path 4 C10 _ refl (c.requires.earlier path) c.bad_floats.ensures c.in_default.is in
    let after_subroutines = hold_after c.args.c.now path 5 C11 _ refl after_floats c.bad_code.ensures c.in_default-bad_code.is in
    let after_monitors = hold_after c.args.c.now path 6 C12 _ refl after_subroutines c.bad_monitor.ensures c.in_default-bad_monitor.is in
    let after_native = hold_after c.args.c.now path 7 C13 _ refl after_monitors c.native_method.ensures c.in_default-native_method.is in
    let after_class_constants = hold_after c.args.c.now path 8 C14 _ refl after_native c.bad_code-2.ensures c.in_default-bad_code-2.is in
    hold_after c.args.c.now path 9 C15 _ refl after_class_constants c.bad_code-3.ensures c.in_default-bad_code-3.is
