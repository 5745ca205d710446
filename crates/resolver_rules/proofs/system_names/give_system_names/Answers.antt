-- The classes in turn.
use Rattle.std.proofs.Common.{◌≡◌, ℕ, arith, subst}
use Rattle.resolver_rules.specs.SystemNames.{HasSystemNames}
use Rattle.resolver_rules.proofs.SystemNamesGiven.{names_further, no_names}
use Rattle.resolver_rules.proofs.system_names.give_system_names.Goals as goal

pub give_system_name-requires-clause-agrees : goal.give_system_name-requires-clause-agrees
give_system_name-requires-clause-agrees c = c.loop-number.invariant.agrees

pub loop-number-init : goal.loop-number-init
loop-number-init c = no_names c.args.names.now c.requires.agrees

pub loop-number-preserved : goal.loop-number-preserved
loop-number-preserved c =
    names_further c.loop-number.number c.args.names.now c.loop-number.names c.give_system_name.new.names c.loop-number.invariant
    c.in_ok-give_system_name.ensures

pub returns : goal.returns
returns c =
    let end : c.loop-number.number ≡ 45 = omega (arith, c.loop-number-test.false, c.count-number-end.ensures, c.loop-number.auto.number-end) in
    subst (λ (n : ℕ). HasSystemNames n c.args.names.now c.loop-number.names) end c.loop-number.invariant
