-- The system classes so far have their names.
use Rattle.resolver_rules.specs.SystemNames.{HasSystemNames}
use Rattle.resolver_rules.proofs.system_names.give_system_names.Given as goal

abbrev pub invariant-loop-number : goal.invariant-loop-number
invariant-loop-number l = HasSystemNames l.number l.initial.names l.names
