-- A start draws one number of each kind at most.
use Rattle.std.proofs.Common.{ap, ◌∙◌}
use Rattle.jk_model.specs.ScriptGrammar.{is_name}
use Rattle.host_check.proofs.NumbersOfCalls.{by_start, may_start}
use Rattle.host_check.proofs.host.start.Goals as goal

pub start-requires-clause-named : goal.start-requires-clause-named
start-requires-clause-named c = ap is_name c.as_bytes.ensures.value ∙ c.name.ensures

pub start-requires-clause-numbers : goal.start-requires-clause-numbers
start-requires-clause-numbers c = may_start c.args.kernel.now c.requires

pub returns : goal.returns
returns c = by_start c.args.kernel.now _ c.start.new.self c.start.ensures.event.0 c.start.ensures.event.2
