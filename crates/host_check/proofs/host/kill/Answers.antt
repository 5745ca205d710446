-- A kill draws no number.
use Rattle.std.proofs.Common.{◌≤◌, ap, ◌∙◌, arith}
use Rattle.jk_model.specs.ScriptGrammar.{is_name}
use Rattle.host_check.proofs.NumbersOfCalls.{by_steps}
use Rattle.host_check.proofs.host.kill.Goals as goal

none_fits : 0 ≤ 1000
none_fits = omega arith

pub kill-requires : goal.kill-requires
kill-requires c = record { named = ap is_name c.as_bytes.ensures.value ∙ c.name.ensures }

pub returns : goal.returns
returns c = by_steps c.args.kernel.now 0 c.kill.new.self none_fits c.kill.ensures.counts.0
