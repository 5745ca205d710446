-- A refusal is the rule that it stands for, and a fault of the record is one of the file.
use Rattle.std.proofs.Common.{◌∙◌, Err, ap, sym, inr, refl, rules}
use Rattle.class_check.specs.FirstRule.{BreaksFirst}
use Rattle.class_check.proofs.RefusalsAreRules.{along, refusal_breaks}
use Rattle.class_check.proofs.finding.first_finding.Goals as goal

pub returns-in-Err-clause-broken : goal.returns-in-Err-clause-broken
returns-in-Err-clause-broken c rule n e =
    refusal_breaks c.args.bytes.now c.args.path.now c.in-Err.refusal rule n (record {
      magic = λ is. c.read_class.ensures.bad_magic.0 (c.in-Err.is ∙ ap Err is);
      version = λ is. c.read_class.ensures.bad_version.0 (c.in-Err.is ∙ ap Err is);
      truncated = λ k is. c.read_class.ensures.truncated k (c.in-Err.is ∙ ap Err is);
      trailing = λ k is. c.read_class.ensures.trailing k (c.in-Err.is ∙ ap Err is);
      «pool» = λ k is. c.read_class.ensures.bad_pool k (c.in-Err.is ∙ ap Err is);
    }) (sym c.refused.ensures ∙ e)

pub returns-in-Some-clause-broken : goal.returns-in-Some-clause-broken
returns-in-Some-clause-broken c rule n e =
    along (BreaksFirst c.args.bytes.now c.args.path.now) c.in-Some.fault.rule rule c.in-Some.fault.number n _ refl e
    (inr (c.in-Ok.class, c.in-Ok.ensures.found, search rules))
