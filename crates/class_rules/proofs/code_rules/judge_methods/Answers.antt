-- The methods are the class's, and no attribute of them is bad.
use Rattle.std.proofs.Common.{sym, subst}
use Rattle.class_rules.specs.Attributes.{HaveShort}
use Rattle.class_rules.proofs.CodesReadEach.{own_judged, good_method}
use Rattle.class_rules.proofs.code_rules.judge_methods.Goals as goal

pub judge_each-requires : goal.judge_each-requires
judge_each-requires c = record {
  facts = c.requires.facts;
  short = subst HaveShort (sym c.as_slice.ensures) c.requires.short;
  attributes = good_method c.args.c.now c.as_slice.result.now c.as_slice.ensures c.requires.attributes;
}

pub returns : goal.returns
returns c = own_judged c.args.c.now c.as_slice.result.now c.judge_each.result c.as_slice.ensures c.judge_each.ensures
