-- The pool is the class's, and the attributes are the method's.
use Rattle.std.proofs.Common.{sym, subst}
use Rattle.class_rules.specs.Attributes.{AreShort}
use Rattle.class_rules.proofs.KnownTexts.{own_known}
use Rattle.class_rules.proofs.MethodsByFlags.{method_answer}
use Rattle.class_rules.proofs.attributes.has_bad_method_attributes.Goals as goal

pub has_wrong_attributes-requires : goal.has_wrong_attributes-requires
has_wrong_attributes-requires c = record {
  known = own_known c.of-pool.result.entries.now c.args.c.now.pool c.of-pool.result.texts.now c.args.facts.now c.of-pool.ensures.entries
      c.of-pool.ensures.texts c.requires.facts;
  short = subst AreShort (sym c.as_slice.ensures) c.requires.short;
}

pub returns : goal.returns
returns c =
    method_answer c.args.c.now c.args.method.now c.of-pool.result.entries.now c.as_slice.result.now c.method_flags-flags.result c.has_wrong_attributes.result
    c.of-pool.ensures.entries c.as_slice.ensures c.method_flags-flags.ensures c.has_wrong_attributes.ensures
