-- The reference at an index is known with its name.
use Rattle.std.proofs.Common.{◌≡◌}
use Rattle.jk_model_classes.specs.Members.{INIT}
use Rattle.class_rules.proofs.KnownEntries.{reference_decides, refers_to, refers_to_none, refers_nowhere}
use Rattle.class_rules.proofs.codes.operands.refers_to_init.Goals as goal

pub returns-in-Some-reference : goal.returns-in-Some-reference
returns-in-Some-reference c =
    refers_to INIT c.args.pool.now.entries.now c.args.i c.in-Some.entry.now c.is.result c.in-Some.ensures
    (reference_decides (λ kind name descriptor. name ≡ INIT) c.args.pool.now.entries.now c.in-Some.entry.now c.in-Some-reference.reference c.is.result
    c.in-Some-reference.ensures (λ pool name descriptor known of_descriptor. c.is.ensures pool name known))

pub returns-in-None : goal.returns-in-None
returns-in-None c = refers_to_none INIT c.args.pool.now.entries.now c.args.i c.in-Some.entry.now c.in-Some.ensures c.in-None.ensures

pub returns-in_default : goal.returns-in_default
returns-in_default c = refers_nowhere INIT c.args.pool.now.entries.now c.args.i c.in_default.ensures
