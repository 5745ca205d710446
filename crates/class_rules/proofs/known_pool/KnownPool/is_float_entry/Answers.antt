-- An entry is a class, or a reference, or neither.
use Rattle.jk_model_classes.specs.MemberDescriptors.{IsFloatArray, IsFloatReference}
use Rattle.class_rules.proofs.KnownEntries.{class_decides, reference_decides, no_class_decides}
use Rattle.class_rules.proofs.known_pool.KnownPool.is_float_entry.Goals as goal

pub returns-in-Some : goal.returns-in-Some
returns-in-Some c =
    class_decides IsFloatArray (λ kind name descriptor. IsFloatReference kind descriptor) c.args.self.now.entries.now c.args.entry.now c.in-Some.name _
    c.in-Some.ensures c.is_float_array.ensures

pub returns-in-Some-reference : goal.returns-in-Some-reference
returns-in-Some-reference c =
    no_class_decides IsFloatArray (λ kind name descriptor. IsFloatReference kind descriptor) c.args.self.now.entries.now c.args.entry.now _
    c.in_default.ensures
    (reference_decides (λ kind name descriptor. IsFloatReference kind descriptor) c.args.self.now.entries.now c.args.entry.now
    c.in-Some-reference.reference _ c.in-Some-reference.ensures (λ pool name descriptor of_name known. c.is_float.ensures pool descriptor known))
