-- An entry is a reference, or none.
use Rattle.jk_model_classes.specs.MemberDescriptors.{IsReferenceDescriptor}
use Rattle.class_rules.proofs.Decisions.{denied}
use Rattle.class_rules.proofs.KnownEntries.{reference_decides}
use Rattle.class_rules.proofs.known_pool.KnownPool.is_bad_reference.Goals as goal

pub returns-in-Some : goal.returns-in-Some
returns-in-Some c =
    reference_decides (λ kind name descriptor. IsReferenceDescriptor kind name descriptor → ⊥) c.args.self.now.entries.now c.args.entry.now
    c.in-Some.reference _ c.in-Some.ensures
    (λ pool name descriptor of_name known. denied _ (c.has_descriptor.ensures pool name descriptor of_name known))
