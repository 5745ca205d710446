-- An entry is a class, or a reference, or neither.
use Rattle.jk_model_classes.specs.ClassNames.{IsClassEntryName, IsReferenceName}
use Rattle.class_rules.proofs.Decisions.{denied}
use Rattle.class_rules.proofs.KnownEntries.{class_decides, reference_decides, no_class_decides}
use Rattle.class_rules.proofs.known_pool.KnownPool.is_badly_named.Goals as goal

pub returns-in-Some : goal.returns-in-Some
returns-in-Some c =
    class_decides (λ units. IsClassEntryName units → ⊥) (λ kind name descriptor. IsReferenceName kind name → ⊥) c.args.self.now.entries.now
    c.args.entry.now c.in-Some.name _ c.in-Some.ensures (λ pool units known. denied _ (c.is_class_entry_name.ensures pool units known))

pub returns-in-Some-reference : goal.returns-in-Some-reference
returns-in-Some-reference c =
    no_class_decides (λ units. IsClassEntryName units → ⊥) (λ kind name descriptor. IsReferenceName kind name → ⊥) c.args.self.now.entries.now
    c.args.entry.now _ c.in_default.ensures
    (reference_decides (λ kind name descriptor. IsReferenceName kind name → ⊥) c.args.self.now.entries.now c.args.entry.now
    c.in-Some-reference.reference _ c.in-Some-reference.ensures
    (λ pool name descriptor known of_descriptor. denied _ (c.is_reference_name.ensures pool name known)))
