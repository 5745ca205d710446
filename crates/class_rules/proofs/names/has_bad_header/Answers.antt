-- The class, its parent and its interfaces are asked in turn.
use Rattle.std.proofs.Common.{rules, ℕ}
use Rattle.jk_model_classes.specs.ClassNames.{NamesClass}
use Rattle.class_rules.proofs.Decisions.{or_else, some_item}
use Rattle.class_rules.proofs.FirstItems.{least_item}
use Rattle.class_rules.proofs.KnownTexts.{of_entries}
use Rattle.class_rules.proofs.names.has_bad_header.Goals as goal

pub returns-else-names_no_class-2 : goal.returns-else-names_no_class-2
returns-else-names_no_class-2 c =
    let entries = c.of-pool.result.entries.now in
    let pool = c.args.c.now.pool in
    let same = c.of-pool.ensures.entries in
    let items =
    least_item (λ (i : ℕ). NamesClass c.args.c.now.pool i → ⊥) _ _ _ _ _ c.as_slice.ensures c.first_at.ensures.first
    (λ x b h. of_entries (λ p. NamesClass p x.now → ⊥) entries pool b same (search rules)) in
    or_else c.names_no_class.result _ c.if-names_no_class.false
    (of_entries (λ p. NamesClass p c.args.c.now.this_class → ⊥) entries pool c.names_no_class.result same c.names_no_class.ensures)
    (or_else c.names_no_class-2.result _ c.if-names_no_class-2.false
    (of_entries (λ p. NamesClass p c.args.c.now.super_class → ⊥) entries pool c.names_no_class-2.result same c.names_no_class-2.ensures)
    (rw c.is_some.ensures (some_item (λ (i : ℕ). NamesClass c.args.c.now.pool i → ⊥) c.args.c.now.interfaces c.first_at.result items)))
