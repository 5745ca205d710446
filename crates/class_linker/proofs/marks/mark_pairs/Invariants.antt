-- The descriptors of the entries so far are marked.
use Rattle.std.proofs.Common.{◌≡◌, ℕ}
use Rattle.jk_model.specs.declared.class_file.PoolEntry.{PoolEntry}
use Rattle.jk_model.specs.declared.class_file.PoolEntry.TheVariants.{NameAndType}
use Rattle.jk_model_classes.specs.Items.{HasItemBefore}
use Rattle.name_rules.specs.Marks.{Marks}
use Rattle.class_linker.proofs.marks.mark_pairs.Given as goal

abbrev pub invariant-loop-entry : goal.invariant-loop-entry
invariant-loop-entry l = Marks (λ i. HasItemBefore l.entry-index (λ (e : PoolEntry). (name : ℕ) × (e ≡ NameAndType name i)) l.pool) l.initial.marks l.marks
