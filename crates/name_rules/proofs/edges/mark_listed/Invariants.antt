-- The names of the entries so far are marked.
use Rattle.std.proofs.Common.{◌≡◌, ℕ, Some, slice_get}
use Rattle.jk_model.specs.declared.class_file.PoolEntry.TheVariants.{Class}
use Rattle.jk_model_classes.specs.Items.{HasItemBefore}
use Rattle.name_rules.specs.Marks.{Marks}
use Rattle.name_rules.proofs.edges.mark_listed.Given as goal

abbrev pub invariant-loop-i : goal.invariant-loop-i
invariant-loop-i l = Marks (λ n. HasItemBefore l.i-index (λ (i : ℕ). slice_get l.pool i ≡ Some (Class n)) l.indices) l.initial.marks l.marks
