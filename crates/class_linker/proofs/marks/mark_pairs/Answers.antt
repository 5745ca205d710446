-- One more entry's descriptor, or those of all.
use Rattle.std.proofs.Common.{◌≡◌, ℕ, arith}
use Rattle.jk_model.specs.declared.class_file.PoolEntry.{PoolEntry}
use Rattle.jk_model.specs.declared.class_file.PoolEntry.TheVariants.{NameAndType}
use Rattle.class_linker.proofs.MarkedEntries.{marks_all, marks_more, marks_start}
use Rattle.class_linker.proofs.marks.mark_pairs.Goals as goal

abbrev Pair : ℕ → PoolEntry → Type 0
Pair i e = (name : ℕ) × (e ≡ NameAndType name i)

pub loop-entry-init : goal.loop-entry-init
loop-entry-init c = marks_start Pair c.args.pool.now c.args.marks.now

pub loop-entry-preserved : goal.loop-entry-preserved
loop-entry-preserved c =
    marks_more Pair c.args.pool.now c.loop-entry.entry-index c.entry-item.result _ _ _ (omega arith) c.entry-item.is c.loop-entry.invariant c.mark_pair.ensures

pub returns : goal.returns
returns c = marks_all Pair c.args.pool.now c.loop-entry.entry-index _ _ (omega arith) c.loop-entry.invariant
