-- One more entry's name, or those of all.
use Rattle.std.proofs.Common.{◌≡◌, ℕ, arith}
use Rattle.jk_model.specs.declared.class_file.PoolEntry.{PoolEntry}
use Rattle.jk_model.specs.declared.class_file.PoolEntry.TheVariants.{Class}
use Rattle.class_linker.specs.KnownReferences.{IsNameEntry}
use Rattle.class_linker.proofs.MarkedEntries.{just_marked, marks_all, marks_more, marks_start}
use Rattle.class_linker.proofs.marks.mark_names.Goals as goal

abbrev Named : ℕ → PoolEntry → Type 0
Named i e = e ≡ Class i

pub loop-entry-init : goal.loop-entry-init
loop-entry-init c = marks_start Named c.args.pool.now c.args.marks.now

pub loop-entry-preserved : goal.loop-entry-preserved
loop-entry-preserved c =
    marks_more Named c.args.pool.now c.loop-entry.entry-index c.entry-item.result _ _ _ (omega arith) c.entry-item.is c.loop-entry.invariant c.mark_name.ensures

pub returns : goal.returns
returns c =
    just_marked (IsNameEntry c.args.pool.now) c.args.pool.now c.args.marks.now c.loop-entry.marks c.requires
    (marks_all Named c.args.pool.now c.loop-entry.entry-index _ _ (omega arith) c.loop-entry.invariant)
