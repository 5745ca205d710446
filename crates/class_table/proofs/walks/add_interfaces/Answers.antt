-- An interface that is there has all above it there, and of one that isn't all above it are put in.
use Rattle.std.proofs.Common.{ℕ, get_or, sym, ap, ◌∙◌, HashSet, BuildHasherDefault, FoldHasher}
use Rattle.jk_model.specs.declared.identifiers.ClassId.{ClassId}
use Rattle.class_table.specs.Walks.{with_all}
use Rattle.class_table.proofs.EntriesAreRight.{entry-at}
use Rattle.class_table.proofs.WalkOfNew.{step-there, step-put}
use Rattle.class_table.proofs.walks.add_interfaces.Goals as goal
use Rattle.class_table.proofs.walks.add_interfaces.Goals.{then-not-contains+in_ok-add_walk, else-not-contains}

abbrev Seen : Type 0
Seen = HashSet ℕ (BuildHasherDefault FoldHasher)

pub interface_walk-requires : goal.interface_walk-requires
interface_walk-requires c =
    let number : ClassId = get_or c.args.interfaces.now c.loop-i.i-index (record { 0 = 0 }) in
    (entry-at c.args.entries.now number c.entry_of.result.now c.entry_of.ensures c.requires.table).walk.own_within

pub loop-i-preserved : goal.loop-i-preserved
loop-i-preserved c = elim c.if-not-contains.branch [
  | then-not-contains+in_ok-add_walk w ↦
      ap (λ (s : Seen). s.keys) w.seen-is
      ∙ step-put c.args.entries.now c.requires.table c.args.seen.now.keys c.loop-i.seen.keys c.args.interfaces.now c.loop-i.i-index c.loop-i-test.true
      c.requires.alone c.requires.below c.loop-i.invariant w.entry_of.result.now w.add_walk.new.seen.keys w.entry_of.ensures
      (w.in_ok-add_walk.ensures ∙ ap (with_all c.loop-i.seen.keys) w.interface_walk.ensures)
  | else-not-contains w ↦
      ap (λ (s : Seen). s.keys) w.seen-is
      ∙ step-there c.args.entries.now c.requires.table c.args.seen.now.keys c.loop-i.seen.keys c.args.interfaces.now c.loop-i.i-index c.loop-i-test.true
      c.requires.alone c.requires.below c.loop-i.invariant (sym c.contains.ensures ∙ w.if-not-contains.false)
]
