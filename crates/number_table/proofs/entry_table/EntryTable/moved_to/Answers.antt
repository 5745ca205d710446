-- One entry more is moved, or a free one is passed.
use Rattle.std.proofs.Common.{◌<◌, ◌+◌, ◌∙◌, ℕ, sym, ap, subst, length, arith}
use Rattle.std.proofs.lemmas.List.{get_or_read}
use Rattle.number_table.specs.declared.entry_table.Entry.{Entry}
use Rattle.number_table.specs.declared.entry_table.EntryTable.{EntryTable}
use Rattle.number_table.specs.Entries.{no_entry}
use Rattle.number_table.specs.TableMoves.{place_in, room, Inserts}
use Rattle.number_table.proofs.TableIsMoved.{AreMoved, not_yet, one_moved, free_passed, all_moved}
use Rattle.number_table.proofs.entry_table.EntryTable.moved_to.Goals as goal
use Rattle.number_table.proofs.entry_table.EntryTable.moved_to.Goals.{then-stack_of-self, else-stack_of-self}

pub insert-requires-clause-new : goal.insert-requires-clause-new
insert-requires-clause-new c =
    let t = c.args.self.now in
    let lt : c.loop-entry.entry < length t.entries.items = omega (arith, t.entries.ok.0, c.loop-entry-test.true, c.len-entry-end.ensures) in
    let read = get_or_read t.entries.items _ _ lt c.index-moved.ensures no_entry in
    ap (λ (x : Entry). place_in c.loop-entry.table x.number) read
    ∙ not_yet t (place_in c.loop-entry.table) c.loop-entry.entry (omega (arith, t.ok.as_many)) (λ e. c.if-stack_of-self.true (c.stack_of.ensures ∙ e))
    c.loop-entry.invariant.0

pub loop-entry-preserved : goal.loop-entry-preserved
loop-entry-preserved c =
    let t = c.args.self.now in
    let b = c.loop-entry.entry in
    let lt : b < length t.entries.items = omega (arith, t.entries.ok.0, c.loop-entry-test.true, c.len-entry-end.ensures) in
    let before = c.loop-entry.invariant in
    elim c.if-stack_of-self.branch [
      | then-stack_of-self w ↦
          let read = get_or_read t.entries.items _ _ lt w.index-moved.ensures no_entry in
          let P : Entry → Type 0 = λ x. Inserts c.loop-entry.table w.insert.new.self x.number x.place in
          let ins = subst P read w.insert.ensures in
          let Q : EntryTable → Type 0 = λ (x : EntryTable). AreMoved t (place_in x) (b + 1) in (
            subst Q (sym w.table-is)
                (one_moved t c.loop-entry.table w.insert.new.self b (omega (arith, t.ok.as_many))
                (λ e. w.if-stack_of-self.true (c.stack_of.ensures ∙ e)) before.0 ins),
            omega (arith, ap room w.table-is, w.insert.ensures.less_room, before.1),
          )
      | else-stack_of-self w ↦
          let Q : EntryTable → Type 0 = λ (x : EntryTable). AreMoved t (place_in x) (b + 1) in (
            subst Q (sym w.table-is) (free_passed t (place_in c.loop-entry.table) b (sym c.stack_of.ensures ∙ w.if-stack_of-self.false) before.0),
            omega (arith, ap room w.table-is, before.1),
          )
    ]

pub returns-clause-same : goal.returns-clause-same
returns-clause-same c =
    let t = c.args.self.now in
    let P : ℕ → Type 0 = λ n. AreMoved t (place_in c.loop-entry.table) n in
    all_moved t (place_in c.loop-entry.table)
    (subst P (omega (arith, t.entries.ok.0, t.ok.as_many, c.loop-entry-test.false, c.len-entry-end.ensures, c.loop-entry.auto.entry-end))
    c.loop-entry.invariant.0)
