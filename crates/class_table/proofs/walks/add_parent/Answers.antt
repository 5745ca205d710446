-- The parent's walk is put in.
use Rattle.std.proofs.Common.{ap, ◌∙◌}
use Rattle.std.proofs.lemmas.Result.{on_ok_weaker}
use Rattle.jk_model_classes.specs.Classes.{field_walk}
use Rattle.class_table.specs.Entries.{records}
use Rattle.class_table.specs.Walks.{with_all}
use Rattle.class_table.proofs.EntriesAreRight.{entry-at}
use Rattle.class_table.proofs.FirstsByInsertion.{with_all-firsts}
use Rattle.class_table.proofs.walks.add_parent.Goals as goal

pub returns-in-Some : goal.returns-in-Some
returns-in-Some c =
    let entries = c.args.entries.now in
    let keys = c.args.seen.now.keys in
    let right = entry-at entries c.in-Some.parent c.entry_of.result.now c.entry_of.ensures c.requires.table in
    rw (c.in-Some.is)
    (on_ok_weaker c.add_walk.result
    (λ put. put ∙ ap (with_all keys) (c.as_slice.ensures ∙ right.walk.whole) ∙ with_all-firsts keys (field_walk (records entries) c.in-Some.parent))
    c.add_walk.ensures)
