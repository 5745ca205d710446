-- The index finds the class's own method.
use Rattle.std.proofs.Common.{List, subst, sym}
use Rattle.jk_model_classes.specs.declared.records.MethodRecord.{MethodRecord}
use Rattle.member_index.specs.Finding.{FindsMethodAt}
use Rattle.member_index.specs.Index.{IsMethodIndex}
use Rattle.class_table.proofs.EntriesAreRight.{entry-at}
use Rattle.class_table.proofs.ReadingIsRight.{own_method-found}
use Rattle.class_table.proofs.reading.own_method.Goals as goal

pub find-requires : goal.find-requires
find-requires c =
    let e = c.in_ok-entry.entry.now in
    let right = entry-at c.args.entries.now c.args.c e (sym c.in_ok-entry.ensures) c.requires in
    subst (λ (members : List MethodRecord). IsMethodIndex e.methods members) (sym c.as_slice.ensures) right.methods

pub returns : goal.returns
returns c =
    let e = c.in_ok-entry.entry.now in
    let key = c.args.key.now in
    own_method-found c.args.entries.now c.args.c e (sym c.in_ok-entry.ensures) key.name key.kind c.args.from c.find.result
    (subst (λ (members : List MethodRecord). FindsMethodAt members key c.args.from c.find.result) c.as_slice.ensures c.find.ensures)
