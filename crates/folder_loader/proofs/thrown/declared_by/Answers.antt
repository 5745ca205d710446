-- What the methods of one class more say they throw.
use Rattle.std.proofs.Common.{List, ◌++◌, ap, ◌∙◌, arith}
use Rattle.jk_model.specs.declared.identifiers.ClassId.{ClassId}
use Rattle.class_files.specs.FolderClasses.{files_of}
use Rattle.folder_loader.proofs.FilesInTurn.{all_declared, declared_more}
use Rattle.folder_loader.proofs.FilesRead.{ordered_file}
use Rattle.folder_loader.proofs.thrown.declared_by.Goals as goal

pub thrown_classes-requires-clause-linkable : goal.thrown_classes-requires-clause-linkable
thrown_classes-requires-clause-linkable c =
    let its = ordered_file c.args.classes.now c.args.order.now c.loop-place.place-index c.index-classes-place.result c.requires.read c.requires.places
    c.loop-place-test.true c.index-classes-place.is in
    c.requires.linkable _ c.index-classes-place.result.file its.1

pub thrown_classes-requires-clause-texts : goal.thrown_classes-requires-clause-texts
thrown_classes-requires-clause-texts c =
    let its = ordered_file c.args.classes.now c.args.order.now c.loop-place.place-index c.index-classes-place.result c.requires.read c.requires.places
    c.loop-place-test.true c.index-classes-place.is in
    its.2.texts

pub loop-place-preserved : goal.loop-place-preserved
loop-place-preserved c =
    let its = ordered_file c.args.classes.now c.args.order.now c.loop-place.place-index c.index-classes-place.result c.requires.read c.requires.places
    c.loop-place-test.true c.index-classes-place.is in
    declared_more c.args.names.now (files_of c.args.classes.now) c.args.order.now c.loop-place.place-index _
    c.index-classes-place.result.file c.loop-place.declared _ c.in_ok-lists.lists its.0 its.1 c.loop-place.invariant c.in_ok-lists.ensures
    (c.in_ok-add_lists.ensures ∙ ap (λ (xs : List (List ClassId)). c.loop-place.declared ++ xs) c.as_slice.ensures)

pub returns : goal.returns
returns c =
    all_declared c.args.names.now (files_of c.args.classes.now) c.args.order.now c.loop-place.place-index c.loop-place.declared (omega arith)
    c.loop-place.invariant
