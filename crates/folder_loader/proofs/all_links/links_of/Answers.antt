-- The links of one class more.
use Rattle.std.proofs.Common.{arith}
use Rattle.class_files.specs.FolderClasses.{files_of}
use Rattle.folder_loader.specs.ClassesInOrder.{AreLinksAmong}
use Rattle.folder_loader.proofs.FilesInTurn.{all_made, one_more}
use Rattle.folder_loader.proofs.FilesRead.{ordered_file}
use Rattle.folder_loader.proofs.all_links.links_of.Goals as goal

pub class_links-requires-clause-linkable : goal.class_links-requires-clause-linkable
class_links-requires-clause-linkable c =
    let its = ordered_file c.args.classes.now c.args.order.now c.loop-place.place-index c.index-classes-place.result c.requires.read c.requires.places
    c.loop-place-test.true c.index-classes-place.is in
    c.requires.linkable _ c.index-classes-place.result.file its.1

pub class_links-requires-clause-texts : goal.class_links-requires-clause-texts
class_links-requires-clause-texts c =
    let its = ordered_file c.args.classes.now c.args.order.now c.loop-place.place-index c.index-classes-place.result c.requires.read c.requires.places
    c.loop-place-test.true c.index-classes-place.is in
    its.2.texts

pub loop-place-preserved : goal.loop-place-preserved
loop-place-preserved c =
    let its = ordered_file c.args.classes.now c.args.order.now c.loop-place.place-index c.index-classes-place.result c.requires.read c.requires.places
    c.loop-place-test.true c.index-classes-place.is in
    one_more (AreLinksAmong c.args.names.now c.args.t.now) (files_of c.args.classes.now) c.args.order.now c.loop-place.place-index _
    c.index-classes-place.result.file c.loop-place.all _ c.in_ok-links.links its.0 its.1 c.loop-place.invariant c.in_ok-links.ensures c.in_ok-push.ensures.ok

pub returns : goal.returns
returns c =
    all_made (AreLinksAmong c.args.names.now c.args.t.now) (files_of c.args.classes.now) c.args.order.now c.loop-place.place-index c.loop-place.all
    (omega arith)
    c.loop-place.invariant
