-- One class more stands behind the others.
use Rattle.std.proofs.Common.{ℕ, subst, sym, arith}
use Rattle.class_files.specs.FolderClasses.{files_of}
use Rattle.folder_loader.specs.ClassesInOrder.{IsAbove}
use Rattle.folder_loader.proofs.FilesInTurn.{record_more, records_count}
use Rattle.folder_loader.proofs.FilesRead.{ordered_file}
use Rattle.folder_loader.proofs.records.add_classes.Goals as goal

pub add_class-requires-clause-read : goal.add_class-requires-clause-read
add_class-requires-clause-read c =
    let its = ordered_file c.args.classes.now c.args.order.now c.loop-place.place-index c.index-classes-place.result c.requires.read c.requires.places
    c.loop-place-test.true c.index-classes-place.is in
    its.2

pub add_class-requires-clause-linkable : goal.add_class-requires-clause-linkable
add_class-requires-clause-linkable c =
    let its = ordered_file c.args.classes.now c.args.order.now c.loop-place.place-index c.index-classes-place.result c.requires.read c.requires.places
    c.loop-place-test.true c.index-classes-place.is in
    c.requires.linkable _ c.index-classes-place.result.file its.1

pub add_class-requires-clause-above : goal.add_class-requires-clause-above
add_class-requires-clause-above c =
    let its = ordered_file c.args.classes.now c.args.order.now c.loop-place.place-index c.index-classes-place.result c.requires.read c.requires.places
    c.loop-place-test.true c.index-classes-place.is in
    let many = records_count c.args.names.now c.args.home (files_of c.args.classes.now) c.args.order.now c.loop-place.place-index c.args.world.now
    c.loop-place.world (omega (arith, c.loop-place-test.true)) c.loop-place.invariant in
    subst (λ (n : ℕ). IsAbove c.args.names.now n c.index-classes-place.result.file) (sym many)
    (c.requires.stand c.loop-place.place-index _ c.index-classes-place.result.file its.0 its.1)

pub add_class-requires-clause-few : goal.add_class-requires-clause-few
add_class-requires-clause-few c =
    let many = records_count c.args.names.now c.args.home (files_of c.args.classes.now) c.args.order.now c.loop-place.place-index c.args.world.now
    c.loop-place.world (omega (arith, c.loop-place-test.true)) c.loop-place.invariant in
    omega (arith, many, c.requires.room, c.loop-place-test.true)

pub loop-place-preserved : goal.loop-place-preserved
loop-place-preserved c =
    let its = ordered_file c.args.classes.now c.args.order.now c.loop-place.place-index c.index-classes-place.result c.requires.read c.requires.places
    c.loop-place-test.true c.index-classes-place.is in
    record_more c.args.names.now c.args.home (files_of c.args.classes.now) c.args.order.now c.loop-place.place-index _ c.index-classes-place.result.file
    c.args.world.now c.loop-place.world c.add_class.new.world its.0 its.1 c.loop-place.invariant c.in_ok-add_class.ensures.ok
