-- What holds of the classes where they stand holds of the folder.
use Rattle.std.proofs.Common.{◌≡◌, Err, ap, subst, sym}
use Rattle.class_files.specs.declared.faults.ClassFilesError.TheVariants.{Broken}
use Rattle.class_files.specs.FolderClasses.{files_of}
use Rattle.folder_loader.specs.declared.answers.Loaded.{Loaded}
use Rattle.folder_loader.specs.LinkedFolders.{AreTypedFrom, IsLinkedFolder}
use Rattle.folder_loader.proofs.placing.classes_behind.Goals as goal

pub linked_classes-requires-clause-stands : goal.linked_classes-requires-clause-stands
linked_classes-requires-clause-stands c = (c.args.world.now, c.args.outer.lines, c.args.outer.names, c.in_ok-placed.ensures.ok)

pub returns-in-Ok-clause-ok : goal.returns-in-Ok-clause-ok
returns-in-Ok-clause-ok c =
    let w = c.args.world.now in
    let files = files_of c.args.classes.now in
    let s = c.in_ok-placed.ensures.ok in
    let judged = c.in-Ok.ensures.ok w c.args.outer.lines c.args.outer.names s in
    let l : Loaded = record {
      first = c.in_ok-placed.placed.first;
      table = c.in_ok-placed.placed.names;
      offers = c.in_ok-placed.placed.offers;
      stubs = c.in-Ok.stubs;
    } in
    let is : IsLinkedFolder w c.args.outer.lines files c.args.outer.names l c.linked_classes.new.world = record {
      none_of_names = c.requires.named;
      placed = s.0.placed;
      is_placed = s.0.is_placed;
      none_placed = judged.none_placed;
      first_is = s.0.first_is;
      table_is = s.0.table_is;
      offers_are = s.0.offers_are;
      stubs_are = judged.stubs_are;
      world = judged.world;
    } in
    subst (λ (x : Loaded). IsLinkedFolder w c.args.outer.lines files c.args.outer.names x c.linked_classes.new.world) (sym c.loaded.ensures) is

pub returns-in-Ok-clause-typed : goal.returns-in-Ok-clause-typed
returns-in-Ok-clause-typed c =
    subst (λ (x : Loaded). AreTypedFrom c.linked_classes.new.world.classes x.first) (sym c.loaded.ensures) c.in-Ok.ensures.typed

pub returns-in-Err-clause-err : goal.returns-in-Err-clause-err
returns-in-Err-clause-err c = c.in-Err.ensures.err c.args.world.now c.args.outer.lines c.args.outer.names c.in_ok-placed.ensures.ok

pub returns-in-Err-clause-fault : goal.returns-in-Err-clause-fault
returns-in-Err-clause-fault c = λ fault e.
    let s = c.in_ok-placed.ensures.ok in
    let same : c.in-Err.e ≡ Broken fault = cc in (
      s.0.placed,
      s.0.is_placed,
      c.in-Err.ensures.fault fault (ap Err same) c.requires.linkable.in_order c.args.world.now c.args.outer.lines c.args.outer.names s,
    )
