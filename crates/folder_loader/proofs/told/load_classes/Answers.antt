-- What holds of the class files is handed on, and a fault of theirs is one of the folder's.
use Rattle.std.proofs.Common.{◌≡◌, ◌≤◌, Err, length, ap, subst, sym, arith}
use Rattle.std.specs.Prelude.{List}
use Rattle.std.proofs.lemmas.List.{length-map}
use Rattle.jk_model_folders.specs.FolderTrees.{MOST_FILES}
use Rattle.class_files.specs.declared.faults.ClassFilesError.TheVariants.{Broken}
use Rattle.class_files.specs.declared.folder_class.FolderClass.{FolderClass}
use Rattle.class_files.specs.FolderClasses.{files_of}
use Rattle.folder_loader.specs.LinkedFolders.{AreLinkable, IsLinkFault}
use Rattle.folder_loader.proofs.FaultsOfFiles.{link_fault, own_fault}
use Rattle.folder_loader.proofs.OwnNames.{are_linkable}
use Rattle.folder_loader.proofs.told.load_classes.Goals as goal

pub link_classes-requires-clause-linkable : goal.link_classes-requires-clause-linkable
link_classes-requires-clause-linkable c =
    let w = c.args.world.now in let outer = c.args.outer in let classes = c.in-Ok.classes in
    subst (λ (fs : List FolderClass). AreLinkable w (files_of fs) outer.lines outer.names) (sym c.as_slice.ensures)
    (are_linkable c.args.files.now (files_of classes) w c.requires.lines.0 outer.lines outer.names c.paths_are_in_the_order_of_bytes.ensures
    c.requires.may c.requires.files c.in-Ok.ensures.classes c.in-Ok.ensures.none_alone c.requires.lines.1 c.requires.lines.2)

pub returns-in-Ok-clause-fault : goal.returns-in-Ok-clause-fault
returns-in-Ok-clause-fault c = λ fault into is good known.
    let w = c.args.world.now in let outer = c.args.outer in let classes = c.in-Ok.classes in
    link_fault c.args.files.now w into outer.lines (files_of classes) outer.names fault good c.in-Ok.ensures.classes c.in-Ok.ensures.none_alone known
    (subst (λ (fs : List FolderClass). IsLinkFault w outer.lines (files_of fs) outer.names fault) c.as_slice.ensures
    (c.link_classes.ensures.fault fault is))

pub returns-in-Err-clause-fault : goal.returns-in-Err-clause-fault
returns-in-Err-clause-fault c = λ fault into is good known.
    let same : c.in-Err.e ≡ Broken fault = cc in
    own_fault c.args.files.now c.args.world.now into fault (c.in-Err.ensures.fault fault (ap Err same))

pub link_classes-requires-clause-few : goal.link_classes-requires-clause-few
link_classes-requires-clause-few c =
    let mapped = length-map c.in-Ok.classes (λ (f : FolderClass). f.file) in
    subst (λ (fs : List FolderClass). length fs ≤ MOST_FILES) (sym c.as_slice.ensures)
    (omega (arith, mapped, c.in-Ok.ensures.classes.as_many, c.requires.files.few))
