-- All class files were read and judged, or one of them breaks a rule first.
use Rattle.std.proofs.Common.{◌≡◌, Err, inr, subst, ap}
use Rattle.std.specs.Prelude.{List}
use Rattle.jk_model_classes.specs.OneClassRules.{one_class_rules}
use Rattle.jk_model_folders.specs.FolderRules.{BreaksAlone, NoneBroken}
use Rattle.class_files.specs.Faults.{IsAloneFault}
use Rattle.class_files.specs.declared.faults.ClassFilesError.TheVariants.{Broken}
use Rattle.class_files.specs.FolderClasses.{files_of}
use Rattle.class_files.specs.declared.folder_class.FolderClass.{FolderClass}
use Rattle.class_files.proofs.JudgedFiles.{are_class_files, are_read_classes}
use Rattle.class_files.proofs.whole.class_files.Goals as goal

pub returns-in-Err-clause-fault : goal.returns-in-Err-clause-fault
returns-in-Err-clause-fault c = λ fault e.
    let same : c.in-Err.e ≡ Broken fault = cc in
    let alone : IsAloneFault c.args.files.now (files_of c.as_slice.result.now) fault = c.in-Err.ensures.fault fault (ap Err same) in
    inr (
      files_of c.in_ok-classes.classes,
      are_class_files c.args.files.now c.in_ok-classes.classes c.in_ok-classes.ensures.read,
      rw c.as_slice.ensures at alone,
    )

pub returns-in-Ok-clause-classes : goal.returns-in-Ok-clause-classes
returns-in-Ok-clause-classes c = are_class_files c.args.files.now c.in_ok-classes.classes c.in_ok-classes.ensures.read

pub returns-in-Ok-clause-none_alone : goal.returns-in-Ok-clause-none_alone
returns-in-Ok-clause-none_alone c =
    subst (λ (fs : List FolderClass). NoneBroken one_class_rules (BreaksAlone c.args.files.now (files_of fs))) c.as_slice.ensures c.in-Ok.ensures.none

pub returns-in-Ok-clause-read : goal.returns-in-Ok-clause-read
returns-in-Ok-clause-read c =
    are_read_classes c.args.files.now c.in_ok-classes.classes c.requires c.in_ok-classes.ensures.read
    (subst (λ (fs : List FolderClass). NoneBroken one_class_rules (BreaksAlone c.args.files.now (files_of fs))) c.as_slice.ensures c.in-Ok.ensures.none)
