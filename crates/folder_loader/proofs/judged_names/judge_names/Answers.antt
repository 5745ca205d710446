-- The first fault is one of C18, or of C19 where all classes are known.
use Rattle.std.proofs.Common.{◌≡◌, ◌<◌, ℕ, Some, slice_get, subst}
use Rattle.jk_model.specs.declared.class_file.ClassFile.{ClassFile}
use Rattle.jk_model_classes.specs.Items.{Member, Spot}
use Rattle.jk_model_classes.specs.References.{HasBadHierarchy}
use Rattle.jk_model_folders.specs.FolderRules.{BreaksNames, IsFirstBroken, name_rules}
use Rattle.class_files.proofs.FirstOfFiles.{same_fault}
use Rattle.class_files.specs.declared.faults.FileFault.{FileFault}
use Rattle.class_files.specs.FolderClasses.{files_of}
use Rattle.folder_loader.specs.OwnClasses.{AreAllKnown, IsFirstMissing}
use Rattle.folder_loader.proofs.NamesJudged.{first_bad_of, first_missing_is}
use Rattle.folder_loader.proofs.judged_names.judge_names.Goals as goal

pub returns-in-Some-clause-fault : goal.returns-in-Some-clause-fault
returns-in-Some-clause-fault c = λ fault e.
    let cs = files_of c.args.classes.now in
    let first : IsFirstMissing cs c.args.outer.now c.in-Some.fault = rw c.in-Some.is at c.in_ok-fault.ensures.fault in
    subst (λ (x : FileFault). IsFirstBroken name_rules (BreaksNames c.args.world.now cs c.args.outer.now) x.rule x.file x.number) (same_fault _ _ e)
    (first_missing_is c.args.world.now cs c.args.outer.now c.in-Some.fault first)

pub returns-in-Some-2-clause-fault : goal.returns-in-Some-2-clause-fault
returns-in-Some-2-clause-fault c = λ fault e.
    let cs = files_of c.args.classes.now in
    let known : AreAllKnown cs c.args.outer.now = rw c.in_default.is at c.in_ok-fault.ensures.none in
    let table = c.classes.result.now in
    let bad : (d : ClassFile) × (slice_get cs c.in-Some-2.file ≡ Some d)
    × HasBadHierarchy (record { files = cs; names = c.args.outer.now; classes = table }) d (Member 0) =
    rw c.in-Some-2.is at c.in_ok-file.ensures.bad in
    let first : (j : ℕ) (d : ClassFile) (spot : Spot) → j < c.in-Some-2.file → slice_get cs j ≡ Some d
    → HasBadHierarchy (record { files = cs; names = c.args.outer.now; classes = table }) d spot → ⊥ =
    rw c.in-Some-2.is at c.in_ok-file.ensures.first in
    subst (λ (x : FileFault). IsFirstBroken name_rules (BreaksNames c.args.world.now cs c.args.outer.now) x.rule x.file x.number) (same_fault _ _ e)
    (first_bad_of c.args.world.now cs c.args.outer.now table c.in-Some-2.file c.classes.ensures known bad first)
