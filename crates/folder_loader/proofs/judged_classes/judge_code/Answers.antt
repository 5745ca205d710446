-- C24 and C23 are judged where the classes have their links.
use Rattle.std.proofs.Common.{List}
use Rattle.jk_model.specs.declared.class_file.ClassFile.{ClassFile}
use Rattle.jk_model_classes.specs.Worlds.{WorldRecord}
use Rattle.jk_model_folders.specs.ClassOrder.{IsClassOrder}
use Rattle.jk_model_folders.specs.FolderRules.{BreaksPlaced, NoneBroken, PlacedFolder}
use Rattle.class_files.specs.FolderClasses.{files_of}
use Rattle.placed_rules.specs.PlacedFaults.{IsLinkedAs, code_rules}
use Rattle.folder_loader.proofs.RulesMet.{in_order, linked_as, recorded}
use Rattle.folder_loader.proofs.judged_classes.judge_code.Goals as goal

pub code_fault-requires : goal.code_fault-requires
code_fault-requires c =
    let u = c.requires.linked in
    let files = files_of c.args.classes.now in
    let order = c.as_slice.result.now in
    record {
      recorded = (
        files,
        in_order u.0 u.1 files u.2 c.args.placed.now u.3 order c.as_slice.ensures.value,
        recorded u.0 u.1 files u.2 c.args.placed.now u.3 c.args.t.now order u.4 c.as_slice.ensures.value,
      );
    }

pub returns-in-Ok-None-clause-none : goal.returns-in-Ok-None-clause-none
returns-in-Ok-None-clause-none c = λ w lines names is e.
    let files = files_of c.args.classes.now in
    let order = c.as_slice.result.now in
    let none : (v : WorldRecord) (cs : List ClassFile) (p : PlacedFolder) → IsClassOrder cs order
    → IsLinkedAs v p c.args.t.now order c.args.placed.now.first → NoneBroken code_rules (BreaksPlaced v cs p) =
    rw c.in-Ok-None.field-0-is at c.in-Ok-None.ensures.none in
    none w files is.placed (in_order w lines files names c.args.placed.now is order c.as_slice.ensures.value)
    (linked_as w lines files names c.args.placed.now is c.args.t.now order e c.as_slice.ensures.value)
