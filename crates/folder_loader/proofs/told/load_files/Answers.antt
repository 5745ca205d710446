-- A fault of a line or of a class file is one of the folder's files.
use Rattle.std.proofs.Common.{◌≡◌, Err, ap, subst}
use Rattle.folder_loader.specs.declared.answers.LoadAnswer.{LoadAnswer}
use Rattle.folder_loader.specs.declared.answers.LoadAnswer.TheVariants.{Refused}
use Rattle.folder_loader.specs.Refusals.{IsFileRefusal, IsLineRefusal}
use Rattle.folder_loader.proofs.FaultsOfFiles.{file_fault, file_there, line_fault}
use Rattle.folder_loader.proofs.told.load_files.Goals as goal

pub returns-in-Err-clause-refused : goal.returns-in-Err-clause-refused
returns-in-Err-clause-refused c = λ rule place e.
    let same : c.line_refusal.result ≡ Refused rule place = cc in
    line_fault c.args.files.now c.args.world.now c.args.name.now c.in-Err.fault rule place c.in-Err.ensures.fault
    (subst (λ (a : LoadAnswer). IsLineRefusal c.in-Err.fault a) same c.line_refusal.ensures)

pub file_refusal-requires : goal.file_refusal-requires
file_refusal-requires c =
    file_there c.args.files.now c.args.world.now c.args.name.now c.in-Err-load_classes.e
    (λ fault is. c.in-Err-load_classes.ensures.fault fault c.args.name.now (ap Err is) c.in-Ok.ensures.good c.in-Ok.ensures.names)

pub returns-in-Err-load_classes-clause-refused : goal.returns-in-Err-load_classes-clause-refused
returns-in-Err-load_classes-clause-refused c = λ rule place e.
    let same : c.file_refusal.result ≡ Refused rule place = cc in
    file_fault c.args.files.now c.args.world.now c.args.name.now c.in-Ok.outer.lines c.in-Err-load_classes.e rule place c.in-Ok.ensures.good
    (λ fault is. c.in-Err-load_classes.ensures.fault fault c.args.name.now (ap Err is) c.in-Ok.ensures.good c.in-Ok.ensures.names)
    (subst (λ (a : LoadAnswer). IsFileRefusal c.args.files.now c.in-Err-load_classes.e a) same c.file_refusal.ensures)
