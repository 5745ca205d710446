-- The names differ, and a fault is one of the names or one among all classes.
use Rattle.std.proofs.Common.{◌≡◌, Err, inl, ap}
use Rattle.class_files.specs.declared.faults.ClassFilesError.TheVariants.{Broken}
use Rattle.folder_loader.proofs.placing.link_classes.Goals as goal

pub returns-in-Err-judge_names-clause-fault : goal.returns-in-Err-judge_names-clause-fault
returns-in-Err-judge_names-clause-fault c = λ fault e.
    let same : c.in-Err-judge_names.e ≡ Broken fault = cc in
    inl (c.in-Err-judge_names.ensures.fault fault (ap Err same))
