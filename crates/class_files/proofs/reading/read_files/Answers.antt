-- One file more is read, and at the end the first fault is that of all files.
use Rattle.std.proofs.Common.{◌≡◌, ◌≤◌, Some, Err, length, slice_get, subst, ap, ◌∙◌, arith}
use Rattle.std.specs.Prelude.{List}
use Rattle.std.proofs.lemmas.Option.{slice_get_read}
use Rattle.jk_model_folders.specs.declared.files.FolderFile.{FolderFile}
use Rattle.class_files.specs.Faults.{IsReadFault}
use Rattle.class_files.specs.RuleOrder.{earlier_of}
use Rattle.class_files.specs.FileAnswers.{IsReading}
use Rattle.class_files.specs.declared.faults.FileFault.{FileFault}
use Rattle.class_files.specs.declared.reading.NotRead.{NotRead}
use Rattle.class_files.specs.declared.reading.NotRead.TheVariants as Not
use Rattle.class_files.proofs.FirstOfFiles.{same_fault}
use Rattle.class_files.proofs.ReadFiles.{class_is_next, fault_is_next, none_is_read, read_fault_is}
use Rattle.class_files.proofs.reading.read_files.Goals as goal
use Rattle.class_files.proofs.reading.read_files.Goals.{in-Ok+in_ok-with_texts-in-Ok+in_ok-push-in-Ok, in-Err-Broken}

pub loop-place-init : goal.loop-place-init
loop-place-init c = rw c.new-classes.ensures (none_is_read c.args.files.now)

pub loop-place-preserved : goal.loop-place-preserved
loop-place-preserved c =
    let items = c.as_slice-file-items.ensures in
    let at : slice_get c.args.files.now.classes c.loop-place.place ≡ Some c.file-item.result =
    slice_get_read c.args.files.now.classes _ c.loop-place.place c.file-item.result (ap (λ (xs : List FolderFile). length xs) items) (omega arith)
    (rw items at c.file-item.is) in
    elim c.match-class_of.branch [
      | in-Ok+in_ok-with_texts-in-Ok+in_ok-push-in-Ok w ↦
          class_is_next c.args.files.now c.loop-place.place c.loop-place.first c.match-class_of.first c.loop-place.classes c.match-class_of.classes
          c.file-item.result w.in-Ok.class w.in_ok-with_texts-in-Ok.field-0 c.loop-place.invariant at (rw c.as_slice.ensures at w.in-Ok.ensures)
          w.in_ok-with_texts-in-Ok.ensures.file w.in_ok-with_texts-in-Ok.ensures.texts w.first-is (w.classes-is ∙ w.in_ok-push-in-Ok.ensures.ok)
      | in-Err-Broken w ↦
          let reads : IsReading c.as_slice.result.now (Err (Not.Broken w.in-Err-Broken.fault)) =
          subst (λ (e : NotRead). IsReading c.as_slice.result.now (Err e)) w.in-Err-Broken.field-0-is w.in-Err-Broken.ensures in
          fault_is_next c.args.files.now c.loop-place.place c.loop-place.first c.match-class_of.first c.loop-place.classes c.match-class_of.classes
          c.file-item.result w.in-Err-Broken.fault w.earlier.result c.loop-place.invariant at
          (rw c.as_slice.ensures at reads) (w.earlier.ensures ∙ ap (λ (x : FileFault). earlier_of c.loop-place.first x) w.fault_at.ensures) w.first-is
    ]

pub returns-in-Some-clause-fault : goal.returns-in-Some-clause-fault
returns-in-Some-clause-fault c = λ fault e.
    let bound : length c.args.files.now.classes ≤ c.loop-place.place = omega (arith, ap (λ (xs : List FolderFile). length xs) c.as_slice-file-items.ensures) in
    subst (λ (x : FileFault). IsReadFault c.args.files.now x) (same_fault _ _ e)
    (read_fault_is c.args.files.now c.loop-place.place c.loop-place.first c.loop-place.classes c.in-Some.fault c.loop-place.invariant
    bound (omega (arith, ap (λ (xs : List FolderFile). length xs) c.as_slice-file-items.ensures)) c.in-Some.is)
