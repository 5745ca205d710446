-- One class file more is judged, and at the end the first fault is that of all.
use Rattle.std.proofs.Common.{◌≡◌, Some, length, slice_get, refl, subst, ap, ◌∙◌, arith}
use Rattle.std.proofs.lemmas.Option.{slice_get_read, slice_get_within}
use Rattle.jk_model_classes.specs.OneClassRules.{HasNoFault, IsFirstFault}
use Rattle.class_files.specs.Faults.{IsAloneFault}
use Rattle.class_files.specs.FolderClasses.{files_of}
use Rattle.class_files.specs.RuleOrder.{earlier_of}
use Rattle.class_files.specs.declared.faults.FileFault.{FileFault}
use Rattle.class_files.proofs.FirstOfFiles.{same_fault}
use Rattle.class_files.proofs.JudgedFiles.{all_are_clean, all_judged, class_at, clean_is_next, judged_fault_is, judged_fault_is_next, writable_class, zipped_at}
use Rattle.class_files.proofs.ReadFiles.{short_file}
use Rattle.class_files.proofs.judging.judge.Goals as goal
use Rattle.class_files.proofs.judging.judge.Goals.{in-Some, in_default}

pub path_at-requires-clause-there : goal.path_at-requires-clause-there
path_at-requires-clause-there c =
    let at : slice_get c.args.classes.now c.loop-place.place ≡ Some c.index-classes-place.result =
    slice_get_read c.args.classes.now (length c.args.classes.now) c.loop-place.place c.index-classes-place.result refl (omega arith) c.index-classes-place.is in
    let own = zipped_at c.args.files.now.classes c.args.classes.now c.requires.read c.loop-place.place c.index-classes-place.result at in
    slice_get_within c.args.files.now.classes c.loop-place.place own.0 own.1

pub first_fault-requires : goal.first_fault-requires
first_fault-requires c =
    let at : slice_get c.args.classes.now c.loop-place.place ≡ Some c.index-classes-place.result =
    slice_get_read c.args.classes.now (length c.args.classes.now) c.loop-place.place c.index-classes-place.result refl (omega arith) c.index-classes-place.is in
    let own = zipped_at c.args.files.now.classes c.args.classes.now c.requires.read c.loop-place.place c.index-classes-place.result at in
    writable_class own.0.bytes c.index-classes-place.result.file own.2.0 (short_file c.args.files.now c.loop-place.place own.0 c.requires.files own.1)

pub loop-place-preserved : goal.loop-place-preserved
loop-place-preserved c =
    let at : slice_get c.args.classes.now c.loop-place.place ≡ Some c.index-classes-place.result =
    slice_get_read c.args.classes.now (length c.args.classes.now) c.loop-place.place c.index-classes-place.result refl (omega arith) c.index-classes-place.is in
    let of_class = class_at c.args.classes.now c.loop-place.place c.index-classes-place.result at in
    let file = c.path_at.ensures.0 in
    let class = c.index-classes-place.result.file in
    elim c.match-branch-2.branch [
      | in-Some w ↦
          let broken : IsFirstFault class c.path_at.result.now w.in-Some.fault.rule w.in-Some.fault.number = rw w.in-Some.is at c.in_ok-fault.ensures.fault in
          judged_fault_is_next c.args.files.now (files_of c.args.classes.now) c.loop-place.place c.loop-place.first c.match-branch-2.first file class
          w.in-Some.fault w.earlier.result c.loop-place.invariant c.path_at.ensures.1 of_class (rw c.path_at.ensures.2 at broken)
          (w.earlier.ensures ∙ ap (λ (x : FileFault). earlier_of c.loop-place.first x) w.fault_at.ensures) w.first-is
      | in_default w ↦
          let clean : HasNoFault class c.path_at.result.now = c.in_ok-fault.ensures.no_fault w.in_default.is in
          clean_is_next c.args.files.now (files_of c.args.classes.now) c.loop-place.place c.loop-place.first c.match-branch-2.first file class
          c.loop-place.invariant c.path_at.ensures.1 of_class (rw c.path_at.ensures.2 at clean) w.first-is
    ]

pub returns-in-Some-first-clause-fault : goal.returns-in-Some-first-clause-fault
returns-in-Some-first-clause-fault c = λ fault e.
    let long = all_judged c.args.files.now.classes c.args.classes.now c.requires.read in
    let all : c.loop-place.place ≡ length c.args.files.now.classes = omega (arith, long) in
    subst (λ (x : FileFault). IsAloneFault c.args.files.now (files_of c.args.classes.now) x) (same_fault _ _ e)
    (judged_fault_is c.args.files.now (files_of c.args.classes.now) c.loop-place.place c.loop-place.first c.in-Some-first.fault c.loop-place.invariant all
    c.in-Some-first.is)

pub returns-in-None-clause-none : goal.returns-in-None-clause-none
returns-in-None-clause-none c =
    let long = all_judged c.args.files.now.classes c.args.classes.now c.requires.read in
    let all : c.loop-place.place ≡ length c.args.files.now.classes = omega (arith, long) in
    all_are_clean c.args.files.now (files_of c.args.classes.now) c.loop-place.place c.loop-place.first c.loop-place.invariant all c.in-None.is
