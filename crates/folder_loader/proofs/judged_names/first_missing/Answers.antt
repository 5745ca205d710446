-- One file more names known classes alone, or is the first that doesn't.
use Rattle.std.proofs.Common.{◌≡◌, ◌<◌, Some, length, slice_get, refl, ap, ◌∙◌, arith}
use Rattle.std.specs.Prelude.{ℕ, option_map}
use Rattle.std.proofs.lemmas.List.{length-map}
use Rattle.std.proofs.lemmas.Option.{slice_get-map, slice_get_read, slice_get_within}
use Rattle.jk_model_classes.specs.Items.{Entry, Spot}
use Rattle.jk_model_classes.specs.References.{FolderScope, MissesClass}
use Rattle.class_files.specs.declared.folder_class.FolderClass.{FolderClass}
use Rattle.class_files.specs.FolderClasses.{files_of}
use Rattle.name_rules.specs.FolderNames.{AreOwnNames}
use Rattle.folder_loader.proofs.NamesJudged.{all_known, known_next, owned}
use Rattle.folder_loader.proofs.judged_names.first_missing.Goals as goal

pub returns-in-Some-clause-fault : goal.returns-in-Some-clause-fault
returns-in-Some-clause-fault c =
    let cs = files_of c.args.classes.now in
    let file = c.index-classes-file.result.file in
    let at : slice_get c.args.classes.now c.loop-file.file ≡ Some c.index-classes-file.result =
    slice_get_read c.args.classes.now (length c.args.classes.now) c.loop-file.file c.index-classes-file.result refl (omega arith) c.index-classes-file.is in
    let of_file : slice_get (files_of c.args.classes.now) c.loop-file.file ≡ Some file =
    slice_get-map (λ (f : FolderClass). f.file) c.args.classes.now c.loop-file.file ∙ ap (option_map (λ (f : FolderClass). f.file)) at in
    let missing : (s : FolderScope) → s.names ≡ c.args.outer.now → AreOwnNames s.files c.args.own.now → MissesClass s file (Entry c.in-Some.number) =
    rw c.in-Some.is at c.in_ok-number.ensures.missing in
    let least : (s : FolderScope) → s.names ≡ c.args.outer.now → AreOwnNames s.files c.args.own.now → (i : ℕ) → i < c.in-Some.number
    → MissesClass s file (Entry i) → ⊥ =
    rw c.in-Some.is at c.in_ok-number.ensures.least in
    record {
      rule = refl;
      file = file;
      there = of_file;
      misses = λ s of_files of_names. missing s of_names (owned cs s c.args.own.now of_files c.requires.own);
      least = λ s of_files of_names. least s of_names (owned cs s c.args.own.now of_files c.requires.own);
      earlier = λ s j d spot of_files of_names less there. c.loop-file.invariant s j d spot of_files of_names less there;
    }

pub loop-file-preserved : goal.loop-file-preserved
loop-file-preserved c =
    let cs = files_of c.args.classes.now in
    let file = c.index-classes-file.result.file in
    let at : slice_get c.args.classes.now c.loop-file.file ≡ Some c.index-classes-file.result =
    slice_get_read c.args.classes.now (length c.args.classes.now) c.loop-file.file c.index-classes-file.result refl (omega arith) c.index-classes-file.is in
    let of_file : slice_get (files_of c.args.classes.now) c.loop-file.file ≡ Some file =
    slice_get-map (λ (f : FolderClass). f.file) c.args.classes.now c.loop-file.file ∙ ap (option_map (λ (f : FolderClass). f.file)) at in
    let none : (s : FolderScope) → s.names ≡ c.args.outer.now → AreOwnNames s.files c.args.own.now → (spot : Spot) → MissesClass s file spot → ⊥ =
    rw c.in_default.is at c.in_ok-number.ensures.none in
    known_next cs c.args.outer.now c.loop-file.file file c.loop-file.invariant of_file
    (λ s of_files of_names. none s of_names (owned cs s c.args.own.now of_files c.requires.own))

pub returns-clause-none : goal.returns-clause-none
returns-clause-none c =
    let long = length-map c.args.classes.now (λ (f : FolderClass). f.file) in
    all_known (files_of c.args.classes.now) c.args.outer.now c.loop-file.file c.loop-file.invariant
    (λ i d at. omega (arith, slice_get_within (files_of c.args.classes.now) i d at, long))
