-- A world whose new classes are cut is as before.
use Rattle.std.proofs.Common.{◌≡◌, ℕ, List, ◌++◌, length, take, ap, ◌∙◌}
use Rattle.std.proofs.Math.Seq.{take-append_seam}
use Rattle.jk_model_classes.specs.declared.records.ClassRecord.{ClassRecord}
use Rattle.jk_model_classes.specs.Worlds.{WorldRecord}
use Rattle.folder_loader.specs.LinkedFolders.{HasMoreClasses}

pub cut_back : (old grown cut : WorldRecord) (n : ℕ) → HasMoreClasses old grown → n ≡ length old.classes
    → cut ≡ record grown { classes = take n grown.classes } → cut ≡ old
cut_back old grown cut n more is same =
    let Cut : WorldRecord → WorldRecord = λ (v : WorldRecord). record v { classes = take n v.classes } in
    let front : take n (old.classes ++ more.0) ≡ old.classes =
    ap (λ (k : ℕ). take k (old.classes ++ more.0)) is ∙ take-append_seam old.classes more.0 in
    same ∙ ap Cut more.1 ∙ ap (λ (xs : List ClassRecord). let w : WorldRecord = record old { classes = xs } in w) front
