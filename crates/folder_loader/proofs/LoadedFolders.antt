-- What its files bring is what the folder brings.
use Rattle.std.proofs.Common.{◌≡◌, ℕ, List, Option, subst}
use Rattle.std.specs.Prelude.{Result, Ok, Err, IfOk}
use Rattle.jk_model.specs.Outside.{Tree}
use Rattle.jk_model_classes.specs.Worlds.{WorldRecord}
use Rattle.jk_model_folders.specs.declared.files.FolderFiles.{FolderFiles}
use Rattle.jk_model_folders.specs.FolderTrees.{AreFiles, AreToldFiles}
use Rattle.jk_model_folders.specs.Loads.{Loads}
use Rattle.folder_loader.specs.declared.answers.Loaded.{Loaded}
use Rattle.folder_loader.specs.declared.answers.LoadAnswer.{LoadAnswer}
use Rattle.folder_loader.specs.LoadAnswers.{HasLoaded}

pub folder_loads : (tree : Option Tree) (folder path bytes name : List ℕ) (f : FolderFiles) (old new : WorldRecord) (r : Result Loaded LoadAnswer)
    → folder ≡ path → bytes ≡ name → AreFiles f → AreToldFiles tree folder f
    → IfOk r (λ l. Loads f old bytes l.first l.table l.offers l.stubs new) → IfOk r (λ l. HasLoaded tree path old name l new)
folder_loads tree folder path bytes name f old new (Ok l) is same are told h = record {
  found = f;
  are_files = are;
  are_told = subst (λ (x : List ℕ). AreToldFiles tree x f) is told;
  loads = subst (λ (x : List ℕ). Loads f old x l.first l.table l.offers l.stubs new) same h;
}
folder_loads tree folder path bytes name f old new (Err e) is same are told h = tt
