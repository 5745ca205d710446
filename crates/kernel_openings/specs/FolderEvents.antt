-- The first rule that a folder breaks, whether or not the files tell their tree.
use Rattle.std.specs.Prelude.{ℕ, List, Option, Some, None}
use Rattle.jk_model.specs.declared.output.Place.{Place}
use Rattle.jk_model.specs.declared.output.Rule.{Rule}
use Rattle.jk_model.specs.Outside.{Tree}
use Rattle.jk_model_classes.specs.Worlds.{WorldRecord}
use Rattle.jk_model_folders.specs.FolderRules.{IsFolderFault}
use Rattle.folder_loader.specs.LoadAnswers.{IsRefused}

-- The rule, and where it is broken: in a told tree that of the folder that stands there, else that of some files.
abbrev pub IsRefusedFolder : Option Tree → List ℕ → WorldRecord → List ℕ → Rule → Place → Type 0
IsRefusedFolder None root w name rule place = IsRefused None root w name rule place
IsRefusedFolder (Some t) root w name rule place = IsFolderFault t root w name rule place
