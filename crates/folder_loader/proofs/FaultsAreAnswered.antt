-- A folder of a told tree that has a fault is answered with this fault alone: it doesn't load, and it has no other.
use Rattle.std.proofs.Common.{◌≡◌, ℕ, ◌⊎◌, inl, inr, List, Option, Some, Result, Ok, Err, refl, subst}
use Rattle.std.specs.Prelude.{IfOk, MatchResult}
use Rattle.jk_model.specs.declared.output.Place.{Place}
use Rattle.jk_model.specs.declared.output.Rule.{Rule}
use Rattle.jk_model.specs.Outside.{Tree, ◌/-◌}
use Rattle.jk_model_classes.specs.Worlds.{WorldRecord}
use Rattle.jk_model_folders.specs.FolderRules.{IsFolderFault}
use Rattle.jk_model_folders.specs.FolderTrees.{AreToldFiles}
use Rattle.one_verdict.proofs.OneToldFolder.{one_told_fault, told_has_no_fault}
use Rattle.folder_loader.specs.declared.answers.Loaded.{Loaded}
use Rattle.folder_loader.specs.declared.answers.LoadAnswer.{LoadAnswer}
use Rattle.folder_loader.specs.declared.answers.LoadAnswer.TheVariants.{Refused, ReadFault, OutOfMemory}
use Rattle.folder_loader.specs.LoadAnswers.{HasLoaded}

module _ (tree : Option Tree) (t : Tree) (told : tree ≡ Some t) (root : List ℕ) (w : WorldRecord) (name : List ℕ) (new : WorldRecord) where
  no_fault : (l : Loaded) (rule : Rule) (place : Place) → HasLoaded tree (root /- name) w name l new → IsFolderFault t root w name rule place → ⊥
  no_fault l rule place h fault =
      told_has_no_fault t root w name h.found (record { first = l.first; table = l.table; offers = l.offers; stubs = l.stubs; world = new }) rule place
      h.are_files (subst (λ (o : Option Tree). AreToldFiles o (root /- name) h.found) told h.are_told) h.loads fault

  -- from what is said of each answer by itself
  pub fault_answered : (result : Result Loaded LoadAnswer) (rule : Rule) (place : Place) → IfOk result (λ l. HasLoaded tree (root /- name) w name l new)
      → ((r : Rule) (p : Place) → result ≡ Err (Refused r p) → IsFolderFault t root w name r p) → IsFolderFault t root w name rule place
      → MatchResult result (λ _. ⊥) (λ e. (e ≡ Refused rule place) ⊎ (e ≡ ReadFault) ⊎ (e ≡ OutOfMemory))
  fault_answered (Ok l) rule place ok refused fault = no_fault l rule place ok fault
  fault_answered (Err (Refused r p)) rule place ok refused fault =
      let same = one_told_fault t root w name r rule p place (refused r p refl) fault in
      let rules : r ≡ rule = same.0 in
      let places : p ≡ place = same.1 in
      inl (λ d. Refused (rules d) (places d))
  fault_answered (Err ReadFault) rule place ok refused fault = inr (inl refl)
  fault_answered (Err OutOfMemory) rule place ok refused fault = inr (inr refl)
