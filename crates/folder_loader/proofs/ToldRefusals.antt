-- A folder whose files aren't read is refused for that, and a refusal in a told tree is the first fault of the folder there.
use Rattle.std.proofs.Common.{◌≡◌, ◌↔◌, ℕ, Bool, false, IsTrue, List, ◌++◌, Option, Some, None, subst, refl, sym, ◌∙◌}
use Rattle.std.specs.Prelude.{Result, Err}
use Rattle.std.specs.List.{AllByRecursion}
use Rattle.std.proofs.lemmas.Bool.{false≢true}
use Rattle.jk_model.specs.declared.output.Place.{Place}
use Rattle.jk_model.specs.declared.output.Rule.{Rule}
use Rattle.jk_model.specs.declared.output.Place.TheVariants.{Whole}
use Rattle.jk_model.specs.declared.output.Rule.TheVariants.{L1, L2, L5}
use Rattle.jk_model.specs.Outside.{Ask, FolderIsAbsent, Tree, ◌/-◌}
use Rattle.jk_model_classes.specs.Worlds.{WorldRecord}
use Rattle.jk_model_folders.specs.FolderRules.{IsFilesFault, IsFolderFault, IsLive}
use Rattle.jk_model_folders.specs.FolderRules.IsFilesFault.{bad_line, class_file, not_offered}
use Rattle.jk_model_folders.specs.FolderRules.IsFolderFault.{name_is_live as fault_live, no_folder as fault_none, too_large as fault_large, files as fault_files}
use Rattle.jk_model_folders.specs.declared.files.FolderFiles.{FolderFiles}
use Rattle.jk_model_folders.specs.FolderTrees.{AreFiles, AreToldFiles}
use Rattle.folder_reader.specs.FolderAnswers.{AsksWithin, IsAbsent, IsLarge}
use Rattle.folder_reader.specs.declared.reading.FolderError.{FolderError}
use Rattle.folder_reader.specs.declared.reading.FolderError.TheVariants as Read
use Rattle.folder_loader.specs.declared.answers.LoadAnswer.{LoadAnswer}
use Rattle.folder_loader.specs.declared.answers.LoadAnswer.TheVariants.{Refused}
use Rattle.folder_loader.specs.LoadAnswers.{IsReadRefusal, IsRefused}
use Rattle.folder_loader.specs.LoadAnswers.IsRefused.{name_is_live, no_folder, too_large, files}

told_fault : (t : Tree) (root : List ℕ) (w : WorldRecord) (name : List ℕ) (rule : Rule) (place : Place) → IsRefused (Some t) root w name rule place
    → IsFolderFault t root w name rule place
told_fault t root w name rule place (name_is_live h) = fault_live h
told_fault t root w name rule place (no_folder not_live h) = fault_none not_live h
told_fault t root w name rule place (too_large not_live h) = fault_large not_live h.0 h.1
told_fault t root w name rule place (files f r p not_live are told h) = fault_files f r p not_live are told h

pub folder_fault : (tree : Option Tree) (t : Tree) (root : List ℕ) (w : WorldRecord) (name : List ℕ) (rule : Rule) (place : Place) → tree ≡ Some t
    → IsRefused tree root w name rule place → IsFolderFault t root w name rule place
folder_fault tree t root w name rule place is h =
    told_fault t root w name rule place (subst (λ (o : Option Tree). IsRefused o root w name rule place) is h)

-- ---- Refusals.

-- a rule and a place are those that were answered
same_refusal : (tree : Option Tree) (root : List ℕ) (w : WorldRecord) (name : List ℕ) (r s : Rule) (p q : Place) → Refused r p ≡ Refused s q
    → IsRefused tree root w name r p → IsRefused tree root w name s q
same_refusal tree root w name r s p q e h =
    let rules : r ≡ s = cc in
    let places : p ≡ q = cc in
    subst (λ (x : Place). IsRefused tree root w name s x) places (subst (λ (x : Rule). IsRefused tree root w name x p) rules h)

pub live_refused : (tree : Option Tree) (root : List ℕ) (w : WorldRecord) (name : List ℕ) (rule : Rule) (place : Place) → IsLive w name
    → Refused L1 Whole ≡ Refused rule place → IsRefused tree root w name rule place
live_refused tree root w name rule place live e = same_refusal tree root w name L1 rule Whole place e (name_is_live live)

pub read_refused : (tree : Option Tree) (root : List ℕ) (w : WorldRecord) (name folder : List ℕ) (error : FolderError) (answer : LoadAnswer) (rule : Rule)
    (place : Place) → (IsLive w name → ⊥) → folder ≡ root /- name → (error ≡ Read.NoFolder → IsAbsent tree folder)
    → (error ≡ Read.TooLarge → IsLarge tree folder) → IsReadRefusal error answer → answer ≡ Refused rule place
    → IsRefused tree root w name rule place
read_refused tree root w name folder Read.NoFolder answer rule place not_live is absent large h e =
    let own : IsAbsent tree (root /- name) = subst (λ (x : List ℕ). IsAbsent tree x) is (absent refl) in
    same_refusal tree root w name L2 rule Whole place (sym h ∙ e) (no_folder not_live own)
read_refused tree root w name folder Read.TooLarge answer rule place not_live is absent large h e =
    let own : IsLarge tree (root /- name) = subst (λ (x : List ℕ). IsLarge tree x) is (large refl) in
    same_refusal tree root w name L5 rule Whole place (sym h ∙ e) (too_large not_live own)
read_refused tree root w name folder Read.ReadFault answer rule place not_live is absent large h e = let both = sym h ∙ e in absurd cc
read_refused tree root w name folder Read.OutOfMemory answer rule place not_live is absent large h e = let both = sym h ∙ e in absurd cc

pub files_refused : (tree : Option Tree) (root : List ℕ) (w : WorldRecord) (name folder bytes : List ℕ) (f : FolderFiles) (rule : Rule) (place : Place)
    → (IsLive w name → ⊥) → folder ≡ root /- name → bytes ≡ name → AreFiles f → AreToldFiles tree folder f → IsFilesFault f w bytes rule place
    → IsRefused tree root w name rule place
files_refused tree root w name folder bytes f rule place not_live is same are told h =
    files f rule place not_live are (subst (λ (x : List ℕ). AreToldFiles tree x f) is told)
    (subst (λ (x : List ℕ). IsFilesFault f w x rule place) same h)

pub not_live_by : (w : WorldRecord) (name : List ℕ) (r : Bool) → IsTrue r ↔ IsLive w name → r ≡ false → IsLive w name → ⊥
not_live_by w name r h is live = false≢true (sym is ∙ h.1 live)

-- what is asked of a folder is asked of it under its whole path
pub asks_of : (folder path : List ℕ) (old new : List Ask) → folder ≡ path
    → (more : List Ask) × (new ≡ old ++ more) × AllByRecursion (AsksWithin folder) more
    → (more : List Ask) × (new ≡ old ++ more) × AllByRecursion (AsksWithin path) more
asks_of folder path old new is h = (h.0, h.1, subst (λ (x : List ℕ). AllByRecursion (AsksWithin x) h.0) is h.2)

-- one answer has one refusal
pub refused_by : {T : Type 0} (a b : LoadAnswer) → ◌≡◌ {A = Result T LoadAnswer} (Err a) (Err b) → a ≡ b
refused_by a b e = cc

-- ---- What is refused as a whole is refused for its name, or since its files weren't read.

not_whole : (f : FolderFiles) (w : WorldRecord) (into : List ℕ) (rule : Rule) (place : Place) → IsFilesFault f w into rule place → place ≡ Whole → ⊥
not_whole f w into rule place (bad_line n broken least) is = cc
not_whole f w into rule place (not_offered lines k line says shares there broken least) is = cc
not_whole f w into rule place (class_file lines r i number file good at broken) is = cc

pub no_whole_refusal : {T : Type 0} (f : FolderFiles) (w : WorldRecord) (into : List ℕ) (result : Result T LoadAnswer) (rule : Rule)
    → ((r : Rule) (p : Place) → result ≡ Err (Refused r p) → IsFilesFault f w into r p) → result ≡ Err (Refused rule Whole) → ⊥
no_whole_refusal f w into result rule refused e = not_whole f w into rule Whole (refused rule Whole e) refl

pub missed_by : (error : FolderError) (answer : LoadAnswer) → IsReadRefusal error answer → answer ≡ Refused L2 Whole → error ≡ Read.NoFolder
missed_by Read.NoFolder answer h e = refl
missed_by Read.TooLarge answer h e = let both = sym h ∙ e in absurd cc
missed_by Read.ReadFault answer h e = let both = sym h ∙ e in absurd cc
missed_by Read.OutOfMemory answer h e = let both = sym h ∙ e in absurd cc

pub large_by : (error : FolderError) (answer : LoadAnswer) → IsReadRefusal error answer → answer ≡ Refused L5 Whole → error ≡ Read.TooLarge
large_by Read.NoFolder answer h e = let both = sym h ∙ e in absurd cc
large_by Read.TooLarge answer h e = refl
large_by Read.ReadFault answer h e = let both = sym h ∙ e in absurd cc
large_by Read.OutOfMemory answer h e = let both = sym h ∙ e in absurd cc

-- a folder that is absent, told or not
pub absent_told : (tree : Option Tree) (folder : List ℕ) (n n' : ℕ) → FolderIsAbsent tree folder n n' → IsAbsent tree folder
absent_told None folder n n' h = tt
absent_told (Some t) folder n n' h = h
