-- What a walk over the folders has found: all that stands in those that it has looked at.
use Rattle.std.specs.Prelude.{◌≡◌, ◌≢◌, ℕ, ⊤, ◌<◌, ◌≤◌, ◌⊎◌, IsSome, IsUtf8, List, [], ◌∷◌, length, true, false, Contains, Option, Some, None, bytes_eq, slice_get}
use Rattle.std.specs.List.{AllByRecursion, IsDistinct}
use Rattle.jk_model.specs.declared.entries.Entry.{Entry}
use Rattle.jk_model.specs.Outside.{Tree}
use Rattle.jk_model_folders.specs.FolderTrees.{MOST_ENTRIES, MOST_LEVELS, StandsBelow}
use Rattle.folder_reader.specs.declared.found.Found.{Found}
use Rattle.folder_reader.specs.FolderAnswers.{IsNameBelow, IsWithin}
use Rattle.folder_reader.specs.Paths.{child, child_of, paths_of, top, whole_path}

-- The entry stands below the folder.
pub record IsBelow (t : Tree) (root : List ℕ) (f : Found) : Type 0 where
  pub entry : Entry
  pub stands : StandsBelow t root f.path f.level entry
  pub sort : entry.folder ≡ f.folder
  pub named : f.path ≢ []
  pub file : f.folder ≡ false → IsSome (t.file (whole_path root f.path))
  pub listed : f.folder ≡ true → IsSome (t.folder (whole_path root f.path))

-- it is the folder, or stands below it
abbrev pub IsPlace : Option Tree → List ℕ → Found → Type 0
IsPlace None root f = ⊤
IsPlace (Some t) root f = (f ≡ top) ⊎ IsBelow t root f

-- the folder isn't too deep, and all that stands in it was found
pub record IsLooked (t : Tree) (root : List ℕ) (found : List Found) (f : Found) : Type 0 where
  pub shallow : f.level ≤ MOST_LEVELS
  pub entries : List Entry
  pub listed : t.folder (whole_path root f.path) ≡ Some entries
  pub few : length entries ≤ MOST_ENTRIES
  pub all : AllByRecursion (λ (e : Entry). Contains found (child_of f e)) entries

-- the path is that of a name in one of the first folders
pub record HasParent (found : List Found) (looked : ℕ) (path : List ℕ) : Type 0 where
  pub at : ℕ
  pub above : Found
  pub name : List ℕ
  pub before : at < looked
  pub found_at : slice_get found at ≡ Some above
  pub is_name : IsNameBelow name
  pub is : path ≡ child above.path name

-- The first `looked` of those found were looked at.
pub record IsWalk (t : Tree) (root : List ℕ) (found : List Found) (looked : ℕ) : Type 0 where
  pub below : List Found
  pub shape : found ≡ top ∷ below
  pub stand : AllByRecursion (IsBelow t root) below
  pub parents : AllByRecursion (λ (f : Found). HasParent found looked f.path) below
  pub apart : IsDistinct bytes_eq (paths_of found)
  pub each : (k : ℕ) (f : Found) → k < looked → slice_get found k ≡ Some f → f.folder ≡ true → IsLooked t root found f

abbrev pub IsToldWalk : Option Tree → List ℕ → List Found → ℕ → Type 0
IsToldWalk None root found looked = ⊤
IsToldWalk (Some t) root found looked = IsWalk t root found looked

-- what holds of each that was found, told or not
pub record IsFound (root : List ℕ) (f : Found) : Type 0 where
  pub utf8 : IsUtf8 f.path
  pub within : IsWithin root (whole_path root f.path)
  pub top : f.level ≡ 0 → f.path ≡ []

abbrev pub AreFound : List ℕ → List Found → Type 0
AreFound root found = AllByRecursion (IsFound root) found

-- Each stands at most as many levels down as others were found before it.
abbrev pub AreLevelled : List Found → Type 0
AreLevelled found = (k : ℕ) (f : Found) → slice_get found k ≡ Some f → f.level ≤ k
