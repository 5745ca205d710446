-- Paths below a folder, the entries that are found at them, and which of these count.
use Rattle.std.specs.Prelude.{ℕ, ◌+◌, ◌==◌, ◌&&◌, ◌||◌, Bool, true, not, List, [], ◌∷◌, length, map, codes, bytes_eq, nat_eq}
use Rattle.std.specs.List.{AllByRecursion, ends_with, filter, list_any}
use Rattle.jk_model.specs.declared.entries.Entry.{Entry}
use Rattle.jk_model.specs.Outside.{◌/-◌}
use Rattle.jk_model_classes.specs.SharedRules.{IsBeforeInOrder}
use Rattle.jk_model_folders.specs.FolderTrees.{RESOLVER}
use Rattle.folder_reader.specs.declared.found.Found.{Found}

-- the path of a name in a folder, which is the one that is read itself where its path is empty
abbrev pub child : List ℕ → List ℕ → List ℕ
child [] name = name
child (c ∷ path) name = (c ∷ path) /- name

-- the path for the files of the system
abbrev pub whole_path : List ℕ → List ℕ → List ℕ
whole_path root [] = root
whole_path root (c ∷ path) = root /- (c ∷ path)

-- the folder that is read
abbrev pub top : Found
top = record { path = []; level = 0; folder = true }

-- an entry of a folder
abbrev pub child_of : Found → Entry → Found
child_of above e = record { path = child above.path e.name; level = above.level + 1; folder = e.folder }

-- whether it leads to the folder itself, or to the one above
abbrev pub is_dots : List ℕ → Bool
is_dots name = bytes_eq name (codes ".") || bytes_eq name (codes "..")

-- A name has a byte at least, and no slash, and leads down. Entries without one are passed over.
abbrev pub has_name : Entry → Bool
has_name e = (not (length e.name == 0) && not (list_any (λ c. c == 47) e.name)) && not (is_dots e.name)

abbrev pub children : Found → List Entry → List Found
children above entries = map (child_of above) (filter has_name entries)

abbrev pub is_class : Found → Bool
is_class f = not f.folder && ends_with nat_eq f.path (codes ".class")

abbrev pub is_resolver : Found → Bool
is_resolver f = not f.folder && bytes_eq f.path RESOLVER

abbrev pub paths_of : List Found → List (List ℕ)
paths_of found = map (λ (f : Found). f.path) found

-- the paths of the class files among these
abbrev pub class_paths : List Found → List (List ℕ)
class_paths found = paths_of (filter is_class found)

-- each path comes before all later ones
abbrev pub IsRising : List (List ℕ) → Type 0
IsRising [] = Unit {0}
IsRising (path ∷ paths) = AllByRecursion (IsBeforeInOrder path) paths × IsRising paths
