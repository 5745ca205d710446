-- What is listed of the names that a folder of the system gives.
use Rattle.std.specs.Prelude.{◌≡◌, ℕ, ⊤, ◌↔◌, ◌++◌, List, Option, None, Some, true, false}
use Rattle.std.specs.Fs.{IsDir, IsFile}
use Rattle.std.specs.List.{filter_map}
use Rattle.std.specs.declared.fs.attrs.FileType.{FileType}
use Rattle.jk_model.specs.declared.entries.Entry.{Entry}
use Rattle.jk_outside.specs.Systems.{Places, entry_of}
use Rattle.jk_outside.specs.declared.found.Sort.{Sort}
use Rattle.jk_outside.specs.declared.found.Sort.TheVariants.{Folder, File, Other}

-- a folder is one, a file is one, and all else is neither
abbrev pub IsSortOf : FileType → Sort → Type 0
IsSortOf type sort = ((sort ≡ Folder) ↔ IsDir type) × ((sort ≡ File) ↔ IsFile type)

-- an entry as it is listed: pipes, sockets and devices are left out
abbrev pub listed_as : Sort → List ℕ → Option Entry
listed_as Folder name = Some (record { name = name; folder = true })
listed_as File name = Some (record { name = name; folder = false })
listed_as Other name = None

-- the sort by which what stands at a path is listed
abbrev pub IsListedAs : Option Places → List ℕ → List ℕ → Sort → Type 0
IsListedAs None folder name sort = ⊤
IsListedAs (Some at) folder name sort = listed_as sort name ≡ entry_of at folder name

-- The entries are those of the names that an open folder gave, and these names are left.
abbrev pub ListsOn : Option Places → List ℕ → Option (List (List ℕ)) → Option (List (List ℕ)) → List Entry → Type 0
ListsOn None folder left left' entries = ⊤
ListsOn (Some at) folder None left' entries = ⊤
ListsOn (Some at) folder (Some left) left' entries =
    (seen rest : List (List ℕ)) × (left ≡ seen ++ rest) × (left' ≡ Some rest) × (entries ≡ filter_map (entry_of at folder) seen)

-- These are the entries of all names that an open folder will give.
abbrev pub AllAre : Option Places → List ℕ → Option (List (List ℕ)) → (List Entry → Type 0) → Type 0
AllAre None folder left Are = ⊤
AllAre (Some at) folder None Are = ⊤
AllAre (Some at) folder (Some left) Are = Are (filter_map (entry_of at folder) left)
