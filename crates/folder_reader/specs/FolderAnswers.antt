-- Why a folder's files aren't answered, and what is asked of the files of the system for them.
use Rattle.std.specs.Prelude.{◌≡◌, ◌≢◌, ℕ, ⊤, ◌⊎◌, List, [], ◌∷◌, ◌++◌, Contains, Option, Some, None}
use Rattle.std.specs.List.{AllByRecursion}
use Rattle.jk_model.specs.Outside.{Ask, BytesOf, IsEntryName, ListOf, Tree, ◌/-◌}
use Rattle.jk_outside.specs.EntryNames.{IsPlainName}
use Rattle.jk_model_folders.specs.FolderTrees.{IsClassPath, IsTooLarge, MAX_FILE, MOST_ENTRIES, RESOLVER}

-- a told tree has no such folder
abbrev pub IsAbsent : Option Tree → List ℕ → Type 0
IsAbsent None root = ⊤
IsAbsent (Some t) root = t.folder root ≡ None

-- a told tree has the folder, and it is too large
abbrev pub IsLarge : Option Tree → List ℕ → Type 0
IsLarge None root = ⊤
IsLarge (Some t) root = (t.folder root ≢ None) × IsTooLarge t root

-- the path that goes on from a folder over these names
abbrev pub path_over : List ℕ → List (List ℕ) → List ℕ
path_over root [] = root
path_over root (name ∷ names) = path_over (root /- name) names

-- a name that leads down: that of an entry, and neither `.` nor `..`
abbrev pub IsNameBelow : List ℕ → Type 0
IsNameBelow name = IsEntryName name × IsPlainName name

-- the path is that of the folder, or goes on from it over names that lead down
abbrev pub IsWithin : List ℕ → List ℕ → Type 0
IsWithin root path = (names : List (List ℕ)) × AllByRecursion IsNameBelow names × (path ≡ path_over root names)

-- the path below a folder is that of a file that counts
abbrev pub Counts : List ℕ → Type 0
Counts path = IsClassPath path ⊎ (path ≡ RESOLVER)

-- nothing is asked but of the folder and what stands below it: the entries of folders, and the bytes of class files and of
-- `resolver.txt` directly in it
abbrev pub AsksWithin : List ℕ → Ask → Type 0
AsksWithin root (ListOf path limit) = IsWithin root path × (limit ≡ MOST_ENTRIES)
AsksWithin root (BytesOf path limit) =
    IsWithin root path × ((below : List ℕ) × (path ≡ root /- below) × Counts below) × (limit ≡ MAX_FILE)

-- this was asked for
abbrev pub AskedFor : List Ask → List Ask → Ask → Type 0
AskedFor old new ask = (more : List Ask) × (new ≡ old ++ more) × Contains more ask
