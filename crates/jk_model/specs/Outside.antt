-- What the world outside is to a contract: a tree of folders and files, the bytes that went out, and
-- counts of faults.
use Rattle.std.specs.Prelude.{◌≡◌, ◌≢◌, ℕ, ◌+◌, ◌-◌, ◌<◌, ◌≤◌, ◌^◌, ◌⊎◌, List, [], ◌∷◌, ◌++◌, Option, Some, None, length, map, ⊤, IsSome, true, false}
use Rattle.std.specs.List.{AllByRecursion, IsDistinct}
use Rattle.std.specs.Str.{bytes_eq}
use Rattle.jk_model.specs.declared.entries.Entry.{Entry}

-- A tree of folders and files: what stands at a path, if that is a file, and if it is a folder.
pub record Tree : Type 0 where
  pub file : List ℕ → Option (List ℕ)
  pub folder : List ℕ → Option (List Entry)

-- a name in a folder
infixr 65 ◌/-◌
abbrev pub ◌/-◌ : List ℕ → List ℕ → List ℕ
folder /- name = folder ++ 47 ∷ name

-- A count of 64 bits went up. At its last value it stands still, and counts as risen.
abbrev pub HasRisen : ℕ → ℕ → Type 0
HasRisen old new = (old < new) ⊎ (new ≡ 2 ^ 64 - 1)

-- A count of 64 bits never falls.
pub record NeverFalls (old new : ℕ) : Type 0 where
  pub later : old ≤ new
  pub fits : new < 2 ^ 64

-- It went up by more than a limit, or stands at its last value.
abbrev pub HasRisenBy : ℕ → ℕ → ℕ → Type 0
HasRisenBy limit old new = (old + limit < new) ⊎ (new ≡ 2 ^ 64 - 1)

-- These bytes, where they are told, went out after the old ones.
abbrev pub Appends : Option (List ℕ) → Option (List ℕ) → List ℕ → Type 0
Appends None new bytes = new ≡ None
Appends (Some old) new bytes = new ≡ Some (old ++ bytes)

-- text begins with front
abbrev pub IsPrefix : List ℕ → List ℕ → Type 0
IsPrefix front text = (back : List ℕ) × (text ≡ front ++ back)

-- A part of these bytes, from the front on, went out.
abbrev pub AppendsPart : Option (List ℕ) → Option (List ℕ) → List ℕ → Type 0
AppendsPart old new bytes = (front : List ℕ) × IsPrefix front bytes × Appends old new front

-- What is asked of files in a call: the entries of a folder, or the bytes of a file, and the limit of
-- their number.
pub data Ask : Type 0 where
  ListOf : List ℕ → ℕ → Ask
  BytesOf : List ℕ → ℕ → Ask

-- ---- What a call to list a folder, or to read a file, may answer. Where the tree is told, the answer
-- is what stands in it; where it isn't, an answer other than the good one has a count for its cause.

-- these entries stand in the folder
abbrev pub FolderIs : Option Tree → List ℕ → List Entry → Type 0
FolderIs None folder entries = ⊤
FolderIs (Some tree) folder entries = tree.folder folder ≡ Some entries

-- a name: one byte at least, and none of them a slash
abbrev pub IsEntryName : List ℕ → Type 0
IsEntryName name = (name ≢ []) × AllByRecursion (λ c. c ≢ 47) name

-- these entries of a told folder have names, no two of them the same
abbrev pub AreNamed : Option Tree → List Entry → Type 0
AreNamed None entries = ⊤
AreNamed (Some tree) entries =
    AllByRecursion (λ e. IsEntryName e.name) entries × IsDistinct bytes_eq (map (λ e. e.name) entries)

-- each of these that is a file can be read
abbrev pub AreThere : Option Tree → List ℕ → List Entry → Type 0
AreThere None folder entries = ⊤
AreThere (Some tree) folder entries =
    AllByRecursion (λ e. e.folder ≡ false → IsSome (tree.file (folder /- e.name))) entries

-- each of these that is a folder can be listed
abbrev pub FoldersAreThere : Option Tree → List ℕ → List Entry → Type 0
FoldersAreThere None folder entries = ⊤
FoldersAreThere (Some tree) folder entries =
    AllByRecursion (λ e. e.folder ≡ true → IsSome (tree.folder (folder /- e.name))) entries

abbrev pub FileIs : Option Tree → List ℕ → List ℕ → Type 0
FileIs None path bytes = ⊤
FileIs (Some tree) path bytes = tree.file path ≡ Some bytes

-- there is no such folder, or a fault was counted
abbrev pub FolderIsAbsent : Option Tree → List ℕ → ℕ → ℕ → Type 0
FolderIsAbsent None folder old_faults new_faults = HasRisen old_faults new_faults
FolderIsAbsent (Some tree) folder old_faults new_faults = tree.folder folder ≡ None

abbrev pub FileIsAbsent : Option Tree → List ℕ → ℕ → ℕ → Type 0
FileIsAbsent None path old_faults new_faults = HasRisen old_faults new_faults
FileIsAbsent (Some tree) path old_faults new_faults = tree.file path ≡ None

-- it has more than the limit, or more than that was taken
abbrev pub FolderIsLong : Option Tree → List ℕ → ℕ → ℕ → ℕ → Type 0
FolderIsLong None folder limit old_taken new_taken = HasRisenBy limit old_taken new_taken
FolderIsLong (Some tree) folder limit old_taken new_taken =
    (entries : List Entry) × (tree.folder folder ≡ Some entries) × (limit < length entries)

abbrev pub FileIsLong : Option Tree → List ℕ → ℕ → ℕ → ℕ → Type 0
FileIsLong None path limit old_taken new_taken = HasRisenBy limit old_taken new_taken
FileIsLong (Some tree) path limit old_taken new_taken =
    (bytes : List ℕ) × (tree.file path ≡ Some bytes) × (limit < length bytes)

-- ---- What leaves a call no other answer than the one that names it, or a fault.

-- the tree is told, and has no such folder, or no such file
abbrev pub HasNoFolder : Option Tree → List ℕ → Type 0
HasNoFolder None folder = ⊥
HasNoFolder (Some tree) folder = tree.folder folder ≡ None

abbrev pub HasNoFile : Option Tree → List ℕ → Type 0
HasNoFile None path = ⊥
HasNoFile (Some tree) path = tree.file path ≡ None

-- the tree is told, and the folder has more entries than the limit, or the file more bytes
abbrev pub HasLongFolder : Option Tree → List ℕ → ℕ → Type 0
HasLongFolder None folder limit = ⊥
HasLongFolder (Some tree) folder limit =
    (entries : List Entry) × (tree.folder folder ≡ Some entries) × (limit < length entries)

abbrev pub HasLongFile : Option Tree → List ℕ → ℕ → Type 0
HasLongFile None path limit = ⊥
HasLongFile (Some tree) path limit =
    (bytes : List ℕ) × (tree.file path ≡ Some bytes) × (limit < length bytes)
