-- What stands in a folder at all depths, which of its files count, and L5, a folder that is too large.
use Rattle.std.specs.Prelude.{◌≡◌, ℕ, suc, ◌<◌, ◌≤◌, ⊤, true, false, List, [], ◌++◌, length, sum_by, map, Contains, Option, Some, None, codes, slice_get, bytes_eq}
use Rattle.std.specs.List.{AllByRecursion, IsDistinct}
use Rattle.std.specs.Str.{IsUtf8}
use Rattle.jk_model.specs.declared.entries.Entry.{Entry}
use Rattle.jk_model.specs.Outside.{Tree, ◌/-◌}
use Rattle.jk_model_classes.specs.SharedRules.{IsBeforeInOrder}
use Rattle.jk_model_folders.specs.declared.files.FolderFile.{FolderFile}
use Rattle.jk_model_folders.specs.declared.files.FolderFiles.{FolderFiles}

-- The entry stands at this path below a folder, so many levels down: what is directly in the folder is one level down.
pub data StandsBelow (t : Tree) (root : List ℕ) : List ℕ → ℕ → Entry → Type 0 where
  directly : (entries : List Entry) (e : Entry) → t.folder root ≡ Some entries → Contains entries e → StandsBelow t root e.name 1 e
  deeper : (path : List ℕ) (level : ℕ) (above : Entry) (entries : List Entry) (e : Entry) → StandsBelow t root path level above
      → above.folder ≡ true → t.folder (root /- path) ≡ Some entries → Contains entries e
      → StandsBelow t root (path /- e.name) (suc level) e

abbrev pub HasEntryAt : Tree → List ℕ → List ℕ → Type 0
HasEntryAt t root path = (level : ℕ) × (e : Entry) × StandsBelow t root path level e

-- a file stands at this path, and these are its bytes
abbrev pub HasFileAt : Tree → List ℕ → List ℕ → List ℕ → Type 0
HasFileAt t root path bytes =
    ((level : ℕ) × (e : Entry) × StandsBelow t root path level e × (e.folder ≡ false)) × (t.file (root /- path) ≡ Some bytes)

-- a file whose name ends in `.class`
abbrev pub IsClassPath : List ℕ → Type 0
IsClassPath path = (stem : List ℕ) × (path ≡ stem ++ codes ".class")

abbrev pub HasClassFileAt : Tree → List ℕ → List ℕ → List ℕ → Type 0
HasClassFileAt t root path bytes = IsClassPath path × HasFileAt t root path bytes

-- `resolver.txt` at the top is a file of its own kind; a folder of that name is none
abbrev pub RESOLVER : List ℕ
RESOLVER = codes "resolver.txt"

-- ---- L5, a folder that is too large

-- the greatest file, and the greatest sum of all class files, in bytes
abbrev pub MAX_FILE : ℕ
MAX_FILE = 1048576

abbrev pub MAX_CLASSES : ℕ
MAX_CLASSES = 16777216

-- the most class files, the most entries at all depths, and the deepest level of a folder
abbrev pub MOST_FILES : ℕ
MOST_FILES = 512

abbrev pub MOST_ENTRIES : ℕ
MOST_ENTRIES = 4096

abbrev pub MOST_LEVELS : ℕ
MOST_LEVELS = 16

abbrev pub AreDistinct : List (List ℕ) → Type 0
AreDistinct paths = IsDistinct bytes_eq paths

abbrev pub IsThatFile : Tree → List ℕ → FolderFile → Type 0
IsThatFile t root f = HasClassFileAt t root f.path f.bytes

pub data IsTooLarge (t : Tree) (root : List ℕ) : Type 0 where
  deep_folder : (path : List ℕ) (level : ℕ) (e : Entry) → StandsBelow t root path level e → e.folder ≡ true → MOST_LEVELS < level
      → IsTooLarge t root
  many_entries : (paths : List (List ℕ)) → AreDistinct paths → AllByRecursion (HasEntryAt t root) paths
      → MOST_ENTRIES < length paths → IsTooLarge t root
  many_files : (files : List FolderFile) → AreDistinct (map (λ (f : FolderFile). f.path) files) → AllByRecursion (IsThatFile t root) files
      → MOST_FILES < length files → IsTooLarge t root
  long_file : (path bytes : List ℕ) → HasClassFileAt t root path bytes → MAX_FILE < length bytes → IsTooLarge t root
  long_resolver : (bytes : List ℕ) → HasFileAt t root RESOLVER bytes → MAX_FILE < length bytes → IsTooLarge t root
  long_together : (files : List FolderFile) → AreDistinct (map (λ (f : FolderFile). f.path) files) → AllByRecursion (IsThatFile t root) files
      → MAX_CLASSES < sum_by (λ (f : FolderFile). length f.bytes) files → IsTooLarge t root

-- ---- The files of a folder that count.

-- What holds of the files that are read of each folder, told or not: paths of class files in the order of their bytes, each
-- once, within the limits.
pub record AreFiles (f : FolderFiles) : Type 0 where
  pub paths : AllByRecursion (λ (c : FolderFile). IsClassPath c.path × IsUtf8 c.path) f.classes
  pub rising : (i j : ℕ) (a b : FolderFile) → i < j → slice_get f.classes i ≡ Some a → slice_get f.classes j ≡ Some b
      → IsBeforeInOrder a.path b.path
  pub few : length f.classes ≤ MOST_FILES
  pub short : AllByRecursion (λ (c : FolderFile). length c.bytes ≤ MAX_FILE) f.classes
  pub together : sum_by (λ (c : FolderFile). length c.bytes) f.classes ≤ MAX_CLASSES
  pub short_resolver : length f.resolver ≤ MAX_FILE

-- The files are those that a told tree has below the folder, which isn't too large.
pub record AreFilesOf (t : Tree) (root : List ℕ) (f : FolderFiles) : Type 0 where
  pub folder : (entries : List Entry) × (t.folder root ≡ Some entries)
  pub not_large : IsTooLarge t root → ⊥
  pub each : AllByRecursion (IsThatFile t root) f.classes
  pub all : (path bytes : List ℕ) → HasClassFileAt t root path bytes → (c : FolderFile) × Contains f.classes c × (c.path ≡ path)
  pub resolver : (bytes : List ℕ) → HasFileAt t root RESOLVER bytes → f.resolver ≡ bytes
  pub no_resolver : ((bytes : List ℕ) → HasFileAt t root RESOLVER bytes → ⊥) → f.resolver ≡ []

abbrev pub AreToldFiles : Option Tree → List ℕ → FolderFiles → Type 0
AreToldFiles None root f = ⊤
AreToldFiles (Some t) root f = AreFilesOf t root f
