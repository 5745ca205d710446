-- What was asked of the files of the system, each folder and each file at most once.
use Rattle.std.specs.Prelude.{◌≡◌, ℕ, List, [], ◌∷◌, ◌++◌, map, Option, IsSome, bytes_eq}
use Rattle.std.specs.List.{IsDistinct}
use Rattle.jk_model.specs.Outside.{Ask, BytesOf, ListOf, Tree}
use Rattle.folder_reader.specs.Paths.{whole_path}

-- the paths of the folders that were listed
abbrev pub folders_asked : List Ask → List (List ℕ)
folders_asked [] = []
folders_asked (ListOf path limit ∷ asks) = path ∷ folders_asked asks
folders_asked (BytesOf path limit ∷ asks) = folders_asked asks

-- the paths of the files that were read
abbrev pub files_asked : List Ask → List (List ℕ)
files_asked [] = []
files_asked (ListOf path limit ∷ asks) = files_asked asks
files_asked (BytesOf path limit ∷ asks) = path ∷ files_asked asks

-- Each file was asked for at most once, and so was each folder of a told tree. Files that tell no tree may list a name twice,
-- and then the folder of that name may be listed twice.
pub record AsksOnce (tree : Option Tree) (old new : List Ask) : Type 0 where
  pub more : List Ask
  pub is : new ≡ old ++ more
  pub files : IsDistinct bytes_eq (files_asked more)
  pub folders : IsSome tree → IsDistinct bytes_eq (folders_asked more)

-- the first list has some items of the second, in their order
pub data IsSublist {X : Type 0} : List X → List X → Type 0 where
  ends : IsSublist [] []
  leaves : (x : X) (xs ys : List X) → IsSublist xs ys → IsSublist xs (x ∷ ys)
  takes : (x : X) (xs ys : List X) → IsSublist xs ys → IsSublist (x ∷ xs) (x ∷ ys)

-- no more was asked than for these folders and these files, in this order
pub record AsksSome (old new : List Ask) (folders files : List (List ℕ)) : Type 0 where
  pub more : List Ask
  pub is : new ≡ old ++ more
  pub of_folders : IsSublist (folders_asked more) folders
  pub of_files : IsSublist (files_asked more) files

-- no more was asked than for these folders, each at most once where the tree is told
pub record ListsOnce (tree : Option Tree) (old new : List Ask) : Type 0 where
  pub folders : List (List ℕ)
  pub asks : AsksSome old new folders []
  pub apart : IsSome tree → IsDistinct bytes_eq folders

-- the paths for the files of the system
abbrev pub whole_paths : List ℕ → List (List ℕ) → List (List ℕ)
whole_paths root paths = map (whole_path root) paths
