-- What a system of files tells: what stands at each path, and which calls it was asked for.
use Rattle.std.specs.Prelude.{◌≡◌, ℕ, ⊤, Bool, true, false, List, [], ◌∷◌, ◌++◌, ◌⊎◌, Contains, Option, None, Some, Result, Ok, Err, is_err}
use Rattle.std.specs.Fs.{IsDir, IsFile}
use Rattle.std.specs.IoError.{error_kind}
use Rattle.std.specs.List.{AllByRecursion, filter_map}
use Rattle.std.specs.declared.fs.attrs.FileType.{FileType}
use Rattle.std.specs.declared.io.Error.{Error}
use Rattle.std.specs.declared.io.ErrorKind.{ErrorKind}
use Rattle.std.specs.declared.io.ErrorKind.TheVariants.{Interrupted}
use Rattle.jk_model.specs.Outside.{◌/-◌}
use Rattle.jk_model.specs.declared.entries.Entry.{Entry}

-- What stands at a path: nothing, a folder of these names, a file of these bytes, or a pipe, a socket or a device, whose
-- bytes aren't told. A link is what it leads to.
pub data Stands : Type 0 where
  Nothing : Stands
  Folder : List (List ℕ) → Stands
  File : List ℕ → Stands
  Pipe : Stands

-- what stands at each path
abbrev pub Places : Type 0
Places = List ℕ → Stands

-- ---- What the calls of a system answer, where it tells what stands at each path.

-- what is seen of what stands there
abbrev pub LooksLike : Stands → FileType → Type 0
LooksLike Nothing type = ⊥
LooksLike (Folder names) type = IsDir type
LooksLike (File bytes) type = IsFile type
LooksLike Pipe type = (IsDir type → ⊥) × (IsFile type → ⊥)

abbrev pub IsSeenAt : Option Places → List ℕ → FileType → Type 0
IsSeenAt None path type = ⊤
IsSeenAt (Some at) path type = LooksLike (at path) type

-- nothing stands there
abbrev pub HasNothing : Option Places → List ℕ → Type 0
HasNothing None path = ⊤
HasNothing (Some at) path = at path ≡ Nothing

-- no folder stands there
abbrev pub IsNoFolder : Stands → Type 0
IsNoFolder (Folder names) = ⊥
IsNoFolder stands = ⊤

abbrev pub HasNoFolderAt : Option Places → List ℕ → Type 0
HasNoFolderAt None path = ⊤
HasNoFolderAt (Some at) path = IsNoFolder (at path)

-- what reads of what was opened there will give
abbrev pub OpensAs : Stands → Option (List ℕ) → Type 0
OpensAs Nothing left = ⊥
OpensAs (Folder names) left = ⊤
OpensAs (File bytes) left = left ≡ Some bytes
OpensAs Pipe left = ⊤

abbrev pub IsOpenedAt : Option Places → List ℕ → Option Stands → Option (List ℕ) → Type 0
IsOpenedAt None path opened left = ⊤
IsOpenedAt (Some at) path opened left = (opened ≡ Some (at path)) × OpensAs (at path) left

-- what was opened is seen so
abbrev pub IsSeenOpen : Option Stands → FileType → Type 0
IsSeenOpen None type = ⊤
IsSeenOpen (Some stands) type = LooksLike stands type

-- the names that an open folder will give
abbrev pub IsFolderAt : Option Places → List ℕ → Option (List (List ℕ)) → Type 0
IsFolderAt None path left = ⊤
IsFolderAt (Some at) path left = (names : List (List ℕ)) × (at path ≡ Folder names) × (left ≡ Some names)

-- the next of the names that are left, or their end
abbrev pub GivesName : Option (List (List ℕ)) → Option (List (List ℕ)) → Option (List ℕ) → Type 0
GivesName None left' given = ⊤
GivesName (Some left) left' None = left ≡ []
GivesName (Some left) left' (Some name) = (rest : List (List ℕ)) × (left ≡ name ∷ rest) × (left' ≡ Some rest)

-- ---- What a system was asked for.

pub data Question : Type 0 where
  LooksAt : List ℕ → Question
  OpensFile : List ℕ → Question
  OpensFolder : List ℕ → Question
  LooksInto : Question
  Reads : Question
  TakesName : Question

-- a call, whether it failed, and whether that was an interruption
pub record Step : Type 0 where
  pub asks : Question
  pub failed : Bool
  pub interrupted : Bool

abbrev pub is_interruption : ErrorKind → Bool
is_interruption Interrupted = true
is_interruption _ = false

abbrev pub is_interrupted : {A : Type 0} → Result A Error → Bool
is_interrupted (Ok a) = false
is_interrupted (Err e) = is_interruption (error_kind e)

abbrev pub step_of : {A : Type 0} → Question → Result A Error → Step
step_of asks result = record { asks = asks; failed = is_err result; interrupted = is_interrupted result }

-- It went well, or was a read that was interrupted, after which the file is read on.
abbrev pub GoesOn : Step → Type 0
GoesOn step = (step.failed ≡ false) ⊎ ((step.asks ≡ Reads) × (step.interrupted ≡ true))

-- This call is the last of the log, where that is told.
abbrev pub Logs : Option (List Step) → Option (List Step) → Step → Type 0
Logs None new step = ⊤
Logs (Some old) new step = new ≡ Some (old ++ step ∷ [])

-- The log, where it is told, grew by calls that all are so.
abbrev pub LogsOnly : (Step → Type 0) → Option (List Step) → Option (List Step) → Type 0
LogsOnly Is None new = ⊤
LogsOnly Is (Some old) new = (more : List Step) × (new ≡ Some (old ++ more)) × AllByRecursion Is more

-- It grew by a call that failed, among others.
abbrev pub LogsFault : Option (List Step) → Option (List Step) → Type 0
LogsFault None new = ⊤
LogsFault (Some old) new = (more : List Step) × (new ≡ Some (old ++ more)) × (step : Step) × Contains more step × (step.failed ≡ true)

-- what is asked for the bytes of a file
abbrev pub AsksFor : List ℕ → Question → Type 0
AsksFor path (LooksAt asked) = asked ≡ path
AsksFor path (OpensFile asked) = asked ≡ path
AsksFor path LooksInto = ⊤
AsksFor path Reads = ⊤
AsksFor path question = ⊥

-- what is asked for the entries of a folder
abbrev pub AsksBelow : List ℕ → Question → Type 0
AsksBelow folder (OpensFolder asked) = asked ≡ folder
AsksBelow folder (LooksAt asked) = (name : List ℕ) × (asked ≡ folder /- name)
AsksBelow folder TakesName = ⊤
AsksBelow folder question = ⊥

-- ---- What is listed and read of what stands there.

-- an entry as it is listed: pipes, sockets and devices are left out
abbrev pub entry_as : Stands → List ℕ → Option Entry
entry_as (Folder names) name = Some (record { name = name; folder = true })
entry_as (File bytes) name = Some (record { name = name; folder = false })
entry_as stands name = None

abbrev pub entry_of : Places → List ℕ → List ℕ → Option Entry
entry_of at folder name = entry_as (at (folder /- name)) name

-- the entries of the folder that stands there are so
abbrev pub EntriesAre : Places → List ℕ → Stands → (List Entry → Type 0) → Type 0
EntriesAre at folder (Folder names) Are = Are (filter_map (entry_of at folder) names)
EntriesAre at folder stands Are = ⊥

abbrev pub FolderAtIs : Option Places → List ℕ → (List Entry → Type 0) → Type 0
FolderAtIs None folder Are = ⊤
FolderAtIs (Some at) folder Are = EntriesAre at folder (at folder) Are

-- the bytes of the file that stands there are so; what a pipe gives isn't told, where pipes are read
abbrev pub BytesAre : Bool → Stands → (List ℕ → Type 0) → Type 0
BytesAre pipes (File bytes) Are = Are bytes
BytesAre pipes Pipe Are = pipes ≡ true
BytesAre pipes stands Are = ⊥

abbrev pub FileAtIs : Bool → Option Places → List ℕ → (List ℕ → Type 0) → Type 0
FileAtIs pipes None path Are = ⊤
FileAtIs pipes (Some at) path Are = BytesAre pipes (at path) Are

-- it is told that there is something to be read
abbrev pub HasToRead : Bool → Option Places → List ℕ → Type 0
HasToRead pipes None path = ⊥
HasToRead pipes (Some at) path = BytesAre pipes (at path) (λ bytes. ⊤)

-- A file is opened only where it is told that there is something to be read, or nothing is told.
abbrev pub MayAsk : Bool → Option Places → List ℕ → Question → Type 0
MayAsk pipes places path (OpensFile asked) = FileAtIs pipes places path (λ bytes. ⊤)
MayAsk pipes places path question = ⊤

-- what was opened is told to be something to be read, or nothing is told of it
abbrev pub IsOpenToRead : Bool → Option Stands → Type 0
IsOpenToRead pipes None = ⊤
IsOpenToRead pipes (Some stands) = BytesAre pipes stands (λ bytes. ⊤)
