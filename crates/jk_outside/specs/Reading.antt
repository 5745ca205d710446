-- What an error of the system means, what is read of what stands there, and what a reader gives.
use Rattle.std.specs.Prelude.{◌≡◌, ℕ, List, ◌++◌, Option, Bool, true, false}
use Rattle.std.specs.Io.KnownBytes.{Consumes}
use Rattle.std.specs.declared.io.ErrorKind.{ErrorKind}
use Rattle.std.specs.declared.io.ErrorKind.TheVariants.{NotFound, NotADirectory, OutOfMemory as NoMemory}
use Rattle.jk_outside.specs.declared.files.FilesError.{FilesError}
use Rattle.jk_outside.specs.declared.files.FilesError.TheVariants.{Failed, Absent, OutOfMemory}
use Rattle.jk_outside.specs.declared.found.Sort.{Sort}
use Rattle.jk_outside.specs.declared.found.Sort.TheVariants.{Folder, File, Other}

-- What an error means that comes where a folder or a file is opened. It isn't there if its own name
-- isn't, or if a part of the path is no folder.
abbrev pub opening_fault : ErrorKind → FilesError
opening_fault NotFound = Absent
opening_fault NotADirectory = Absent
opening_fault NoMemory = OutOfMemory
opening_fault _ = Failed

-- what an error means that comes after that
abbrev pub reading_fault : ErrorKind → FilesError
reading_fault NoMemory = OutOfMemory
reading_fault _ = Failed

-- Bytes grew by what a reader gave from the front of what it had left.
abbrev pub ReadsOn : Option (List ℕ) → Option (List ℕ) → List ℕ → List ℕ → Type 0
ReadsOn left left' bytes bytes' = (more : List ℕ) × (bytes' ≡ bytes ++ more) × Consumes left left' more

-- whether what is of this sort is read: a file, and where pipes are read, what is no folder
abbrev pub may_be_read : Sort → Bool → Bool
may_be_read Folder pipes = false
may_be_read File pipes = true
may_be_read Other pipes = pipes
