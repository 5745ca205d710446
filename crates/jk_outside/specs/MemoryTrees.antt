-- Files in memory, and the tree of folders and files that they tell.
use Rattle.std.specs.Prelude.{ℕ, ◌+◌, ◌==◌, ◌&&◌, Bool, true, false, not, List, [], ◌∷◌, ◌++◌, Option, Some, None, length, take, drop, fold, find, position, slice_set, if◌then◌else◌}
use Rattle.std.specs.List.{list_any, list_all}
use Rattle.std.specs.Option.{option_map}
use Rattle.std.specs.Str.{bytes_eq, is_utf8}
use Rattle.jk_model.specs.Outside.{Tree, Ask, ◌/-◌}
use Rattle.jk_model.specs.declared.entries.Entry.{Entry}
use Rattle.jk_outside.specs.Counts.{next_number, is_named, faults_after}
use Rattle.jk_outside.specs.declared.memory_files.MemoryFile.{MemoryFile}
use Rattle.jk_outside.specs.declared.memory_files.NameSoFar.{NameSoFar}
use Rattle.jk_outside.specs.declared.memory_files.NameSoFar.TheVariants.{Empty, Dot, DotDot, Name}

-- the files in order, the numbers of the calls that fail, how many calls and faults there were, and what
-- was asked
pub record FilesState : Type 0 where
  pub files : List MemoryFile
  pub fails : List ℕ
  pub calls : ℕ
  pub faults : ℕ
  pub asked : List Ask

-- what a call leaves: it is counted, and so is its fault, and what it asks is the last of what was asked
abbrev pub after_call : FilesState → Ask → FilesState
after_call s ask =
    record s {
      calls = next_number s.calls;
      faults = faults_after (is_named s.fails (next_number s.calls)) s.faults;
      asked = s.asked ++ ask ∷ [];
    }

-- what a name is, with one more byte
abbrev pub with_byte : NameSoFar → ℕ → NameSoFar
with_byte Empty c = if c == 46 then Dot else Name
with_byte Dot c = if c == 46 then DotDot else Name
with_byte DotDot c = Name
with_byte Name c = Name

-- whether it may be the name of an entry
abbrev pub is_full : NameSoFar → Bool
is_full Name = true
is_full so_far = false

-- whether no name of a path is empty, `.` or `..`, where its first name goes on from what is known of it so far
abbrev pub has_full_names : NameSoFar → List ℕ → Bool
has_full_names so_far [] = is_full so_far
has_full_names so_far (c ∷ cs) =
    if c == 47 then is_full so_far && has_full_names Empty cs else has_full_names (with_byte so_far c) cs

-- whether each path is a text of names joined by slashes
unfoldable pub are_paths : List MemoryFile → Bool
are_paths files = list_all (λ (f : MemoryFile). is_utf8 f.path && has_full_names Empty f.path) files

-- whether a path begins with a folder and a slash, and what stands after those
unfoldable pub is_below : List ℕ → List ℕ → Bool
is_below folder path = bytes_eq (take (length (folder /- [])) path) (folder /- [])

abbrev pub after_folder : List ℕ → List ℕ → List ℕ
after_folder folder path = drop (length folder + 1) path

-- the first name of a path, and whether more names follow it
abbrev pub entry_at : Option ℕ → List ℕ → Entry
entry_at None path = record { name = path; folder = false }
entry_at (Some slash) path = record { name = take slash path; folder = true }

unfoldable pub slash_of : List ℕ → Option ℕ
slash_of path = position (λ c. c == 47) path

unfoldable pub entry_of : List ℕ → Entry
entry_of path = entry_at (slash_of path) path

unfoldable pub has_name : List Entry → List ℕ → Bool
has_name entries name = list_any (λ (e : Entry). bytes_eq name e.name) entries

-- what a file puts into a folder's list: the first name after the folder, if it isn't there yet
abbrev pub add_entry : List Entry → Entry → List Entry
add_entry seen entry = if has_name seen entry.name then seen else seen ++ entry ∷ []

unfoldable pub add_file : List ℕ → List Entry → MemoryFile → List Entry
add_file folder seen file =
    if is_below folder file.path then add_entry seen (entry_of (after_folder folder file.path)) else seen

-- what stands in a folder, each name once, in the order in which the files give it
unfoldable pub entries_of : List ℕ → List MemoryFile → List Entry
entries_of folder files = fold (add_file folder) [] files

-- whether the file at a path puts an entry of a name into a folder
unfoldable pub puts_name : List ℕ → List ℕ → List ℕ → Bool
puts_name folder path name = is_below folder path && bytes_eq name (entry_of (after_folder folder path)).name

-- a folder is there where a file is below it
unfoldable pub has_folder : List MemoryFile → List ℕ → Bool
has_folder files folder = list_any (λ (f : MemoryFile). is_below folder f.path) files

unfoldable pub folder_of : List MemoryFile → List ℕ → Option (List Entry)
folder_of files folder = if has_folder files folder then Some (entries_of folder files) else None

unfoldable pub file_of : List MemoryFile → List ℕ → Option (List ℕ)
file_of files path = option_map (λ (f : MemoryFile). f.bytes) (find (λ (f : MemoryFile). bytes_eq f.path path) files)

abbrev pub tree_of : List MemoryFile → Tree
tree_of files = record { file = file_of files; folder = folder_of files }

-- whether neither of two paths runs through the other
unfoldable pub stand_apart : List ℕ → List ℕ → Bool
stand_apart path other = not (is_below path other) && not (is_below other path)

unfoldable pub all_apart : List MemoryFile → List ℕ → Bool
all_apart files path = list_all (λ (f : MemoryFile). stand_apart path f.path) files

-- whether a file may stand at a path: it is made of names, is no folder, and runs through no file
unfoldable pub is_addable : List MemoryFile → List ℕ → Bool
is_addable files path =
    has_full_names Empty path && all_apart files path

-- the files with one more, or with other bytes for one that is there
unfoldable pub placed : Option ℕ → List MemoryFile → MemoryFile → List MemoryFile
placed None files file = files ++ file ∷ []
placed (Some i) files file = slice_set files i file

unfoldable pub place_of : List MemoryFile → List ℕ → Option ℕ
place_of files path = position (λ (f : MemoryFile). bytes_eq f.path path) files

abbrev pub with_file : List MemoryFile → List ℕ → List ℕ → List MemoryFile
with_file files path bytes = placed (place_of files path) files (record { path = path; bytes = bytes })
