-- The entries of a folder have names, no two of them the same, however many there are.
use Rattle.std.proofs.Common.{◌≡◌, ℕ, Bool, true, false, List, Some, None, subst}
use Rattle.std.specs.Prelude.{if◌then◌else◌}
use Rattle.jk_model.specs.Outside.{AreNamed}
use Rattle.jk_model.specs.declared.entries.Entry.{Entry}
use Rattle.jk_outside.specs.declared.memory_files.MemoryFile.{MemoryFile}
use Rattle.jk_outside.specs.MemoryTrees.{are_paths, entries_of, folder_of, has_folder, tree_of}
use Rattle.jk_outside.proofs.NamesAreNames.{names_are_names}
use Rattle.jk_outside.proofs.NamesDiffer.{names_differ}

those : (b : Bool) (xs entries : List Entry) → (if b then Some xs else None) ≡ Some entries → xs ≡ entries
those true xs entries h = cc
those false xs entries h = absurd cc

pub are_named : (files : List MemoryFile) (folder : List ℕ) (entries : List Entry) → are_paths files ≡ true → folder_of files folder ≡ Some entries
    → AreNamed (Some (tree_of files)) entries
unfolding folder_of
are_named files folder entries paths is =
    subst (λ (es : List Entry). AreNamed (Some (tree_of files)) es) (those (has_folder files folder) (entries_of folder files) entries is)
    (names_are_names folder files paths, names_differ folder files)
