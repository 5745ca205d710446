-- Files whose paths are texts of full names stay so, where one more is put at such a path.
use Rattle.std.proofs.Common.{◌≡◌, ℕ, Bool, true, List, [], ◌∷◌, ◌++◌, set, refl, ◌∙◌}
use Rattle.std.specs.Prelude.{◌&&◌}
use Rattle.std.specs.Cmp.Derive.{both_true}
use Rattle.std.specs.Str.{is_utf8}
use Rattle.std.proofs.lemmas.List.Elements.{All-set}
use Rattle.std.proofs.lemmas.List.Folds.{list_all-append}
use Rattle.std.proofs.lemmas.List.Sums.{AllPass-from_list_all, list_all-from_AllPass}
use Rattle.jk_outside.specs.declared.memory_files.MemoryFile.{MemoryFile}
use Rattle.jk_outside.specs.declared.memory_files.NameSoFar.TheVariants.{Empty}
use Rattle.jk_outside.specs.MemoryTrees.{are_paths, has_full_names}

abbrev is_path : MemoryFile → Bool
is_path f = is_utf8 f.path && has_full_names Empty f.path

pub are_paths_set : (files : List MemoryFile) (i : ℕ) (file : MemoryFile) → are_paths files ≡ true → is_utf8 file.path ≡ true
    → has_full_names Empty file.path ≡ true → are_paths (set files i file) ≡ true
unfolding are_paths
are_paths_set files i file h text full =
    list_all-from_AllPass is_path (set files i file)
    (All-set (λ f. is_path f ≡ true) files i file (both_true text full) (AllPass-from_list_all is_path files h))

pub are_paths_push : (files : List MemoryFile) (file : MemoryFile) → are_paths files ≡ true → is_utf8 file.path ≡ true
    → has_full_names Empty file.path ≡ true → are_paths (files ++ file ∷ []) ≡ true
unfolding are_paths
are_paths_push files file h text full =
    list_all-append is_path files (file ∷ []) ∙ both_true h (both_true (both_true text full) refl)
