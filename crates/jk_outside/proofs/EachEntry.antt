-- A fact that holds of what each file puts into a folder's list holds of each entry of it.
use Rattle.std.proofs.Common.{◌≡◌, ℕ, Bool, true, false, List, [], ◌∷◌, ◌++◌, fold, refl}
use Rattle.std.specs.Prelude.{if◌then◌else◌}
use Rattle.std.specs.List.{AllByRecursion}
use Rattle.jk_model.specs.declared.entries.Entry.{Entry}
use Rattle.jk_model.proofs.EachItem.{all_push}
use Rattle.jk_outside.specs.declared.memory_files.MemoryFile.{MemoryFile}
use Rattle.jk_outside.specs.MemoryTrees.{is_below, after_folder, entry_of, add_file, entries_of, has_name}

good_at : (P : Entry → Type 0) (seen : List Entry) (e : Entry) (b c : Bool) → AllByRecursion P seen → (b ≡ true → P e)
    → AllByRecursion P (if b then (if c then seen else seen ++ e ∷ []) else seen)
good_at P seen e false c h p = h
good_at P seen e true true h p = h
good_at P seen e true false h p = all_push P seen e h (p refl)

good_add : (P : Entry → Type 0) (folder : List ℕ) (seen : List Entry) (f : MemoryFile) → AllByRecursion P seen
    → (is_below folder f.path ≡ true → P (entry_of (after_folder folder f.path))) → AllByRecursion P (add_file folder seen f)
unfolding add_file
good_add P folder seen f h p =
    good_at P seen (entry_of (after_folder folder f.path)) (is_below folder f.path) (has_name seen (entry_of (after_folder folder f.path)).name) h p

good_fold : (P : Entry → Type 0) (folder : List ℕ) (files : List MemoryFile) (seen : List Entry) → AllByRecursion P seen
    → AllByRecursion (λ (f : MemoryFile). is_below folder f.path ≡ true → P (entry_of (after_folder folder f.path))) files
    → AllByRecursion P (fold (add_file folder) seen files)
good_fold P folder [] seen h g = h
good_fold P folder (f ∷ fs) seen h g = good_fold P folder fs (add_file folder seen f) (good_add P folder seen f h g.0) g.1

pub good_entries : (P : Entry → Type 0) (folder : List ℕ) (files : List MemoryFile)
    → AllByRecursion (λ (f : MemoryFile). is_below folder f.path ≡ true → P (entry_of (after_folder folder f.path))) files
    → AllByRecursion P (entries_of folder files)
unfolding entries_of
good_entries P folder files g = good_fold P folder files [] tt g
