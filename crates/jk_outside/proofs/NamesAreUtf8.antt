-- The names in a folder's list are texts, since the paths are.
use Rattle.std.proofs.Common.{◌≡◌, ℕ, ◌+◌, ◌<◌, true, eqb, List, ◌∷◌, Option, Some, None, length, get_or, refl, ap, ◌∙◌, arith}
use Rattle.std.specs.Prelude.{◌&&◌}
use Rattle.std.specs.List.{AllByRecursion}
use Rattle.std.specs.Str.{IsUtf8, is_utf8}
use Rattle.std.proofs.lemmas.Bool.{and_parts}
use Rattle.std.proofs.lemmas.Bool.Decides.{Decides-eqb}
use Rattle.std.proofs.lemmas.List.{get_or_at, length-append}
use Rattle.std.proofs.lemmas.List.Quantifiers.{position-Some}
use Rattle.std.proofs.lemmas.Str.{IsUtf8-take, IsUtf8-drop, IsCharBoundary-after_ascii, IsCharBoundary-before_ascii, IsUtf8-from_is_utf8}
use Rattle.jk_model.specs.declared.entries.Entry.{Entry}
use Rattle.jk_model.proofs.EachItem.{all_from_test}
use Rattle.jk_outside.specs.declared.memory_files.MemoryFile.{MemoryFile}
use Rattle.jk_outside.specs.declared.memory_files.NameSoFar.TheVariants.{Empty}
use Rattle.jk_outside.specs.MemoryTrees.{is_below, after_folder, entry_at, entry_of, slash_of, entries_of, are_paths, has_full_names}
use Rattle.jk_outside.proofs.Below.{below_splits}
use Rattle.jk_outside.proofs.EachEntry.{good_entries}

rest_is_utf8 : (folder path : List ℕ) → is_below folder path ≡ true → is_utf8 path ≡ true → IsUtf8 (after_folder folder path)
rest_is_utf8 folder path h u =
    let splits = below_splits folder path h in
    let text : IsUtf8 path = IsUtf8-from_is_utf8 path u in
    let within : length folder < length path = omega (arith, ap length splits, length-append folder (47 ∷ after_folder folder path)) in
    let slash : get_or path (length folder) 0 ≡ 47 = ap (λ (t : List ℕ). get_or t (length folder) 0) splits
    ∙ get_or_at folder 47 (after_folder folder path) 0 (length folder) refl in
    IsUtf8-drop path (length folder + 1) text (IsCharBoundary-after_ascii path (length folder) text within (omega arith))

name_at : (o : Option ℕ) (rest : List ℕ) → IsUtf8 rest → ((i : ℕ) → o ≡ Some i → (i < length rest) × (get_or rest i 0 ≡ 47)) → IsUtf8 (entry_at o rest).name
name_at None rest u p = u
name_at (Some i) rest u p =
    let at = p i refl in
    IsUtf8-take rest i u (IsCharBoundary-before_ascii rest i at.0 (omega (arith, at.1)))

slash_at : (rest : List ℕ) (i : ℕ) → slash_of rest ≡ Some i → (i < length rest) × (get_or rest i 0 ≡ 47)
unfolding slash_of
slash_at rest i h =
    let at = position-Some (λ (c : ℕ). eqb c 47) rest i 0 h in
    (at.0, (Decides-eqb (get_or rest i 0) 47).0 at.1)

name_is_utf8 : (rest : List ℕ) → IsUtf8 rest → IsUtf8 (entry_of rest).name
unfolding entry_of
name_is_utf8 rest u = name_at (slash_of rest) rest u (slash_at rest)

pub names_are_utf8 : (folder : List ℕ) (files : List MemoryFile) → are_paths files ≡ true
    → AllByRecursion (λ (e : Entry). IsUtf8 e.name) (entries_of folder files)
unfolding are_paths
names_are_utf8 folder files u =
    good_entries (λ (e : Entry). IsUtf8 e.name) folder files
    (all_from_test (λ (f : MemoryFile). is_below folder f.path ≡ true → IsUtf8 (entry_of (after_folder folder f.path)).name)
    (λ (f : MemoryFile). is_utf8 f.path && has_full_names Empty f.path)
    (λ f t below.
    let text = (and_parts (is_utf8 f.path) (has_full_names Empty f.path) t).0 in
    name_is_utf8 (after_folder folder f.path) (rest_is_utf8 folder f.path below text)) files u)
