-- What one more file adds to a folder's list: its first name, if no file before it gives that.
use Rattle.std.proofs.Common.{◌≡◌, ℕ, ◌+◌, ◌<◌, ◌||◌, Bool, true, false, List, [], ◌∷◌, ◌++◌, length, take, get_or, fold, refl, sym, ap, ◌∙◌}
use Rattle.std.specs.Prelude.{◌&&◌, if◌then◌else◌}
use Rattle.std.specs.List.{list_any}
use Rattle.std.specs.Str.{bytes_eq}
use Rattle.std.proofs.Math.Bool.{or_assoc}
use Rattle.std.proofs.lemmas.List.Folds.{list_any-append}
use Rattle.std.proofs.lemmas.List.Sums.{fold_more}
use Rattle.std.proofs.lemmas.Slice.Eq.{bytes_eq-Decides}
use Rattle.jk_model.specs.declared.entries.Entry.{Entry}
use Rattle.jk_outside.specs.declared.memory_files.MemoryFile.{MemoryFile}
use Rattle.jk_outside.specs.MemoryTrees.{is_below, after_folder, entry_of, add_entry, add_file, entries_of, has_name, puts_name}

pub entries_of-more : (folder : List ℕ) (files : List MemoryFile) (i : ℕ) (d : MemoryFile) → i < length files
    → entries_of folder (take (i + 1) files) ≡ add_file folder (entries_of folder (take i files)) (get_or files i d)
unfolding entries_of
entries_of-more folder files i d h = fold_more (add_file folder) [] files i d h

-- ---- whether a name is among what some files give

or_false : (b : Bool) → b ≡ (b || false)
or_false true = refl
or_false false = refl

known_or : (seen : List Entry) (name other : List ℕ) (same : Bool) → (same ≡ true → name ≡ other) → has_name seen other ≡ true
    → has_name seen name ≡ (has_name seen name || same)
known_or seen name other false is h = or_false (has_name seen name)
known_or seen name other true is h =
    let there : has_name seen name ≡ true = ap (λ (n : List ℕ). has_name seen n) (is refl) ∙ h in
    there ∙ sym (ap (λ (b : Bool). b || true) there)

push_or : (seen : List Entry) (e : Entry) (name : List ℕ) → has_name (seen ++ e ∷ []) name ≡ (has_name seen name || bytes_eq name e.name)
unfolding has_name
push_or seen e name =
    list_any-append (λ (x : Entry). bytes_eq name x.name) seen (e ∷ [])
    ∙ ap (λ (b : Bool). has_name seen name || b) (sym (or_false (bytes_eq name e.name)))

add_or : (seen : List Entry) (e : Entry) (name : List ℕ) (below there : Bool) → has_name seen e.name ≡ there
    → has_name (if below then (if there then seen else seen ++ e ∷ []) else seen) name ≡ (has_name seen name || (below && bytes_eq name e.name))
add_or seen e name false there is = or_false (has_name seen name)
add_or seen e name true true is = known_or seen name e.name (bytes_eq name e.name) (λ h. (bytes_eq-Decides name e.name).0 h) is
add_or seen e name true false is = push_or seen e name

add_file_or : (folder : List ℕ) (seen : List Entry) (f : MemoryFile) (name : List ℕ)
    → has_name (add_file folder seen f) name ≡ (has_name seen name || puts_name folder f.path name)
unfolding add_file puts_name
add_file_or folder seen f name =
    let e = entry_of (after_folder folder f.path) in
    add_or seen e name (is_below folder f.path) (has_name seen e.name) refl

fold_or : (folder : List ℕ) (files : List MemoryFile) (seen : List Entry) (name : List ℕ)
    → has_name (fold (add_file folder) seen files) name ≡ (has_name seen name || list_any (λ (f : MemoryFile). puts_name folder f.path name) files)
fold_or folder [] seen name = or_false (has_name seen name)
fold_or folder (f ∷ fs) seen name =
    fold_or folder fs (add_file folder seen f) name
    ∙ ap (λ (b : Bool). b || list_any (λ (g : MemoryFile). puts_name folder g.path name) fs) (add_file_or folder seen f name)
    ∙ or_assoc (has_name seen name) (puts_name folder f.path name) (list_any (λ (g : MemoryFile). puts_name folder g.path name) fs)

pub given-names : (folder : List ℕ) (files : List MemoryFile) (name : List ℕ)
    → has_name (entries_of folder files) name ≡ list_any (λ (f : MemoryFile). puts_name folder f.path name) files
unfolding entries_of has_name
given-names folder files name = fold_or folder files [] name

-- ---- what the next file adds

module _ (folder : List ℕ) (files : List MemoryFile) (i : ℕ) (d : MemoryFile) (path : List ℕ) (within : i < length files)
    (at : path ≡ (get_or files i d).path) where
  abbrev seen : List Entry
  seen = entries_of folder (take i files)

  next : entries_of folder (take (i + 1) files) ≡ (if is_below folder path then add_entry seen (entry_of (after_folder folder path)) else seen)
  unfolding add_file
  next =
      entries_of-more folder files i d within
      ∙ ap (λ (p : List ℕ). if is_below folder p then add_entry seen (entry_of (after_folder folder p)) else seen) (sym at)

  pub not_below_adds_none : is_below folder path ≡ false → entries_of folder (take (i + 1) files) ≡ seen
  not_below_adds_none h = next ∙ ap (λ (b : Bool). if b then add_entry seen (entry_of (after_folder folder path)) else seen) h

  below_adds : (e : Entry) → is_below folder path ≡ true → e ≡ entry_of (after_folder folder path) → entries_of folder (take (i + 1) files) ≡ add_entry seen e
  below_adds e h is =
      next ∙ ap (λ (b : Bool). if b then add_entry seen (entry_of (after_folder folder path)) else seen) h ∙ ap (λ (x : Entry). add_entry seen x) (sym is)

  pub known_adds_none : (e : Entry) → is_below folder path ≡ true → e ≡ entry_of (after_folder folder path)
      → true ≡ list_any (λ (f : MemoryFile). puts_name folder f.path e.name) (take i files) → entries_of folder (take (i + 1) files) ≡ seen
  known_adds_none e h is known = below_adds e h is
      ∙ ap (λ (b : Bool). if b then seen else seen ++ e ∷ []) (given-names folder (take i files) e.name ∙ sym known)

  pub new_is_added : (e : Entry) → is_below folder path ≡ true → e ≡ entry_of (after_folder folder path)
      → false ≡ list_any (λ (f : MemoryFile). puts_name folder f.path e.name) (take i files) → entries_of folder (take (i + 1) files) ≡ seen ++ e ∷ []
  new_is_added e h is new = below_adds e h is ∙ ap (λ (b : Bool). if b then seen else seen ++ e ∷ []) (given-names folder (take i files) e.name ∙ sym new)
