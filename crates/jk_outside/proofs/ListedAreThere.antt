-- What a folder's list has as a file can be read, and what it has as a folder can be listed.
use Rattle.std.proofs.Common.{◌≡◌, ℕ, ◌||◌, Bool, true, false, eqb, cond, append_assoc, drop-cons, get_or, suc, List, [], ◌∷◌, ◌++◌, Option, Some, None, take, drop, refl, sym, ap, ◌∙◌, subst}
use Rattle.std.specs.Prelude.{IsSome, find}
use Rattle.std.specs.Option.{option_map}
use Rattle.std.specs.List.{list_any, AllByRecursion}
use Rattle.std.specs.Str.{bytes_eq}
use Rattle.std.proofs.lemmas.Bool.{false≢true}
use Rattle.std.proofs.lemmas.Bool.Decides.{Decides-eqb}
use Rattle.std.proofs.lemmas.List.{take-append-drop}
use Rattle.std.proofs.lemmas.List.Quantifiers.{position-Some}
use Rattle.std.proofs.lemmas.Slice.Eq.{bytes_eq-Decides}
use Rattle.jk_model.specs.declared.entries.Entry.{Entry}
use Rattle.jk_model.specs.Outside.{◌/-◌}
use Rattle.jk_model.proofs.EachItem.{all_weaker}
use Rattle.jk_outside.specs.declared.memory_files.MemoryFile.{MemoryFile}
use Rattle.jk_outside.specs.MemoryTrees.{is_below, after_folder, entry_at, entry_of, slash_of, entries_of, file_of, folder_of, has_folder}
use Rattle.jk_outside.proofs.Below.{below_splits, below_from}
use Rattle.jk_outside.proofs.EachEntry.{good_entries}

-- ---- files

found_here : (b : Bool) (f : MemoryFile) (o : Option MemoryFile) → b ≡ true → IsSome (option_map (λ (g : MemoryFile). g.bytes) (cond b (Some f) o))
found_here true f o h = refl
found_here false f o h = absurd (false≢true h)

found_later : (b : Bool) (f : MemoryFile) (o : Option MemoryFile) → IsSome (option_map (λ (g : MemoryFile). g.bytes) o)
    → IsSome (option_map (λ (g : MemoryFile). g.bytes) (cond b (Some f) o))
found_later true f o h = refl
found_later false f o h = h

found_all : (files : List MemoryFile) → AllByRecursion (λ (f : MemoryFile). IsSome (file_of files f.path)) files
unfolding file_of
found_all [] = tt
found_all (f ∷ fs) = (
  found_here (bytes_eq f.path f.path) f (find (λ (h : MemoryFile). bytes_eq h.path f.path) fs) ((bytes_eq-Decides f.path f.path).1 refl),
  all_weaker (λ (g : MemoryFile). IsSome (file_of fs g.path)) (λ (g : MemoryFile). IsSome (file_of (f ∷ fs) g.path)) fs
      (λ g there. found_later (bytes_eq f.path g.path) f (find (λ (h : MemoryFile). bytes_eq h.path g.path) fs) there) (found_all fs),
)

whole_at : (o : Option ℕ) (rest : List ℕ) → (entry_at o rest).folder ≡ false → (entry_at o rest).name ≡ rest
whole_at None rest h = refl
whole_at (Some i) rest h = absurd (false≢true (sym h))

whole_name : (rest : List ℕ) → (entry_of rest).folder ≡ false → (entry_of rest).name ≡ rest
unfolding entry_of
whole_name rest h = whole_at (slash_of rest) rest h

pub files_are_there : (folder : List ℕ) (files : List MemoryFile)
    → AllByRecursion (λ (e : Entry). e.folder ≡ false → IsSome (file_of files (folder /- e.name))) (entries_of folder files)
files_are_there folder files =
    let There : List ℕ → Type 0 = λ path. IsSome (file_of files path) in
    good_entries (λ (e : Entry). e.folder ≡ false → IsSome (file_of files (folder /- e.name))) folder files
    (all_weaker (λ (f : MemoryFile). IsSome (file_of files f.path))
    (λ (f : MemoryFile). is_below folder f.path ≡ true → (entry_of (after_folder folder f.path)).folder ≡ false
    → IsSome (file_of files (folder /- (entry_of (after_folder folder f.path)).name))) files
    (λ f there below file. subst There
    (below_splits folder f.path below ∙ ap (λ (name : List ℕ). folder /- name) (sym (whole_name (after_folder folder f.path) file))) there)
    (found_all files))

-- ---- folders

below_here : (p : MemoryFile → Bool) (f : MemoryFile) (fs : List MemoryFile) → p f ≡ true → list_any p (f ∷ fs) ≡ true
below_here p f fs h = rw h refl

below_later : (p : MemoryFile → Bool) (f : MemoryFile) (fs : List MemoryFile) → list_any p fs ≡ true → list_any p (f ∷ fs) ≡ true
below_later p f fs h =
    elim (p f) as (λ (b : Bool). (b || list_any p fs) ≡ true) [ true ↦ refl | false ↦ h ]

-- each folder that a file is below is there
abbrev Leads : List MemoryFile → MemoryFile → Type 0
Leads files f = (folder : List ℕ) → is_below folder f.path ≡ true → list_any (λ (g : MemoryFile). is_below folder g.path) files ≡ true

all_lead : (files : List MemoryFile) → AllByRecursion (Leads files) files
all_lead [] = tt
all_lead (f ∷ fs) = (
  λ folder below. below_here (λ (g : MemoryFile). is_below folder g.path) f fs below,
  all_weaker (Leads fs) (Leads (f ∷ fs)) fs
      (λ g there folder below. below_later (λ (h : MemoryFile). is_below folder h.path) f fs (there folder below)) (all_lead fs),
)

folder_there : (files : List MemoryFile) (folder : List ℕ) → list_any (λ (g : MemoryFile). is_below folder g.path) files ≡ true
    → IsSome (folder_of files folder)
unfolding folder_of has_folder
folder_there files folder h = rw h refl

-- the rest of a path whose first name is a folder goes on after that name and a slash
goes_on_at : (o : Option ℕ) (rest : List ℕ) → ((i : ℕ) → o ≡ Some i → (more : List ℕ) × (rest ≡ take i rest ++ 47 ∷ more))
    → (entry_at o rest).folder ≡ true → (more : List ℕ) × (rest ≡ (entry_at o rest).name /- more)
goes_on_at None rest at h = absurd (false≢true h)
goes_on_at (Some i) rest at h = at i refl

after_slash : (rest : List ℕ) (i : ℕ) → slash_of rest ≡ Some i → (more : List ℕ) × (rest ≡ take i rest ++ 47 ∷ more)
unfolding slash_of
after_slash rest i h =
    let at = position-Some (λ (c : ℕ). eqb c 47) rest i 0 h in
    let slash = (Decides-eqb (get_or rest i 0) 47).0 at.1 in (
      drop (suc i) rest,
      sym (take-append-drop i rest)
          ∙ ap (λ (t : List ℕ). take i rest ++ t) (drop-cons rest i 0 at.0 ∙ ap (λ (c : ℕ). c ∷ drop (suc i) rest) slash),
    )

goes_on : (rest : List ℕ) → (entry_of rest).folder ≡ true → (more : List ℕ) × (rest ≡ (entry_of rest).name /- more)
unfolding entry_of
goes_on rest h = goes_on_at (slash_of rest) rest (after_slash rest) h

pub folders_are_there : (folder : List ℕ) (files : List MemoryFile)
    → AllByRecursion (λ (e : Entry). e.folder ≡ true → IsSome (folder_of files (folder /- e.name))) (entries_of folder files)
folders_are_there folder files =
    good_entries (λ (e : Entry). e.folder ≡ true → IsSome (folder_of files (folder /- e.name))) folder files
    (all_weaker (Leads files)
    (λ (f : MemoryFile). is_below folder f.path ≡ true → (entry_of (after_folder folder f.path)).folder ≡ true
    → IsSome (folder_of files (folder /- (entry_of (after_folder folder f.path)).name))) files
    (λ f leads below is_folder.
    let rest = after_folder folder f.path in
    let on = goes_on rest is_folder in
    folder_there files (folder /- (entry_of rest).name)
    (leads (folder /- (entry_of rest).name)
    (below_from (folder /- (entry_of rest).name) on.0 f.path
    (below_splits folder f.path below ∙ ap (λ (r : List ℕ). folder /- r) on.1 ∙ sym (append_assoc folder (47 ∷ (entry_of rest).name) (47 ∷ on.0))))))
    (all_lead files))
