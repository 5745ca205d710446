-- The names in a folder's list have a byte at least and no slash, and none is `.` or `..`, since the paths are made of full names.
use Rattle.std.proofs.Common.{◌≡◌, ◌≢◌, ℕ, ◌+◌, ◌≤◌, Bool, true, false, eqb, cond, List, [], ◌∷◌, ◌++◌, Some, None, length, take, refl, sym, ap, ◌∙◌, subst, arith}
use Rattle.std.specs.Prelude.{◌&&◌, if◌then◌else◌, not, nat_lt}
use Rattle.std.specs.List.{AllByRecursion, prefix_len, position_or_len}
use Rattle.std.specs.Str.{is_utf8}
use Rattle.std.proofs.lemmas.Bool.{and_parts, false≢true, eq-eqb, ltb-false}
use Rattle.std.proofs.Math.Numerals.{one-add}
use Rattle.std.proofs.Math.Seq.{take-length}
use Rattle.jk_model.specs.declared.entries.Entry.{Entry}
use Rattle.jk_model.specs.Outside.{IsEntryName}
use Rattle.jk_model.proofs.EachItem.{all_from_test}
use Rattle.jk_outside.specs.declared.memory_files.MemoryFile.{MemoryFile}
use Rattle.jk_outside.specs.declared.memory_files.NameSoFar.{NameSoFar}
use Rattle.jk_outside.specs.declared.memory_files.NameSoFar.TheVariants.{Empty}
use Rattle.jk_outside.specs.EntryNames.{IsPlainName}
use Rattle.jk_outside.specs.MemoryTrees.{is_below, after_folder, entry_at, entry_of, slash_of, entries_of, are_paths, has_full_names, is_full, with_byte}
use Rattle.jk_outside.proofs.Below.{below_splits}
use Rattle.jk_outside.proofs.EachEntry.{good_entries}

-- what stands after a slash has full names
either_full : (slash begun : Bool) (ended more : Bool) (R : Type 0) → (if slash then begun && ended else more) ≡ true → (ended ≡ true → R)
    → (more ≡ true → R) → R
either_full true begun ended more R h a b = a ((and_parts begun ended h).1)
either_full false begun ended more R h a b = b h

full_after_slash : (front rest : List ℕ) (so_far : NameSoFar) → has_full_names so_far (front ++ 47 ∷ rest) ≡ true → has_full_names Empty rest ≡ true
full_after_slash [] rest so_far h = (and_parts (is_full so_far) (has_full_names Empty rest) h).1
full_after_slash (c ∷ cs) rest so_far h =
    either_full (eqb c 47) (is_full so_far) (has_full_names Empty (cs ++ 47 ∷ rest)) (has_full_names (with_byte so_far c) (cs ++ 47 ∷ rest))
    (has_full_names Empty rest ≡ true) h (full_after_slash cs rest Empty) (full_after_slash cs rest (with_byte so_far c))

-- the first name is what stands before the first slash
pub first_part : List ℕ → List ℕ
first_part rest = take (position_or_len (λ c. eqb c 47) rest) rest

name_at : (rest : List ℕ) (n : ℕ) (within : Bool) → nat_lt n (length rest) ≡ within → n ≤ length rest
    → (entry_at (cond within (Some n) None) rest).name ≡ take n rest
name_at rest n true is le = refl
name_at rest n false is le =
    let least : length rest ≤ n = ltb-false n (length rest) is in
    let same : n ≡ length rest = omega arith in
    sym (ap (λ (k : ℕ). take k rest) same ∙ take-length rest)

prefix_within : (p : ℕ → Bool) (xs : List ℕ) → prefix_len p xs ≤ length xs
prefix_within p [] = omega arith
prefix_within p (x ∷ xs) =
    elim (p x) as (λ (b : Bool). cond b (1 + prefix_len p xs) 0 ≤ length (x ∷ xs)) [ true ↦ omega (arith, prefix_within p xs) | false ↦ omega arith ]

name_is_first_part : (rest : List ℕ) → (entry_of rest).name ≡ first_part rest
unfolding entry_of slash_of first_part
name_is_first_part rest =
    let n = position_or_len (λ c. eqb c 47) rest in
    name_at rest n (nat_lt n (length rest)) refl (prefix_within (λ c. not (eqb c 47)) rest)

-- no byte of it is a slash
no_slash_at : (x n : ℕ) (xs : List ℕ) (b : Bool) → (b ≡ false → x ≢ 47) → AllByRecursion (λ c. c ≢ 47) (take n xs)
    → AllByRecursion (λ c. c ≢ 47) (take (cond (not b) (1 + n) 0) (x ∷ xs))
no_slash_at x n xs true differs all = tt
no_slash_at x n xs false differs all = rw one-add (differs refl, all)

no_slash : (rest : List ℕ) → AllByRecursion (λ c. c ≢ 47) (take (position_or_len (λ c. eqb c 47) rest) rest)
no_slash [] = tt
no_slash (x ∷ xs) =
    no_slash_at x (position_or_len (λ c. eqb c 47) xs) xs (eqb x 47)
    (λ other same. false≢true (sym other ∙ eq-eqb x 47 same)) (no_slash xs)

-- ---- Where the names are full, it is neither empty nor `.` nor `..`.

-- what is known of a name after these bytes
abbrev after_bytes : NameSoFar → List ℕ → NameSoFar
after_bytes so_far [] = so_far
after_bytes so_far (c ∷ cs) = after_bytes (with_byte so_far c) cs

full_at : (so_far : NameSoFar) (x n : ℕ) (xs : List ℕ) (b ended more : Bool) → (if b then is_full so_far && ended else more) ≡ true
    → (more ≡ true → is_full (after_bytes (with_byte so_far x) (take n xs)) ≡ true)
    → is_full (after_bytes so_far (take (cond (not b) (1 + n) 0) (x ∷ xs))) ≡ true
full_at so_far x n xs true ended more h go = (and_parts (is_full so_far) ended h).0
full_at so_far x n xs false ended more h go = rw one-add (go h)

full_first : (rest : List ℕ) (so_far : NameSoFar) → has_full_names so_far rest ≡ true
    → is_full (after_bytes so_far (take (position_or_len (λ c. eqb c 47) rest) rest)) ≡ true
full_first [] so_far h = h
full_first (x ∷ xs) so_far h =
    full_at so_far x (position_or_len (λ c. eqb c 47) xs) xs (eqb x 47) (has_full_names Empty xs) (has_full_names (with_byte so_far x) xs) h
    (full_first xs (with_byte so_far x))

-- a name that isn't full is another one
other_than : (name short : List ℕ) → is_full (after_bytes Empty name) ≡ true → is_full (after_bytes Empty short) ≡ false → name ≢ short
other_than name short full not_full same =
    false≢true (sym not_full ∙ ap (λ (n : List ℕ). is_full (after_bytes Empty n)) (sym same) ∙ full)

first_is_full : (rest : List ℕ) → has_full_names Empty rest ≡ true → is_full (after_bytes Empty (entry_of rest).name) ≡ true
unfolding first_part
first_is_full rest h =
    subst (λ (name : List ℕ). is_full (after_bytes Empty name) ≡ true) (sym (name_is_first_part rest)) (full_first rest Empty h)

first_is_name : (rest : List ℕ) → has_full_names Empty rest ≡ true → IsEntryName (entry_of rest).name
unfolding first_part
first_is_name rest full = (
  other_than (entry_of rest).name [] (first_is_full rest full) refl,
  subst (AllByRecursion (λ c. c ≢ 47)) (sym (name_is_first_part rest)) (no_slash rest),
)

first_is_plain : (rest : List ℕ) → has_full_names Empty rest ≡ true → IsPlainName (entry_of rest).name
first_is_plain rest full = (
  other_than (entry_of rest).name (46 ∷ []) (first_is_full rest full) refl,
  other_than (entry_of rest).name (46 ∷ 46 ∷ []) (first_is_full rest full) refl,
)

rest_is_full : (folder path : List ℕ) → is_below folder path ≡ true → has_full_names Empty path ≡ true → has_full_names Empty (after_folder folder path) ≡ true
rest_is_full folder path below full =
    full_after_slash folder (after_folder folder path) Empty
    (subst (λ (p : List ℕ). has_full_names Empty p ≡ true) (below_splits folder path below) full)

-- what the first name after the folder is, each entry is
each_name : (Holds : List ℕ → Type 0) → ((rest : List ℕ) → has_full_names Empty rest ≡ true → Holds (entry_of rest).name)
    → (folder : List ℕ) (files : List MemoryFile) → are_paths files ≡ true → AllByRecursion (λ (e : Entry). Holds e.name) (entries_of folder files)
unfolding are_paths
each_name Holds first folder files u =
    good_entries (λ (e : Entry). Holds e.name) folder files
    (all_from_test (λ (f : MemoryFile). is_below folder f.path ≡ true → Holds (entry_of (after_folder folder f.path)).name)
    (λ (f : MemoryFile). is_utf8 f.path && has_full_names Empty f.path)
    (λ f t below.
    let full = (and_parts (is_utf8 f.path) (has_full_names Empty f.path) t).1 in
    first (after_folder folder f.path) (rest_is_full folder f.path below full)) files u)

pub names_are_names : (folder : List ℕ) (files : List MemoryFile) → are_paths files ≡ true
    → AllByRecursion (λ (e : Entry). IsEntryName e.name) (entries_of folder files)
names_are_names = each_name IsEntryName first_is_name

pub names_are_plain : (folder : List ℕ) (files : List MemoryFile) → are_paths files ≡ true
    → AllByRecursion (λ (e : Entry). IsPlainName e.name) (entries_of folder files)
names_are_plain = each_name IsPlainName first_is_plain
