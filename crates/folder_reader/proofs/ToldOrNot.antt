-- The steps of a walk, where the tree is told and where it isn't.
use Rattle.std.proofs.Common.{◌≡◌, ℕ, ◌+◌, ◌<◌, ◌≤◌, inl, inr, true, false, List, [], ◌∷◌, ◌++◌, length, take, get_or, cond, Bool, Option, Some, None, slice_get, refl, sym, ap, ◌∙◌, subst, append-nil, arith}
use Rattle.std.specs.Prelude.{map, filter, if◌then◌else◌, not, option_map, string_bytes, IsSome, String}
use Rattle.std.specs.List.{AllByRecursion}
use Rattle.std.proofs.lemmas.List.{map-append}
use Rattle.std.proofs.lemmas.List.Elements.{filter_more}
use Rattle.std.proofs.lemmas.Option.{get_or_from_slice_get, slice_get-map, slice_get_read, slice_get_within}
use Rattle.jk_model.specs.declared.entries.Entry.{Entry}
use Rattle.jk_model.proofs.EachItem.{all_at}
use Rattle.jk_model.specs.Outside.{AreNamed, FileIs, FolderIs, FolderIsAbsent, FolderIsLong, HasRisen, Tree}
use Rattle.jk_model_folders.specs.FolderTrees.{MOST_ENTRIES, MOST_LEVELS}
use Rattle.jk_model_folders.specs.declared.files.FolderFile.{FolderFile}
use Rattle.folder_reader.specs.declared.found.Found.{Found}
use Rattle.folder_reader.specs.Calls.{IsListing}
use Rattle.folder_reader.specs.FolderAnswers.{IsLarge}
use Rattle.folder_reader.specs.Listings.{IsToRead}
use Rattle.folder_reader.specs.Paths.{child_of, children, has_name, top, whole_path}
use Rattle.folder_reader.specs.Walks.{IsPlace, IsToldWalk}
use Rattle.folder_reader.proofs.WalkGoesOn.{place_at, walk_begins, walk_past_file, walk_past_folder}
use Rattle.folder_reader.proofs.WholeWalk.{too_deep, too_many_entries, too_wide}

pub begins : (tree : Option Tree) (root : List ℕ) (found : List Found) → found ≡ top ∷ [] → IsToldWalk tree root found 0
begins None root found is = tt
begins (Some t) root found is = subst (λ (xs : List Found). IsToldWalk (Some t) root xs 0) (sym is) (walk_begins t root)

pub is_place : (tree : Option Tree) (root : List ℕ) (found : List Found) (n : ℕ) (f : Found) → IsToldWalk tree root found n
    → slice_get found n ≡ Some f → IsPlace tree root f
is_place None root found n f w at = tt
is_place (Some t) root found n f w at = place_at t root found n n f w at

pub past_file : (tree : Option Tree) (root : List ℕ) (found : List Found) (n : ℕ) (f : Found) → IsToldWalk tree root found n
    → slice_get found n ≡ Some f → f.folder ≡ false → IsToldWalk tree root found (n + 1)
past_file None root found n f w at file = tt
past_file (Some t) root found n f w at file = walk_past_file t root found n f w at file

pub past_folder : (tree : Option Tree) (root : List ℕ) (found more : List Found) (n : ℕ) (f : Found) (entries : List Entry)
    → IsToldWalk tree root found n → slice_get found n ≡ Some f → f.folder ≡ true → f.level ≤ MOST_LEVELS
    → IsListing tree (whole_path root f.path) entries → more ≡ children f entries → IsToldWalk tree root (found ++ more) (n + 1)
past_folder None root found more n f entries w at folder shallow l is = tt
past_folder (Some t) root found more n f entries w at folder shallow l is =
    subst (λ (xs : List Found). IsToldWalk (Some t) root (found ++ xs) (n + 1)) (sym is)
    (walk_past_folder t root found n f w at folder entries l shallow)

pub is_deep : (tree : Option Tree) (root : List ℕ) (found : List Found) (n : ℕ) (f : Found) → IsToldWalk tree root found n
    → slice_get found n ≡ Some f → f.folder ≡ true → MOST_LEVELS < f.level → IsLarge tree root
is_deep None root found n f w at folder deep = tt
is_deep (Some t) root found n f w at folder deep = too_deep t root f (place_at t root found n n f w at) folder deep

pub are_many : (tree : Option Tree) (root : List ℕ) (found : List Found) (n : ℕ) → IsToldWalk tree root found n → 4097 < length found → IsLarge tree root
are_many None root found n w many = tt
are_many (Some t) root found n w many = too_many_entries t root found n w many

pub is_wide : (tree : Option Tree) (root : List ℕ) (f : Found) (k k' : ℕ) → IsPlace tree root f → f.folder ≡ true
    → FolderIsLong tree (whole_path root f.path) MOST_ENTRIES k k'
    → ((entries : List Entry) → FolderIs tree (whole_path root f.path) entries → AreNamed tree entries) → IsLarge tree root
is_wide None root f k k' place folder long named = tt
is_wide (Some t) root f k k' place folder long named = too_wide t root f k k' place folder long named

-- the folder that is read is absent
pub is_absent : (tree : Option Tree) (root : List ℕ) (f : Found) (n n' : ℕ) → f.path ≡ [] → FolderIsAbsent tree (whole_path root f.path) n n'
    → FolderIsAbsent tree root n n'
is_absent tree root f n n' is absent = subst (λ (p : List ℕ). FolderIsAbsent tree (whole_path root p) n n') is absent

none_is_not_some : {X : Type 0} (o : Option X) → o ≡ None → IsSome o → ⊥
none_is_not_some None e some = cc
none_is_not_some (Some x) e some = cc

-- one that was listed is absent only where the files failed
pub is_gone : (tree : Option Tree) (root : List ℕ) (f : Found) (n n' : ℕ) → IsPlace tree root f → f.folder ≡ true → 0 < f.level
    → FolderIsAbsent tree (whole_path root f.path) n n' → HasRisen n n'
is_gone None root f n n' place folder deep absent = absent
is_gone (Some t) root f n n' (inl is) folder deep absent =
    absurd (let level : f.level ≡ 0 = ap (λ (g : Found). g.level) is in omega (arith, level, deep))
is_gone (Some t) root f n n' (inr b) folder deep absent = absurd (none_is_not_some (t.folder (whole_path root f.path)) absent (b.listed folder))

-- one entry more
pub child_taken : (f : Found) (entries : List Entry) (i : ℕ) (e : Entry) → slice_get entries i ≡ Some e → has_name e ≡ true
    → children f (take (i + 1) entries) ≡ children f (take i entries) ++ child_of f e ∷ []
child_taken f entries i e at is =
    let more = filter_more has_name entries i e (slice_get_within entries i e at) in
    let here = get_or_from_slice_get entries i e e at in
    let kept : filter has_name (take (i + 1) entries) ≡ filter has_name (take i entries) ++ e ∷ [] =
    more ∙ ap (λ (x : Entry). filter has_name (take i entries) ++ cond (has_name x) (x ∷ []) []) here
    ∙ ap (λ (b : Bool). filter has_name (take i entries) ++ cond b (e ∷ []) []) is in
    ap (map (child_of f)) kept ∙ map-append (child_of f) (filter has_name (take i entries)) (e ∷ [])

pub child_passed : (f : Found) (entries : List Entry) (i : ℕ) (e : Entry) → slice_get entries i ≡ Some e → has_name e ≡ false
    → children f (take (i + 1) entries) ≡ children f (take i entries)
child_passed f entries i e at is =
    let more = filter_more has_name entries i e (slice_get_within entries i e at) in
    let here = get_or_from_slice_get entries i e e at in
    let kept : filter has_name (take (i + 1) entries) ≡ filter has_name (take i entries) ++ [] =
    more ∙ ap (λ (x : Entry). filter has_name (take i entries) ++ cond (has_name x) (x ∷ []) []) here
    ∙ ap (λ (b : Bool). filter has_name (take i entries) ++ cond b (e ∷ []) []) is in
    ap (map (child_of f)) (kept ∙ append-nil (filter has_name (take i entries)))

-- ---- the paths to be read, one after the other

pub path_get : {Z : Type 0} (paths : List (String Z)) (i : ℕ) (s : String Z) → i < length paths → s ≡ get_or paths i s
    → slice_get (map string_bytes paths) i ≡ Some (string_bytes s)
path_get paths i s lt is = slice_get-map string_bytes paths i ∙ ap (option_map string_bytes) (slice_get_read paths (length paths) i s refl lt is)

pub to_read_at : {Z : Type 0} (tree tree' : Option Tree) (root : List ℕ) (paths : List (String Z)) (i : ℕ) (s : String Z) (path : List ℕ) → tree' ≡ tree
    → AllByRecursion (IsToRead tree root) (map string_bytes paths) → i < length paths → s ≡ get_or paths i s → path ≡ string_bytes s
    → IsToRead tree' root path
to_read_at tree tree' root paths i s path same all lt is text =
    let here = all_at (IsToRead tree root) (map string_bytes paths) i (string_bytes s) all (path_get paths i s lt is) in
    subst (λ (t : Option Tree). IsToRead t root path) (sym same) (subst (IsToRead tree root) (sym text) here)

pub file_is_read : (tree tree' : Option Tree) (root path : List ℕ) (f : FolderFile) → tree' ≡ tree → f.path ≡ path
    → FileIs tree' (whole_path root path) f.bytes → FileIs tree (whole_path root f.path) f.bytes
file_is_read tree tree' root path f same is h =
    subst (λ (t : Option Tree). FileIs t (whole_path root f.path) f.bytes) same
    (subst (λ (p : List ℕ). FileIs tree' (whole_path root p) f.bytes) (sym is) h)

-- ---- what was appended

pub appended : {X : Type 0} (ok err : Bool) (xs ys zs : List X) → zs ≡ (if ok then xs ++ ys else xs) → ok ≡ not err → err ≡ false → zs ≡ xs ++ ys
appended ok true xs ys zs is e f = absurd cc
appended true false xs ys zs is e f = is
appended false false xs ys zs is e f = absurd cc
