-- A walk over all folders found all that stands below, so the files that were read are those of the folder.
use Rattle.std.proofs.Common.{◌≡◌, ◌≢◌, ℕ, zero, suc, ◌+◌, ◌<◌, ◌≤◌, inl, inr, Bool, true, false, cond, List, [], ◌∷◌, ◌++◌, length, Option, Some, None, slice_get, refl, sym, ap, ◌∙◌, subst, append-nil, arith}
use Rattle.std.specs.Prelude.{map, not, nat_eq, ◌||◌, codes, unwrap_or, take, drop, Contains, IsSome, IsUtf8}
use Rattle.std.specs.List.{AllByRecursion, IsDistinct, ends_with, filter, list_any}
use Rattle.std.specs.Str.{bytes_eq}
use Rattle.std.proofs.lemmas.Bool.{and_parts, false≢true}
use Rattle.std.proofs.lemmas.Bool.Decides.{Decides-eqb}
use Rattle.std.proofs.lemmas.List.{length-map, map-append, take-append-drop, take_more}
use Rattle.std.proofs.lemmas.List.Elements.{filter_more}
use Rattle.std.proofs.lemmas.List.Sums.{sum_by-append}
use Rattle.std.proofs.lemmas.Slice.Eq.{bytes_eq-Decides, ends_is}
use Rattle.jk_model.specs.declared.entries.Entry.{Entry}
use Rattle.jk_model.specs.Outside.{AreNamed, FileIs, FolderIs, FolderIsLong, Tree, ◌/-◌}
use Rattle.jk_model.proofs.EachItem.{all_front, all_push, all_weaker}
use Rattle.std.proofs.lemmas.Option.{get_or_from_slice_get, slice_get_within}
use Rattle.list_lemmas.proofs.ItemsOfLists.{Contains-at as item_at, place_of, each-of as each_of, each-from as all_of}
use Rattle.list_lemmas.proofs.ItemsThatPass.{Contains-filter as in_filter}
use Rattle.jk_model_folders.specs.declared.files.FolderFile.{FolderFile}
use Rattle.jk_model_folders.specs.declared.files.FolderFiles.{FolderFiles}
use Rattle.jk_model_folders.specs.FolderTrees.{AreFiles, AreFilesOf, AreToldFiles, HasClassFileAt, HasEntryAt, HasFileAt, IsClassPath, IsThatFile, IsTooLarge, deep_folder, many_entries, many_files, long_file, long_resolver, long_together, MAX_CLASSES, MAX_FILE, MOST_ENTRIES, MOST_FILES, MOST_LEVELS, RESOLVER, StandsBelow, directly, deeper}
use Rattle.folder_reader.specs.declared.found.Found.{Found}
use Rattle.folder_reader.specs.Calls.{HasFile, HasFolder, IsLongFile}
use Rattle.folder_reader.specs.FolderAnswers.{IsLarge, IsWithin}
use Rattle.folder_reader.specs.Listings.{AreRead, IsFilePath, IsToldFilePath, IsToRead, sum_of}
use Rattle.folder_reader.specs.Paths.{child, child_of, class_paths, is_class, is_resolver, IsRising, paths_of, top, whole_path}
use Rattle.folder_reader.specs.Walks.{AreFound, IsBelow, IsFound, IsLooked, IsPlace, IsToldWalk, IsWalk}
use Rattle.folder_reader.proofs.ItemsOfLists.{all_mapped, all_unmapped, in_map, of_filter, of_map}
use Rattle.folder_reader.proofs.NoMoreThanFound.{length_within, sum_within}
use Rattle.folder_reader.proofs.PathsInOrder.{rising_at}
use Rattle.folder_reader.proofs.PathsTellNames.{whole_below}
use Rattle.folder_reader.proofs.WalkGoesOn.{entries_apart, place_at, stands_in}

-- ---- what stands below

pub root_is_listed : (t : Tree) (root path : List ℕ) (level : ℕ) (e : Entry) → StandsBelow t root path level e → t.folder root ≢ None
root_is_listed t root path level e (directly entries x l h) = λ none. absurd cc
root_is_listed t root path level e (deeper p n above entries x s folder l h) = root_is_listed t root p n above s

pub level_is_below : (t : Tree) (root path : List ℕ) (level : ℕ) (e : Entry) → StandsBelow t root path level e → 0 < level
level_is_below t root path level e (directly entries x l h) = omega arith
level_is_below t root path level e (deeper p n above entries x s folder l h) = omega arith

class_path_some : (path : List ℕ) → IsClassPath path → path ≢ []
class_path_some path ([], is) empty = absurd cc
class_path_some path (c ∷ stem, is) empty = absurd cc

-- ---- a folder that is too large

pub too_deep : (t : Tree) (root : List ℕ) (f : Found) → IsPlace (Some t) root f → f.folder ≡ true → MOST_LEVELS < f.level → IsLarge (Some t) root
too_deep t root f (inl is) folder deep = absurd (let level : f.level ≡ 0 = ap (λ (g : Found). g.level) is in omega arith)
too_deep t root f (inr b) folder deep =
    (root_is_listed t root f.path f.level b.entry b.stands, deep_folder f.path f.level b.entry b.stands (b.sort ∙ folder) deep)

-- the entries of one folder stand below, each at its own path
wide_entries : (t : Tree) (root : List ℕ) (f : Found) (entries : List Entry) → IsPlace (Some t) root f → f.folder ≡ true
    → t.folder (whole_path root f.path) ≡ Some entries → AllByRecursion (HasEntryAt t root) (paths_of (map (child_of f) entries))
wide_entries t root f entries place folder listed =
    all_mapped (λ (g : Found). g.path) (HasEntryAt t root) (map (child_of f) entries)
    (all_mapped (child_of f) (λ (g : Found). HasEntryAt t root g.path) entries
    (all_of (λ (e : Entry). HasEntryAt t root (child f.path e.name)) entries (λ e h. (f.level + 1, e, stands_in t root f entries e place folder listed h))))

place_is_listed : (t : Tree) (root : List ℕ) (f : Found) (entries : List Entry) → IsPlace (Some t) root f → t.folder (whole_path root f.path) ≡ Some entries
    → t.folder root ≢ None
place_is_listed t root f entries (inl is) listed =
    let at : t.folder root ≡ Some entries = subst (λ (g : Found). t.folder (whole_path root g.path) ≡ Some entries) is listed in
    λ none. absurd cc
place_is_listed t root f entries (inr b) listed = root_is_listed t root f.path f.level b.entry b.stands

pub too_wide : (t : Tree) (root : List ℕ) (f : Found) (k k' : ℕ) → IsPlace (Some t) root f → f.folder ≡ true
    → FolderIsLong (Some t) (whole_path root f.path) MOST_ENTRIES k k'
    → ((entries : List Entry) → FolderIs (Some t) (whole_path root f.path) entries → AreNamed (Some t) entries) → IsLarge (Some t) root
too_wide t root f k k' place folder (entries, listed, long) named =
    let paths = length-map (map (child_of f) entries) (λ (g : Found). g.path) in
    let found = length-map entries (child_of f) in (
      place_is_listed t root f entries place listed,
      many_entries (paths_of (map (child_of f) entries)) (entries_apart f entries (named entries listed).1) (wide_entries t root f entries place folder listed)
          (omega (arith, long, paths, found)),
    )

entries_at : (t : Tree) (root : List ℕ) (below : List Found) → AllByRecursion (IsBelow t root) below → AllByRecursion (HasEntryAt t root) (paths_of below)
entries_at t root [] h = tt
entries_at t root (f ∷ below) h = ((f.level, h.0.entry, h.0.stands), entries_at t root below h.1)

first_listed : (t : Tree) (root : List ℕ) (below : List Found) → AllByRecursion (IsBelow t root) below → 0 < length below → t.folder root ≢ None
first_listed t root [] h some = absurd (omega arith)
first_listed t root (f ∷ below) h some = root_is_listed t root f.path f.level h.0.entry h.0.stands

distinct_below : (f : Found) (below : List Found) → IsDistinct bytes_eq (paths_of (f ∷ below)) → IsDistinct bytes_eq (paths_of below)
unfolding IsDistinct
distinct_below f below d = d.1

pub too_many_entries : (t : Tree) (root : List ℕ) (found : List Found) (n : ℕ) → IsWalk t root found n → 4097 < length found → IsLarge (Some t) root
too_many_entries t root found n w many =
    let whole = ap length w.shape in
    let enough : 4096 < length w.below = omega (arith, whole) in
    let paths = length-map w.below (λ (f : Found). f.path) in (
      first_listed t root w.below w.stand (omega arith),
      many_entries (paths_of w.below) (distinct_below top w.below (subst (λ (xs : List Found). IsDistinct bytes_eq (paths_of xs)) w.shape w.apart))
          (entries_at t root w.below w.stand) (omega (arith, paths)),
    )

-- ---- class files

abbrev CLASS : List ℕ
CLASS = codes ".class"

ends_so : (path : List ℕ) → (ends_with nat_eq path CLASS ≡ true → IsClassPath path) × (IsClassPath path → ends_with nat_eq path CLASS ≡ true)
ends_so path =
    let is = ends_is Decides-eqb path CLASS (ends_with nat_eq path CLASS) refl in
    ((λ e. (_, is.0 e)), (λ c. is.1 c.0 c.1))

not_true : (b : Bool) → not b ≡ true → b ≡ false
not_true true e = absurd cc
not_true false e = refl

is_class_of : (f : Found) → is_class f ≡ true → (f.folder ≡ false) × IsClassPath f.path
is_class_of f e =
    let parts = and_parts (not f.folder) (ends_with nat_eq f.path CLASS) e in
    (not_true f.folder parts.0, (ends_so f.path).0 parts.1)

pub class_test : (f : Found) → f.folder ≡ false → IsClassPath f.path → is_class f ≡ true
class_test f file class = rw file ((ends_so f.path).1 class)

no_top : (t : Tree) (root : List ℕ) (f : Found) → IsPlace (Some t) root f → f.folder ≡ false → IsBelow t root f
no_top t root f (inl is) file = absurd (false≢true (sym file ∙ ap (λ (g : Found). g.folder) is))
no_top t root f (inr b) file = b

-- a class path is that of an entry that was found
pub class_found : (found : List Found) (path : List ℕ) → Contains (class_paths found) path
    → (f : Found) × Contains found f × (is_class f ≡ true) × (f.path ≡ path)
class_found found path h =
    let m = of_map (λ (f : Found). f.path) (filter is_class found) path h in
    let k = of_filter is_class found m.0 m.1 in
    (m.0, k.0, k.1, m.2)

file_path : (t : Tree) (root : List ℕ) (f : Found) (path : List ℕ) → IsBelow t root f → f.folder ≡ false → f.path ≡ path → IsFilePath t root path
file_path t root f path b file is =
    subst (IsFilePath t root) is (record { level = f.level; entry = b.entry; stands = b.stands; is_file = b.sort ∙ file; file = b.file file })

pub to_read_all : (tree : Option Tree) (root : List ℕ) (found : List Found) (n : ℕ) (paths : List (List ℕ)) → AreFound root found
    → IsToldWalk tree root found n → ((path : List ℕ) → Contains paths path → Contains (class_paths found) path)
    → AllByRecursion (IsToRead tree root) paths
to_read_all tree root found n paths are walk only =
    all_of (IsToRead tree root) paths (λ path h.
    let c = class_found found path (only path h) in
    let class = is_class_of c.0 c.2 in
    record {
      class = subst IsClassPath c.3 class.1;
      utf8 = subst IsUtf8 c.3 (each_of (IsFound root) found c.0 are c.1).utf8;
      within = subst (λ (p : List ℕ). IsWithin root (whole_path root p)) c.3 (each_of (IsFound root) found c.0 are c.1).within;
      told = told tree walk c.0 path c.1 class.0 c.3;
    })
  where
    told : (tree : Option Tree) → IsToldWalk tree root found n → (f : Found) (path : List ℕ) → Contains found f → f.folder ≡ false → f.path ≡ path
        → IsToldFilePath tree root path
    told None walk f path h file is = tt
    told (Some t) walk f path h file is =
        let at = place_of found f h in
        file_path t root f path (no_top t root f (place_at t root found n at.0 f walk at.1) file) file is

-- the file at a path of a told tree
abbrev file_at : Tree → List ℕ → List ℕ → FolderFile
file_at t root path = record { path = path; bytes = unwrap_or (t.file (root /- path)) [] }

some_is : (o : Option (List ℕ)) → IsSome o → o ≡ Some (unwrap_or o [])
some_is None h = absurd cc
some_is (Some x) h = refl

pub that_file : (t : Tree) (root path bytes : List ℕ) → IsClassPath path → IsFilePath t root path → t.file (root /- path) ≡ Some bytes
    → HasClassFileAt t root path bytes
that_file t root path bytes class f at = (class, ((f.level, f.entry, f.stands, f.is_file), at))

file_of_path : (t : Tree) (root path : List ℕ) → IsToRead (Some t) root path → IsThatFile t root (file_at t root path)
file_of_path t root path r =
    let some = subst (λ (p : List ℕ). IsSome (t.file p)) (whole_below root path (class_path_some path r.class)) r.told.file in
    that_file t root path _ r.class r.told (some_is (t.file (root /- path)) some)

files_of_paths : (t : Tree) (root : List ℕ) (paths : List (List ℕ)) → AllByRecursion (IsToRead (Some t) root) paths
    → AllByRecursion (IsThatFile t root) (map (file_at t root) paths)
files_of_paths t root [] r = tt
files_of_paths t root (path ∷ paths) r = (file_of_path t root path r.0, files_of_paths t root paths r.1)

paths_of_files : (t : Tree) (root : List ℕ) (paths : List (List ℕ)) → map (λ (f : FolderFile). f.path) (map (file_at t root) paths) ≡ paths
paths_of_files t root [] = refl
paths_of_files t root (path ∷ paths) = ap (λ ps. path ∷ ps) (paths_of_files t root paths)

pub too_many_files : (tree : Option Tree) (root : List ℕ) (paths : List (List ℕ)) → AllByRecursion (IsToRead tree root) paths
    → IsDistinct bytes_eq paths → HasFolder tree root → MOST_FILES < length paths → IsLarge tree root
too_many_files None root paths r d folder many = tt
too_many_files (Some t) root paths r d folder many = (
  folder,
  many_files (map (file_at t root) paths) (subst (IsDistinct bytes_eq) (sym (paths_of_files t root paths)) d)
      (files_of_paths t root paths r) (omega (arith, length-map paths (file_at t root))),
)

-- a class file that is too long
pub too_long_class : (tree : Option Tree) (root path : List ℕ) → IsToRead tree root path → HasFolder tree root
    → IsLongFile tree (whole_path root path) → IsLarge tree root
too_long_class None root path r folder long = tt
too_long_class (Some t) root path r folder (bytes, at, long) =
    let here : t.file (root /- path) ≡ Some bytes = ap t.file (sym (whole_below root path (class_path_some path r.class))) ∙ at in
    (folder, long_file path bytes (that_file t root path bytes r.class r.told here) long)

-- class files that are too long together
those_files : (t : Tree) (root : List ℕ) (fs : List FolderFile) → AllByRecursion (λ (f : FolderFile). IsToRead (Some t) root f.path) fs
    → AllByRecursion (λ (f : FolderFile). FileIs (Some t) (whole_path root f.path) f.bytes) fs → AllByRecursion (IsThatFile t root) fs
those_files t root [] r b = tt
those_files t root (f ∷ fs) r b = (
  that_file t root f.path f.bytes r.0.class r.0.told (ap t.file (sym (whole_below root f.path (class_path_some f.path r.0.class))) ∙ b.0),
  those_files t root fs r.1 b.1,
)

distinct_front : (xs ys : List (List ℕ)) → IsDistinct bytes_eq (xs ++ ys) → IsDistinct bytes_eq xs
unfolding IsDistinct
distinct_front [] ys d = tt
distinct_front (x ∷ xs) ys d = (all_front _ xs ys d.0, distinct_front xs ys d.1)

pub too_long_together : (tree : Option Tree) (root : List ℕ) (paths : List (List ℕ)) (n : ℕ) (fs : List FolderFile)
    → AllByRecursion (IsToRead tree root) paths → IsDistinct bytes_eq paths → HasFolder tree root
    → map (λ (f : FolderFile). f.path) fs ≡ take n paths
    → AllByRecursion (λ (f : FolderFile). FileIs tree (whole_path root f.path) f.bytes) fs → MAX_CLASSES < sum_of fs → IsLarge tree root
too_long_together None root paths n fs r d folder front bytes long = tt
too_long_together (Some t) root paths n fs r d folder front bytes long =
    let whole = take-append-drop n paths in
    let first = all_front (IsToRead (Some t) root) (take n paths) (drop n paths) (subst (AllByRecursion (IsToRead (Some t) root)) (sym whole) r) in
    let apart = distinct_front (take n paths) (drop n paths) (subst (IsDistinct bytes_eq) (sym whole) d) in
    let here = all_unmapped (λ (f : FolderFile). f.path) (IsToRead (Some t) root) fs (subst (AllByRecursion (IsToRead (Some t) root)) (sym front) first) in
    (folder, long_together fs (subst (IsDistinct bytes_eq) (sym front) apart) (those_files t root fs here bytes) long)

-- one file more
take_next : (xs : List (List ℕ)) (i : ℕ) (x : List ℕ) → slice_get xs i ≡ Some x → take (i + 1) xs ≡ take i xs ++ x ∷ []
take_next xs i x e =
    take_more xs i x (slice_get_within xs i x e) ∙ ap (λ (y : List ℕ). take i xs ++ y ∷ []) (get_or_from_slice_get xs i x x e)

pub sum_more : (fs : List FolderFile) (f : FolderFile) → sum_of (fs ++ f ∷ []) ≡ sum_of fs + length f.bytes
sum_more fs f = let whole = sum_by-append (λ (g : FolderFile). length g.bytes) fs (f ∷ []) in omega (arith, whole)

pub read_more : (tree : Option Tree) (root : List ℕ) (paths : List (List ℕ)) (n : ℕ) (fs : List FolderFile) (f : FolderFile)
    → AreRead tree root (take n paths) fs → slice_get paths n ≡ Some f.path → FileIs tree (whole_path root f.path) f.bytes
    → length f.bytes ≤ MAX_FILE → sum_of fs + length f.bytes ≤ MAX_CLASSES → AreRead tree root (take (n + 1) paths) (fs ++ f ∷ [])
read_more tree root paths n fs f r at bytes short sum = record {
  paths = map-append (λ (g : FolderFile). g.path) fs (f ∷ []) ∙ ap (λ (ps : List (List ℕ)). ps ++ f.path ∷ []) r.paths ∙ sym (take_next paths n f.path at);
  bytes = all_push _ fs f r.bytes bytes;
  short = all_push _ fs f r.short short;
  together = (let whole = sum_more fs f in omega (arith, whole, sum));
}

pub names_of_more : (tree : Option Tree) (root : List ℕ) (paths : List (List ℕ)) (n : ℕ) (fs : List FolderFile) (f : FolderFile)
    → AreRead tree root (take n paths) fs → slice_get paths n ≡ Some f.path
    → map (λ (g : FolderFile). g.path) (fs ++ f ∷ []) ≡ take (n + 1) paths
names_of_more tree root paths n fs f r at =
    map-append (λ (g : FolderFile). g.path) fs (f ∷ []) ∙ ap (λ (ps : List (List ℕ)). ps ++ f.path ∷ []) r.paths ∙ sym (take_next paths n f.path at)

pub too_long_with : (tree : Option Tree) (root : List ℕ) (paths : List (List ℕ)) (n : ℕ) (fs : List FolderFile) (f : FolderFile)
    → AreRead tree root (take n paths) fs → slice_get paths n ≡ Some f.path → FileIs tree (whole_path root f.path) f.bytes
    → AllByRecursion (IsToRead tree root) paths → IsDistinct bytes_eq paths → HasFolder tree root
    → MAX_CLASSES < sum_of fs + length f.bytes → IsLarge tree root
too_long_with tree root paths n fs f r at bytes to_read apart folder long =
    too_long_together tree root paths (n + 1) (fs ++ f ∷ []) to_read apart folder (names_of_more tree root paths n fs f r at)
    (all_push _ fs f r.bytes bytes) (let whole = sum_more fs f in omega (arith, whole, long))

-- one class path more
pub class_taken : (found : List Found) (i : ℕ) (f : Found) → slice_get found i ≡ Some f → is_class f ≡ true
    → class_paths (take (i + 1) found) ≡ class_paths (take i found) ++ f.path ∷ []
class_taken found i f at is =
    let more = filter_more is_class found i f (slice_get_within found i f at) in
    let here = get_or_from_slice_get found i f f at in
    let kept : filter is_class (take (i + 1) found) ≡ filter is_class (take i found) ++ f ∷ [] =
    more ∙ ap (λ (g : Found). filter is_class (take i found) ++ cond (is_class g) (g ∷ []) []) here
    ∙ ap (λ (b : Bool). filter is_class (take i found) ++ cond b (f ∷ []) []) is in
    ap paths_of kept ∙ map-append (λ (g : Found). g.path) (filter is_class (take i found)) (f ∷ [])

pub class_passed : (found : List Found) (i : ℕ) (f : Found) → slice_get found i ≡ Some f → is_class f ≡ false
    → class_paths (take (i + 1) found) ≡ class_paths (take i found)
class_passed found i f at is =
    let more = filter_more is_class found i f (slice_get_within found i f at) in
    let here = get_or_from_slice_get found i f f at in
    let kept : filter is_class (take (i + 1) found) ≡ filter is_class (take i found) ++ [] =
    more ∙ ap (λ (g : Found). filter is_class (take i found) ++ cond (is_class g) (g ∷ []) []) here
    ∙ ap (λ (b : Bool). filter is_class (take i found) ++ cond b (f ∷ []) []) is in
    ap paths_of (kept ∙ append-nil (filter is_class (take i found)))

-- ---- `resolver.txt`

first_or : (x : Found) (xs : List Found) (b : Bool) → is_resolver x ≡ b → (b || list_any is_resolver xs) ≡ true
    → (list_any is_resolver xs ≡ true → (k : ℕ) × (f : Found) × (slice_get xs k ≡ Some f) × (is_resolver f ≡ true))
    → (k : ℕ) × (f : Found) × (slice_get (x ∷ xs) k ≡ Some f) × (is_resolver f ≡ true)
first_or x xs true is e others = (0, x, refl, is)
first_or x xs false is e others = let r = others e in (suc r.0, r.1, r.2, r.3)

any_of : (xs : List Found) → list_any is_resolver xs ≡ true → (k : ℕ) × (f : Found) × (slice_get xs k ≡ Some f) × (is_resolver f ≡ true)
any_of [] e = absurd cc
any_of (x ∷ xs) e = first_or x xs (is_resolver x) refl e (any_of xs)

resolver_stands : (t : Tree) (root : List ℕ) (found : List Found) (n : ℕ) → IsWalk t root found n → list_any is_resolver found ≡ true
    → ((level : ℕ) × (e : Entry) × StandsBelow t root RESOLVER level e × (e.folder ≡ false)) × IsSome (t.file (whole_path root RESOLVER))
resolver_stands t root found n w e =
    let r = any_of found e in
    let parts = and_parts (not r.1.folder) (bytes_eq r.1.path RESOLVER) r.3 in
    let file = not_true r.1.folder parts.0 in
    let path = (bytes_eq-Decides r.1.path RESOLVER).0 parts.1 in
    let b = no_top t root r.1 (place_at t root found n r.0 r.1 w r.2) file in (
      (r.1.level, b.entry, subst (λ (p : List ℕ). StandsBelow t root p r.1.level b.entry) path b.stands, b.sort ∙ file),
      subst (λ (p : List ℕ). IsSome (t.file (whole_path root p))) path (b.file file),
    )

pub resolver_there : (tree : Option Tree) (root : List ℕ) (found : List Found) (n : ℕ) → IsToldWalk tree root found n
    → list_any is_resolver found ≡ true → HasFile tree (whole_path root RESOLVER)
resolver_there None root found n w e = tt
resolver_there (Some t) root found n w e = (resolver_stands t root found n w e).1

pub too_long_resolver : (tree : Option Tree) (root : List ℕ) (found : List Found) (n : ℕ) → IsToldWalk tree root found n → HasFolder tree root
    → list_any is_resolver found ≡ true → IsLongFile tree (whole_path root RESOLVER) → IsLarge tree root
too_long_resolver None root found n w folder e long = tt
too_long_resolver (Some t) root found n w folder e (bytes, at, long) =
    (folder, long_resolver bytes ((resolver_stands t root found n w e).0, at) long)

-- ---- the whole walk

child_below : (path name : List ℕ) → path ≢ [] → child path name ≡ path /- name
child_below [] name some = absurd (some refl)
child_below (c ∷ path) name some = refl

module _ (t : Tree) (root : List ℕ) (found : List Found) (w : IsWalk t root found (length found)) where
  top_found : slice_get found 0 ≡ Some top
  top_found = ap (λ (xs : List Found). slice_get xs 0) w.shape

  top_looked : IsLooked t root found top
  top_looked = w.each 0 top (let whole = ap length w.shape in omega arith) top_found refl

  same_list : (a b : List Entry) (path : List ℕ) → t.folder path ≡ Some a → t.folder path ≡ Some b → b ≡ a
  same_list a b path ea eb = let e : Some b ≡ Some a = sym eb ∙ ea in cc

  pub all_found : (path : List ℕ) (level : ℕ) (e : Entry) → StandsBelow t root path level e
      → Contains found (record { path = path; level = level; folder = e.folder })
  all_found path level e (directly entries x l h) =
      let looked = top_looked in
      let same = same_list looked.entries entries root looked.listed l in
      each_of (λ (y : Entry). Contains found (child_of top y)) looked.entries x looked.all (subst (λ (es : List Entry). Contains es x) same h)
  all_found path level e (deeper p n above entries x s folder l h) =
      let f : Found = record { path = p; level = n; folder = above.folder } in
      let at = place_of found f (all_found p n above s) in
      let inside = slice_get_within found at.0 f at.1 in
      let looked = w.each at.0 f inside at.1 folder in
      let some : p ≢ [] = not_top at.0 p n above s at.1 in
      let same = same_list looked.entries entries (root /- p) (ap t.folder (sym (whole_below root p some)) ∙ looked.listed) l in
      let is = each_of (λ (y : Entry). Contains found (child_of f y)) looked.entries x looked.all (subst (λ (es : List Entry). Contains es x) same h) in
      let next : n + 1 ≡ suc n = omega arith in
      subst (λ (k : ℕ). Contains found (record { path = p /- x.name; level = k; folder = x.folder })) next
      (subst (λ (q : List ℕ). Contains found (record { path = q; level = n + 1; folder = x.folder })) (child_below p x.name some) is)
    where
      not_top : (k : ℕ) (p : List ℕ) (n : ℕ) (above : Entry) → StandsBelow t root p n above
          → slice_get found k ≡ Some (record { path = p; level = n; folder = above.folder }) → p ≢ []
      not_top k p n above s at =
          elim (place_at t root found (length found) k _ w at) [
            | inl is ↦ absurd (let low = level_is_below t root p n above s in let level : n ≡ 0 = ap (λ (g : Found). g.level) is in omega arith)
            | inr b ↦ b.named
          ]

  pub folder_is : (entries : List Entry) × (t.folder root ≡ Some entries)
  folder_is = let looked = top_looked in (looked.entries, looked.listed)

  no_deep_folder : (path : List ℕ) (level : ℕ) (e : Entry) → StandsBelow t root path level e → e.folder ≡ true → MOST_LEVELS < level → ⊥
  no_deep_folder path level e s folder deep =
      let f : Found = record { path = path; level = level; folder = e.folder } in
      let at = place_of found f (all_found path level e s) in
      let looked = w.each at.0 f (slice_get_within found at.0 f at.1) at.1 folder in
      let low = looked.shallow in
      omega arith

  in_below : (f : Found) → 0 < f.level → Contains found f → Contains w.below f
  in_below f deep h = by (place_of (top ∷ w.below) f (subst (λ (xs : List Found). Contains xs f) w.shape h))
    where
      by : (k : ℕ) × (slice_get (top ∷ w.below) k ≡ Some f) → Contains w.below f
      by (zero, e) = absurd (let same : top ≡ f = cc in let level = ap (λ (g : Found). g.level) same in omega (arith, level))
      by (suc k, e) = item_at w.below k f e

  no_more_entries : length found ≤ 4097 → (paths : List (List ℕ)) → IsDistinct bytes_eq paths → AllByRecursion (HasEntryAt t root) paths
      → MOST_ENTRIES < length paths → ⊥
  no_more_entries few paths d h many =
      let are : AllByRecursion (Contains (paths_of w.below)) paths =
      all_weaker (HasEntryAt t root) (Contains (paths_of w.below)) paths (λ path (level, e, s).
      let f : Found = record { path = path; level = level; folder = e.folder } in
      in_map (λ (g : Found). g.path) w.below f (in_below f (level_is_below t root path level e s) (all_found path level e s))) h in
      let less = length_within (λ (p : List ℕ). p) paths (paths_of w.below) (subst (IsDistinct bytes_eq) (sym (map_itself paths)) d) are in
      let whole = ap length w.shape in
      let same = length-map w.below (λ (g : Found). g.path) in
      omega (arith, less, whole, same)
    where
      map_itself : (ps : List (List ℕ)) → map (λ (p : List ℕ). p) ps ≡ ps
      map_itself [] = refl
      map_itself (p ∷ ps) = ap (λ qs. p ∷ qs) (map_itself ps)

  pub class_is_found : (path bytes : List ℕ) → HasClassFileAt t root path bytes → Contains (class_paths found) path
  class_is_found path bytes (class, ((level, e, s, file), at)) =
      let f : Found = record { path = path; level = level; folder = e.folder } in
      in_map (λ (g : Found). g.path) (filter is_class found) f (in_filter is_class found f (all_found path level e s) (class_test f file class))

  any_at : (xs : List Found) (k : ℕ) (f : Found) → slice_get xs k ≡ Some f → is_resolver f ≡ true → list_any is_resolver xs ≡ true
  any_at [] k f at is = absurd cc
  any_at (x ∷ xs) zero f at is = let same : x ≡ f = cc in let passes : is_resolver x ≡ true = ap is_resolver same ∙ is in rw passes refl
  any_at (x ∷ xs) (suc k) f at is = or_right (is_resolver x) (list_any is_resolver xs) (any_at xs k f at is)
    where
      or_right : (a b : Bool) → b ≡ true → (a || b) ≡ true
      or_right true b e = refl
      or_right false b e = e

  pub resolver_is_found : (bytes : List ℕ) → HasFileAt t root RESOLVER bytes → list_any is_resolver found ≡ true
  resolver_is_found bytes ((level, e, s, file), at) =
      let f : Found = record { path = RESOLVER; level = level; folder = e.folder } in
      let k = place_of found f (all_found RESOLVER level e s) in
      any_at found k.0 f k.1 (rw file refl)

-- ---- the files that were read

same_files : (a b : FolderFile) → a.path ≡ b.path → a.bytes ≡ b.bytes → a ≡ b
same_files a b p q =
    let first : a ≡ record { path = b.path; bytes = a.bytes } = ap (λ (x : List ℕ). record { path = x; bytes = a.bytes }) p in
    first ∙ ap (λ (x : List ℕ). record { path = b.path; bytes = x }) q

module _ (t : Tree) (root : List ℕ) (found : List Found) (w : IsWalk t root found (length found)) (few : length found ≤ 4097)
    (paths : List (List ℕ)) (files : FolderFiles) (read : AreRead (Some t) root paths files.classes) (few_paths : length paths ≤ MOST_FILES)
    (kept : (path : List ℕ) → Contains (class_paths found) path → Contains paths path)
    (to_read : AllByRecursion (IsToRead (Some t) root) paths)
    (has : list_any is_resolver found ≡ true → FileIs (Some t) (whole_path root RESOLVER) files.resolver)
    (none : list_any is_resolver found ≡ false → files.resolver ≡ []) (short : length files.resolver ≤ MAX_FILE) where
  same_bytes : (path a b : List ℕ) → t.file path ≡ Some a → t.file path ≡ Some b → a ≡ b
  same_bytes path a b ea eb = let e : Some a ≡ Some b = sym ea ∙ eb in cc

  read_at : (c : FolderFile) → Contains files.classes c → IsClassPath c.path → t.file (root /- c.path) ≡ Some c.bytes
  read_at c h class =
      ap t.file (sym (whole_below root c.path (class_path_some c.path class)))
      ∙ each_of (λ (f : FolderFile). FileIs (Some t) (whole_path root f.path) f.bytes) files.classes c read.bytes h

  file_read : (path bytes : List ℕ) → HasClassFileAt t root path bytes → (c : FolderFile) × Contains files.classes c × (c.path ≡ path) × (c.bytes ≡ bytes)
  file_read path bytes h =
      let here = kept path (class_is_found t root found w path bytes h) in
      let c = of_map (λ (f : FolderFile). f.path) files.classes path (subst (λ (ps : List (List ℕ)). Contains ps path) (sym read.paths) here) in (
        c.0,
        c.1,
        c.2,
        same_bytes (root /- path) c.0.bytes bytes
            (subst (λ (p : List ℕ). t.file (root /- p) ≡ Some c.0.bytes) c.2 (read_at c.0 c.1 (subst IsClassPath (sym c.2) h.0))) h.1.1,
      )

  that_is_read : (f : FolderFile) → IsThatFile t root f → Contains files.classes f
  that_is_read f h =
      let c = file_read f.path f.bytes h in
      subst (Contains files.classes) (same_files c.0 f c.2 c.3) c.1

  resolver_read : (bytes : List ℕ) → HasFileAt t root RESOLVER bytes → files.resolver ≡ bytes
  resolver_read bytes h = same_bytes (root /- RESOLVER) files.resolver bytes (has (resolver_is_found t root found w bytes h)) h.1

  not_large : IsTooLarge t root → ⊥
  not_large (deep_folder path level e s folder deep) = no_deep_folder t root found w path level e s folder deep
  not_large (many_entries ps d h many) = no_more_entries t root found w few ps d h many
  not_large (many_files fs d h many) =
      let are = all_weaker (IsThatFile t root) (Contains files.classes) fs that_is_read h in
      let less = length_within (λ (f : FolderFile). f.path) fs files.classes d are in
      let same = length-map files.classes (λ (f : FolderFile). f.path) in
      let lengths = ap length read.paths in
      omega (arith, less, same, lengths)
  not_large (long_file path bytes h long) =
      let c = file_read path bytes h in
      let small = each_of (λ (f : FolderFile). length f.bytes ≤ MAX_FILE) files.classes c.0 read.short c.1 in
      let lengths = ap length c.3 in
      omega (arith, small, lengths)
  not_large (long_resolver bytes h long) =
      let lengths = ap length (resolver_read bytes h) in
      omega (arith, lengths)
  not_large (long_together fs d h long) =
      let are = all_weaker (IsThatFile t root) (Contains files.classes) fs that_is_read h in
      let less = sum_within (λ (f : FolderFile). length f.bytes) (λ (f : FolderFile). f.path) fs files.classes d are in
      let small = read.together in
      omega (arith, less, small)

  each_stands : AllByRecursion (IsThatFile t root) files.classes
  each_stands = all_of (IsThatFile t root) files.classes (λ c h.
      let here = subst (λ (ps : List (List ℕ)). Contains ps c.path) read.paths (in_map (λ (f : FolderFile). f.path) files.classes c h) in
      let r = each_of (IsToRead (Some t) root) paths c.path to_read here in
      that_file t root c.path c.bytes r.class r.told (read_at c h r.class))

  pub are_files_of : AreFilesOf t root files
  are_files_of = record {
    folder = folder_is t root found w;
    not_large = not_large;
    each = each_stands;
    all = λ path bytes h. let c = file_read path bytes h in (c.0, c.1, c.2);
    resolver = resolver_read;
    no_resolver = λ lacks. none (not_found lacks (list_any is_resolver found) refl);
  }
    where
      not_found : ((bytes : List ℕ) → HasFileAt t root RESOLVER bytes → ⊥) → (b : Bool) → list_any is_resolver found ≡ b → b ≡ false
      not_found lacks true e = absurd (lacks files.resolver ((resolver_stands t root found (length found) w e).0, has e))
      not_found lacks false e = refl

pub folder_there : (tree : Option Tree) (root : List ℕ) (found : List Found) → IsToldWalk tree root found (length found) → HasFolder tree root
folder_there None root found w = tt
folder_there (Some t) root found w =
    let at = folder_is t root found w in
    let listed : t.folder root ≡ Some at.0 = at.1 in
    λ none. absurd cc

pub are_told_files : (tree : Option Tree) (root : List ℕ) (found : List Found) → IsToldWalk tree root found (length found) → length found ≤ 4097
    → (paths : List (List ℕ)) (files : FolderFiles) → AreRead tree root paths files.classes → length paths ≤ MOST_FILES
    → ((path : List ℕ) → Contains (class_paths found) path → Contains paths path) → AllByRecursion (IsToRead tree root) paths
    → (list_any is_resolver found ≡ true → FileIs tree (whole_path root RESOLVER) files.resolver)
    → (list_any is_resolver found ≡ false → files.resolver ≡ []) → length files.resolver ≤ MAX_FILE → AreToldFiles tree root files
are_told_files None root found w few paths files read many kept to_read has none short = tt
are_told_files (Some t) root found w few paths files read many kept to_read has none short =
    are_files_of t root found w few paths files read many kept to_read has none short

texts_of : (tree : Option Tree) (root : List ℕ) (fs : List FolderFile) → AllByRecursion (λ (f : FolderFile). IsToRead tree root f.path) fs
    → AllByRecursion (λ (f : FolderFile). IsClassPath f.path × IsUtf8 f.path) fs
texts_of tree root [] h = tt
texts_of tree root (f ∷ fs) h = ((h.0.class, h.0.utf8), texts_of tree root fs h.1)

-- told or not
pub are_files : (tree : Option Tree) (root : List ℕ) (paths : List (List ℕ)) (files : FolderFiles) → AreRead tree root paths files.classes
    → IsRising paths → AllByRecursion (IsToRead tree root) paths → length paths ≤ MOST_FILES → length files.resolver ≤ MAX_FILE → AreFiles files
are_files tree root paths files read rising to_read few short =
    let path = λ (f : FolderFile). f.path in
    record {
      paths = texts_of tree root files.classes
          (all_unmapped path (IsToRead tree root) files.classes (subst (AllByRecursion (IsToRead tree root)) (sym read.paths) to_read));
      rising = rising_at files.classes (subst IsRising (sym read.paths) rising);
      few = (let same = length-map files.classes path in let lengths = ap length read.paths in omega (arith, same, lengths));
      short = read.short;
      together = read.together;
      short_resolver = short;
    }
