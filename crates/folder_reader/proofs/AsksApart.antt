-- Each folder and each file is asked for at most once: what was asked is some of the paths that were found, and these differ.
use Rattle.std.proofs.Common.{◌≡◌, ℕ, ◌+◌, ◌<◌, ◌≤◌, Bool, true, false, List, [], ◌∷◌, ◌++◌, length, take, drop, get_or, Option, Some, None, slice_get, refl, sym, ap, ◌∙◌, subst, append_assoc, append-nil, length-append, arith}
use Rattle.std.specs.Prelude.{map, IsSome, string_bytes, String}
use Rattle.std.specs.List.{AllByRecursion, IsDistinct}
use Rattle.std.specs.Str.{bytes_eq}
use Rattle.std.proofs.lemmas.List.{append_cancel_left, map-append, map_more, take-append-drop, take-append-le, take-map}
use Rattle.std.proofs.lemmas.Option.{get_or_from_slice_get, slice_get-get_or, slice_get_within}
use Rattle.std.proofs.lemmas.Slice.Eq.{bytes_eq-Decides}
use Rattle.list_lemmas.proofs.ItemsOfLists.{each-of as each_of, only_in}
use Rattle.jk_model.specs.Outside.{Ask, BytesOf, ListOf, Tree}
use Rattle.jk_model_folders.specs.FolderTrees.{IsClassPath, MOST_LEVELS, RESOLVER}
use Rattle.folder_reader.specs.declared.found.Found.{Found}
use Rattle.folder_reader.specs.AskedOnce.{AsksOnce, AsksSome, IsSublist, ends, leaves, takes, ListsOnce, files_asked, folders_asked, whole_paths}
use Rattle.folder_reader.specs.Listings.{IsToRead}
use Rattle.folder_reader.specs.Paths.{paths_of, top, whole_path}
use Rattle.folder_reader.specs.Walks.{IsToldWalk}
use Rattle.folder_reader.proofs.NoMoreThanFound.{bytes_differ}
use Rattle.folder_reader.proofs.WalkGoesOn.{distinct_append}
use Rattle.folder_reader.proofs.WholeWalk.{class_test}

-- ---- some items of a list

module _ {X : Type 0} where
  pub some_none : (ys : List X) → IsSublist [] ys
  some_none [] = ends
  some_none (y ∷ ys) = leaves y [] ys (some_none ys)

  pub some_all : (xs : List X) → IsSublist xs xs
  some_all [] = ends
  some_all (x ∷ xs) = takes x xs xs (some_all xs)

  pub some_both : (ms ns xs ys : List X) → IsSublist ms ns → IsSublist xs ys → IsSublist (ms ++ xs) (ns ++ ys)
  some_both ms ns xs ys ends h = h
  some_both ms ns xs ys (leaves n ms' ns' s) h = leaves n (ms ++ xs) (ns' ++ ys) (some_both ms ns' xs ys s h)
  some_both ms ns xs ys (takes n ms' ns' s) h = takes n (ms' ++ xs) (ns' ++ ys) (some_both ms' ns' xs ys s h)

  pub some_more : (xs front back : List X) → IsSublist xs front → IsSublist xs (front ++ back)
  some_more xs front back h = subst (λ (zs : List X). IsSublist zs (front ++ back)) (append-nil xs) (some_both xs front [] back h (some_none back))

  some_each : (P : X → Type 0) (xs ys : List X) → IsSublist xs ys → AllByRecursion P ys → AllByRecursion P xs
  some_each P xs ys ends h = tt
  some_each P xs ys (leaves y xs' ys' s) h = some_each P xs ys' s h.1
  some_each P xs ys (takes y xs' ys' s) h = (h.0, some_each P xs' ys' s h.1)

  pub some_apart : (eq : X → X → Bool) (xs ys : List X) → IsSublist xs ys → IsDistinct eq ys → IsDistinct eq xs
  unfolding IsDistinct
  some_apart eq xs ys ends d = tt
  some_apart eq xs ys (leaves y xs' ys' s) d = some_apart eq xs ys' s d.1
  some_apart eq xs ys (takes y xs' ys' s) d = (some_each (λ (z : X). eq y z ≡ false) xs' ys' s d.0, some_apart eq xs' ys' s d.1)

-- ---- what was asked in calls one after the other

folders_of_both : (a b : List Ask) → folders_asked (a ++ b) ≡ folders_asked a ++ folders_asked b
folders_of_both [] b = refl
folders_of_both (ListOf path limit ∷ a) b = ap (λ (x : List (List ℕ)). path ∷ x) (folders_of_both a b)
folders_of_both (BytesOf path limit ∷ a) b = folders_of_both a b

files_of_both : (a b : List Ask) → files_asked (a ++ b) ≡ files_asked a ++ files_asked b
files_of_both [] b = refl
files_of_both (ListOf path limit ∷ a) b = files_of_both a b
files_of_both (BytesOf path limit ∷ a) b = ap (λ (x : List (List ℕ)). path ∷ x) (files_of_both a b)

-- the same asks, and no more folders and files than these
pub asks_same : (a b : List Ask) (folders files : List (List ℕ)) → b ≡ a → AsksSome a b folders files
asks_same a b folders files is =
    record { more = []; is = is ∙ sym (append-nil a); of_folders = some_none folders; of_files = some_none files }

pub asks_folder : (a b : List Ask) (path path' : List ℕ) (limit : ℕ) → b ≡ a ++ ListOf path limit ∷ [] → path ≡ path' → AsksSome a b (path' ∷ []) []
asks_folder a b path path' limit is same = record {
  more = ListOf path limit ∷ [];
  is = is;
  of_folders = subst (λ (p : List ℕ). IsSublist (path ∷ []) (p ∷ [])) same (some_all (path ∷ []));
  of_files = ends;
}

pub asks_file : (a b : List Ask) (path path' : List ℕ) (limit : ℕ) → b ≡ a ++ BytesOf path limit ∷ [] → path ≡ path' → AsksSome a b [] (path' ∷ [])
asks_file a b path path' limit is same = record {
  more = BytesOf path limit ∷ [];
  is = is;
  of_folders = ends;
  of_files = subst (λ (p : List ℕ). IsSublist (path ∷ []) (p ∷ [])) same (some_all (path ∷ []));
}

pub asks_both : (a b c : List Ask) (fs fs' gs gs' : List (List ℕ)) → AsksSome a b fs gs → AsksSome b c fs' gs' → AsksSome a c (fs ++ fs') (gs ++ gs')
asks_both a b c fs fs' gs gs' first second = record {
  more = first.more ++ second.more;
  is = second.is ∙ ap (λ (x : List Ask). x ++ second.more) first.is ∙ append_assoc a first.more second.more;
  of_folders = subst (λ (xs : List (List ℕ)). IsSublist xs (fs ++ fs')) (sym (folders_of_both first.more second.more))
      (some_both (folders_asked first.more) fs (folders_asked second.more) fs' first.of_folders second.of_folders);
  of_files = subst (λ (xs : List (List ℕ)). IsSublist xs (gs ++ gs')) (sym (files_of_both first.more second.more))
      (some_both (files_asked first.more) gs (files_asked second.more) gs' first.of_files second.of_files);
}

pub asks_among : (a b : List Ask) (fs gs fs' gs' : List (List ℕ)) → fs ≡ fs' → gs ≡ gs' → AsksSome a b fs gs → AsksSome a b fs' gs'
asks_among a b fs gs fs' gs' same same' h =
    subst (λ (xs : List (List ℕ)). AsksSome a b xs gs') same (subst (AsksSome a b fs) same' h)

pub asks_fewer : (a b : List Ask) (fs gs back : List (List ℕ)) → AsksSome a b fs gs → AsksSome a b fs (gs ++ back)
asks_fewer a b fs gs back h =
    record { more = h.more; is = h.is; of_folders = h.of_folders; of_files = some_more (files_asked h.more) gs back h.of_files }

-- ---- whole paths that differ

whole_tells : (root p q : List ℕ) → whole_path root p ≡ whole_path root q → p ≡ q
whole_tells root [] [] e = refl
whole_tells root [] (d ∷ q) e = absurd (let long = length-append root (47 ∷ d ∷ q) in let same = ap length e in omega (arith, long, same))
whole_tells root (c ∷ p) [] e = absurd (let long = length-append root (47 ∷ c ∷ p) in let same = ap length e in omega (arith, long, same))
whole_tells root (c ∷ p) (d ∷ q) e = let slash : 47 ∷ c ∷ p ≡ 47 ∷ d ∷ q = append_cancel_left root (47 ∷ c ∷ p) (47 ∷ d ∷ q) e in cc

whole_differ : (root p : List ℕ) (qs : List (List ℕ)) → AllByRecursion (λ (q : List ℕ). bytes_eq p q ≡ false) qs
    → AllByRecursion (λ (q : List ℕ). bytes_eq (whole_path root p) q ≡ false) (whole_paths root qs)
whole_differ root p [] h = tt
whole_differ root p (q ∷ qs) h = (other (bytes_eq (whole_path root p) (whole_path root q)) refl, whole_differ root p qs h.1)
  where
    other : (b : Bool) → bytes_eq (whole_path root p) (whole_path root q) ≡ b → b ≡ false
    other true is = absurd (bytes_differ p q h.0 (whole_tells root p q ((bytes_eq-Decides _ _).0 is)))
    other false is = refl

pub whole_apart : (root : List ℕ) (ps : List (List ℕ)) → IsDistinct bytes_eq ps → IsDistinct bytes_eq (whole_paths root ps)
unfolding IsDistinct
whole_apart root [] d = tt
whole_apart root (p ∷ ps) d = (whole_differ root p ps d.0, whole_apart root ps d.1)

one_apart : (p : List ℕ) → IsDistinct bytes_eq (p ∷ [])
unfolding IsDistinct
one_apart p = (tt, tt)

-- `resolver.txt` is no class file
no_class : IsClassPath RESOLVER → ⊥
no_class class = absurd (let is = class_test (record { path = RESOLVER; level = 0; folder = false }) refl class in cc)

-- ---- the folders of a walk

-- the folders that come before a place are asked for, and then the one that is there
pub looked_before : (root : List ℕ) (found : List Found) (n : ℕ) (f : Found) → slice_get found n ≡ Some f
    → whole_paths root (paths_of (take (n + 1) found)) ≡ whole_paths root (paths_of (take n found)) ++ whole_path root f.path ∷ []
looked_before root found n f at =
    let path = λ (g : Found). g.path in
    let more = map_more path found n f (slice_get_within found n f at) in
    let here = get_or_from_slice_get found n f f at in
    ap (whole_paths root) (more ∙ ap (λ (g : Found). map path (take n found) ++ g.path ∷ []) here)
    ∙ map-append (whole_path root) (map path (take n found)) (f.path ∷ [])

take_front : {X : Type 0} (xs ys : List X) (n : ℕ) → n ≤ length xs → take n (xs ++ ys) ≡ take n xs
take_front xs ys n few = rw take-append-le refl

walk_apart : (tree : Option Tree) (root : List ℕ) (found : List Found) (n k : ℕ) → IsToldWalk tree root found n → IsSome tree
    → IsDistinct bytes_eq (whole_paths root (paths_of (take k found)))
walk_apart None root found n k w told = absurd cc
walk_apart (Some t) root found n k w told =
    let path = λ (g : Found). g.path in
    let front = subst (λ (ps : List (List ℕ)). IsSublist (take k (paths_of found)) ps) (take-append-drop k (paths_of found))
    (some_more (take k (paths_of found)) (take k (paths_of found)) (drop k (paths_of found)) (some_all (take k (paths_of found)))) in
    whole_apart root (paths_of (take k found))
    (subst (IsDistinct bytes_eq) (take-map path k found) (some_apart bytes_eq (take k (paths_of found)) (paths_of found) front w.apart))

-- the first folders of a walk are asked for
pub lists_once : (tree : Option Tree) (root : List ℕ) (a b : List Ask) (found : List Found) (n k : ℕ) → IsToldWalk tree root found n
    → AsksSome a b (whole_paths root (paths_of (take k found))) [] → ListsOnce tree a b
lists_once tree root a b found n k w h =
    record { folders = whole_paths root (paths_of (take k found)); asks = h; apart = walk_apart tree root found n k w }

pub lists_none : (tree : Option Tree) (a b : List Ask) → b ≡ a → ListsOnce tree a b
unfolding IsDistinct
lists_none tree a b same = record { folders = []; asks = asks_same a b [] [] same; apart = λ told. tt }

-- the first folders before a place, and then the one that is there
lists_to : (root : List ℕ) (a b c : List Ask) (found : List Found) (n : ℕ) (f : Found) → slice_get found n ≡ Some f
    → AsksSome a b (whole_paths root (paths_of (take n found))) [] → AsksSome b c (whole_path root f.path ∷ []) []
    → AsksSome a c (whole_paths root (paths_of (take (n + 1) found))) []
lists_to root a b c found n f at before here =
    asks_among a c _ [] _ [] (sym (looked_before root found n f at)) refl
    (asks_both a b c (whole_paths root (paths_of (take n found))) (whole_path root f.path ∷ []) [] [] before here)

same_found : (found : List Found) (n : ℕ) (e f : Found) → slice_get found n ≡ Some e → slice_get found n ≡ Some f → e ≡ f
same_found found n e f ee ef = cc

pub asks_there : (root : List ℕ) (a b : List Ask) (found : List Found) (n : ℕ) (e f : Found) → slice_get found n ≡ Some e → slice_get found n ≡ Some f
    → AsksSome a b (whole_path root e.path ∷ []) [] → AsksSome a b (whole_path root f.path ∷ []) []
asks_there root a b found n e f ee ef h =
    subst (λ (g : Found). AsksSome a b (whole_path root g.path ∷ []) []) (same_found found n e f ee ef) h

pub not_deep : (found : List Found) (n : ℕ) (e f : Found) → slice_get found n ≡ Some e → slice_get found n ≡ Some f → e.level ≤ MOST_LEVELS
    → MOST_LEVELS < f.level → ⊥
not_deep found n e f ee ef low deep = let level = ap (λ (g : Found). g.level) (same_found found n e f ee ef) in omega (arith, level, low, deep)

-- whatever stands at a place before the end
pub lists_at : (root : List ℕ) (a b c : List Ask) (found : List Found) (n : ℕ) → n < length found
    → AsksSome a b (whole_paths root (paths_of (take n found))) []
    → ((f : Found) → slice_get found n ≡ Some f → AsksSome b c (whole_path root f.path ∷ []) [])
    → AsksSome a c (whole_paths root (paths_of (take (n + 1) found))) []
lists_at root a b c found n within before here =
    let at = slice_get-get_or found n top within in
    lists_to root a b c found n (get_or found n top) at before (here (get_or found n top) at)

-- those that are found later stand behind
pub lists_on : (root : List ℕ) (a b : List Ask) (found more all : List Found) (n : ℕ) → all ≡ found ++ more → n ≤ length found
    → AsksSome a b (whole_paths root (paths_of (take n found))) [] → AsksSome a b (whole_paths root (paths_of (take n all))) []
lists_on root a b found more all n is few h =
    let same : take n found ≡ take n all = sym (ap (take n) is ∙ take_front found more n few) in
    subst (λ (xs : List Found). AsksSome a b (whole_paths root (paths_of xs)) []) same h

-- ---- the files that are read

-- one more
pub reads_to : (root : List ℕ) (a b c : List Ask) (paths : List (List ℕ)) (i : ℕ) (path : List ℕ) → slice_get paths i ≡ Some path
    → AsksSome a b [] (whole_paths root (take i paths)) → AsksSome b c [] (whole_path root path ∷ [])
    → AsksSome a c [] (whole_paths root (take (i + 1) paths))
reads_to root a b c paths i path at before here =
    let more = map_more (whole_path root) paths i path (slice_get_within paths i path at) in
    let same = get_or_from_slice_get paths i path path at in
    asks_among a c [] _ [] _ refl (sym (more ∙ ap (λ (p : List ℕ). whole_paths root (take i paths) ++ whole_path root p ∷ []) same))
    (asks_both a b c [] [] (whole_paths root (take i paths)) (whole_path root path ∷ []) before here)

-- the first of these are some of them
pub reads_some : (root : List ℕ) (a b : List Ask) (paths : List (List ℕ)) (i : ℕ) → AsksSome a b [] (whole_paths root (take i paths))
    → AsksSome a b [] (whole_paths root paths)
reads_some root a b paths i h =
    asks_among a b [] _ [] _ refl (sym (map-append (whole_path root) (take i paths) (drop i paths)) ∙ ap (whole_paths root) (take-append-drop i paths))
    (asks_fewer a b [] (whole_paths root (take i paths)) (whole_paths root (drop i paths)) h)

-- texts that are the same have the same paths
pub reads_same : {Z : Type 0} (root : List ℕ) (a b : List Ask) (xs ys : List (String Z)) → xs ≡ ys
    → AsksSome a b [] (whole_paths root (map string_bytes xs)) → AsksSome a b [] (whole_paths root (map string_bytes ys))
reads_same root a b xs ys same h = asks_among a b [] _ [] _ refl (ap (λ zs. whole_paths root (map string_bytes zs)) same) h

-- ---- all together

resolver_apart : (tree : Option Tree) (root : List ℕ) (paths : List (List ℕ)) → AllByRecursion (IsToRead tree root) paths
    → IsDistinct bytes_eq paths → IsDistinct bytes_eq (paths ++ RESOLVER ∷ [])
resolver_apart tree root paths to_read apart =
    distinct_append paths (RESOLVER ∷ []) apart (one_apart RESOLVER) (λ x y hx hy same.
    no_class (subst IsClassPath (same ∙ sym (only_in y RESOLVER (RESOLVER ∷ []) refl hy)) (each_of (IsToRead tree root) paths x to_read hx).class))

files_once : (tree tree' : Option Tree) (root : List ℕ) (a b c : List Ask) (paths : List (List ℕ)) → AllByRecursion (IsToRead tree' root) paths
    → IsDistinct bytes_eq paths → ListsOnce tree a b → AsksSome b c [] (whole_paths root (paths ++ RESOLVER ∷ [])) → AsksOnce tree a c
files_once tree tree' root a b c paths to_read apart lists h =
    let files = whole_paths root (paths ++ RESOLVER ∷ []) in
    let all = asks_among a c _ _ _ _ (append-nil lists.folders) refl (asks_both a b c lists.folders [] [] files lists.asks h) in
    let differ = whole_apart root (paths ++ RESOLVER ∷ []) (resolver_apart tree' root paths to_read apart) in
    record {
      more = all.more;
      is = all.is;
      files = some_apart bytes_eq (files_asked all.more) files all.of_files differ;
      folders = λ told. some_apart bytes_eq (folders_asked all.more) lists.folders all.of_folders (lists.apart told);
    }

-- after the folders some of the class files
pub classes_once : (tree tree' : Option Tree) (root : List ℕ) (a b c : List Ask) (paths : List (List ℕ)) → AllByRecursion (IsToRead tree' root) paths
    → IsDistinct bytes_eq paths → ListsOnce tree a b → AsksSome b c [] (whole_paths root paths) → AsksOnce tree a c
classes_once tree tree' root a b c paths to_read apart lists h =
    files_once tree tree' root a b c paths to_read apart lists
    (asks_among b c [] _ [] _ refl (sym (map-append (whole_path root) paths (RESOLVER ∷ [])))
    (asks_fewer b c [] (whole_paths root paths) (whole_paths root (RESOLVER ∷ [])) h))

-- and then `resolver.txt`
pub all_once : (tree tree' : Option Tree) (root : List ℕ) (a b c d : List Ask) (paths : List (List ℕ)) → AllByRecursion (IsToRead tree' root) paths
    → IsDistinct bytes_eq paths → ListsOnce tree a b → AsksSome b c [] (whole_paths root paths) → AsksSome c d [] (whole_path root RESOLVER ∷ [])
    → AsksOnce tree a d
all_once tree tree' root a b c d paths to_read apart lists classes resolver =
    files_once tree tree' root a b d paths to_read apart lists
    (asks_among b d [] _ [] _ refl (sym (map-append (whole_path root) paths (RESOLVER ∷ [])))
    (asks_both b c d [] [] (whole_paths root paths) (whole_paths root (RESOLVER ∷ [])) classes resolver))

-- before a file was read
pub asks_folders : (tree : Option Tree) (a b : List Ask) → ListsOnce tree a b → AsksOnce tree a b
unfolding IsDistinct
asks_folders tree a b lists = record {
  more = lists.asks.more;
  is = lists.asks.is;
  files = some_apart bytes_eq (files_asked lists.asks.more) [] lists.asks.of_files tt;
  folders = λ told. some_apart bytes_eq (folders_asked lists.asks.more) lists.folders lists.asks.of_folders (lists.apart told);
}

pub asks_nothing : (tree : Option Tree) (a b : List Ask) → b ≡ a → AsksOnce tree a b
asks_nothing tree a b same = asks_folders tree a b (lists_none tree a b same)
