-- A walk goes on: what stands in the next folder is found after what was found before.
use Rattle.std.proofs.Common.{◌≡◌, ◌≢◌, ℕ, zero, suc, ◌+◌, ◌<◌, ◌≤◌, inl, inr, Bool, true, false, List, [], ◌∷◌, ◌++◌, length, Option, Some, slice_get, refl, sym, ap, ◌∙◌, subst, arith}
use Rattle.std.specs.Prelude.{map, option_map, Contains, IsSome}
use Rattle.std.specs.List.{AllByRecursion, IsDistinct, filter}
use Rattle.std.specs.Str.{bytes_eq}
use Rattle.std.proofs.lemmas.Bool.{false≢true}
use Rattle.std.proofs.lemmas.List.{map-append}
use Rattle.std.proofs.lemmas.List.Elements.{Contains-append_left, Contains-append_right}
use Rattle.std.proofs.lemmas.Map.Keys.{apart_from_distinct}
use Rattle.std.proofs.lemmas.Option.{slice_get-map, slice_get_within, get_or_from_slice_get}
use Rattle.std.proofs.lemmas.Slice.Eq.{bytes_eq-Decides}
use Rattle.list_lemmas.proofs.ItemsOfLists.{Contains-at as item_at, place_of, each-of as each_of, each-from as all_of}
use Rattle.list_lemmas.proofs.ItemsThatPass.{Contains-filter as in_filter}
use Rattle.list_lemmas.proofs.TestsAndOrders.{less_or_same as next_or_before}
use Rattle.jk_model.specs.declared.entries.Entry.{Entry}
use Rattle.jk_model.specs.Outside.{IsEntryName, Tree, ◌/-◌}
use Rattle.jk_model.proofs.EachItem.{all_append, all_weaker}
use Rattle.jk_outside.specs.EntryNames.{IsPlainName}
use Rattle.jk_model_folders.specs.FolderTrees.{MOST_LEVELS, StandsBelow, directly, deeper}
use Rattle.folder_reader.specs.declared.found.Found.{Found}
use Rattle.folder_reader.specs.Calls.{IsListing}
use Rattle.folder_reader.specs.FolderAnswers.{IsNameBelow}
use Rattle.folder_reader.specs.Paths.{child, child_of, children, has_name, paths_of, top, whole_path}
use Rattle.folder_reader.specs.Walks.{HasParent, IsBelow, IsFound, IsLooked, IsPlace, IsWalk}
use Rattle.folder_reader.proofs.ItemsOfLists.{filter_all, in_map, of_filter, of_map}
use Rattle.folder_reader.proofs.NoMoreThanFound.{bytes_differ}
use Rattle.folder_reader.proofs.PathsTellNames.{child_not_empty, child_tells, named_by_test, test_of_named, utf8_child, whole_child, within_child}

-- the names that are listed of a told tree lead down
names_below : (t : Tree) (folder : List ℕ) (entries : List Entry) → IsListing (Some t) folder entries
    → AllByRecursion (λ (x : Entry). IsNameBelow x.name) entries
names_below t folder entries l =
    all_of (λ (x : Entry). IsNameBelow x.name) entries (λ e h.
    (each_of (λ (x : Entry). IsEntryName x.name) entries e l.named.0 h, each_of (λ (x : Entry). IsPlainName x.name) entries e l.plain h))

-- ---- what stands in a folder that stands below

deeper_child : (t : Tree) (root path : List ℕ) (level : ℕ) (above : Entry) (entries : List Entry) (e : Entry) → StandsBelow t root path level above
    → path ≢ [] → above.folder ≡ true → t.folder (whole_path root path) ≡ Some entries → Contains entries e
    → StandsBelow t root (child path e.name) (level + 1) e
deeper_child t root [] level above entries e s some folder listed h = absurd (some refl)
deeper_child t root (c ∷ path) level above entries e s some folder listed h =
    let same : suc level ≡ level + 1 = omega arith in
    subst (λ (n : ℕ). StandsBelow t root ((c ∷ path) /- e.name) n e) same (deeper (c ∷ path) level above entries e s folder listed h)

pub stands_in : (t : Tree) (root : List ℕ) (f : Found) (entries : List Entry) (e : Entry) → IsPlace (Some t) root f → f.folder ≡ true
    → t.folder (whole_path root f.path) ≡ Some entries → Contains entries e → StandsBelow t root (child f.path e.name) (f.level + 1) e
stands_in t root f entries e (inl is) folder listed h =
    subst (λ (g : Found). t.folder (whole_path root g.path) ≡ Some entries → StandsBelow t root (child g.path e.name) (g.level + 1) e) (sym is)
    (λ l. directly entries e l h) listed
stands_in t root f entries e (inr b) folder listed h =
    deeper_child t root f.path f.level b.entry entries e b.stands b.named (b.sort ∙ folder) listed h

is_below : (t : Tree) (root : List ℕ) (f : Found) (entries : List Entry) (e : Entry) → IsPlace (Some t) root f → f.folder ≡ true
    → IsListing (Some t) (whole_path root f.path) entries → Contains entries e → IsBelow t root (child_of f e)
is_below t root f entries e place folder l h =
    let name = each_of (λ (x : Entry). IsNameBelow x.name) entries e (names_below t _ entries l) h in
    let whole : whole_path root (child f.path e.name) ≡ whole_path root f.path /- e.name = whole_child root f.path e.name name in
    record {
      entry = e;
      stands = stands_in t root f entries e place folder l.found h;
      sort = refl;
      named = child_not_empty f.path e.name name;
      file = λ is. subst (λ (p : List ℕ). IsSome (t.file p)) (sym whole)
          (each_of (λ (x : Entry). x.folder ≡ false → IsSome (t.file (whole_path root f.path /- x.name))) entries e l.there h is);
      listed = λ is. subst (λ (p : List ℕ). IsSome (t.folder p)) (sym whole)
          (each_of (λ (x : Entry). x.folder ≡ true → IsSome (t.folder (whole_path root f.path /- x.name))) entries e l.folders h is);
    }

-- ---- the entries that are found

pub from_children : (f : Found) (entries : List Entry) (c : Found) → Contains (children f entries) c
    → (e : Entry) × Contains entries e × IsNameBelow e.name × (child_of f e ≡ c)
from_children f entries c h =
    let m = of_map (child_of f) (filter has_name entries) c h in
    let k = of_filter has_name entries m.0 m.1 in
    (m.0, k.0, named_by_test m.0 k.1, m.2)

to_children : (f : Found) (entries : List Entry) (e : Entry) → IsNameBelow e.name → Contains entries e → Contains (children f entries) (child_of f e)
to_children f entries e name h = in_map (child_of f) (filter has_name entries) e (in_filter has_name entries e h (test_of_named e name))

pub children_are_found : (root : List ℕ) (f : Found) (tree : Option Tree) (folder : List ℕ) (entries : List Entry) → IsFound root f
    → IsListing tree folder entries → AllByRecursion (IsFound root) (children f entries)
children_are_found root f tree folder entries is l =
    all_of (IsFound root) (children f entries) (λ c h.
    let from = from_children f entries c h in
    let e = from.0 in
    subst (IsFound root) from.3 (record {
      utf8 = utf8_child f.path e.name is.utf8 (each_of _ entries e l.utf8 from.1);
      within = within_child root f.path e.name from.2 is.within;
      top = λ none. absurd (omega (arith, none));
    }))

-- ---- paths that differ

pub distinct_append : (xs ys : List (List ℕ)) → IsDistinct bytes_eq xs → IsDistinct bytes_eq ys
    → ((x y : List ℕ) → Contains xs x → Contains ys y → x ≡ y → ⊥) → IsDistinct bytes_eq (xs ++ ys)
unfolding IsDistinct
distinct_append [] ys dx dy apart = dy
distinct_append (x ∷ xs) ys dx dy apart = (
  all_append (λ (y : List ℕ). bytes_eq x y ≡ false) xs ys dx.0
      (all_of (λ (y : List ℕ). bytes_eq x y ≡ false) ys (λ y h. other x y (bytes_eq x y) refl (apart x y (item_at (x ∷ xs) 0 x refl) h))),
  distinct_append xs ys dx.1 dy (λ a b ha hb. apart a b (Contains-append_right (x ∷ []) xs a ha) hb),
)
  where
    other : (x y : List ℕ) (b : Bool) → bytes_eq x y ≡ b → (x ≡ y → ⊥) → b ≡ false
    other x y true e ne = absurd (ne ((bytes_eq-Decides x y).0 e))
    other x y false e ne = refl

cancel : (front a b : List ℕ) → front ++ a ≡ front ++ b → a ≡ b
cancel [] a b h = h
cancel (c ∷ front) a b h =
    let rest : front ++ a ≡ front ++ b = cc in
    cancel front a b rest

-- two names in one folder are told apart by their paths
same_name : (path a b : List ℕ) → child path a ≡ child path b → a ≡ b
same_name [] a b h = h
same_name (c ∷ path) a b h = let slash : 47 ∷ a ≡ 47 ∷ b = cancel (c ∷ path) (47 ∷ a) (47 ∷ b) h in cc

names_apart : (f : Found) (e : Entry) (entries : List Entry)
    → AllByRecursion (λ (n : List ℕ). bytes_eq e.name n ≡ false) (map (λ (x : Entry). x.name) entries)
    → AllByRecursion (λ (p : List ℕ). bytes_eq (child f.path e.name) p ≡ false) (paths_of (map (child_of f) entries))
names_apart f e [] d = tt
names_apart f e (x ∷ entries) d =
    (other (bytes_eq (child f.path e.name) (child f.path x.name)) refl, names_apart f e entries d.1)
  where
    other : (b : Bool) → bytes_eq (child f.path e.name) (child f.path x.name) ≡ b → b ≡ false
    other true is = absurd (bytes_differ e.name x.name d.0 (same_name f.path e.name x.name ((bytes_eq-Decides _ _).0 is)))
    other false is = refl

pub entries_apart : (f : Found) (entries : List Entry) → IsDistinct bytes_eq (map (λ (x : Entry). x.name) entries)
    → IsDistinct bytes_eq (paths_of (map (child_of f) entries))
unfolding IsDistinct
entries_apart f [] d = tt
entries_apart f (e ∷ entries) d = (names_apart f e entries d.0, entries_apart f entries d.1)

children_apart : (f : Found) (entries : List Entry) → AllByRecursion (λ (x : Entry). IsNameBelow x.name) entries
    → IsDistinct bytes_eq (map (λ (x : Entry). x.name) entries) → IsDistinct bytes_eq (paths_of (children f entries))
children_apart f entries names d =
    let all : filter has_name entries ≡ entries = filter_all has_name entries (all_weaker (λ (x : Entry). IsNameBelow x.name) _ entries test_of_named names) in
    subst (λ (es : List Entry). IsDistinct bytes_eq (paths_of (map (child_of f) es))) (sym all) (entries_apart f entries d)

same_place : (found : List Found) (i j : ℕ) (f g : Found) → IsDistinct bytes_eq (paths_of found) → slice_get found i ≡ Some f
    → slice_get found j ≡ Some g → f.path ≡ g.path → i < j → ⊥
same_place found i j f g d ef eg same lt =
    let path = λ (x : Found). x.path in
    let at_i : slice_get (paths_of found) i ≡ Some f.path = slice_get-map path found i ∙ ap (option_map path) ef in
    let at_j : slice_get (paths_of found) j ≡ Some g.path = slice_get-map path found j ∙ ap (option_map path) eg in
    let apart = apart_from_distinct bytes_eq (paths_of found) i j f.path d lt (slice_get_within (paths_of found) j g.path at_j) in
    bytes_differ _ _ apart
    (get_or_from_slice_get (paths_of found) i f.path f.path at_i ∙ same ∙ sym (get_or_from_slice_get (paths_of found) j g.path f.path at_j))

-- ---- one step

pub get_left : {X : Type 0} (xs ys : List X) (k : ℕ) → k < length xs → slice_get (xs ++ ys) k ≡ slice_get xs k
get_left [] ys k lt = absurd (omega arith)
get_left (x ∷ xs) ys zero lt = refl
get_left (x ∷ xs) ys (suc k) lt = get_left xs ys k (omega arith)

parent_stays : (found more : List Found) (n m : ℕ) (path : List ℕ) → n ≤ m → HasParent found n path → HasParent (found ++ more) m path
parent_stays found more n m path le p = record {
  at = p.at;
  above = p.above;
  name = p.name;
  before = (let b = p.before in omega arith);
  found_at = get_left found more p.at (slice_get_within found p.at p.above p.found_at) ∙ p.found_at;
  is_name = p.is_name;
  is = p.is;
}

looked_stays : (t : Tree) (root : List ℕ) (found more : List Found) (f : Found) → IsLooked t root found f → IsLooked t root (found ++ more) f
looked_stays t root found more f l = record {
  shallow = l.shallow;
  entries = l.entries;
  listed = l.listed;
  few = l.few;
  all = all_weaker _ _ l.entries (λ e h. Contains-append_left found more (child_of f e) h) l.all;
}

pub place_at : (t : Tree) (root : List ℕ) (found : List Found) (n k : ℕ) (f : Found) → IsWalk t root found n → slice_get found k ≡ Some f
    → IsPlace (Some t) root f
place_at t root found n k f w at = by k (subst (λ (xs : List Found). slice_get xs k ≡ Some f) w.shape at)
  where
    by : (k : ℕ) → slice_get (top ∷ w.below) k ≡ Some f → IsPlace (Some t) root f
    by zero e = inl (let same : top ≡ f = cc in sym same)
    by (suc k) e = inr (each_of (IsBelow t root) w.below f w.stand (item_at w.below k f e))

pub walk_begins : (t : Tree) (root : List ℕ) → IsWalk t root (top ∷ []) 0
unfolding IsDistinct
walk_begins t root =
    record { below = []; shape = refl; stand = tt; parents = tt; apart = (tt, tt); each = λ k f lt at folder. absurd (omega arith) }

-- a file has nothing in it
pub walk_past_file : (t : Tree) (root : List ℕ) (found : List Found) (n : ℕ) (f : Found) → IsWalk t root found n → slice_get found n ≡ Some f
    → f.folder ≡ false → IsWalk t root found (n + 1)
walk_past_file t root found n f w at file = record {
  below = w.below;
  shape = w.shape;
  stand = w.stand;
  parents = all_weaker _ _ w.below (λ g p. later g p) w.parents;
  apart = w.apart;
  each = λ k g lt here folder. elim (next_or_before k n lt) [
    | inl b ↦ w.each k g b here folder
    | inr same ↦ absurd (no_folder k g same here folder)
  ];
}
  where
    later : (g : Found) → HasParent found n g.path → HasParent found (n + 1) g.path
    later g p = record {
      at = p.at;
      above = p.above;
      name = p.name;
      before = (let b = p.before in omega arith);
      found_at = p.found_at;
      is_name = p.is_name;
      is = p.is;
    }

    no_folder : (k : ℕ) (g : Found) → k ≡ n → slice_get found k ≡ Some g → g.folder ≡ true → ⊥
    no_folder k g same here folder =
        let there : slice_get found n ≡ Some g = ap (slice_get found) (sym same) ∙ here in
        let one : f ≡ g = cc in
        false≢true (sym file ∙ ap (λ (x : Found). x.folder) one ∙ folder)

module _ (t : Tree) (root : List ℕ) (found : List Found) (n : ℕ) (f : Found) (w : IsWalk t root found n) (at : slice_get found n ≡ Some f)
    (folder : f.folder ≡ true) (entries : List Entry) (l : IsListing (Some t) (whole_path root f.path) entries) where
  stand_more : AllByRecursion (IsBelow t root) (children f entries)
  stand_more = all_of (IsBelow t root) (children f entries) (λ c h.
      let from = from_children f entries c h in
      subst (IsBelow t root) from.3 (is_below t root f entries from.0 (place_at t root found n n f w at) folder l from.1))

  parents_more : AllByRecursion (λ (g : Found). HasParent (found ++ children f entries) (n + 1) g.path) (children f entries)
  parents_more = all_of (λ (g : Found). HasParent (found ++ children f entries) (n + 1) g.path) (children f entries) (λ c h.
      let from = from_children f entries c h in
      record {
        at = n;
        above = f;
        name = from.0.name;
        before = omega arith;
        found_at = get_left found (children f entries) n (slice_get_within found n f at) ∙ at;
        is_name = from.2;
        is = ap (λ (g : Found). g.path) (sym from.3);
      })

  -- a path of before isn't that of an entry of this folder
  before_is_other : (g c : Found) → Contains found g → Contains (children f entries) c → g.path ≡ c.path → ⊥
  before_is_other g c hg hc same =
      let from = from_children f entries c hc in
      let name : IsNameBelow from.0.name = from.2 in
      let path : g.path ≡ child f.path from.0.name = same ∙ ap (λ (x : Found). x.path) (sym from.3) in
      let k = place_of (top ∷ w.below) g (subst (λ (xs : List Found). Contains xs g) w.shape hg) in
      by from.0.name name path k.0 k.1
    where
      by : (m : List ℕ) → IsNameBelow m → g.path ≡ child f.path m → (k : ℕ) → slice_get (top ∷ w.below) k ≡ Some g → ⊥
      by m name path zero e =
          let one : top ≡ g = cc in
          child_not_empty f.path m name (sym path ∙ ap (λ (x : Found). x.path) (sym one))
      by m name path (suc k) e =
          let p = each_of (λ (x : Found). HasParent found n x.path) w.below g w.parents (item_at w.below k g e) in
          let tells = child_tells p.above.path f.path p.name m p.is_name name (sym p.is ∙ path) in
          same_place found p.at n p.above f w.apart p.found_at at tells.0 p.before

  apart_more : IsDistinct bytes_eq (paths_of (found ++ children f entries))
  apart_more =
      let path = λ (x : Found). x.path in
      subst (IsDistinct bytes_eq) (sym (map-append path found (children f entries)))
      (distinct_append (paths_of found) (paths_of (children f entries)) w.apart (children_apart f entries (names_below t _ entries l) l.named.1)
      (λ x y hx hy same.
      let a = of_map path found x hx in
      let b = of_map path (children f entries) y hy in
      before_is_other a.0 b.0 a.1 b.1 (a.2 ∙ same ∙ sym b.2)))

  looked_here : f.level ≤ MOST_LEVELS → IsLooked t root (found ++ children f entries) f
  looked_here shallow = record {
    shallow = shallow;
    entries = entries;
    listed = l.found;
    few = l.few;
    all = all_of (λ (e : Entry). Contains (found ++ children f entries) (child_of f e)) entries (λ e h.
        Contains-append_right found (children f entries) (child_of f e)
        (to_children f entries e (each_of (λ (x : Entry). IsNameBelow x.name) entries e (names_below t _ entries l) h) h));
  }

  pub walk_past_folder : f.level ≤ MOST_LEVELS → IsWalk t root (found ++ children f entries) (n + 1)
  walk_past_folder shallow = record {
    below = w.below ++ children f entries;
    shape = ap (λ (xs : List Found). xs ++ children f entries) w.shape;
    stand = all_append (IsBelow t root) w.below (children f entries) w.stand stand_more;
    parents = all_append (λ (g : Found). HasParent (found ++ children f entries) (n + 1) g.path) w.below (children f entries)
        (all_weaker _ _ w.below (λ g p. parent_stays found (children f entries) n (n + 1) g.path (omega arith) p) w.parents) parents_more;
    apart = apart_more;
    each = λ k g lt here is. elim (next_or_before k n lt) [
      | inl b ↦ looked_stays t root found (children f entries) g (w.each k g b (before k g b here) is)
      | inr same ↦ now k g same here
    ];
  }
    where
      inside : n < length found
      inside = slice_get_within found n f at

      before : (k : ℕ) (g : Found) → k < n → slice_get (found ++ children f entries) k ≡ Some g → slice_get found k ≡ Some g
      before k g lt here = sym (get_left found (children f entries) k (let i = inside in omega arith)) ∙ here

      now : (k : ℕ) (g : Found) → k ≡ n → slice_get (found ++ children f entries) k ≡ Some g → IsLooked t root (found ++ children f entries) g
      now k g same here =
          let there : slice_get found n ≡ Some g = sym (get_left found (children f entries) n inside)
          ∙ ap (slice_get (found ++ children f entries)) (sym same) ∙ here in
          let one : f ≡ g = cc in
          subst (IsLooked t root (found ++ children f entries)) one (looked_here shallow)
