-- What calls took of files that tell no tree, one after the other; and what was asked of a folder that is missed.
use Rattle.std.proofs.Common.{◌≡◌, ℕ, zero, suc, ◌+◌, ◌<◌, ◌≤◌, inl, inr, List, [], ◌∷◌, ◌++◌, length, Option, Some, None, slice_get, refl, sym, ap, ◌∙◌, subst, append_assoc, arith}
use Rattle.std.specs.Prelude.{map, string_bytes, Contains, String}
use Rattle.std.specs.List.{IsDistinct, filter}
use Rattle.std.specs.Str.{bytes_eq}
use Rattle.std.proofs.lemmas.List.{length-map}
use Rattle.std.proofs.lemmas.List.Elements.{Contains-append_right}
use Rattle.list_lemmas.proofs.ItemsOfLists.{Contains-at as item_at, each-from as all_of}
use Rattle.list_lemmas.proofs.ItemsThatPass.{filter_short as fewer_pass}
use Rattle.jk_model.specs.declared.entries.Entry.{Entry}
use Rattle.jk_model.specs.Outside.{Ask, FileIsLong, FolderIsAbsent, FolderIsLong, NeverFalls, Tree}
use Rattle.jk_outside.specs.Counts.{HasTaken}
use Rattle.folder_reader.specs.declared.found.Found.{Found}
use Rattle.folder_reader.specs.Calls.{Moves}
use Rattle.folder_reader.specs.FolderAnswers.{AskedFor}
use Rattle.folder_reader.specs.Paths.{children, child_of, class_paths, has_name, is_class}
use Rattle.folder_reader.specs.Walks.{AreLevelled}
use Rattle.folder_reader.proofs.NoMoreThanFound.{length_within}
use Rattle.folder_reader.proofs.WalkGoesOn.{from_children}

pub took_nothing : (tree : Option Tree) (k : ℕ) → HasTaken tree 0 k k
took_nothing None k = inl (omega arith)
took_nothing (Some t) k = tt

pub took_fewer : (tree : Option Tree) (a b k k' : ℕ) → b ≤ a → HasTaken tree a k k' → HasTaken tree b k k'
took_fewer None a b k k' less (inl h) = inl (omega (arith, less, h))
took_fewer None a b k k' less (inr h) = inr h
took_fewer (Some t) a b k k' less h = tt

-- in two calls, of which the second has the same tree
pub took_both : (tree tree' : Option Tree) (a b c k k' k'' : ℕ) → tree' ≡ tree → c ≤ a + b → NeverFalls k' k'' → HasTaken tree a k k'
    → HasTaken tree' b k' k'' → HasTaken tree c k k''
took_both None None a b c k k' k'' same less later (inl x) (inl y) = inl (omega (arith, less, x, y))
took_both None None a b c k k' k'' same less later (inr x) (inl y) = let high = later.later in let fits = later.fits in inr (omega (arith, x, high, fits))
took_both None None a b c k k' k'' same less later x (inr y) = inr y
took_both None (Some t) a b c k k' k'' same less later x y = absurd cc
took_both (Some t) tree' a b c k k' k'' same less later x y = tt

-- in the second alone
pub took_later : (tree tree' : Option Tree) (a k k' k'' : ℕ) → tree' ≡ tree → NeverFalls k k' → HasTaken tree' a k' k'' → HasTaken tree a k k''
took_later None None a k k' k'' same first (inl x) = let high = first.later in inl (omega (arith, high, x))
took_later None None a k k' k'' same first (inr x) = inr x
took_later None (Some t) a k k' k'' same first x = absurd cc
took_later (Some t) tree' a k k' k'' same first x = tt

-- a file or a folder that is longer than a limit
pub took_file : (tree : Option Tree) (path : List ℕ) (n a k k' : ℕ) → a ≤ n + 1 → FileIsLong tree path n k k' → HasTaken tree a k k'
took_file None path n a k k' less (inl h) = inl (omega (arith, less, h))
took_file None path n a k k' less (inr h) = inr h
took_file (Some t) path n a k k' less h = tt

pub took_folder : (tree : Option Tree) (path : List ℕ) (n a k k' : ℕ) → a ≤ n + 1 → FolderIsLong tree path n k k' → HasTaken tree a k k'
took_folder None path n a k k' less (inl h) = inl (omega (arith, less, h))
took_folder None path n a k k' less (inr h) = inr h
took_folder (Some t) path n a k k' less h = tt

-- ---- no more is found than was taken

pub few_children : (f : Found) (entries : List Entry) → length (children f entries) ≤ length entries
few_children f entries = let as_many = length-map (filter has_name entries) (child_of f) in let few = fewer_pass has_name entries in omega (arith, as_many, few)

few_class_paths : (found : List Found) → length (class_paths found) ≤ length found
few_class_paths found =
    let as_many = length-map (filter is_class found) (λ (f : Found). f.path) in let few = fewer_pass is_class found in omega (arith, as_many, few)

same_items : {X : Type 0} (xs : List X) → map (λ (x : X). x) xs ≡ xs
same_items [] = refl
same_items (x ∷ xs) = ap (λ ys. x ∷ ys) (same_items xs)

pub few_paths : {Z : Type 0} (paths : List (String Z)) (found : List Found) → IsDistinct bytes_eq (map string_bytes paths)
    → ((path : List ℕ) → Contains (map string_bytes paths) path → Contains (class_paths found) path) → length paths ≤ length found
few_paths paths found apart only =
    let texts = map string_bytes paths in
    let few = length_within (λ (p : List ℕ). p) texts (class_paths found) (subst (IsDistinct bytes_eq) (sym (same_items texts)) apart)
    (all_of (Contains (class_paths found)) texts only) in
    omega (arith, few, few_class_paths found, length-map paths string_bytes)

-- ---- levels

at_either : {X : Type 0} (P : ℕ → X → Type 0) (xs ys : List X) → ((k : ℕ) (x : X) → slice_get xs k ≡ Some x → P k x)
    → ((k n : ℕ) (x : X) → slice_get ys k ≡ Some x → n ≡ length xs + k → P n x) → (k : ℕ) (x : X) → slice_get (xs ++ ys) k ≡ Some x → P k x
at_either P [] ys first second k x at = second k k x at (omega arith)
at_either P (y ∷ xs) ys first second zero x at = first zero x at
at_either P (y ∷ xs) ys first second (suc k) x at =
    at_either (λ (n : ℕ). P (suc n)) xs ys (λ n z e. first (suc n) z e) (λ n m z e is. second n (suc m) z e (omega (arith, is))) k x at

pub one_level : (found : List Found) (f : Found) → found ≡ f ∷ [] → f.level ≡ 0 → AreLevelled found
one_level found f is none = subst AreLevelled (sym is) only
  where
    only : AreLevelled (f ∷ [])
    only zero g at = let same : f ≡ g = cc in let level = ap (λ (x : Found). x.level) same in omega (arith, level, none)
    only (suc k) g at = absurd cc

-- what stands in a folder is one level below it, and found after it
pub more_levels : (found below : List Found) (n : ℕ) (f : Found) (entries : List Entry) → AreLevelled found → slice_get found n ≡ Some f → n < length found
    → below ≡ children f entries → AreLevelled (found ++ below)
more_levels found below n f entries levels at there is =
    at_either (λ (k : ℕ) (g : Found). g.level ≤ k) found below levels (λ k m g e behind.
    let from = from_children f entries g (subst (λ (xs : List Found). Contains xs g) is (item_at below k g e)) in
    let level = ap (λ (x : Found). x.level) from.3 in
    let above = levels n f at in
    omega (arith, level, above, there, behind))

-- ---- a folder that is missed

pub asked_later : (root : List ℕ) (t t' : Option Tree) (n n' k k' : ℕ) (a a' a'' : List Ask) (ask : Ask) → Moves root t t' n n' k k' a a'
    → AskedFor a' a'' ask → AskedFor a a'' ask
asked_later root t t' n n' k k' a a' a'' ask first h = (
  first.asks.0 ++ h.0,
  h.1 ∙ ap (λ (x : List Ask). x ++ h.0) first.asks.1 ∙ append_assoc a first.asks.0 h.0,
  Contains-append_right first.asks.0 h.0 ask h.2,
)

pub absent_later : (tree tree' : Option Tree) (root : List ℕ) (n n' n'' : ℕ) → tree' ≡ tree → NeverFalls n n' → FolderIsAbsent tree' root n' n''
    → FolderIsAbsent tree root n n''
absent_later None None root n n' n'' same first (inl x) = let high = first.later in inl (omega (arith, high, x))
absent_later None None root n n' n'' same first (inr x) = inr x
absent_later None (Some t) root n n' n'' same first x = absurd cc
absent_later (Some t) None root n n' n'' same first x = absurd cc
absent_later (Some t) (Some u) root n n' n'' same first x = let one : u ≡ t = cc in subst (λ (v : Tree). v.folder root ≡ None) one x
