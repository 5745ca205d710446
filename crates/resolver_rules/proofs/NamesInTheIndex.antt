-- Which names an index has after a name is put into it, and after all class files were taken in.
use Rattle.std.proofs.Common.{◌≡◌, ℕ, ◌+◌, ◌<◌, ◌≤◌, ◌⊎◌, ◌↔◌, inl, inr, Bool, true, false, ◌||◌, List, [], ◌∷◌, ◌++◌, length, map, refl, sym, ◌∙◌, ap, arith, Some, Ordering, slice_get, codes, subst}
use Rattle.std.specs.Prelude.{IsTrue}
use Rattle.std.specs.List.{list_any}
use Rattle.std.specs.Option.{option_map}
use Rattle.std.specs.Ordering.{nat_cmp, is_eq}
use Rattle.std.specs.declared.cmp.Ordering.TheVariants.{Less, Equal, Greater}
use Rattle.std.specs.BTreeSet.{insert_key}
use Rattle.std.specs.Cmp.Lexicographic.{slice_cmp}
use Rattle.std.proofs.lemmas.Bool.{or_cases, or_left, or_right, cases_lt}
use Rattle.std.proofs.lemmas.List.{append_cancel_right}
use Rattle.std.proofs.lemmas.Map.Lookups.{exact_bytes}
use Rattle.std.proofs.lemmas.Map.Text.{is_eq-slice_cmp}
use Rattle.std.proofs.lemmas.Option.{slice_get_within, slice_get-map, same_Some}
use Rattle.std.proofs.lemmas.Slice.Eq.{bytes_eq-Decides}
use Rattle.list_lemmas.proofs.TestsAndOrders.{mapped_option}
use Rattle.jk_model.specs.Text.{utf16_of}
use Rattle.jk_model_folders.specs.declared.files.FolderFile.{FolderFile}
use Rattle.jk_model_classes.specs.Items.{HasItemBefore}
use Rattle.jk_model_classes.specs.ResolverRules.{HasFileOf}

module _ {K : Type 0} (items : K → List ℕ) where
  -- whether a key is this name
  abbrev at : List ℕ → K → Bool
  at name k = is_eq (slice_cmp nat_cmp name (items k))

  abbrev by_items : K → K → Ordering
  by_items a b = slice_cmp nat_cmp (items a) (items b)

  or_again : (b c : Bool) → (b || c) ≡ (b || (b || c))
  or_again true c = refl
  or_again false c = refl

  or_swap : (a b c : Bool) → (a || (b || c)) ≡ (b || (a || c))
  or_swap true true c = refl
  or_swap true false c = refl
  or_swap false true c = refl
  or_swap false false c = refl

  put_in : (ks : List K) (k : K) (name : List ℕ) → list_any (at name) (insert_key by_items ks k) ≡ (at name k || list_any (at name) ks)
  put_in [] k name = refl
  put_in (x ∷ ks) k name = by_order (by_items k x) refl (put_in ks k name)
    where
      by_order : (r : Ordering) → by_items k x ≡ r → list_any (at name) (insert_key by_items ks k) ≡ (at name k || list_any (at name) ks)
          → list_any (at name) (insert_key by_items (x ∷ ks) k) ≡ (at name k || list_any (at name) (x ∷ ks))
      by_order Less o later = rw o refl
      by_order Equal o later =
          let same : items k ≡ items x = exact_bytes (items k) (items x) o in
          let test : at name k ≡ at name x = ap (λ xs. is_eq (slice_cmp nat_cmp name xs)) same in
          rw (o, test) (or_again (at name x) (list_any (at name) ks))
      by_order Greater o later = rw (o, later) (or_swap (at name x) (at name k) (list_any (at name) ks))

  -- a name is there where it was there, or is the one that was put in
  pub has_after : (old new : List K) (k : K) → new ≡ insert_key by_items old k → (name : List ℕ)
      → IsTrue (list_any (at name) new) ↔ (IsTrue (list_any (at name) old) ⊎ (name ≡ items k))
  has_after old new k e name =
      let test = put_in old k name in
      let decides = bytes_eq-Decides name (items k) in
      rw e (rw test (
        λ h. elim (or_cases (at name k) (list_any (at name) old) h) [
          | inl here ↦ inr (decides.0 (sym (is_eq-slice_cmp name (items k)) ∙ here))
          | inr there ↦ inl there
        ],
        λ h. elim h [
          | inl there ↦ or_right (at name k) (list_any (at name) old) there
          | inr here ↦ or_left (at name k) (list_any (at name) old) (is_eq-slice_cmp name (items k) ∙ decides.1 here)
        ],
      ))

-- ---- The name of a path.

-- the name that stands before an ending is the one that gives the whole with it
pub by_stem : (P : Type 0) (B : Type 0) (units stem name ending : List ℕ) → units ≡ stem ++ ending → (B ↔ (P ⊎ (name ≡ stem)))
    → B ↔ (P ⊎ (units ≡ name ++ ending))
by_stem P B units stem name ending e h = (
  λ b. elim (h.0 b) [
    | inl p ↦ inl p
    | inr same ↦ inr (e ∙ ap (λ (n : List ℕ). n ++ ending) (sym same))
  ],
  λ s. elim s [
    | inl p ↦ h.1 (inl p)
    | inr whole ↦ h.1 (inr (append_cancel_right name stem ending (sym whole ∙ e)))
  ],
)

-- units that don't end so are no name's
pub no_stem : (P : Type 0) (units ending : List ℕ) (name : List ℕ) → ((n : List ℕ) → units ≡ n ++ ending → ⊥) → P ↔ (P ⊎ (units ≡ name ++ ending))
no_stem P units ending name none = (
  λ p. inl p,
  λ s. elim s [
    | inl p ↦ p
    | inr whole ↦ absurd (none name whole)
  ],
)

-- ---- The class files in turn.

abbrev pub IsNamed : List ℕ → FolderFile → Type 0
IsNamed name f = utf16_of f.path ≡ name ++ codes ".class"

-- the index has the names of the files before a place
abbrev pub HasNamesBefore : (List ℕ → Bool) → List FolderFile → ℕ → Type 0
HasNamesBefore has files n = (name : List ℕ) → IsTrue (has name) ↔ HasItemBefore n (IsNamed name) files

pub names_begin : (has : List ℕ → Bool) (files : List FolderFile) → ((name : List ℕ) → has name ≡ false) → HasNamesBefore has files 0
names_begin has files none name = (
  λ h. let n = none name in absurd cc,
  λ h. absurd (omega (arith, h.2)),
)

pub names_further : (old new : List ℕ → Bool) (files : List FolderFile) (n : ℕ) (file : FolderFile) → slice_get files n ≡ Some file
    → HasNamesBefore old files n → ((name : List ℕ) → IsTrue (new name) ↔ (IsTrue (old name) ⊎ IsNamed name file))
    → HasNamesBefore new files (n + 1)
names_further old new files n file at h k name = (
  λ b. elim ((k name).0 b) [
    | inl before ↦ (let i = (h name).0 before in (i.0, i.1, omega (arith, i.2), i.3, i.4))
    | inr here ↦ (n, file, omega arith, at, here)
  ],
  λ i. by_order i (cases_lt i.0 n),
)
  where
    by_order : (i : HasItemBefore (n + 1) (IsNamed name) files) → (i.0 < n) ⊎ (n ≤ i.0) → IsTrue (new name)
    by_order i (inl low) = (k name).1 (inl ((h name).1 (i.0, i.1, low, i.3, i.4)))
    by_order i (inr high) =
        let here : i.0 ≡ n = omega (arith, i.2, high) in
        let same : i.1 ≡ file = same_Some i.1 file (sym i.3 ∙ ap (slice_get files) here ∙ at) in
        (k name).1 (inr (subst (IsNamed name) same i.4))

pub names_end : (has : List ℕ → Bool) (files : List FolderFile) (n : ℕ) → length files ≤ n → HasNamesBefore has files n → (name : List ℕ)
    → IsTrue (has name) ↔ HasFileOf (map (λ (f : FolderFile). f.path) files) name
names_end has files n end h name = (
  λ b. (
      let i = (h name).0 b in
      (i.0, i.1.path, slice_get-map (λ (f : FolderFile). f.path) files i.0 ∙ ap (option_map (λ (f : FolderFile). f.path)) i.3, i.4)),
  λ i. (
      let from = mapped_option (λ (f : FolderFile). f.path) (slice_get files i.0) i.1 (sym (slice_get-map (λ (f : FolderFile). f.path) files i.0) ∙ i.2) in
      let is : utf16_of from.0.path ≡ name ++ codes ".class" = rw from.2 i.3 in
      (h name).1 (i.0, from.0, omega (arith, slice_get_within files i.0 from.0 from.1, end), from.1, is)),
)
