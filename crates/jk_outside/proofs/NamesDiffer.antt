-- No two names in a folder's list are the same.
use Rattle.std.proofs.Common.{◌≡◌, ℕ, ◌||◌, Bool, true, false, List, [], ◌∷◌, ◌++◌, fold, refl, sym, ap, ◌∙◌, subst}
use Rattle.std.specs.Prelude.{map, if◌then◌else◌}
use Rattle.std.specs.Cmp.{IsEquivalence}
use Rattle.std.specs.List.{list_any, IsDistinct}
use Rattle.std.specs.Str.{bytes_eq}
use Rattle.std.proofs.lemmas.List.{map_push}
use Rattle.std.proofs.lemmas.Map.Keys.{IsDistinct-push}
use Rattle.std.proofs.lemmas.Slice.Eq.{bytes_eq-Decides}
use Rattle.jk_model.specs.declared.entries.Entry.{Entry}
use Rattle.jk_outside.specs.declared.memory_files.MemoryFile.{MemoryFile}
use Rattle.jk_outside.specs.MemoryTrees.{is_below, after_folder, entry_of, add_file, entries_of, has_name}

same_tests : (a b : Bool) → (a ≡ true → b ≡ true) → (b ≡ true → a ≡ true) → a ≡ b
same_tests true b there back = sym (there refl)
same_tests false true there back = back refl
same_tests false false there back = refl

pub bytes_eq_equiv : IsEquivalence bytes_eq
bytes_eq_equiv = record {
  refl = λ x. (bytes_eq-Decides x x).1 refl;
  symm = λ x y. same_tests (bytes_eq x y) (bytes_eq y x)
      (λ h. (bytes_eq-Decides y x).1 (sym ((bytes_eq-Decides x y).0 h)))
      (λ h. (bytes_eq-Decides x y).1 (sym ((bytes_eq-Decides y x).0 h)));
  congr = λ x y z h. ap (λ (w : List ℕ). bytes_eq w z) ((bytes_eq-Decides x y).0 h);
}

abbrev names : List Entry → List (List ℕ)
names entries = map (λ (e : Entry). e.name) entries

any_name : (name : List ℕ) (entries : List Entry) → list_any (bytes_eq name) (names entries) ≡ list_any (λ (e : Entry). bytes_eq name e.name) entries
any_name name [] = refl
any_name name (e ∷ es) = ap (λ (b : Bool). bytes_eq name e.name || b) (any_name name es)

differ_at : (seen : List Entry) (e : Entry) (below there : Bool) → list_any (λ (x : Entry). bytes_eq e.name x.name) seen ≡ there
    → IsDistinct bytes_eq (names seen) → IsDistinct bytes_eq (names (if below then (if there then seen else seen ++ e ∷ []) else seen))
differ_at seen e false there is d = d
differ_at seen e true true is d = d
differ_at seen e true false is d =
    subst (IsDistinct bytes_eq) (sym (map_push (λ (x : Entry). x.name) seen e))
    (IsDistinct-push bytes_eq_equiv (names seen) e.name d (any_name e.name seen ∙ is))

differ_add : (folder : List ℕ) (seen : List Entry) (f : MemoryFile) → IsDistinct bytes_eq (names seen) → IsDistinct bytes_eq (names (add_file folder seen f))
unfolding add_file has_name
differ_add folder seen f d =
    let e = entry_of (after_folder folder f.path) in
    differ_at seen e (is_below folder f.path) (has_name seen e.name) refl d

differ_fold : (folder : List ℕ) (files : List MemoryFile) (seen : List Entry) → IsDistinct bytes_eq (names seen)
    → IsDistinct bytes_eq (names (fold (add_file folder) seen files))
differ_fold folder [] seen d = d
differ_fold folder (f ∷ fs) seen d = differ_fold folder fs (add_file folder seen f) (differ_add folder seen f d)

pub names_differ : (folder : List ℕ) (files : List MemoryFile) → IsDistinct bytes_eq (map (λ (e : Entry). e.name) (entries_of folder files))
unfolding entries_of IsDistinct
names_differ folder files = differ_fold folder files [] tt
