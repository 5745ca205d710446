-- The path of a name in a folder tells both, and leads on from the folder that is read.
use Rattle.std.proofs.Common.{◌≡◌, ◌≢◌, ℕ, ◌==◌, ◌||◌, inl, inr, Bool, true, false, not, List, [], ◌∷◌, ◌++◌, length, refl, sym, ap, ◌∙◌, subst, append_assoc, length-append, eq-eqb, arith}
use Rattle.std.specs.Prelude.{IsUtf8, ◌&&◌, bytes_eq, codes}
use Rattle.std.specs.List.{list_any}
use Rattle.std.proofs.lemmas.Bool.{and_parts, false≢true}
use Rattle.std.proofs.lemmas.Bool.Decides.{Decides-eqb}
use Rattle.std.proofs.lemmas.Slice.Eq.{bytes_eq-Decides}
use Rattle.std.proofs.lemmas.Str.{IsUtf8-append, IsUtf8-from_ascii}
use Rattle.jk_model.specs.declared.entries.Entry.{Entry}
use Rattle.jk_model.specs.Outside.{◌/-◌}
use Rattle.jk_model.proofs.EachItem.{all_push}
use Rattle.jk_model_folders.specs.FolderTrees.{RESOLVER}
use Rattle.model_lemmas.proofs.LastSlash.{slash_inside, last_names, HasNoSlash}
use Rattle.jk_outside.specs.EntryNames.{IsPlainName}
use Rattle.folder_reader.specs.FolderAnswers.{Counts, IsNameBelow, IsWithin, path_over}
use Rattle.folder_reader.specs.Paths.{child, has_name, is_dots, whole_path}

-- ---- two paths that are the same

pub child_tells : (p q m n : List ℕ) → IsNameBelow m → IsNameBelow n → child p m ≡ child q n → (p ≡ q) × (m ≡ n)
child_tells [] [] m n hm hn e = (refl, e)
child_tells [] (d ∷ q) m n hm hn e = absurd (slash_inside (d ∷ q) n (subst HasNoSlash e hm.0.1))
child_tells (c ∷ p) [] m n hm hn e = absurd (slash_inside (c ∷ p) m (subst HasNoSlash (sym e) hn.0.1))
child_tells (c ∷ p) (d ∷ q) m n hm hn e = last_names (c ∷ p) (d ∷ q) m n hm.0.1 hn.0.1 e

pub child_not_empty : (p n : List ℕ) → IsNameBelow n → child p n ≢ []
child_not_empty [] n h e = h.0.0 e
child_not_empty (c ∷ p) n h e = absurd cc

-- ---- whole paths

pub whole_child : (root p n : List ℕ) → IsNameBelow n → whole_path root (child p n) ≡ whole_path root p /- n
whole_child root [] [] h = absurd (h.0.0 refl)
whole_child root [] (c ∷ n) h = refl
whole_child root (c ∷ p) n h = sym (append_assoc root (47 ∷ c ∷ p) (47 ∷ n))

pub whole_below : (root p : List ℕ) → p ≢ [] → whole_path root p ≡ root /- p
whole_below root [] h = absurd (h refl)
whole_below root (c ∷ p) h = refl

path_on : (root : List ℕ) (names : List (List ℕ)) (n : List ℕ) → path_over root (names ++ n ∷ []) ≡ path_over root names /- n
path_on root [] n = refl
path_on root (m ∷ names) n = path_on (root /- m) names n

pub within_child : (root p n : List ℕ) → IsNameBelow n → IsWithin root (whole_path root p) → IsWithin root (whole_path root (child p n))
within_child root p n h w = (
  w.0 ++ n ∷ [],
  all_push IsNameBelow w.0 n w.1 h,
  whole_child root p n h ∙ ap (λ (x : List ℕ). x /- n) w.2 ∙ sym (path_on root w.0 n),
)

pub within_self : (root : List ℕ) → IsWithin root root
within_self root = ([], tt, refl)

slash_text : IsUtf8 (47 ∷ [])
slash_text = IsUtf8-from_ascii (47 ∷ []) (search (arith))

pub utf8_child : (p n : List ℕ) → IsUtf8 p → IsUtf8 n → IsUtf8 (child p n)
utf8_child [] n hp hn = hn
utf8_child (c ∷ p) n hp hn = IsUtf8-append (c ∷ p) (47 ∷ n) hp (IsUtf8-append (47 ∷ []) n slash_text hn)

-- ---- the test of names

neither : (a b : Bool) → not (a || b) ≡ true → (a ≡ false) × (not b ≡ true)
neither true b e = absurd cc
neither false b e = (refl, e)

both_not : (a b : Bool) → (a ≡ true → ⊥) → not b ≡ true → not (a || b) ≡ true
both_not true b h e = absurd (h refl)
both_not false b h e = e

not_so : (a : Bool) → (a ≡ true → ⊥) → not a ≡ true
not_so true h = absurd (h refl)
not_so false h = refl

so_not : (a : Bool) → not a ≡ true → a ≡ true → ⊥
so_not true e h = absurd cc
so_not false e h = absurd cc

no_slash : (name : List ℕ) → not (list_any (λ c. c == 47) name) ≡ true → HasNoSlash name
no_slash [] e = tt
no_slash (c ∷ name) e =
    let parts = neither (c == 47) (list_any (λ c. c == 47) name) e in
    (λ is. false≢true (sym parts.0 ∙ eq-eqb c 47 is), no_slash name parts.1)

slash_free : (name : List ℕ) → HasNoSlash name → not (list_any (λ c. c == 47) name) ≡ true
slash_free [] h = refl
slash_free (c ∷ name) h =
    both_not (c == 47) (list_any (λ c. c == 47) name) (λ is. h.0 ((Decides-eqb c 47).0 is)) (slash_free name h.1)

empty_by_length : (name : List ℕ) → length name ≡ 0 → name ≡ []
empty_by_length [] e = refl
empty_by_length (c ∷ name) e = absurd (omega arith)

both : (a b : Bool) → a ≡ true → b ≡ true → (a && b) ≡ true
both true b h e = e
both false b h e = absurd cc

-- neither of two short names
no_dots : (name : List ℕ) → not (is_dots name) ≡ true → IsPlainName name
no_dots name e =
    let parts = neither (bytes_eq name (46 ∷ [])) (bytes_eq name (46 ∷ 46 ∷ [])) e in (
      λ is. false≢true (sym parts.0 ∙ (bytes_eq-Decides name (46 ∷ [])).1 is),
      λ is. so_not (bytes_eq name (46 ∷ 46 ∷ [])) parts.1 ((bytes_eq-Decides name (46 ∷ 46 ∷ [])).1 is),
    )

dots_free : (name : List ℕ) → IsPlainName name → not (is_dots name) ≡ true
dots_free name h =
    both_not (bytes_eq name (46 ∷ [])) (bytes_eq name (46 ∷ 46 ∷ [])) (λ is. h.0 ((bytes_eq-Decides name (46 ∷ [])).0 is))
    (not_so (bytes_eq name (46 ∷ 46 ∷ [])) (λ is. h.1 ((bytes_eq-Decides name (46 ∷ 46 ∷ [])).0 is)))

pub named_by_test : (e : Entry) → has_name e ≡ true → IsNameBelow e.name
named_by_test e h =
    let all = and_parts (not (length e.name == 0) && not (list_any (λ c. c == 47) e.name)) (not (is_dots e.name)) h in
    let parts = and_parts (not (length e.name == 0)) (not (list_any (λ c. c == 47) e.name)) all.0 in (
      (λ empty. so_not (length e.name == 0) parts.0 (eq-eqb (length e.name) 0 (ap length empty)), no_slash e.name parts.1),
      no_dots e.name all.1,
    )

pub test_of_named : (e : Entry) → IsNameBelow e.name → has_name e ≡ true
test_of_named e h =
    both (not (length e.name == 0) && not (list_any (λ c. c == 47) e.name)) (not (is_dots e.name))
    (both (not (length e.name == 0)) (not (list_any (λ c. c == 47) e.name))
    (not_so (length e.name == 0) (λ is. h.0.0 (empty_by_length e.name ((Decides-eqb (length e.name) 0).0 is))))
    (slash_free e.name h.0.1))
    (dots_free e.name h.1)

pub resolver_within : (root : List ℕ) → IsWithin root (whole_path root RESOLVER)
resolver_within root = (RESOLVER ∷ [], (named_by_test (record { name = RESOLVER; folder = false }) refl, tt), refl)

-- a file that counts is asked for at its path below the folder
pub asked_below : (root path : List ℕ) → Counts path → (below : List ℕ) × (whole_path root path ≡ root /- below) × Counts below
asked_below root path counts = (path, whole_below root path (not_empty path counts), counts)
  where
    not_empty : (p : List ℕ) → Counts p → p ≢ []
    not_empty p (inl (stem, is)) empty =
        let long = length-append stem (codes ".class") in
        let none : length (stem ++ codes ".class") ≡ 0 = ap length (sym is ∙ empty) in
        absurd (omega (arith, long, none))
    not_empty p (inr is) empty = absurd cc
