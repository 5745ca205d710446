-- When a path stands below a folder, and what it is then.
use Rattle.std.proofs.Common.{◌≡◌, ℕ, ◌+◌, Bool, true, false, eqb, List, [], ◌∷◌, ◌++◌, Option, Some, None, MatchOption, Bor, length, take, drop, refl, sym, ap, ◌∙◌, append_assoc}
use Rattle.std.specs.Prelude.{◌&&◌}
use Rattle.std.specs.Cmp.Lexicographic.{pointwise}
use Rattle.std.proofs.Math.Bool.{and_assoc}
use Rattle.std.proofs.Math.Seq.{take-append_seam}
use Rattle.std.proofs.lemmas.List.{drop-drop, length_push, take-append-drop}
use Rattle.std.proofs.lemmas.Slice.Eq.{bytes_eq-Decides}
use Rattle.jk_model.specs.Outside.{◌/-◌}
use Rattle.jk_outside.specs.MemoryTrees.{is_below, after_folder}

-- a folder in front, and a slash after it
pub is_below-split : (folder path : List ℕ)
    → is_below folder path ≡ (pointwise eqb (take (length folder) path) folder && pointwise eqb (take 1 (drop (length folder) path)) (47 ∷ []))
unfolding is_below
is_below-split [] [] = refl
is_below-split [] (c ∷ cs) = refl
is_below-split (x ∷ xs) [] = refl
is_below-split (x ∷ xs) (c ∷ cs) =
    ap (λ (b : Bool). eqb c x && b) (is_below-split xs cs)
    ∙ sym (and_assoc (eqb c x) (pointwise eqb (take (length xs) cs) xs) (pointwise eqb (take 1 (drop (length xs) cs)) (47 ∷ [])))

pub not_below : (folder path : List ℕ) → pointwise eqb (take (length folder) path) folder ≡ false → is_below folder path ≡ false
not_below folder path h = is_below-split folder path ∙ ap (λ (b : Bool). b && pointwise eqb (take 1 (drop (length folder) path)) (47 ∷ [])) h

-- what the second call says, where the first found the folder in front
pub below_cases : (folder path rest : List ℕ) (r : Option (Bor (List ℕ))) → pointwise eqb (take (length folder) path) folder ≡ true
    → rest ≡ drop (length folder) path
    → MatchOption r (pointwise eqb (take 1 rest) (47 ∷ []) ≡ false)
    (λ x. (pointwise eqb (take 1 rest) (47 ∷ []) ≡ true) × (x.now ≡ drop 1 rest) × (length x.now + 1 ≡ length rest))
    → MatchOption r (is_below folder path ≡ false) (λ x. (is_below folder path ≡ true) × (x.now ≡ after_folder folder path))
below_cases folder path rest None front is h =
    is_below-split folder path ∙ ap (λ (b : Bool). b && pointwise eqb (take 1 (drop (length folder) path)) (47 ∷ [])) front
    ∙ ap (λ (t : List ℕ). pointwise eqb (take 1 t) (47 ∷ [])) (sym is) ∙ h
below_cases folder path rest (Some x) front is h = (
  is_below-split folder path ∙ ap (λ (b : Bool). b && pointwise eqb (take 1 (drop (length folder) path)) (47 ∷ [])) front
      ∙ ap (λ (t : List ℕ). pointwise eqb (take 1 t) (47 ∷ [])) (sym is) ∙ h.0,
  h.1 ∙ ap (λ (t : List ℕ). drop 1 t) is ∙ drop-drop 1 (length folder) path,
)

pub below_splits : (folder path : List ℕ) → is_below folder path ≡ true → path ≡ folder /- after_folder folder path
unfolding is_below
below_splits folder path h =
    let n = length (folder ++ 47 ∷ []) in
    let front : take n path ≡ folder ++ 47 ∷ [] = (bytes_eq-Decides (take n path) (folder ++ 47 ∷ [])).0 h in
    sym (take-append-drop n path) ∙ ap (λ (t : List ℕ). t ++ drop n path) front ∙ append_assoc folder (47 ∷ []) (drop n path)
    ∙ ap (λ (k : ℕ). folder ++ 47 ∷ drop k path) (length_push folder 47)

-- a path that goes on after a folder and a slash is below it
pub below_from : (folder rest path : List ℕ) → path ≡ folder /- rest → is_below folder path ≡ true
unfolding is_below
below_from folder rest path is =
    let front = folder ++ 47 ∷ [] in
    (bytes_eq-Decides (take (length front) path) front).1
    (ap (λ (p : List ℕ). take (length front) p) (is ∙ sym (append_assoc folder (47 ∷ []) rest)) ∙ take-append_seam front rest)
