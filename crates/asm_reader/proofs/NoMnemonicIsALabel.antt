-- No name of an instruction ends with a `:`.
use Rattle.std.proofs.Common.{◌≡◌, ℕ, ◌==◌, Bool, true, false, cond, not, List, [], ◌∷◌, ◌++◌, refl, sym, ap, ◌∙◌, Option, Some, bytes_eq}
use Rattle.std.specs.List.{list_all, find}
use Rattle.std.proofs.lemmas.Bool.{and_parts, both_ways}
use Rattle.std.proofs.lemmas.List.Folds.{list_all-append}
use Rattle.std.proofs.lemmas.Slice.Eq.{bytes_eq-Decides}
use Rattle.asm_reader.specs.Mnemonics.{Mnemonic, mnemonics, mnemonic_named}

-- the first of these, where it passes, or else what is found after it
here_or_later : {X : Type 0} (test all : X → Bool) (y : X) (later : Option X) (x : X) (b : Bool) → test y ≡ b → all y ≡ true
    → cond b (Some y) later ≡ Some x → (later ≡ Some x → (test x ≡ true) × (all x ≡ true)) → (test x ≡ true) × (all x ≡ true)
here_or_later test all y later x true is passes e others =
    let same : y ≡ x = cc in
    (ap test (sym same) ∙ is, ap all (sym same) ∙ passes)
here_or_later test all y later x false is passes e others = others e

-- what is found passes the test, and what all items pass
found_passes : {X : Type 0} (test all : X → Bool) (xs : List X) (x : X) → find test xs ≡ Some x → list_all all xs ≡ true
    → (test x ≡ true) × (all x ≡ true)
found_passes test all [] x e h = absurd cc
found_passes test all (y ∷ ys) x e h =
    let (here, after) = and_parts (all y) (list_all all ys) h in
    here_or_later test all y (find test ys) x (test y) refl here e (λ later. found_passes test all ys x later after)

has_no_colon : Mnemonic → Bool
has_no_colon m = list_all (λ b. not (b == 58)) m.name

all_without : list_all has_no_colon mnemonics ≡ true
unfolding has_no_colon
all_without = refl

ends_with_colon : (label : List ℕ) → list_all (λ b. not (b == 58)) (label ++ 58 ∷ []) ≡ true → ⊥
ends_with_colon label h =
    let parts = and_parts (list_all (λ b. not (b == 58)) label) false (sym (list_all-append (λ b. not (b == 58)) label (58 ∷ [])) ∙ h) in
    both_ways false refl parts.1

pub label_is_no_mnemonic : (label : List ℕ) (m : Mnemonic) → mnemonic_named (label ++ 58 ∷ []) ≡ Some m → ⊥
unfolding has_no_colon
label_is_no_mnemonic label m e =
    let passes = found_passes (λ (n : Mnemonic). bytes_eq n.name (label ++ 58 ∷ [])) has_no_colon mnemonics m e all_without in
    let name : m.name ≡ label ++ 58 ∷ [] = (bytes_eq-Decides m.name (label ++ 58 ∷ [])).0 passes.0 in
    ends_with_colon label (ap (λ (bytes : List ℕ). list_all (λ b. not (b == 58)) bytes) (sym name) ∙ passes.1)
