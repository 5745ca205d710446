-- Where all items but the last pass a test, those that pass are the items without the last.
use Rattle.std.proofs.Common.{◌≡◌, ℕ, ◌+◌, inl, inr, Bool, false, List, [], ◌∷◌, ◌++◌, length, filter, Option, Some, None, refl, sym, ap, ◌∙◌, arith, slice_get}
use Rattle.std.specs.Prelude.{MatchOption, option_to_list}
use Rattle.std.proofs.lemmas.Bool.{cases_Bool}
use Rattle.std.proofs.lemmas.Option.{same_Some}
use Rattle.list_lemmas.proofs.ItemsByPlace.{slice_get-last}
use Rattle.list_lemmas.proofs.ItemsThatPass.{filter_short}

module _ {X : Type 0} (p : X → Bool) where
  all_pass : (xs : List X) → length (filter p xs) ≡ length xs → filter p xs ≡ xs
  all_pass [] h = refl
  all_pass (x ∷ xs) h = elim (cases_Bool (p x)) [
    | inl passes ↦
        let more : length (filter p (x ∷ xs)) ≡ length (filter p xs) + 1 = rw passes (omega arith) in
        rw passes (ap (λ (ys : List X). x ∷ ys) (all_pass xs (omega (arith, more, h))))
    | inr fails ↦
        let same : length (filter p (x ∷ xs)) ≡ length (filter p xs) = rw fails refl in
        absurd (omega (arith, same, h, filter_short p xs))
  ]

  last_fails : (xs : List X) (s : X) → p s ≡ false → filter p (xs ++ s ∷ []) ≡ filter p xs
  last_fails [] s fails = rw fails refl
  last_fails (x ∷ xs) s fails = elim (cases_Bool (p x)) [
    | inl passes ↦ rw passes (ap (λ (ys : List X). x ∷ ys) (last_fails xs s fails))
    | inr others ↦ rw others (last_fails xs s fails)
  ]

  -- as a vector says what was taken off its end, by how long it was and is
  pub all_but_last : (old new : List X) (last : Option X) (many few count : ℕ) (mark : X) → old ≡ new ++ option_to_list last
      → MatchOption last ((many ≡ 0) × (few ≡ 0)) (λ _. few + 1 ≡ many) → length new ≡ few → many ≡ count + 1 → slice_get old count ≡ Some mark
      → p mark ≡ false → count ≡ length (filter p old) → new ≡ filter p old
  all_but_last old new None many few count mark split none short long at fails pass = absurd (omega (arith, none.0, long))
  all_but_last old new (Some s) many few count mark split some short long at fails pass =
      let there : slice_get old count ≡ Some s =
      ap (λ (xs : List X). slice_get xs count) split ∙ ap (slice_get (new ++ s ∷ [])) (omega (arith, some, short, long)) ∙ slice_get-last new s in
      let dead : p s ≡ false = ap p (same_Some s mark (sym there ∙ at)) ∙ fails in
      let kept : filter p old ≡ filter p new = ap (filter p) split ∙ last_fails new s dead in
      sym (kept ∙ all_pass new (omega (arith, ap length kept, pass, some, short, long)))
