-- The list of the items that pass a test.
use Rattle.std.proofs.Common.{◌≡◌, ◌≤◌, inl, inr, Bool, true, List, [], ◌∷◌, length, filter, Contains, arith}
use Rattle.std.proofs.lemmas.Bool.{cases_Bool}
use Rattle.list_lemmas.proofs.ItemsOfLists.{Contains-here, Contains-there, Contains-cases, Contains-none}

module _ {X : Type 0} where
  -- an item that passes is kept
  pub Contains-filter : (p : X → Bool) (xs : List X) (x : X) → Contains xs x → p x ≡ true → Contains (filter p xs) x
  Contains-filter p [] x h passes = absurd (Contains-none x h)
  Contains-filter p (y ∷ xs) x h passes = elim (Contains-cases x y xs h) [
    | inl same ↦ rw (same, passes) (Contains-here x (filter p xs))
    | inr later ↦
        let rest = Contains-filter p xs x later passes in
        elim (cases_Bool (p y)) [
          | inl kept ↦ rw kept (Contains-there x y (filter p xs) rest)
          | inr dropped ↦ rw dropped rest
        ]
  ]

  -- no more are kept than there are
  pub filter_short : (p : X → Bool) (xs : List X) → length (filter p xs) ≤ length xs
  filter_short p [] = omega arith
  filter_short p (x ∷ xs) = elim (cases_Bool (p x)) [
    | inl passes ↦ rw passes (omega (arith, filter_short p xs))
    | inr fails ↦ rw fails (omega (arith, filter_short p xs))
  ]
