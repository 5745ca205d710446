-- The classes of a record's numbers stand in front of it.
use Rattle.std.proofs.Common.{◌≡◌, ℕ, ◌<◌, List, [], ◌∷◌, map, sym, ◌∙◌, subst, Option, Some, None, MatchOption}
use Rattle.std.specs.List.{AllByRecursion}
use Rattle.std.specs.Option.{option_map, option_and_then}
use Rattle.jk_model_classes.specs.Classes.{IsBelow, ParentIsBelow}
use Rattle.system_records.specs.Numbers.{numbered}

-- by any way to find numbers, a name is that of a number below this one
abbrev pub IsFoundBelow : (List ℕ → Option ℕ) → ℕ → List ℕ → Type 0
IsFoundBelow find n name = (k : ℕ) × (find name ≡ Some k) × (k < n)

below : (find : List ℕ → Option ℕ) (n : ℕ) (name : List ℕ) (k : ℕ) → Some k ≡ find name → IsFoundBelow find n name → k < n
below find n name k is (m, found, less) =
    let both : Some m ≡ Some k = sym found ∙ sym is in
    let same : m ≡ k = cc in
    subst (λ j. j < n) same less

pub parent_below : (find : List ℕ → Option ℕ) (n : ℕ) (parent : Option (List ℕ)) (number : Option ℕ) → number ≡ option_and_then find parent
    → MatchOption parent (n ≡ 0) (λ name. IsFoundBelow find n name) → ParentIsBelow n (option_map numbered number)
parent_below find n parent None is h = tt
parent_below find n None (Some k) is h = absurd cc
parent_below find n (Some name) (Some k) is h = below find n name k is h

pub interfaces_below : (find : List ℕ → Option ℕ) (n : ℕ) (names : List (List ℕ)) (numbers : List ℕ) → map (λ k. Some k) numbers ≡ map find names
    → AllByRecursion (λ name. IsFoundBelow find n name) names → AllByRecursion (IsBelow n) (map numbered numbers)
interfaces_below find n names [] is h = tt
interfaces_below find n [] (k ∷ numbers) is h = absurd cc
interfaces_below find n (name ∷ names) (k ∷ numbers) is h =
    let here : Some k ≡ find name = cc in
    let others : map (λ k. Some k) numbers ≡ map find names = cc in
    (below find n name k here h.0, interfaces_below find n names numbers others h.1)
