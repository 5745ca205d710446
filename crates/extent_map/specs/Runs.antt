-- The free runs of a map, from the last to the first.
use Rattle.std.specs.Prelude.{ℕ, ◌+◌, ◌<◌, ◌⊎◌, List, [], ◌∷◌}
use Rattle.std.specs.List.{AllByRecursion}
use Rattle.jk_model.specs.declared.extents.Extent.{Extent}
use Rattle.jk_model.specs.Extents.{HasPage}

-- some run of these has the page
abbrev pub InRun : List Extent → ℕ → Type 0
InRun [] p = ⊥
InRun (r ∷ rs) p = HasPage r p ⊎ InRun rs p

-- Runs of a page or more, each below the one in front of it, the first of them below the bound, and a
-- page or more between each and what it is below.
abbrev pub AreRuns : ℕ → List Extent → Type 0
AreRuns bound [] = Unit {0}
AreRuns bound (r ∷ rs) = (0 < r.pages) × (r.first + r.pages < bound) × AreRuns r.first rs

-- each of these runs is too short for so many pages
abbrev pub AreShort : ℕ → List Extent → Type 0
AreShort pages runs = AllByRecursion (λ run. run.pages < pages) runs

-- each of these runs begins before the page
abbrev pub BeginBefore : ℕ → List Extent → Type 0
BeginBefore p runs = AllByRecursion (λ run. run.first < p) runs
