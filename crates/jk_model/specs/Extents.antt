-- Pages, of 64 words each, that are handed out in runs. A page is free where no run that is out holds it.
use Rattle.std.specs.Prelude.{ℕ, ◌+◌, ◌<◌, ◌≤◌, ◌⊎◌, List, AllPairs}
use Rattle.std.specs.List.{AllByRecursion}
use Rattle.jk_model.specs.declared.extents.Extent.{Extent}

abbrev pub HasPage : Extent → ℕ → Type 0
HasPage e p = (e.first ≤ p) × (p < e.first + e.pages)

abbrev pub IsFreePage : List Extent → ℕ → Type 0
IsFreePage out p = AllByRecursion (λ e. HasPage e p → ⊥) out

-- two runs have no page in common
abbrev pub AreApart : Extent → Extent → Type 0
AreApart d e = (d.first + d.pages ≤ e.first) ⊎ (e.first + e.pages ≤ d.first)

-- a run of one page or more, below the end of the pool
abbrev pub LiesBelow : ℕ → Extent → Type 0
LiesBelow limit e = (0 < e.pages) × (e.first + e.pages ≤ limit)

-- these runs may be out at one time, in a pool of so many pages
abbrev pub AreOut : ℕ → List Extent → Type 0
AreOut limit out = AllByRecursion (LiesBelow limit) out × AllPairs AreApart out

-- ---- First fit: a new run begins at the least place from which enough pages are free.

abbrev pub FitsAt : ℕ → List Extent → ℕ → ℕ → Type 0
FitsAt limit out pages first =
    (first + pages ≤ limit) × ((p : ℕ) → first ≤ p → p < first + pages → IsFreePage out p)

abbrev pub IsFirstFit : ℕ → List Extent → ℕ → ℕ → Type 0
IsFirstFit limit out pages first =
    FitsAt limit out pages first × ((lower : ℕ) → lower < first → FitsAt limit out pages lower → ⊥)

abbrev pub HasNoFit : ℕ → List Extent → ℕ → Type 0
HasNoFit limit out pages = (first : ℕ) → FitsAt limit out pages first → ⊥
