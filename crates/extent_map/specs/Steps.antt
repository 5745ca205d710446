-- What each step of a change does to the vector of runs.
use Rattle.std.specs.Prelude.{◌≡◌, ℕ, ◌+◌, ◌-◌, ◌<◌, ◌⊎◌, List, length, slice_set}
use Rattle.std.specs.List.{HoldsAt, insert, remove}
use Rattle.jk_model.specs.declared.extents.Extent.{Extent}

-- this run stands at the place
abbrev pub IsAt : List Extent → ℕ → Extent → Type 0
IsAt runs at run = (at < length runs) × HoldsAt (λ r. r ≡ run) runs at

-- so many pages at the front of a run, or the whole run, are taken from the runs
abbrev pub IsCut : List Extent → ℕ → ℕ → ℕ → List Extent → Type 0
IsCut runs at pages first new =
    (run : Extent) × IsAt runs at run × (first ≡ run.first)
    × (((run.pages ≡ pages) × (new ≡ remove runs at))
    ⊎ ((pages < run.pages) × (new ≡ slice_set runs at (record { first = run.first + pages; pages = run.pages - pages }))))

-- the run at the place, if there is one, does not end where the extent begins
abbrev pub HasGapBelow : List Extent → ℕ → Extent → Type 0
HasGapBelow runs at e = at < length runs → HoldsAt (λ run. run.first + run.pages ≡ e.first → ⊥) runs at

-- the extent is joined with the run that ends where it begins, or with none
abbrev pub IsJoined : List Extent → ℕ → Extent → List Extent → Extent → Type 0
IsJoined runs at e new joined =
    (HasGapBelow runs at e × (new ≡ runs) × (joined ≡ e))
    ⊎ ((low : Extent) × IsAt runs at low × (low.first + low.pages ≡ e.first) × (new ≡ remove runs at)
    × (joined ≡ record { first = low.first; pages = low.pages + e.pages }))

-- the run in front of the place, if there is one, does not begin where the extent ends
abbrev pub HasGapAbove : List Extent → ℕ → Extent → Type 0
HasGapAbove runs at e = 0 < at → HoldsAt (λ run. e.first + e.pages ≡ run.first → ⊥) runs (at - 1)

-- the extent is put at the place, or joined with the run in front of it
abbrev pub IsPut : List Extent → ℕ → Extent → List Extent → Type 0
IsPut runs at e new =
    (HasGapAbove runs at e × (new ≡ insert runs at e))
    ⊎ ((high : Extent) × (0 < at) × IsAt runs (at - 1) high × (e.first + e.pages ≡ high.first)
    × (new ≡ slice_set runs (at - 1) (record { first = e.first; pages = e.pages + high.pages })))
