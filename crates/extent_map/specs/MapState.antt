-- What contracts see of a map of extents.
use Rattle.std.specs.Prelude.{◌≡◌, ℕ, ◌+◌, ◌<◌, List, ◌∷◌, ◌++◌, length}
use Rattle.std.specs.List.{AllPairs, sum_by}
use Rattle.jk_model.specs.declared.extents.Extent.{Extent}
use Rattle.jk_model.specs.Extents.{AreOut}

-- How many pages there are, how many extents may be out at one time, the extents that are out in
-- ascending order, and how many more may be taken.
pub record MapState : Type 0 where
  pub pages : ℕ
  pub extents : ℕ
  pub out : List Extent
  pub spare : ℕ

-- each extent begins before those after it
abbrev pub IsAscending : List Extent → Type 0
IsAscending out = AllPairs (λ d e. d.first < e.first) out

-- What is so of each map: its extents lie apart within its pages, in ascending order, and with those that
-- may still be taken they are as many as may be out.
abbrev pub IsSound : MapState → Type 0
IsSound map = AreOut map.pages map.out × IsAscending map.out × (length map.out + map.spare ≡ map.extents)

-- the extents of the second list are those of the first, in that order, and this one among them
abbrev pub IsAmong : List Extent → Extent → List Extent → Type 0
IsAmong others e all =
    (front : List Extent) × (back : List Extent) × (others ≡ front ++ back) × (all ≡ front ++ e ∷ back)

-- The same extents, each as often, in whatever order: so they have the same sum, whatever each counts.
abbrev pub AreSame : List Extent → List Extent → Type 0
AreSame some others = (f : Extent → ℕ) → sum_by f some ≡ sum_by f others
