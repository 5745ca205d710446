-- What contracts see of the free runs, and which extents are out where the free runs are these.
use Rattle.std.specs.Prelude.{◌≡◌, ℕ, ◌+◌, ◌<◌, ◌≤◌, ◌↔◌, List, ◌∷◌, ◌++◌, length}
use Rattle.std.specs.List.{AllByRecursion}
use Rattle.jk_model.specs.declared.extents.Extent.{Extent}
use Rattle.jk_model.specs.Extents.{IsFreePage, AreOut}
use Rattle.extent_map.specs.Runs.{InRun}

-- How many pages there are, how many extents may be out at one time, the free runs from the last to the
-- first, and how many more extents may be taken.
pub record RunState : Type 0 where
  pub pages : ℕ
  pub extents : ℕ
  pub free : List Extent
  pub spare : ℕ

-- These extents are out: the pages that none of them holds are those of the free runs, and with those
-- that may still be taken they are as many as may be out.
pub record IsOut (map : RunState) (out : List Extent) : Type 0 where
  pub placed : AreOut map.pages out
  pub free : (p : ℕ) → p < map.pages → InRun map.free p ↔ IsFreePage out p
  pub below : AllByRecursion (λ run. run.first + run.pages ≤ map.pages) map.free
  pub count : length out + map.spare ≡ map.extents

-- this extent is one of those that are out
abbrev pub IsOneOut : RunState → Extent → Type 0
IsOneOut map e = (front : List Extent) × (back : List Extent) × IsOut map (front ++ e ∷ back)
