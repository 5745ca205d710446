-- Which name a class under a path may have.
use Rattle.std.specs.Prelude.{◌≡◌, ℕ, ◌⊎◌, List, ◌++◌, codes}
use Rattle.jk_model.specs.Outside.{IsPrefix}

-- the path is the name with `.class`, and the name isn't kept for system classes. Both are units
abbrev pub MayStand : List ℕ → List ℕ → Type 0
MayStand path name = (path ≡ name ++ codes ".class") × (IsPrefix (codes "java/") name ⊎ IsPrefix (codes "jk/") name → ⊥)

-- the path is another, or the name is kept for system classes
abbrev pub MayNotStand : List ℕ → List ℕ → Type 0
MayNotStand path name = (path ≡ name ++ codes ".class" → ⊥) ⊎ (IsPrefix (codes "java/") name ⊎ IsPrefix (codes "jk/") name)
