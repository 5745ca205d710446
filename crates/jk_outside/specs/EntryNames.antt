-- Names that no entry has, since they lead to other places than one below the folder: `.`, the folder itself, and `..`, the one above.
use Rattle.std.specs.Prelude.{◌≢◌, ℕ, ⊤, List, [], ◌∷◌, Option, Some, None}
use Rattle.std.specs.List.{AllByRecursion}
use Rattle.jk_model.specs.declared.entries.Entry.{Entry}
use Rattle.jk_model.specs.Outside.{Tree}

abbrev pub IsPlainName : List ℕ → Type 0
IsPlainName name = (name ≢ 46 ∷ []) × (name ≢ 46 ∷ 46 ∷ [])

-- none of these entries of a told folder has such a name
abbrev pub ArePlain : Option Tree → List Entry → Type 0
ArePlain None entries = ⊤
ArePlain (Some tree) entries = AllByRecursion (λ e. IsPlainName e.name) entries
