-- The stubs of the domains that tests open.
use Rattle.std.specs.Prelude.{ℕ, List, [], ◌∷◌}
use Rattle.jk_model_classes.specs.declared.sharing.Stub.{Stub}

-- a stub without interfaces
abbrev pub bare_stub : ℕ → Stub
bare_stub class = record { class = record { 0 = class }; interfaces = [] }

abbrev pub known_stubs : List Stub
known_stubs = bare_stub 50 ∷ bare_stub 60 ∷ []
