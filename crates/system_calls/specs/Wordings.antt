-- The units that a wording stands for.
use Rattle.std.specs.Prelude.{◌≡◌, ◌≢◌, ⊤, ℕ, List, [], Option, Some, None, drop}
use Rattle.jk_model_domains.specs.Objects.{NamedObject, Text, object_named}
use Rattle.system_calls.specs.declared.wordings.Wording.{Wording}
use Rattle.system_calls.specs.declared.wordings.Wording.TheVariants as Of

-- the wording reads so, where texts have names of this heap
abbrev pub IsWorded : List NamedObject → Wording → List ℕ → Type 0
IsWorded heap (Of.Short s) text = text ≡ drop s.from s.units
IsWorded heap (Of.Text a) text = object_named heap a ≡ Some (Text text)

-- the wording is no text of this name
abbrev pub IsBeside : Wording → ℕ → Type 0
IsBeside (Of.Short s) target = ⊤
IsBeside (Of.Text a) target = a ≢ target

-- the units with which a new text begins: those of a text, or none
abbrev pub IsFrontOf : List NamedObject → Option ℕ → List ℕ → Type 0
IsFrontOf heap (Some a) units = object_named heap a ≡ Some (Text units)
IsFrontOf heap None units = units ≡ []

-- they aren't those of the text of this name
abbrev pub IsNotFront : Option ℕ → ℕ → Type 0
IsNotFront (Some a) target = a ≢ target
IsNotFront None target = ⊤
