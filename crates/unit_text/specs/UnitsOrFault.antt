-- What is answered of bytes: the units of the text, or the place where they stop being one.
use Rattle.std.specs.Prelude.{ℕ, List, Result, Ok, Err}
use Rattle.jk_model.specs.Text.{Spells, IsBadEncoding}
use Rattle.unit_text.specs.declared.units.UnitsError.{UnitsError}
use Rattle.unit_text.specs.declared.units.UnitsError.TheVariants.{BadForm, OutOfMemory}

-- the bytes spell these units, or stop being a text at this place
abbrev pub IsAnswer : List ℕ → Result (List ℕ) UnitsError → Type 0
IsAnswer bytes (Ok units) = Spells bytes units
IsAnswer bytes (Err (BadForm place)) = IsBadEncoding bytes place
IsAnswer bytes (Err OutOfMemory) = Unit {0}
