-- Texts: which value is one, what values read as, and parts of texts.
use Rattle.std.specs.Prelude.{◌≡◌, ℕ, ◌-◌, ◌&&◌, Bool, false, ℤ, pos, negsuc, List, [], ◌∷◌, length, take, drop, Option, Some, None, slice_get, bytes_eq, codes, nat_le, if◌then◌else◌}
use Rattle.std.specs.Option.{option_map_or}
use Rattle.jk_model.specs.declared.values.Value.{Value}
use Rattle.jk_model.specs.declared.values.Value.TheVariants as Held
use Rattle.jk_model_domains.specs.Objects.{NamedObject, Object, Text, object_named}
use Rattle.jk_model_heaps.specs.NumberTexts.{number_text, truth_text}
use Rattle.jk_model_heaps.specs.StoredValues.{as_char}
use Rattle.jk_model_system_rows.specs.declared.meanings.Shown.{Shown}
use Rattle.jk_model_system_rows.specs.declared.meanings.Shown.TheVariants as As

-- ---- Values.

-- the value is a text of these units
abbrev pub IsText : List NamedObject → Value → List ℕ → Type 0
IsText heap (Held.Obj a) units = object_named heap a ≡ Some (Text units)
IsText heap v units = ⊥

-- what a value reads as; of an int, a character is its 16 lowest bits, and a truth value its lowest
abbrev pub ReadsAs : List NamedObject → Shown → Value → List ℕ → Type 0
ReadsAs heap As.Text Held.Null text = text ≡ codes "null"
ReadsAs heap As.Text (Held.Obj a) text = IsText heap (Held.Obj a) text
ReadsAs heap As.Int (Held.Int n) text = text ≡ number_text n
ReadsAs heap As.Long (Held.Long n) text = text ≡ number_text n
ReadsAs heap As.Char (Held.Int n) text = text ≡ as_char n ∷ []
ReadsAs heap As.Truth (Held.Int n) text = text ≡ truth_text n
ReadsAs heap shown v text = ⊥

abbrev is_text_of : List ℕ → Object → Bool
is_text_of units (Text others) = bytes_eq units others
is_text_of units object = false

-- the value is a text of equal units; null isn't, and no other object and no capability
abbrev pub is_equal_text : List NamedObject → List ℕ → Value → Bool
is_equal_text heap units (Held.Obj a) = option_map_or (is_text_of units) (object_named heap a) false
is_equal_text heap units v = false

-- ---- Parts.

-- the unit at a place; none where that is below 0 or not below the length
abbrev pub unit_at : List ℕ → ℤ → Option ℕ
unit_at units (pos i) = slice_get units i
unit_at units (negsuc i) = None

-- the units from a place up to another, which are in order and not below 0 nor past the end; none where they aren't so
abbrev pub substring : List ℕ → ℤ → ℤ → Option (List ℕ)
substring units (pos b) (pos e) = if nat_le b e && nat_le e (length units) then Some (take (e - b) (drop b units)) else None
substring units b e = None
