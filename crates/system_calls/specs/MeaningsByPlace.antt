-- The meaning of a method among those of its class.
use Rattle.std.specs.Prelude.{ℕ, List, Option, option_map, slice_get}
use Rattle.jk_model_system_rows.specs.declared.meanings.SystemMeaning.{SystemMeaning}
use Rattle.jk_model_system_rows.specs.Meanings.{MethodMeaning}

abbrev pub meaning_in : List MethodMeaning → ℕ → Option SystemMeaning
meaning_in methods index = option_map (λ (e : MethodMeaning). e.meaning) (slice_get methods index)
