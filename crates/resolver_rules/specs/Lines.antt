-- The lines of a `resolver.txt` in turn: a line by itself, and those that were passed.
use Rattle.std.specs.Prelude.{◌≡◌, ℕ, ◌+◌, ◌<◌, List, [], ◌∷◌, ◌++◌, length, Option, Some, None, slice_get}
use Rattle.jk_model.specs.Script.{script_lines}
use Rattle.jk_model_classes.specs.Resolver.{line_reading, lines_say, resolver_of}
use Rattle.jk_model_classes.specs.ResolverRules.{BreaksL6, IsBadReading}

-- the bytes are one line, so that as a text they say what the line says
abbrev pub IsOneLine : List ℕ → Type 0
IsOneLine line = resolver_of line ≡ lines_say 1 (line ∷ [])

-- The lines before the one with this number keep L6, and these bytes follow them.
pub record ArePassed (paths : List (List ℕ)) (bytes rest : List ℕ) (number : ℕ) : Type 0 where
  pub front : List (List ℕ)
  pub lines : script_lines bytes ≡ front ++ script_lines rest
  pub count : number ≡ length front + 1
  pub good : (i : ℕ) (line : List ℕ) → slice_get front i ≡ Some line → IsBadReading paths (line_reading line) → ⊥

-- the least number that breaks L6, or none where no number does
abbrev pub IsLeastBadLine : List (List ℕ) → List ℕ → Option ℕ → Type 0
IsLeastBadLine paths bytes None = (n : ℕ) → BreaksL6 paths bytes n → ⊥
IsLeastBadLine paths bytes (Some n) = BreaksL6 paths bytes n × ((m : ℕ) → m < n → BreaksL6 paths bytes m → ⊥)
