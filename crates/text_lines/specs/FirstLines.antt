-- The first line of a text, and what follows it.
use Rattle.std.specs.Prelude.{◌≡◌, ℕ, ◌<◌, ◌≤◌, List, ◌∷◌, length, false, nat_eq}
use Rattle.std.specs.List.{All}
use Rattle.jk_model.specs.Script.{script_lines}

-- The text's lines are this one and those of the rest. The line has no line feed in it, and is no longer than the text; the rest
-- is shorter.
pub record IsFirstLine (text line rest : List ℕ) : Type 0 where
  pub lines : script_lines text ≡ line ∷ script_lines rest
  pub plain : All (λ (byte : ℕ). nat_eq byte 10 ≡ false) line
  pub within : length line ≤ length text
  pub shorter : length rest < length text
