-- What is asked of the words of a start, and the line that tells what came of it.
use Rattle.std.specs.Prelude.{ℕ, ◌≤◌, List, length}
use Rattle.std.specs.List.{AllByRecursion}
use Rattle.jk_model.specs.declared.output.Line.{Line}
use Rattle.jk_model.specs.declared.output.Line.TheVariants as Says
use Rattle.kernel_openings.specs.declared.answers.Beginning.{Beginning}
use Rattle.kernel_openings.specs.declared.answers.Beginning.TheVariants as Came

-- as a script has them: at most 255, each of at most 255 bytes
pub record AreStartWords (words : List (List ℕ)) : Type 0 where
  pub few : length words ≤ 255
  pub short : AllByRecursion (λ (w : List ℕ). length w ≤ 255) words

-- the line of a start in the domain of this name
abbrev pub told_of : List ℕ → Beginning → Line
told_of name (Came.Refused number) = Says.StartRefused name number
told_of name (Came.Begun thread) = Says.Started thread name
