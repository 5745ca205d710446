-- Which answer is told of what was found, where so many words are free.
use Rattle.std.specs.Prelude.{◌≡◌, ℕ, ◌<◌, ◌≤◌, Option, Some, None}
use Rattle.graph_copy.specs.declared.answers.CopyAnswer.{CopyAnswer}
use Rattle.graph_copy.specs.declared.answers.CopyAnswer.TheVariants.{Copied, NoRoom, NotCopiable}

abbrev pub IsTold : Option ℕ → ℕ → ℕ → CopyAnswer → Type 0
IsTold refused sum free Copied = (refused ≡ None) × (sum ≤ free)
IsTold refused sum free (NotCopiable a) = refused ≡ Some a
IsTold refused sum free (NoRoom n) = (refused ≡ None) × (n ≡ sum) × (free < sum)
