-- The words after a `start` line's class.
use Rattle.std.specs.Prelude.{ℕ, List, Option, Some, None, Result, Ok, Err}
use Rattle.jk_model.specs.declared.script.FaultKind.{FaultKind}
use Rattle.jk_model.specs.ScriptGrammar.{start_words_fault}

abbrev pub unless : Option FaultKind → List (List ℕ) → Result (List (List ℕ)) FaultKind
unless None ws = Ok ws
unless (Some kind) ws = Err kind

-- these words, or what is wrong with them
abbrev pub start_words : List (List ℕ) → Result (List (List ℕ)) FaultKind
start_words ws = unless (start_words_fault 255 ws) ws
