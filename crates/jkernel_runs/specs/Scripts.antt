-- Which events a script has, or what is wrong with it: by the grammar.
use Rattle.std.specs.Prelude.{◌≡◌, ℕ, List, Ok, Err}
use Rattle.jk_model.specs.declared.script.Event.{Event}
use Rattle.jk_model.specs.declared.script.ScriptFault.{ScriptFault}
use Rattle.jk_model.specs.ScriptGrammar.{events_of}

-- the bytes are a script with these events
abbrev pub IsScript : List ℕ → List Event → Type 0
IsScript bytes events = events_of bytes ≡ Ok events

-- the bytes are no script, and this is their first fault
abbrev pub IsAtFault : List ℕ → ScriptFault → Type 0
IsAtFault bytes fault = events_of bytes ≡ Err fault
