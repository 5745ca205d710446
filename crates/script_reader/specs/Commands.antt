-- The words that are commands.
use Rattle.std.specs.Prelude.{ℕ, Bool, List, [], ◌∷◌, bytes_eq, codes}
use Rattle.std.specs.List.{list_any}
use Rattle.script_reader.specs.declared.commands.Command.{Command}
use Rattle.script_reader.specs.declared.commands.Command.TheVariants.{Domain, Start, Turn, Round, Kill}

-- a command's name in a script
abbrev pub command_name : Command → List ℕ
command_name Domain = codes "domain"
command_name Start = codes "start"
command_name Turn = codes "turn"
command_name Round = codes "round"
command_name Kill = codes "kill"

-- whether a word is a command
abbrev pub names_command : List ℕ → Bool
names_command word =
    list_any (bytes_eq word) (codes "domain" ∷ codes "start" ∷ codes "turn" ∷ codes "round" ∷ codes "kill" ∷ [])
