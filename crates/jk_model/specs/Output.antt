-- The text of lines. A line's text is the same whatever pieces it is written in.
use Rattle.std.specs.Prelude.{ℕ, List, [], ◌∷◌, ◌++◌, flat_map, codes, decimal}
use Rattle.jk_model.specs.declared.output.Line.{Line}
use Rattle.jk_model.specs.declared.output.Line.TheVariants.{Said, Loaded, Refused, Started, StartRefused, Ended, EndedBy, EndedByKill, Killed, KillRefused}
use Rattle.jk_model.specs.declared.output.Place.{Place}
use Rattle.jk_model.specs.declared.output.Place.TheVariants.{Whole, At}
use Rattle.jk_model.specs.declared.output.Rule.{Rule}
use Rattle.jk_model.specs.declared.output.Rule.TheVariants.{L1, L2, L3, L4, L5, L6, L7, L8, C1, C2, C3, C4, C5, C6, C7, C8, C9, C10, C11, C12, C13, C14, C15, C16, C17, C18, C19, C20, C21, C22, C23, C24, C25, C26, C27}
use Rattle.jk_model.specs.Text.{shown, utf16_of}

abbrev pub rule_text : Rule → List ℕ
rule_text L1 = codes "L1"
rule_text L2 = codes "L2"
rule_text L3 = codes "L3"
rule_text L4 = codes "L4"
rule_text L5 = codes "L5"
rule_text L6 = codes "L6"
rule_text L7 = codes "L7"
rule_text L8 = codes "L8"
rule_text C1 = codes "C1"
rule_text C2 = codes "C2"
rule_text C3 = codes "C3"
rule_text C4 = codes "C4"
rule_text C5 = codes "C5"
rule_text C6 = codes "C6"
rule_text C7 = codes "C7"
rule_text C8 = codes "C8"
rule_text C9 = codes "C9"
rule_text C10 = codes "C10"
rule_text C11 = codes "C11"
rule_text C12 = codes "C12"
rule_text C13 = codes "C13"
rule_text C14 = codes "C14"
rule_text C15 = codes "C15"
rule_text C16 = codes "C16"
rule_text C17 = codes "C17"
rule_text C18 = codes "C18"
rule_text C19 = codes "C19"
rule_text C20 = codes "C20"
rule_text C21 = codes "C21"
rule_text C22 = codes "C22"
rule_text C23 = codes "C23"
rule_text C24 = codes "C24"
rule_text C25 = codes "C25"
rule_text C26 = codes "C26"
rule_text C27 = codes "C27"

-- nothing for the folder as a whole; else the path in it, and the number
abbrev pub place_text : Place → List ℕ
place_text Whole = []
place_text (At path number) = codes " " ++ shown (utf16_of path) ++ codes " " ++ decimal number

abbrev pub line_text : Line → List ℕ
line_text (Said domain text) = domain ++ codes ": " ++ shown text
line_text (Loaded domain) = codes "* domain " ++ domain ++ codes " loaded"
line_text (Refused domain rule place) = codes "* domain " ++ domain ++ codes " refused " ++ rule_text rule ++ place_text place
line_text (Started thread domain) = codes "* thread " ++ decimal thread.0 ++ codes " started in " ++ domain
line_text (StartRefused domain number) = codes "* start " ++ domain ++ codes " refused S" ++ decimal number
line_text (Ended thread) = codes "* thread " ++ decimal thread.0 ++ codes " ended"
line_text (EndedBy thread class) = codes "* thread " ++ decimal thread.0 ++ codes " ended by " ++ shown class
line_text (EndedByKill thread) = codes "* thread " ++ decimal thread.0 ++ codes " ended by kill"
line_text (Killed domain) = codes "* domain " ++ domain ++ codes " killed"
line_text (KillRefused domain) = codes "* kill " ++ domain ++ codes " refused K1"

-- each line, ended by a line feed
abbrev pub text_of : List Line → List ℕ
text_of lines = flat_map (λ line. line_text line ++ 10 ∷ []) lines
