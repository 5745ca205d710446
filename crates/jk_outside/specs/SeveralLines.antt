-- What came of lines that were printed one after another, up to one that failed: after it nothing more was printed.
use Rattle.std.specs.Prelude.{◌≡◌, ℕ, List, [], ◌∷◌, ◌++◌, flat_map, Option, Result, OnOk, OnErr}
use Rattle.jk_model.specs.Outside.{Appends, AppendsPart, HasRisen, NeverFalls}
use Rattle.jk_model.specs.Output.{text_of}
use Rattle.jk_model.specs.declared.output.Line.{Line}
use Rattle.jk_outside.specs.CutTexts.{cut_text, BreaksOff}

-- the text of a line, with its line feed, in pieces
abbrev pub pieces_of : Line → List (List ℕ)
pieces_of line = cut_text (text_of (line ∷ []))

-- the pieces of lines, each line in pieces of its own
abbrev pub pieces_of_lines : List Line → List (List ℕ)
pieces_of_lines lines = flat_map pieces_of lines

-- What came of lines that were printed in turn, from what the sink told before the first and after the last.
pub record PrintsLines {E : Type 0} (old_bytes new_bytes : Option (List ℕ)) (old_pieces new_pieces : List (List ℕ)) (old_faults new_faults : ℕ)
    (result : Result (Unit {0}) E) (lines : List Line) : Type 0 where
  pub ok : OnOk result (Appends old_bytes new_bytes (text_of lines))
  pub pieces : OnOk result (new_pieces ≡ old_pieces ++ pieces_of_lines lines)
  pub part : OnErr result (AppendsPart old_bytes new_bytes (text_of lines))
  pub pieces_part : OnErr result (BreaksOff old_bytes new_bytes old_pieces new_pieces (pieces_of_lines lines))
  pub cause : OnErr result (HasRisen old_faults new_faults)
  pub calm : OnOk result (new_faults ≡ old_faults)
  pub faults : NeverFalls old_faults new_faults
