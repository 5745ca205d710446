-- The parts of a line, and what came of a text that was printed as a line.
use Rattle.std.specs.Prelude.{◌≡◌, ℕ, ◌/◌, ◌%◌, List, [], ◌∷◌, ◌++◌, flat_map, Option, Result, OnOk, OnErr}
use Rattle.std.specs.Fmt.{signed_decimal}
use Rattle.jk_model.specs.Outside.{Appends, AppendsPart, HasRisen, NeverFalls}
use Rattle.jk_model.specs.Text.{shown, hex_digit, utf16_of}
use Rattle.jk_outside.specs.CutTexts.{cut_text, BreaksOff}
use Rattle.jk_outside.specs.declared.parts.Part.{Part}
use Rattle.jk_outside.specs.declared.parts.Part.TheVariants.{Bytes, Escaped, Path, Number}

-- a unit as `\u` and four hexadecimal digits
abbrev pub escape : ℕ → List ℕ
escape u =
    92 ∷ 117 ∷ hex_digit (u / 4096 % 16) ∷ hex_digit (u / 256 % 16) ∷ hex_digit (u / 16 % 16) ∷ hex_digit (u % 16) ∷ []

-- the bytes of a part of a line
abbrev pub part_text : Part → List ℕ
part_text (Bytes bytes) = bytes.now
part_text (Escaped units) = shown units.now
part_text (Path path) = shown (utf16_of path.now)
part_text (Number n) = signed_decimal n

-- a line of these parts, with its line feed
abbrev pub parts_text : List Part → List ℕ
parts_text parts = flat_map part_text parts ++ 10 ∷ []

-- What came of a text that was printed as one line, from what the sink told before and after.
pub record Prints {E : Type 0} (old_bytes new_bytes : Option (List ℕ)) (old_pieces new_pieces : List (List ℕ)) (old_faults new_faults : ℕ)
    (result : Result (Unit {0}) E) (text : List ℕ) : Type 0 where
  pub ok : OnOk result (Appends old_bytes new_bytes text)
  pub pieces : OnOk result (new_pieces ≡ old_pieces ++ cut_text text)
  pub part : OnErr result (AppendsPart old_bytes new_bytes text)
  pub pieces_part : OnErr result (BreaksOff old_bytes new_bytes old_pieces new_pieces (cut_text text))
  pub cause : OnErr result (HasRisen old_faults new_faults)
  pub calm : OnOk result (new_faults ≡ old_faults)
  pub faults : NeverFalls old_faults new_faults
