-- A text in pieces of 256 bytes, and what a sink was handed of such pieces.
use Rattle.std.specs.Prelude.{◌≡◌, ℕ, zero, suc, ◌+◌, ◌*◌, ◌/◌, List, [], ◌∷◌, ◌++◌, length, take, drop, Option}
use Rattle.std.specs.List.{concat}
use Rattle.jk_model.specs.Outside.{IsPrefix, Appends}

-- so many pieces of 256 bytes from the front of a text; the last one is shorter where the text ends in it
abbrev pub first_pieces : ℕ → List ℕ → List (List ℕ)
first_pieces zero text = []
first_pieces (suc more) text = take 256 text ∷ first_pieces more (drop 256 text)

-- a text in pieces of 256 bytes, and a last one of 1 to 256
unfoldable pub cut_text : List ℕ → List (List ℕ)
cut_text text = first_pieces ((length text + 255) / 256) text

-- the pieces of 256 bytes that a text fills, and the shorter rest after them
unfoldable pub whole_pieces : List ℕ → List (List ℕ)
whole_pieces text = first_pieces (length text / 256) text

unfoldable pub rest_of_pieces : List ℕ → List ℕ
rest_of_pieces text = drop (length text / 256 * 256) text

-- A sink was handed these pieces, and took them all.
pub record Sends (old_bytes new_bytes : Option (List ℕ)) (old_pieces new_pieces pieces : List (List ℕ)) : Type 0 where
  pub handed : new_pieces ≡ old_pieces ++ pieces
  pub taken : Appends old_bytes new_bytes (concat pieces)

-- It was handed these pieces up to one that failed: it took those before it, and of it a part, from the front on.
pub record BreaksOff (old_bytes new_bytes : Option (List ℕ)) (old_pieces new_pieces pieces : List (List ℕ)) : Type 0 where
  pub before : List (List ℕ)
  pub failed : List ℕ
  pub left : List (List ℕ)
  pub cut : pieces ≡ before ++ failed ∷ left
  pub handed : new_pieces ≡ old_pieces ++ before ++ failed ∷ []
  pub front : List ℕ
  pub is_front : IsPrefix front failed
  pub taken : Appends old_bytes new_bytes (concat before ++ front)
