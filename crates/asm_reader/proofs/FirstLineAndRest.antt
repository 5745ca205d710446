-- The lines of a text are its first line and the lines of what follows it.
use Rattle.std.proofs.Common.{◌≡◌, ℕ, ◌+◌, ◌<◌, ◌≤◌, Bool, true, false, List, [], ◌∷◌, length, take, drop, refl, arith, Some, None, length-drop, nat_eq, nat_lt}
use Rattle.std.specs.List.{slice_split, position_or_len, position, All}
use Rattle.std.proofs.lemmas.Bool.{ltb-true}
use Rattle.std.proofs.lemmas.List.Splits.{slice_split_first, slice_split_none}
use Rattle.std.proofs.lemmas.List.Sums.{fails_before_first}
use Rattle.std.proofs.lemmas.Option.{cond_some}
use Rattle.list_lemmas.proofs.FirstByTest.{past_end}
use Rattle.asm_reader.specs.Words.{text_lines}

abbrev is_line_feed : ℕ → Bool
is_line_feed b = nat_eq b 10

-- a text has one part or more
record Parts (text : List ℕ) : Type 0 where
  first : List ℕ
  others : List (List ℕ)
  are : slice_split is_line_feed text ≡ first ∷ others

some_part : (text : List ℕ) → Parts text
some_part [] = record { first = []; others = []; are = refl }
some_part (b ∷ text) = more b text (some_part text) (is_line_feed b) refl
  where
    more : (b : ℕ) (text : List ℕ) → Parts text → (t : Bool) → is_line_feed b ≡ t → Parts (b ∷ text)
    more b text p true e = record { first = []; others = slice_split is_line_feed text; are = rw e }
    more b text p false e = record { first = b ∷ p.first; others = p.others; are = rw (e, p.are) }

-- a part that others follow is a line
line_before : (line text rest first : List ℕ) (others : List (List ℕ))
    → slice_split is_line_feed text ≡ line ∷ slice_split is_line_feed rest
    → slice_split is_line_feed rest ≡ first ∷ others → text_lines text ≡ line ∷ text_lines rest
line_before [] text rest first others e f = rw (e, f)
line_before (b ∷ line) text rest first others e f = rw e

-- the bytes before the first line feed are the first line
pub first_line : (text line rest : List ℕ) (n : ℕ) → position is_line_feed text ≡ Some n → line ≡ take n text
    → rest ≡ drop (n + 1) text → (text_lines text ≡ line ∷ text_lines rest) × (length rest < length text)
first_line text line rest n e f g =
    let at = cond_some (nat_lt (position_or_len is_line_feed text) (length text)) (position_or_len is_line_feed text) n e in
    let inside : position_or_len is_line_feed text < length text = ltb-true (position_or_len is_line_feed text) (length text) at.0 in
    let cut = slice_split_first is_line_feed text 0 inside in
    let next = some_part rest in
    let parts : slice_split is_line_feed text ≡ line ∷ slice_split is_line_feed rest = rw (f, g, ← at.1) cut in
    (line_before line text rest next.first next.others parts next.are, rw g (omega (arith, length-drop (n + 1) text, at.1, inside)))

-- bytes without a line feed are one line
pub last_line : (text rest : List ℕ) → 0 < length text → position is_line_feed text ≡ None → rest ≡ []
    → (text_lines text ≡ text ∷ text_lines rest) × (length rest < length text)
last_line [] rest h e f = absurd (omega arith)
last_line (b ∷ bs) rest h e f =
    let text : List ℕ = b ∷ bs in
    let far : length text ≤ position_or_len is_line_feed text =
    past_end (position_or_len is_line_feed text) (length text) (nat_lt (position_or_len is_line_feed text) (length text)) refl e in
    let all : All (λ b. is_line_feed b ≡ false) text = λ k d l. fails_before_first is_line_feed text k d (omega arith) in
    let whole : slice_split is_line_feed text ≡ text ∷ [] = slice_split_none is_line_feed text all in
    rw f (rw whole refl, h)
