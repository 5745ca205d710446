-- The bytes before the first line feed are the first line; where there is none, all bytes are.
use Rattle.std.proofs.Common.{◌≡◌, ℕ, ◌+◌, ◌-◌, ◌<◌, ◌≤◌, Bool, true, false, List, [], length, take, drop, arith, Some, None, cond, slice_index, get_or-take, length-take, nat_eq}
use Rattle.std.specs.List.{position_or_len, position, All}
use Rattle.std.specs.Str.Lines.{strip_carriage_return}
use Rattle.std.proofs.lemmas.List.Elements.{All-take}
use Rattle.std.proofs.lemmas.List.Sums.{fails_before_first}
use Rattle.list_lemmas.proofs.FirstByTest.{found_at, found_nowhere}
use Rattle.model_lemmas.proofs.LinesInTurn as turn
use Rattle.text_lines.specs.FirstLines.{IsFirstLine}

abbrev is_line_feed : ℕ → Bool
is_line_feed b = nat_eq b 10

abbrev HasNoLineFeed : List ℕ → Type 0
HasNoLineFeed xs = All (λ b. is_line_feed b ≡ false) xs

cut : (b : Bool) (n : ℕ) (line : List ℕ) → HasNoLineFeed line → HasNoLineFeed (cond b (take n line) line)
cut true n line all = All-take (λ b. is_line_feed b ≡ false) n line all
cut false n line all = all

cut_length : (b : Bool) (n : ℕ) (line : List ℕ) → length (cond b (take n line) line) ≤ length line
cut_length true n line = omega (arith, length-take n line)
cut_length false n line = omega arith

before_feed : (text : List ℕ) (n : ℕ) → n ≡ position_or_len is_line_feed text → HasNoLineFeed (take n text)
before_feed text n e k d low =
    let inside : k < n = omega (arith, low, length-take n text) in
    rw (get_or-take n text k d inside) (fails_before_first is_line_feed text k d (omega (arith, inside, e)))

pub first_line : (text line rest : List ℕ) (n : ℕ) → position is_line_feed text ≡ Some n → line ≡ strip_carriage_return (take n text)
    → rest ≡ drop (n + 1) text → IsFirstLine text line rest
first_line text line rest n e f g =
    let at = found_at is_line_feed text n e in
    let turns = turn.first_line text line rest n e f g in
    let front = take n text in
    let ends : Bool = nat_eq (slice_index front (length front - 1)) 13 in
    let none : HasNoLineFeed (strip_carriage_return front) = cut ends (length front - 1) front (before_feed text n at.0) in
    record {
      lines = turns.0;
      plain = rw f none;
      within = rw f (omega (arith, cut_length ends (length front - 1) front, length-take n text));
      shorter = turns.1;
    }

pub last_line : (text rest : List ℕ) → 0 < length text → position is_line_feed text ≡ None → rest ≡ [] → IsFirstLine text text rest
last_line text rest h e g =
    let turns = turn.last_line text rest h e g in
    record {
      lines = turns.0;
      plain = λ k d l. fails_before_first is_line_feed text k d (rw (found_nowhere is_line_feed text e) l);
      within = omega arith;
      shorter = turns.1;
    }
