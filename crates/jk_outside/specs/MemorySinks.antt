-- A sink in memory: what it holds, and what a write does to it.
use Rattle.std.specs.Prelude.{ℕ, ◌-◌, ◌||◌, Bool, List, [], ◌∷◌, ◌++◌, length, take, nat_lt, if◌then◌else◌}
use Rattle.jk_outside.specs.Counts.{next_number, is_named, faults_after}

-- its room in bytes, the numbers of the writes that fail, the bytes that it took, how many writes and
-- faults there were, and the pieces that it was handed
pub record SinkState : Type 0 where
  pub room : ℕ
  pub fails : List ℕ
  pub bytes : List ℕ
  pub writes : ℕ
  pub faults : ℕ
  pub pieces : List (List ℕ)

-- how many bytes the next write can take: none if its number is named
abbrev pub room_left : SinkState → ℕ
room_left s = if is_named s.fails (next_number s.writes) then 0 else s.room - length s.bytes

-- whether the next write fails if it is given this piece
abbrev pub will_fail : SinkState → List ℕ → Bool
will_fail s piece = is_named s.fails (next_number s.writes) || nat_lt (room_left s) (length piece)

abbrev pub after_write : SinkState → List ℕ → SinkState
after_write s piece =
    record s {
      bytes = s.bytes ++ take (room_left s) piece;
      writes = next_number s.writes;
      faults = faults_after (will_fail s piece) s.faults;
      pieces = s.pieces ++ piece ∷ [];
    }
