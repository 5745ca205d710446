-- Files of a system: what is counted of them, and what was asked.
use Rattle.std.specs.Prelude.{ℕ, ◌+◌, ◌-◌, ◌^◌, Bool, List, Option, None, min}
use Rattle.jk_model.specs.Outside.{Ask, Tree}

-- the system, whether a folder was listed, how many faults there were, how many bytes and entries were taken, and what was asked
pub record DiskState (S : Type 0) : Type 0 where
  pub system : S
  pub listed : Bool
  pub faults : ℕ
  pub taken : ℕ
  pub asked : List Ask

-- a count after so many more, as far as 64 bits count
abbrev pub count_after : ℕ → ℕ → ℕ
count_after count more = min (count + more) (2 ^ 64 - 1)

-- what is known of the folders and files of a disk
abbrev pub untold : Option Tree
untold = None
