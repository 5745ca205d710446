-- What the calls of a table of entries do.
use Rattle.std.specs.Prelude.{◌≡◌, ◌≢◌, ℕ, zero, suc, ◌+◌, ◌%◌, List, [], ◌∷◌, Option, Some, None, length, nat_eq, option_map, if◌then◌else◌}
use Rattle.number_table.specs.declared.entry_table.EntryTable.{EntryTable}
use Rattle.number_table.specs.declared.entry_table.Place.{Place}
use Rattle.number_table.specs.ChainMoves.{count, nodes, stack_of}
use Rattle.number_table.specs.Entries.{entry_at, found_at}

-- the entry of a key
abbrev pub find : EntryTable → ℕ → Option ℕ
find t s = let h = s % t.buckets in found_at t.chains.nodes.items t.entries.items h s (count t.chains h)

-- the place of a key
abbrev pub place_in : EntryTable → ℕ → Option Place
place_in t s = option_map (λ b. (entry_at t.entries.items b).place) (find t s)

-- how many more entries the table has room for
abbrev pub room : EntryTable → ℕ
room t = count t.chains t.buckets

-- how many entries the table has or has room for
abbrev pub size_of : EntryTable → ℕ
size_of t = length t.entries.items

abbrev pub IsEmptyTable : EntryTable → Type 0
IsEmptyTable t = (s : ℕ) → place_in t s ≡ None

abbrev pub IsSameTable : EntryTable → EntryTable → Type 0
IsSameTable old new = (s : ℕ) → place_in new s ≡ place_in old s

-- A key is entered.
pub record Inserts (old new : EntryTable) (s : ℕ) (place : Place) : Type 0 where
  pub is_in : place_in new s ≡ Some place
  pub others : (r : ℕ) → r ≢ s → place_in new r ≡ place_in old r
  pub less_room : room new + 1 ≡ room old

-- A key is taken out.
pub record Removes (old new : EntryTable) (s : ℕ) : Type 0 where
  pub is_out : place_in new s ≡ None
  pub others : (r : ℕ) → r ≢ s → place_in new r ≡ place_in old r
  pub more_room : room new ≡ room old + 1

-- the entries of the first nodes, but for those on the stack of free ones
abbrev pub listed_below : EntryTable → ℕ → List (ℕ × Place)
listed_below t zero = []
listed_below t (suc b) =
    if nat_eq (stack_of t.chains b) t.buckets then listed_below t b
    else (let e = entry_at t.entries.items b in (e.number, e.place) ∷ listed_below t b)

-- all keys with their places
abbrev pub listed : EntryTable → List (ℕ × Place)
listed t = listed_below t (nodes t.chains)
