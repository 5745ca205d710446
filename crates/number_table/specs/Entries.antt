-- Entries in buckets.
use Rattle.std.specs.Prelude.{◌≡◌, ℕ, zero, suc, ◌+◌, ◌%◌, ◌^◌, ◌<◌, List, Option, Some, None, length, nat_eq, if◌then◌else◌, slice_index_or}
use Rattle.number_table.specs.declared.chains.Node.{Node}
use Rattle.number_table.specs.declared.chains.Stack.{Stack}
use Rattle.number_table.specs.declared.entry_table.Entry.{Entry}
use Rattle.number_table.specs.Chains.{count_of, place_of}

-- what stands past the end of the entries
abbrev pub no_entry : Entry
no_entry = record { number = 0; place = record { domain = 0; slot = 0 } }

abbrev pub entry_at : List Entry → ℕ → Entry
entry_at entries b = slice_index_or entries b no_entry

-- the key at a position of a bucket
abbrev pub number_at : List Node → List Entry → ℕ → ℕ → ℕ
number_at nodes entries h p = (entry_at entries (place_of nodes h p)).number

-- the entry of a number among the first ones of a bucket
abbrev pub found_at : List Node → List Entry → ℕ → ℕ → ℕ → Option ℕ
found_at nodes entries h s zero = None
found_at nodes entries h s (suc n) =
    if nat_eq (number_at nodes entries h n) s then Some (place_of nodes h n) else found_at nodes entries h s n

-- Each entry is in its bucket, and no number has two.
pub record IsTable (nodes : List Node) (stacks : List Stack) (entries : List Entry) (buckets : ℕ) : Type 0 where
  pub few : buckets < 2 ^ 63
  pub as_many : length entries ≡ length nodes
  pub stacks_are : 0 < buckets → length stacks ≡ buckets + 1
  pub empty : buckets ≡ 0 → length stacks ≡ 0
  pub in_bucket : (h p : ℕ) → h < buckets → p < count_of stacks h → number_at nodes entries h p % buckets ≡ h
  pub apart : (h p q : ℕ) → h < buckets → p < count_of stacks h → q < count_of stacks h
      → number_at nodes entries h p ≡ number_at nodes entries h q → p ≡ q
