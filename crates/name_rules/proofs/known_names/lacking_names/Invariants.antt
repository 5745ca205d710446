-- The names so far are marked where they say a class that isn't known.
use Rattle.std.proofs.Common.{◌≡◌, ℕ, ◌<◌, ◌↔◌, length}
use Rattle.name_rules.specs.KnownNames.{IsEntryName, IsSaidBy, LacksOne}
use Rattle.name_rules.specs.Marks.{IsMarked}
use Rattle.name_rules.proofs.known_names.lacking_names.Given as goal

abbrev pub invariant-loop-n : goal.invariant-loop-n
invariant-loop-n l = record {
  as_many : length l.lacking.items ≡ l.n;
  at : (k : ℕ) → k < l.n → IsEntryName l.f.file.pool k → IsMarked l.lacking.items k ↔ LacksOne l.names (IsSaidBy l.f.file.pool k);
}
