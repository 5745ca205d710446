use Rattle.std.proofs.Common.{◌≡◌, ℕ, ◌<◌, length, get_or}
use Rattle.member_index.specs.declared.entries.Entry.{Entry}
use Rattle.member_index.proofs.entries.sorted_entries.Given as goal

abbrev pub invariant-loop-place : goal.invariant-loop-place
invariant-loop-place g l =
    (length l.entries.items ≡ l.place)
    × ((k : ℕ) (d : Entry) (m : g.row.M.Denot) → k < l.place
    → get_or l.entries.items k d ≡ record { marks = g.M.Marked.marks_of (get_or l.members k m); place = k })
