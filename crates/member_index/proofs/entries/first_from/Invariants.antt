use Rattle.std.proofs.Common.{ℕ, ◌<◌, get_or}
use Rattle.member_index.specs.Finding.{SuitsAt}
use Rattle.member_index.specs.declared.entries.Entry.{Entry}
use Rattle.member_index.proofs.entries.first_from.Given as goal

abbrev pub invariant-loop-entry : goal.invariant-loop-entry
invariant-loop-entry g l =
    (k : ℕ) (d : Entry) → k < l.entry-index → SuitsAt (g.K.Sought.Suits l.key) l.members (get_or l.entry-items k d).place → ⊥
