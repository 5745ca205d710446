-- The files that the texts so far mean are marked, where they are names of interfaces.
use Rattle.std.proofs.Common.{ℕ, ◌<◌}
use Rattle.name_rules.specs.FolderEdges.{IsListedName, TextMeans}
use Rattle.name_rules.specs.Marks.{Marks}
use Rattle.name_rules.proofs.edges.mark_interfaces.Given as goal

abbrev pub invariant-loop-n : goal.invariant-loop-n
invariant-loop-n l =
    Marks (λ j. (k : ℕ) × (k < l.n) × IsListedName l.f.file k × TextMeans l.f.file.pool l.own k j) l.initial.row l.row
