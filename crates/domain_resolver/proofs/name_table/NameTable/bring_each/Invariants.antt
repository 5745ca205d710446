-- The classes up to the index are named, and no others were brought in.
use Rattle.domain_resolver.specs.Imports.{Brings}
use Rattle.domain_resolver.proofs.BroughtInTurn.{AreNamedTo}
use Rattle.domain_resolver.proofs.name_table.NameTable.bring_each.Given as goal

abbrev pub invariant-loop-class : goal.invariant-loop-class
invariant-loop-class l = Brings l.classes l.wanted l.fn.self l.self × AreNamedTo l.self l.wanted l.class-index
