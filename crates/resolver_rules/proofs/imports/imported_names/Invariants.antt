-- The lines so far keep L7, and their names are there.
use Rattle.resolver_rules.specs.Imported.{AreBrought}
use Rattle.resolver_rules.proofs.imports.imported_names.Given as goal

abbrev pub invariant-loop-place : goal.invariant-loop-place
invariant-loop-place l = AreBrought l.folder l.w l.into l.lines l.place l.names
