-- The entries so far refer to no class that isn't known.
use Rattle.std.proofs.Common.{◌<◌, ℕ}
use Rattle.jk_model_classes.specs.References.{RefersAt}
use Rattle.name_rules.specs.KnownNames.{LacksOne}
use Rattle.name_rules.proofs.known_names.first_missing_class.Given as goal

abbrev pub invariant-loop-i : goal.invariant-loop-i
invariant-loop-i l = (k : ℕ) → k < l.i → LacksOne l.names (RefersAt l.f.file k) → ⊥
