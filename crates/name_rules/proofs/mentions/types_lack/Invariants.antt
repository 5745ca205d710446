-- None of the types so far is of a class without a meaning.
use Rattle.jk_model_classes.specs.Items.{HasItemBefore}
use Rattle.jk_model_classes.specs.References.{IsOfClass}
use Rattle.name_rules.specs.KnownNames.{LacksOne}
use Rattle.name_rules.proofs.mentions.types_lack.Given as goal

abbrev pub invariant-loop-t : goal.invariant-loop-t
invariant-loop-t l = LacksOne l.names (λ name. HasItemBefore l.t-index (IsOfClass name) l.types) → ⊥
