-- No class before this place has such a method.
use Rattle.jk_model_classes.specs.Items.{HasItemBefore}
use Rattle.jk_model_classes.specs.Lookups.{Declares, IsMethodOf}
use Rattle.member_lookup.proofs.find.first_method.Given as goal

abbrev pub invariant-loop-d : goal.invariant-loop-d
invariant-loop-d l = HasItemBefore l.d-index (Declares (IsMethodOf l.t l.key.name l.key.kind)) l.walk → ⊥
