-- No class before this place has such a field.
use Rattle.jk_model_classes.specs.Items.{HasItemBefore}
use Rattle.jk_model_classes.specs.Lookups.{Declares, IsFieldOf}
use Rattle.member_lookup.proofs.find.first_field.Given as goal

abbrev pub invariant-loop-d : goal.invariant-loop-d
invariant-loop-d l = HasItemBefore l.d-index (Declares (IsFieldOf l.t l.key.name l.key.kind)) l.walk → ⊥
