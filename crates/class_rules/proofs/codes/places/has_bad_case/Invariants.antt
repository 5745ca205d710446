-- No case so far leads to where no instruction begins.
use Rattle.jk_model.specs.declared.instructions.SwitchCase.{SwitchCase}
use Rattle.jk_model_classes.specs.Items.{HasItemBefore}
use Rattle.class_rules.specs.Codes.{HasPlace}
use Rattle.class_rules.proofs.codes.places.has_bad_case.Given as goal

abbrev pub invariant-loop-case : goal.invariant-loop-case
invariant-loop-case l = HasItemBefore l.case-index (λ (s : SwitchCase). HasPlace l.places s.target → ⊥) l.cases → ⊥
