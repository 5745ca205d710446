-- By the lemmas on heights.
use Rattle.class_table.proofs.HeightsAreEnough.{superclasses-step, with_interfaces-step, field_walk-step}
use Rattle.class_table.proofs.laws.walks_go_up_one_step.Goals as goal

pub returns : goal.returns
returns c =
    record {
      parents = λ classes d ordered. superclasses-step classes ordered d;
      interfaces = λ classes d ordered. with_interfaces-step classes ordered d;
      fields = λ classes d ordered. field_walk-step classes ordered d;
    }
