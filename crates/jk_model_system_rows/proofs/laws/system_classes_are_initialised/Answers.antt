-- The state is read of the part, and there is none.
use Rattle.std.proofs.Common.{Option, ap}
use Rattle.std.specs.Option.{option_map_or}
use Rattle.jk_model_domains.specs.declared.states.ClassState.TheVariants as State
use Rattle.jk_model_domains.specs.OwnStates.{ClassPart}
use Rattle.jk_model_system_rows.proofs.laws.system_classes_are_initialised.Goals as goal

pub returns : goal.returns
returns c = λ own class none. ap (λ (o : Option ClassPart). option_map_or (λ (e : ClassPart). e.state) o State.Done) none
