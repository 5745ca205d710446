-- Both handlers of the method end at its second instruction.
use Rattle.std.proofs.Common.{[], ◌∷◌, refl}
use Rattle.jk_model_domains.specs.NumberRows.{ARITHMETIC_EXCEPTION}
use Rattle.jk_model_unwinding.specs.Examples.{careful, thrown}
use Rattle.jk_model_unwinding.proofs.RunningCodes.{catches_none, none_covers}
use Rattle.jk_model_unwinding.proofs.examples.end_of_a_handler_is_not_covered.Goals as goal

pub returns : goal.returns
returns c =
    catches_none 64 (thrown 1 ARITHMETIC_EXCEPTION ∷ []) 1 0 1 [] careful refl (λ place h listed covers of_class. none_covers place h listed covers)
