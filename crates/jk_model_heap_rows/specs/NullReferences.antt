-- Null, which most instructions refuse before all else.
use Rattle.std.specs.Prelude.{◌≡◌}
use Rattle.jk_model.specs.declared.steps.Raise.TheVariants as Raised
use Rattle.jk_model.specs.declared.values.Value.{Value}
use Rattle.jk_model.specs.declared.values.Value.TheVariants as Held
use Rattle.jk_model_heaps.specs.SystemClasses.{NULL_POINTER_EXCEPTION}
use Rattle.jk_model_heaps.specs.Workings.{Outcome, RaisesHere, Working}

-- the value is null, and so NullPointerException is raised
abbrev pub FailsAtNull : Value → Working → Working → Outcome → Type 0
FailsAtNull v w new outcome = (v ≡ Held.Null) × RaisesHere w (Raised.Fresh NULL_POINTER_EXCEPTION) new outcome
