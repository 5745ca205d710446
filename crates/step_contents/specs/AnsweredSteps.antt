-- What a step function answers after an instruction that leaves nothing to ask.
use Rattle.std.specs.Prelude.{◌≡◌}
use Rattle.jk_model.specs.declared.steps.After.{After}
use Rattle.jk_model.specs.declared.steps.After.TheVariants as Next
use Rattle.jk_model_heaps.specs.Workings.{Outcome, GoesOn, Raises}

-- The frame goes on at a place, where the step function leaves it as it stood; or something is raised, by which nothing changed yet.
abbrev pub IsAnswered : After → Outcome → Type 0
IsAnswered (Next.Goto n) outcome = outcome ≡ GoesOn n
IsAnswered (Next.Raise r) outcome = outcome ≡ Raises r
IsAnswered after outcome = ⊥
