-- Where something may be raised in a segment, it is raised.
use Rattle.std.proofs.Common.{sym, subst}
use Rattle.jk_model.specs.declared.identifiers.ThreadNo.{ThreadNo}
use Rattle.jk_model.specs.declared.steps.Raise.{Raise}
use Rattle.jk_model_domains.specs.OwnStates.{OwnState}
use Rattle.jk_model_heaps.specs.declared.shapes.Unwound.{Unwound}
use Rattle.jk_model_heaps.specs.Workings.{Run, Setting}
use Rattle.jk_model_running.specs.Raising.{RaisesIn}
use Rattle.jk_model_sealing.specs.SealedInsides.{Surroundings}
use Rattle.heap_laws.specs.RaisableObjects.{KeepsStates, MayBeRaised}
use Rattle.row_laws.proofs.Raised.{raised_there}
use Rattle.row_laws.proofs.WaysThere.{unwound}
use Rattle.row_laws.proofs.RaisesKept.{MayRaise, may_unwind, own_same}
use Rattle.row_laws.proofs.StatesOfFrames.{states_there}

pub raise_there : (around : Surroundings) (x : Setting) (t : ThreadNo) (old : Run) → MayRaise around x t old → (r : Raise)
    → MayBeRaised around.classes old.inside.heap r → (ended : Unwound) × (new : Run) × RaisesIn x old r new ended
raise_there around x t old may r can =
    let made = raised_there around x old.inside r may.inside in
    let unwinds = may_unwind around x t old may r can made.0 made.1 made.2 in
    let states : KeepsStates made.0.own old.frames =
    subst (λ (own : OwnState). KeepsStates own old.frames) (sym (own_same around x t old may r can made.0 made.1 made.2))
    (states_there t old.inside.own old.frames may.progress) in
    let way = unwound around x may.setting (record old { inside = made.0 }) made.1 unwinds states in
    (way.0, way.1, record { thrown = made.1; made = made.0; is_raised = made.2; unwinds = way.2 })
