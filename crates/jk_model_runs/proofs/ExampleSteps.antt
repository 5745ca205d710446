-- Frames of the examples that need a class: they wait for none and catch nothing.
use Rattle.std.proofs.Common.{◌≡◌, ℕ, ◌==◌, false, List, [], ◌∷◌, find, refl, inl, inr, sym, ap, ◌∙◌, true≢false}
use Rattle.std.specs.Option.{option_map_or}
use Rattle.std.proofs.lemmas.Option.{none-some}
use Rattle.jk_model.specs.declared.identifiers.ClassId.{ClassId}
use Rattle.jk_model.specs.declared.identifiers.ThreadNo.{ThreadNo}
use Rattle.jk_model.specs.declared.steps.Raise.{Raise}
use Rattle.jk_model_classes.specs.Classes.{OBJECT}
use Rattle.jk_model_domains.specs.Objects.{NamedObject}
use Rattle.jk_model_domains.specs.declared.states.ClassState.{ClassState}
use Rattle.jk_model_domains.specs.declared.states.ClassState.TheVariants as State
use Rattle.jk_model_domains.specs.OwnStates.{ClassPart, state_of}
use Rattle.jk_model_heaps.specs.declared.shapes.Unwound.TheVariants.{Uncaught}
use Rattle.jk_model_heaps.specs.Throwables.{IsRaised}
use Rattle.jk_model_heaps.specs.Workings.{Inside, Setting}
use Rattle.jk_model_running.specs.Raising.{RaisesIn}
use Rattle.jk_model_unwinding.specs.Unwinding.{CatchesNot}
use Rattle.jk_model_machine_state.specs.Machines.{Machine}
use Rattle.jk_model_machine_state.specs.Places.{RunningSegment}
use Rattle.jk_model_runs.specs.Examples.{needing}
use Rattle.jk_model_runs.specs.Steps.{IsHeld}

-- the state of a class among these parts
abbrev state_among : ClassId → List ClassPart → ClassState
state_among c parts = option_map_or (λ (e : ClassPart). e.state) (find (λ (e : ClassPart). e.class.0 == c.0) parts) State.Done

-- in a domain in which no class has a part no class is in progress
pub never_held : {m : Machine} {t : ThreadNo} (p : RunningSegment m t) → p.home.inside.own.classes ≡ [] → p.segment.shared.suspended ≡ false
    → IsHeld p → ⊥
never_held p none free (inl suspended) = true≢false (sym suspended ∙ free)
never_held p none free (inr (top, class, needs, elsewhere)) =
    let done : state_of p.home.inside.own class ≡ State.Done = ap (state_among class) none in
    let both : State.Done ≡ State.InProgress elsewhere.0 = sym done ∙ elsewhere.1 in
    absurd cc

catches_not : (x : Setting) (heap : List NamedObject) (a : ℕ) → CatchesNot x heap needing a
catches_not x heap a h catches = none-some OBJECT (sym catches.no_need)

-- what is raised in such a frame leaves it
pub leaves_needing : (x : Setting) (inside : Inside) (r : Raise) (a : ℕ) → IsRaised x inside r inside a
    → RaisesIn x (record { inside = inside; frames = needing ∷ [] }) r (record { inside = inside; frames = [] }) (Uncaught a)
leaves_needing x inside r a raised = record {
  thrown = a;
  made = inside;
  is_raised = raised;
  unwinds = ((inside, a, (refl, refl), catches_not x inside.heap a, inl (refl, refl, refl)), refl);
}
