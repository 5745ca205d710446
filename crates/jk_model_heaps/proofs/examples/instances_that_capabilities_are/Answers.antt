-- What a capability shows, by the interfaces of its target's class.
use Rattle.std.proofs.Common.{refl, inl, inr, ap, arith}
use Rattle.jk_model_classes.specs.declared.records.TypeRef.{TypeRef}
use Rattle.jk_model_classes.specs.Classes.{OBJECT}
use Rattle.jk_model_classes.specs.Stubs.{IsRemoteInterfaceOf}
use Rattle.jk_model_domains.specs.Objects.{CAPABILITY}
use Rattle.jk_model_heaps.specs.Examples.{BOX, IMPL, MARK, classes}
use Rattle.jk_model_heaps.specs.SystemClasses.{REMOTE}
use Rattle.jk_model_heaps.proofs.ExampleCapabilities.{cap, class_numbered, impl_is_no_interface, impl_is_there, never_instance, shows_no_mark}
use Rattle.jk_model_heaps.proofs.examples.instances_that_capabilities_are.Goals as goal

impl_shows_box : IsRemoteInterfaceOf classes IMPL BOX
impl_shows_box = (((_, refl, refl), (1, omega arith, refl)), (REMOTE, refl, ((_, refl, refl), (1, omega arith, refl))))

pub returns-clause-object : goal.returns-clause-object
returns-clause-object c = record { class = OBJECT; no_array = refl; above = inl refl }

pub returns-clause-capability : goal.returns-clause-capability
returns-clause-capability c = record { class = CAPABILITY; no_array = refl; above = inr (inl refl) }

pub returns-clause-remote : goal.returns-clause-remote
returns-clause-remote c = record { class = REMOTE; no_array = refl; above = inr (inr (inl refl)) }

pub returns-clause-shown : goal.returns-clause-shown
returns-clause-shown c = record { class = BOX; no_array = refl; above = inr (inr (inr (_, refl, inl impl_shows_box))) }

pub returns-clause-revoked : goal.returns-clause-revoked
returns-clause-revoked c = record { class = BOX; no_array = refl; above = inr (inr (inr (_, refl, inl impl_shows_box))) }

pub returns-clause-no_class : goal.returns-clause-no_class
returns-clause-no_class c = never_instance (cap 0) IMPL refl refl refl (λ o is makes. elim makes [
  | inl shows ↦ impl_is_no_interface shows.0.0
  | inr stands ↦ impl_is_there IMPL o (class_numbered (cap 0) IMPL o refl is) stands
])

pub returns-clause-not_remote : goal.returns-clause-not_remote
returns-clause-not_remote c = never_instance (cap 2) MARK refl refl refl (λ o is makes. elim makes [
  | inl shows ↦ shows_no_mark o shows
  | inr stands ↦ impl_is_there MARK o (class_numbered (cap 2) IMPL o refl is) stands
])

pub returns-clause-no_array : goal.returns-clause-no_array
returns-clause-no_array c = λ h. absurd (omega (arith, ap (λ (t : TypeRef). t.dims) h.no_array))
