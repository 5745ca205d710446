-- A method of java/lang/Object is run at the class of the value; a capability's other methods are called through it.
use Rattle.std.proofs.Common.{◌≡◌, ◌≢◌, List, refl, inl, inr, arith}
use Rattle.jk_model.specs.declared.identifiers.CapId.{CapId}
use Rattle.jk_model.specs.declared.identifiers.MemberId.{MemberId}
use Rattle.jk_model.specs.declared.values.Value.TheVariants as Held
use Rattle.jk_model_classes.specs.Classes.{OBJECT}
use Rattle.jk_model_typing.specs.FrameTypes.{STRING}
use Rattle.jk_model_domains.specs.Objects.{Array, CAPABILITY, NamedObject, Text, class_type}
use Rattle.jk_model_call_rows.specs.Examples.{ASKS, OWN, classes_of_values, member_at}
use Rattle.jk_model_call_rows.specs.Targets.{InterfaceTarget, Runs, Through}
use Rattle.jk_model_call_rows.proofs.OneSelected.{one_interface_target}
use Rattle.jk_model_call_rows.proofs.ReceiversOfExamples.{array_lacks_interface, at_capability, at_string, of_object}
use Rattle.jk_model_call_rows.proofs.SelectedMethods.{differ}
use Rattle.jk_model_call_rows.proofs.examples.interfaces_of_other_receivers.Goals as goal

asks_not_object : ASKS ≢ OBJECT
asks_not_object = differ ASKS OBJECT (λ e. absurd (omega (arith, e)))

runs_at_capability : (heap : List NamedObject) (k : CapId) → InterfaceTarget classes_of_values heap (Held.Cap k) of_object (Runs of_object)
runs_at_capability heap k =
    inr (refl, (CAPABILITY, refl, inr (inl refl, inr (inr (of_object, _, at_capability, (_, refl, refl), refl, refl)))))

other_target : (k : CapId) (m : MemberId) → Runs m ≡ Through k m → ⊥
other_target k m e = cc

pub returns-clause-of_object : goal.returns-clause-of_object
returns-clause-of_object c = λ heap k. runs_at_capability heap k

pub returns-clause-not_through : goal.returns-clause-not_through
returns-clause-not_through c = λ heap k through.
    other_target k of_object
    (one_interface_target classes_of_values heap (Held.Cap k) of_object (Runs of_object) (Through k of_object) (runs_at_capability heap k) through)

pub returns-clause-of_interface : goal.returns-clause-of_interface
returns-clause-of_interface c = λ heap k. inl (asks_not_object, refl)

pub returns-clause-of_object_at_text : goal.returns-clause-of_object_at_text
returns-clause-of_object_at_text c = λ heap a units stands. (
  STRING,
  (Text units, stands, refl),
  inr (inl refl, inr (inr (member_at STRING 0, _, at_string, (_, refl, refl), refl, refl))),
)

pub returns-clause-array : goal.returns-clause-array
returns-clause-array c = λ heap a items stands.
    (OBJECT, (Array (class_type OWN) items, stands, refl), inl ((asks_not_object, array_lacks_interface), refl))
