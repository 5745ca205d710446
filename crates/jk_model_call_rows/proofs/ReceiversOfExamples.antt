-- Which `equals` is selected at values of each sort.
use Rattle.std.proofs.Common.{[], ◌∷◌, Some, refl, inl, inr, arith}
use Rattle.jk_model.specs.declared.identifiers.MemberId.{MemberId}
use Rattle.jk_model_classes.specs.Classes.{Implements, OBJECT}
use Rattle.jk_model_classes.specs.Lookups.{Declares, RunsFor, Selects}
use Rattle.jk_model_typing.specs.FrameTypes.{STRING}
use Rattle.jk_model_domains.specs.Objects.{CAPABILITY, TASK}
use Rattle.jk_model_heaps.proofs.TypesApart.{implements_not}
use Rattle.jk_model_call_rows.specs.Examples.{ASKS, OWN, classes_of_values, member_at}
use Rattle.jk_model_call_rows.proofs.SelectedMethods.{declares_none, differ, first_alone, first_of, selected_at}

abbrev pub of_object : MemberId
of_object = member_at OBJECT 0

own_equals : RunsFor classes_of_values of_object of_object
own_equals = record { method = _; m_is = (_, refl, refl); other_method = _; other_is = (_, refl, refl); is_instance = refl; suits = inl refl }

pub at_object : Selects classes_of_values OBJECT of_object (Some of_object)
at_object =
    selected_at classes_of_values OBJECT of_object of_object _ 0 (_, refl, refl) refl (first_of _ OBJECT own_equals) refl
    (λ h. absurd (omega (arith, h.2)))

string_equals : RunsFor classes_of_values of_object (member_at STRING 0)
string_equals = record {
  method = _;
  m_is = (_, refl, refl);
  other_method = _;
  other_is = (_, refl, refl);
  is_instance = refl;
  suits = inr (refl, refl, inr (inl refl));
}

pub at_string : Selects classes_of_values STRING of_object (Some (member_at STRING 0))
at_string =
    selected_at classes_of_values STRING of_object (member_at STRING 0) _ 0 (_, refl, refl) refl (first_of _ STRING string_equals) refl
    (λ h. absurd (omega (arith, h.2)))

pub at_task : Selects classes_of_values TASK of_object (Some of_object)
at_task =
    selected_at classes_of_values TASK of_object of_object _ 1 (_, refl, refl) refl (first_of _ OBJECT own_equals) refl
    (first_alone (Declares (RunsFor classes_of_values of_object)) TASK (OBJECT ∷ [])
    (declares_none classes_of_values of_object _ TASK _ (_, refl, refl) refl (differ TASK OBJECT (λ e. absurd (omega (arith, e)))) tt))

pub at_capability : Selects classes_of_values CAPABILITY of_object (Some of_object)
at_capability =
    selected_at classes_of_values CAPABILITY of_object of_object _ 1 (_, refl, refl) refl (first_of _ OBJECT own_equals) refl
    (first_alone (Declares (RunsFor classes_of_values of_object)) CAPABILITY (OBJECT ∷ [])
    (declares_none classes_of_values of_object _ CAPABILITY _ (_, refl, refl) refl (differ CAPABILITY OBJECT (λ e. absurd (omega (arith, e)))) tt))

own_runs : RunsFor classes_of_values of_object (member_at OWN 0)
own_runs = record {
  method = _;
  m_is = (_, refl, refl);
  other_method = _;
  other_is = (_, refl, refl);
  is_instance = refl;
  suits = inr (refl, refl, inr (inl refl));
}

pub at_own : Selects classes_of_values OWN of_object (Some (member_at OWN 0))
at_own =
    selected_at classes_of_values OWN of_object (member_at OWN 0) _ 0 (_, refl, refl) refl (first_of _ OWN own_runs) refl
    (λ h. absurd (omega (arith, h.2)))

pub array_lacks_interface : Implements classes_of_values OBJECT ASKS → ⊥
array_lacks_interface = implements_not classes_of_values OBJECT ASKS refl
