-- The object of the name, and what its type is an instance of.
use Rattle.std.proofs.Common.{[], codes, refl, inl, inr, sym, subst, arith}
use Rattle.std.proofs.lemmas.Option.{same_Some}
use Rattle.jk_model_domains.specs.Objects.{Array, Object, Task, Text, type_of}
use Rattle.jk_model_heaps.specs.Examples.{IMPL, MARK, array_of, classes}
use Rattle.jk_model_heaps.specs.Instances.{IsA}
use Rattle.jk_model_heaps.proofs.TypesApart.{array_is_no}
use Rattle.jk_model_heaps.proofs.examples.instances_by_value.Goals as goal

abbrev array : Object
array = Array (array_of 0 IMPL) []

pub returns-clause-array : goal.returns-clause-array
returns-clause-array c = (array, refl, inr (inl (refl, inr ((_, refl, refl), (3, omega arith, refl)))))

pub returns-clause-array_of_no_interface : goal.returns-clause-array_of_no_interface
returns-clause-array_of_no_interface c = λ (object, is, below).
    array_is_no classes IMPL MARK refl refl refl refl
    (subst (λ (o : Object). IsA classes (type_of o) (array_of 0 MARK)) (sym (same_Some array object is)) below)

pub returns-clause-array_is_serializable : goal.returns-clause-array_is_serializable
returns-clause-array_is_serializable c = (array, refl, inr (inr (omega arith, inr (inl refl))))

pub returns-clause-text : goal.returns-clause-text
returns-clause-text c = (Text (codes "text"), refl, inl refl)

pub returns-clause-text_is_object : goal.returns-clause-text_is_object
returns-clause-text_is_object c = (Text (codes "text"), refl, inr (inl (refl, inl (1, omega arith, refl))))

pub returns-clause-task : goal.returns-clause-task
returns-clause-task c = (Task (record { 0 = 1 }), refl, inl refl)
