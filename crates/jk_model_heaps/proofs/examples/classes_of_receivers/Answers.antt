-- The object of the name is one, and so is its class.
use Rattle.std.proofs.Common.{◌≡◌, ℕ, [], Some, codes, sym, ap, ◌∙◌, refl}
use Rattle.std.proofs.lemmas.Option.{same_Some}
use Rattle.jk_model.specs.declared.identifiers.ClassId.{ClassId}
use Rattle.jk_model_domains.specs.Objects.{Array, Object, Plain, Task, Text, object_named}
use Rattle.jk_model_heaps.specs.Examples.{IMPL, array_of, one_of_each}
use Rattle.jk_model_heaps.specs.Instances.{run_class}
use Rattle.jk_model_heaps.proofs.examples.classes_of_receivers.Goals as goal

one_class : (a : ℕ) (object : Object) → object_named one_of_each a ≡ Some object → (class : ClassId)
    → ((other : Object) × (object_named one_of_each a ≡ Some other) × (class ≡ run_class other)) → class ≡ run_class object
one_class a object is class (other, also, same) = same ∙ ap run_class (same_Some other object (sym also ∙ is))

pub returns-clause-plain : goal.returns-clause-plain
returns-clause-plain c = λ class runs. one_class 1 (Plain IMPL []) refl class runs

pub returns-clause-array : goal.returns-clause-array
returns-clause-array c = λ class runs. one_class 2 (Array (array_of 0 IMPL) []) refl class runs

pub returns-clause-is_array : goal.returns-clause-is_array
returns-clause-is_array c = (Array (array_of 0 IMPL) [], refl, refl)

pub returns-clause-text : goal.returns-clause-text
returns-clause-text c = λ class runs. one_class 3 (Text (codes "text")) refl class runs

pub returns-clause-is_text : goal.returns-clause-is_text
returns-clause-is_text c = (Text (codes "text"), refl, refl)

pub returns-clause-task : goal.returns-clause-task
returns-clause-task c = λ class runs. one_class 4 (Task (record { 0 = 1 })) refl class runs

pub returns-clause-is_task : goal.returns-clause-is_task
returns-clause-is_task c = (Task (record { 0 = 1 }), refl, refl)
