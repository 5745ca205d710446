-- The interfaces of the classes, by their places among what a class implements.
use Rattle.std.proofs.Common.{refl, inl, inr, arith}
use Rattle.jk_model_classes.specs.Classes.{OBJECT}
use Rattle.jk_model_heaps.specs.Examples.{IMPL, MARK, classes}
use Rattle.jk_model_heaps.proofs.TypesApart.{array_is_no, never_a}
use Rattle.jk_model_heaps.proofs.examples.arrays_of_interfaces.Goals as goal

pub returns-clause-listed : goal.returns-clause-listed
returns-clause-listed c = inr (inl (refl, inr ((_, refl, refl), (3, omega arith, refl))))

pub returns-clause-of_class_above : goal.returns-clause-of_class_above
returns-clause-of_class_above c = inr (inl (refl, inr ((_, refl, refl), (4, omega arith, refl))))

pub returns-clause-above_interface : goal.returns-clause-above_interface
returns-clause-above_interface c = inr (inl (refl, inr ((_, refl, refl), (3, omega arith, refl))))

pub returns-clause-objects : goal.returns-clause-objects
returns-clause-objects c = inr (inl (refl, inl (1, omega arith, refl)))

pub returns-clause-no_interface : goal.returns-clause-no_interface
returns-clause-no_interface c = never_a classes OBJECT MARK refl refl refl 1

pub returns-clause-no_class : goal.returns-clause-no_class
returns-clause-no_class c = never_a classes MARK IMPL refl refl refl 1

pub returns-clause-no_array : goal.returns-clause-no_array
returns-clause-no_array c = array_is_no classes IMPL MARK refl refl refl refl
