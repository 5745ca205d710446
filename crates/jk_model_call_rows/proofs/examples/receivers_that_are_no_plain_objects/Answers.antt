-- The class at which each value's method is looked for, and what is selected there.
use Rattle.std.proofs.Common.{refl, inr}
use Rattle.jk_model_classes.specs.Classes.{OBJECT}
use Rattle.jk_model_typing.specs.FrameTypes.{STRING}
use Rattle.jk_model_domains.specs.Objects.{Array, CAPABILITY, Plain, TASK, Task, Text, class_type}
use Rattle.jk_model_call_rows.specs.Examples.{OWN, member_at}
use Rattle.jk_model_call_rows.proofs.ReceiversOfExamples.{at_capability, at_object, at_own, at_string, at_task, of_object}
use Rattle.jk_model_call_rows.proofs.examples.receivers_that_are_no_plain_objects.Goals as goal

pub returns-clause-text : goal.returns-clause-text
returns-clause-text c = λ heap a units stands. (STRING, (Text units, stands, refl), inr (member_at STRING 0, at_string, refl))

pub returns-clause-array : goal.returns-clause-array
returns-clause-array c = λ heap a items stands. (OBJECT, (Array (class_type OWN) items, stands, refl), inr (of_object, at_object, refl))

pub returns-clause-task : goal.returns-clause-task
returns-clause-task c = λ heap a s stands. (TASK, (Task s, stands, refl), inr (of_object, at_task, refl))

pub returns-clause-capability : goal.returns-clause-capability
returns-clause-capability c = λ heap k. (CAPABILITY, refl, inr (of_object, at_capability, refl))

pub returns-clause-plain : goal.returns-clause-plain
returns-clause-plain c = λ heap a fields stands. (OWN, (Plain OWN fields, stands, refl), inr (member_at OWN 0, at_own, refl))
