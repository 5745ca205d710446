-- The descriptors of the members so far are marked.
use Rattle.std.proofs.Common.{◌≡◌}
use Rattle.jk_model.specs.declared.class_file.MemberInfo.{MemberInfo}
use Rattle.jk_model_classes.specs.Items.{HasItemBefore}
use Rattle.name_rules.specs.Marks.{Marks}
use Rattle.class_linker.proofs.marks.mark_members.Given as goal

abbrev pub invariant-loop-m : goal.invariant-loop-m
invariant-loop-m l = Marks (λ i. HasItemBefore l.m-index (λ (m : MemberInfo). m.descriptor ≡ i) l.members) l.initial.marks l.marks
