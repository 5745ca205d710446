-- One more member's descriptor, or those of all.
use Rattle.std.proofs.Common.{◌≡◌, arith}
use Rattle.jk_model.specs.declared.class_file.MemberInfo.{MemberInfo}
use Rattle.class_linker.proofs.MarkedEntries.{marks_all, marks_more, marks_start}
use Rattle.class_linker.proofs.marks.mark_members.Goals as goal

pub loop-m-init : goal.loop-m-init
loop-m-init c = marks_start (λ i (m : MemberInfo). m.descriptor ≡ i) c.args.members.now c.args.marks.now

pub loop-m-preserved : goal.loop-m-preserved
loop-m-preserved c =
    marks_more (λ i (m : MemberInfo). m.descriptor ≡ i) c.args.members.now c.loop-m.m-index c.m-item.result _ _ _ (omega arith) c.m-item.is
    c.loop-m.invariant c.mark.ensures

pub returns : goal.returns
returns c = marks_all (λ i (m : MemberInfo). m.descriptor ≡ i) c.args.members.now c.loop-m.m-index _ _ (omega arith) c.loop-m.invariant
