-- The class is complete, or none was said, or a method has not ended.
use Rattle.std.proofs.Common.{◌≡◌, ◌∙◌, sym, ap, subst}
use Rattle.jkasm.proofs.CompleteClass.{class_of, IsFileOf, complete_class}
use Rattle.jkasm.proofs.class_builder.ClassBuilder.into_class.Goals as goal

pub returns : goal.returns
returns c = λ o later constants built just.
    let b = c.args.self in
    let h = c.in_ok-header.field-0 in
    let pools = c.into_entries.ensures.same in
    let file = rw pools at c.into_entries.ensures.file in
    let is : c.into_file-file.result ≡ class_of b h b.pool = c.into_file-file.ensures.parts ∙ ap (λ pool. class_of b h pool) pools in
    subst (IsFileOf o constants) (sym is)
    (complete_class o later constants b h built just c.in_ok-header.was (sym c.if-is_some.ensures) file c.into_file-file.ensures.numbers)
