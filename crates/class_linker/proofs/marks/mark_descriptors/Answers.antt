-- Those of fields, then those of methods, then those of NameAndType entries.
use Rattle.class_linker.proofs.MarkedEntries.{descriptors_marked}
use Rattle.class_linker.proofs.marks.mark_descriptors.Goals as goal

pub returns : goal.returns
returns c =
    descriptors_marked c.args.c.now _ _ _ c.args.marks.now c.mark_members.new.marks c.mark_members-2.new.marks c.mark_pairs.new.marks c.as_slice.ensures
    c.as_slice-2.ensures c.as_slice-3.ensures c.requires c.mark_members.ensures c.mark_members-2.ensures c.mark_pairs.ensures
