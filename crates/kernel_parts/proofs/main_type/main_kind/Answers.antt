-- The descriptor is one, so it is not refused.
use Rattle.kernel_parts.proofs.DescriptorOfMain.{main-text, type_of_main}
use Rattle.kernel_parts.proofs.main_type.main_kind.Goals as goal

pub unreachable-requires : goal.unreachable-requires
unreachable-requires c =
    let none_left = c.in-Err-BadDescriptor.ensures.only type_of_main main-text in
    let refused = c.in-Err-BadDescriptor.field-0-is in
    cc
