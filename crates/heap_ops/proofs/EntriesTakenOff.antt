-- Entries that are to be taken off the stack are there.
use Rattle.std.proofs.Common.{ℕ, ap, arith, length}
use Rattle.std.proofs.lemmas.List.{length-append}
use Rattle.jk_model.specs.declared.identifiers.SegmentNo.{SegmentNo}
use Rattle.frame_store.specs.FrameContents.{FrameContent}
use Rattle.frame_store.specs.FrameContents.{HasEntries as HasAsMany}
use Rattle.heap_ops.specs.TopEntries.{HasEntries}

pub has_as_many : (c : FrameContent) (s : SegmentNo) (count : ℕ) → HasEntries c s count → HasAsMany c s count
has_as_many c s count h = (h.frame, h.top, omega (arith, ap length h.stack, length-append h.below h.entries, h.many))
