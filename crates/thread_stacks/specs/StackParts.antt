-- Threads as plain lists have them.
use Rattle.std.specs.Prelude.{map}
use Rattle.jk_model_sharing.specs.Segments.{SharedSegment, SharedThread}
use Rattle.thread_stacks.specs.declared.parts.SegmentPart.{SegmentPart}
use Rattle.thread_stacks.specs.declared.parts.ThreadPart.{ThreadPart}

abbrev pub segment_part : SharedSegment → SegmentPart
segment_part s = record {
  number = s.number;
  domain = s.domain;
  suspended = s.suspended;
  stop = s.stop;
  revoked = s.revoked;
  orphan = s.orphan;
}

abbrev pub thread_part : SharedThread → ThreadPart
thread_part t = record { number = t.number; domain = t.domain; segments = map segment_part t.segments }
