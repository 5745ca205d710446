-- What the segment's domain has beside the segment is picked when it is lent.
use Rattle.frame_store.specs.LentSegments.{beside_of}
use Rattle.frame_store.proofs.plain_frames.PlainFramesFrameStore.with_segment.Given as goal

abbrev pub ghosts-lend : goal.ghosts-lend
ghosts-lend g a = record { beside = beside_of a.domain.now a.cursor.now }
