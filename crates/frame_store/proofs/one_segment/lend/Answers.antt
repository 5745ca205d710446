-- The cursor that is written field by field is the one that the loan had.
use Rattle.std.proofs.Common.{rules}
use Rattle.frame_store.specs.declared.cursor.Cursor.{Cursor}
use Rattle.frame_store.specs.declared.domain_frames.DomainFrames.{DomainFrames}
use Rattle.frame_store.specs.LentSegments.{Beside, IsAtSegment, StaysBeside}
use Rattle.frame_store.proofs.one_segment.lend.Goals as goal

-- the search looks for these at a cursor by its name, and not field by field
at_cursor : (x : DomainFrames) (c : Cursor) → IsAtSegment x c → IsAtSegment x c
at_cursor x c at = at

beside_cursor : (b : Beside) (x : DomainFrames) (c : Cursor) → StaysBeside b x c → StaysBeside b x c
beside_cursor b x c stays = stays

pub returns-clause-right : goal.returns-clause-right
returns-clause-right g c = at_cursor _ c.run.new.frames.at (search rules)

pub returns-clause-beside : goal.returns-clause-beside
returns-clause-beside g c = beside_cursor g.K.Lending.beside _ c.run.new.frames.at (search rules)
