-- The cursor moves where there is a frame.
use Rattle.std.proofs.Common.{refl}
use Rattle.frame_store.proofs.CursorPoints.{has_no_depth}
use Rattle.frame_store.proofs.domain_frames.DomainFrames.pop_top.Goals as goal

pub returns-else-depth-gt0-clause-aims : goal.returns-else-depth-gt0-clause-aims
returns-else-depth-gt0-clause-aims c =
    let y = c.pop.new.self in
    let i = c.args.c.now.place.slot in
    record {
      segment = refl;
      place = refl;
      domain = refl;
      frame = λ top. absurd (has_no_depth y i c.depth.result c.depth.ensures c.if-depth-gt0.false top);
      values = λ top. absurd (has_no_depth y i c.depth.result c.depth.ensures c.if-depth-gt0.false top);
    }
