-- The cursor has the top frame's number, and where its values are.
use Rattle.std.proofs.Common.{refl, arith}
use Rattle.frame_store.proofs.domain_frames.DomainFrames.aim_at.Goals as goal

pub returns : goal.returns
returns c =
    record {
      segment = refl;
      place = refl;
      domain = refl;
      frame = c.requires.top;
      values = record {
        start = c.requires.start;
        base = omega (arith, c.from.ensures, c.requires.start, c.locals-locals.ensures);
        room = omega (arith, c.locals-locals.ensures, c.saturating_sub-c.ensures);
      };
    }
