-- By how many locals the value takes.
use Rattle.std.proofs.Common.{length, ap, arith}
use Rattle.jk_model.specs.declared.values.Value.{Value}
use Rattle.jk_model_frames.specs.Frames.{as_locals}
use Rattle.frame_store.proofs.ArgumentsInLocals.{locals_length}
use Rattle.domain_crossing.proofs.LocalsFilled.{one_local, one_put}
use Rattle.domain_crossing.proofs.arguments.put.Goals as goal

pub returns-in-Long : goal.returns-in-Long
returns-in-Long g c = λ head before top is fits.
    let two = ap (λ (v : Value). length (as_locals v)) c.in-Long.is in
    let all = locals_length before c.args.v in (
      one_put (g.F.SegmentFrames.content c.args.frames.now) (g.F.SegmentFrames.content c.set_local.new.self) c.args.n head before c.args.v c.args.at is top fits
          c.set_local.ensures,
      omega (arith, is, all, two),
    )

pub returns-in_default : goal.returns-in_default
returns-in_default g c = λ head before top is fits.
    let one = one_local c.args.v c.in_default.not-Long in
    let all = locals_length before c.args.v in (
      one_put (g.F.SegmentFrames.content c.args.frames.now) (g.F.SegmentFrames.content c.set_local.new.self) c.args.n head before c.args.v c.args.at is top fits
          c.set_local.ensures,
      omega (arith, is, all, one),
    )
