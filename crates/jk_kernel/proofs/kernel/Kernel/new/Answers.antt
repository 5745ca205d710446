-- The first machine is sound.
use Rattle.jk_kernel.proofs.kernel.Kernel.new.Goals as goal

pub invariant_of-result : goal.invariant_of-result
invariant_of-result g c =
    c.machines_stay_sound.ensures.first (g.H.ObjectStore.content c.args.heap).pages (g.F.SegmentFrames.content c.args.frames).pages
    c.in_ok-parts.parts c.in_ok-parts.ensures
