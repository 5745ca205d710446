-- The first parts are sound, and their machine is the first one.
use Rattle.kernel_parts.proofs.FirstParts.{first_machine, first_parts}
use Rattle.kernel_parts.proofs.WorldOfSystem.{world-of-system}
use Rattle.kernel_parts.proofs.parts.KernelParts.new.Goals as goal

pub invariant_of-result : goal.invariant_of-result
invariant_of-result g c =
    let w = c.in_ok-world.world in
    let system = c.in_ok-world.ensures.classes in
    let none = c.in_ok-world.ensures.domains in
    first_parts w (g.H.ObjectStore.content c.args.heap) (g.F.SegmentFrames.content c.args.frames) c.in_ok-main_kind.main_kind system none
    c.first_machines_are_known.ensures.known (world-of-system w system none c.holds.ensures.ordered)
    (g.met.H.ObjectStore.holds c.args.heap) (g.met.F.FrameStore.holds c.args.frames) c.requires.no_domains c.requires.no_segments
    c.in_ok-main_kind.ensures c.new-3.result.items c.in_ok-shared.shared c.new-3.ensures.items c.in_ok-shared.ensures
