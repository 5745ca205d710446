-- A segment's frames are as many as numbers are on its stack.
use Rattle.std.proofs.Common.{◌<◌, ◌∙◌, arith, sym}
use Rattle.number_table.specs.ChainMoves.{place, stacks}
use Rattle.frame_store.specs.DomainMoves.{depth_of, value_at}
use Rattle.frame_store.specs.Builds.{length-build}
use Rattle.number_table.proofs.MovesKeepChains.{count_le}
use Rattle.frame_store.proofs.domain_frames.DomainFrames.depth.Goals as goal

pub overflow_cast-result : goal.overflow_cast-result
overflow_cast-result c =
    let d = c.args.self.now in
    let slot = c.requires in
    let within : c.args.slot < stacks d.frames = omega (arith, slot.0, d.ok.segments_are) in
    let few = count_le d.frames.nodes.items d.frames.stacks.items c.args.slot d.frames.ok within in
    record { fits = omega (arith, c.count.ensures, few, d.ok.frames_are, d.ok.most) }

pub returns : goal.returns
returns c =
    let d = c.args.self.now in
    c.count.ensures ∙ sym (length-build (λ k. value_at d (place d.frames c.args.slot k)) (depth_of d c.args.slot))
