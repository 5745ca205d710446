-- The number at a depth is that of the frame there.
use Rattle.std.proofs.Common.{◌∙◌, Some, sym, ap}
use Rattle.number_table.specs.ChainMoves.{place}
use Rattle.frame_store.specs.DomainMoves.{depth_of, value_at}
use Rattle.frame_store.specs.Builds.{get-build}
use Rattle.frame_store.proofs.domain_frames.DomainFrames.frame.Goals as goal

pub returns-clause-frame : goal.returns-clause-frame
returns-clause-frame c =
    let d = c.args.self.now in
    get-build (λ k. value_at d (place d.frames c.args.slot k)) (depth_of d c.args.slot) c.args.depth c.requires.there
    ∙ ap (λ g. Some (value_at d g)) (sym c.at.ensures.at)
