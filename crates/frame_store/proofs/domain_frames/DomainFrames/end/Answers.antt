-- The emptied segment goes.
use Rattle.std.proofs.Common.{◌≡◌, ◌∙◌, List, length, sym, ap}
use Rattle.jk_model_frames.specs.Frames.{FrameState}
use Rattle.number_table.specs.ChainMoves.{place}
use Rattle.frame_store.specs.DomainMoves.{depth_of, value_at}
use Rattle.frame_store.specs.Builds.{length-build}
use Rattle.frame_store.proofs.DomainIsKept.{ended_domain}
use Rattle.frame_store.proofs.domain_frames.DomainFrames.end.Goals as goal

pub invariant_of-self : goal.invariant_of-self
invariant_of-self c =
    let d = c.empty.new.self in
    let i = c.args.slot in
    let none : depth_of d i ≡ 0 =
    sym (length-build (λ k. value_at d (place d.frames i k)) (depth_of d i)) ∙ ap (λ (xs : List FrameState). length xs) c.empty.ensures.becomes in
    record { ok = ended_domain d c.give.new.self i c.give.ensures none }
