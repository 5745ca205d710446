-- The threads are those that are kept.
use Rattle.std.proofs.Common.{subst}
use Rattle.jk_model_sharing.specs.SharedStates.{SharedState}
use Rattle.thread_segments.specs.Answers.{IsLeastAbove, IsLiveNumber}
use Rattle.thread_segments.proofs.shared.Shared.next_live.Goals as goal

pub returns : goal.returns
returns c =
    let P : SharedState → Type 0 = λ x. IsLeastAbove (IsLiveNumber x.threads) c.args.above c.next_live.result in
    subst P c.self.view_is c.next_live.ensures
