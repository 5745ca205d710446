-- The threads are those that are kept.
use Rattle.std.proofs.Common.{option_map, subst}
use Rattle.jk_model_sharing.specs.SharedStates.{SharedState}
use Rattle.thread_segments.specs.Answers.{EndsWith, IsLeastAbove, thread_number}
use Rattle.thread_segments.proofs.shared.Shared.next_ending.Goals as goal

pub returns : goal.returns
returns c =
    let P : SharedState → Type 0 = λ x. IsLeastAbove (EndsWith x.threads c.args.d) c.args.above (option_map thread_number c.next_ending.result) in
    subst P c.self.view_is c.next_ending.ensures
