-- What catches has no need.
use Rattle.std.proofs.Common.{sym, ◌∙◌}
use Rattle.std.proofs.lemmas.Option.{none-some}
use Rattle.jk_model_unwinding.proofs.examples.frame_with_a_need_catches_nothing.Goals as goal

pub returns : goal.returns
returns c = λ x heap f a class need h catches. none-some class (sym catches.no_need ∙ need)
