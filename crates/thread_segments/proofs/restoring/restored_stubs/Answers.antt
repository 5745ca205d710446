-- There was no stub before.
use Rattle.std.proofs.Common.{◌∙◌, ◌++◌, List, ap}
use Rattle.jk_model_classes.specs.declared.sharing.Stub.{Stub}
use Rattle.thread_segments.proofs.restoring.restored_stubs.Goals as goal

pub returns : goal.returns
returns c = c.add.ensures ∙ ap (λ (xs : List Stub). xs ++ c.args.stubs) (c.in_ok-reserve.ensures.same ∙ c.new-index.ensures)
