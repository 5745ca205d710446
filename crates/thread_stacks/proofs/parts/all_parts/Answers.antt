-- A live thread is put behind the others.
use Rattle.std.proofs.Common.{sym, ◌∙◌}
use Rattle.std.proofs.lemmas.Option.{slice_get-get_or}
use Rattle.thread_stacks.proofs.StacksListed.{goes_on_with, goes_on_without}
use Rattle.thread_stacks.proofs.parts.all_parts.Goals as goal
use Rattle.thread_stacks.proofs.parts.all_parts.Goals.{then-is_some+in_ok-stack_parts+in_ok-push, else-is_some}

pub loop-entry-preserved : goal.loop-entry-preserved
loop-entry-preserved c =
    let k = c.loop-entry.entry-index in
    let slots = c.args.slots.now in
    let at = slice_get-get_or c.args.entries.now k _ c.loop-entry-test.true in
    elim c.if-is_some.branch [
      | then-is_some+in_ok-stack_parts+in_ok-push w ↦
          goes_on_with slots c.args.entries.now k _ at (c.requires.tops k _ at) (sym c.is_some.ensures ∙ w.if-is_some.true) c.loop-entry.parts
          c.if-is_some.parts _ w.in_ok-stack_parts.ensures c.loop-entry.invariant (w.parts-is ∙ w.in_ok-push.ensures.ok)
      | else-is_some w ↦
          goes_on_without slots c.args.entries.now k _ at (c.requires.tops k _ at) (sym c.is_some.ensures ∙ w.if-is_some.false) c.loop-entry.parts
          c.if-is_some.parts c.loop-entry.invariant w.parts-is
    ]
