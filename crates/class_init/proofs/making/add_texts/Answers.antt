-- The texts of the pool are added, and then the constants.
use Rattle.class_init.specs.TextsAdded.{AddsTexts, IsOfSome, LeadsTo}
use Rattle.class_init.proofs.TextsInTurn.{class_added}
use Rattle.class_init.proofs.making.add_texts.Goals as goal

pub returns : goal.returns
returns c =
    let r = c.args.class.now in
    let linked : AddsTexts (IsOfSome LeadsTo r.links) c.args.texts.now c.add_linked.new.texts = rw c.as_slice.ensures at c.in_ok-add_linked.ensures in
    class_added c.add_constants.result r c.args.texts.now c.add_linked.new.texts c.add_constants.new.texts linked
    (rw c.as_slice-2.ensures at c.add_constants.ensures)
