-- One line more, and its offer where it makes one.
use Rattle.std.proofs.Common.{ap, ◌∙◌, arith}
use Rattle.jk_model_classes.specs.declared.sharing.Offer.{Offer}
use Rattle.folder_loader.specs.OffersOfLines.{IsOfferOf, IsOneOffer}
use Rattle.folder_loader.proofs.OffersInTurn.{all_offered, offered_next, offered_same}
use Rattle.folder_loader.proofs.offers.offers_of.Goals as goal
use Rattle.folder_loader.proofs.offers.offers_of.Goals.{in-Some+in_ok-push, in_default}

pub loop-line-preserved : goal.loop-line-preserved
loop-line-preserved c =
    elim c.match-branch-2.branch [
      | in-Some+in_ok-push w ↦
          let one : IsOneOffer c.args.table.now c.line-item.result w.in-Some.offer = rw w.in-Some.is at c.in_ok-offer.ensures in
          offered_next c.args.table.now c.args.lines.now c.loop-line.line-index c.line-item.result c.loop-line.offers.items c.match-branch-2.offers.items
          w.in-Some.offer c.loop-line-test.true c.line-item.is c.loop-line.invariant one
          (ap (λ v. v.items) w.offers-is ∙ w.in_ok-push.ensures.items)
      | in_default w ↦
          let none : (o : Offer) → IsOfferOf c.args.table.now c.line-item.result o → ⊥ = rw w.in_default.is at c.in_ok-offer.ensures in
          offered_same c.args.table.now c.args.lines.now c.loop-line.line-index c.line-item.result c.loop-line.offers.items c.match-branch-2.offers.items
          c.loop-line-test.true c.line-item.is c.loop-line.invariant none (ap (λ v. v.items) w.offers-is)
    ]

pub returns : goal.returns
returns c =
    all_offered c.args.table.now c.args.lines.now c.loop-line.line-index c.loop-line.offers.items c.of.result (omega arith) c.loop-line.invariant c.of.ensures
