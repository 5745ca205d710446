-- The class goes along with an offer to all and so with each, or each offer is asked in turn.
use Rattle.std.proofs.Common.{◌≡◌, ◌<◌, ◌≤◌, ◌↔◌, IsTrue, Some, refl, sym, subst, length, slice_get, arith}
use Rattle.std.proofs.lemmas.Option.{slice_get_read}
use Rattle.list_lemmas.proofs.AnswersTold.{not_so}
use Rattle.jk_model_classes.specs.declared.sharing.Offer.{Offer}
use Rattle.jk_model_classes.specs.SharedRules.{GoesAlong}
use Rattle.shared_interfaces.proofs.GoesAlongByHome.{goes_with_each}
use Rattle.shared_interfaces.proofs.OffersClassByClass.{none_stays_on}
use Rattle.shared_interfaces.proofs.references.stays_behind.Goals as goal

pub returns-then-goes_along : goal.returns-then-goes_along
returns-then-goes_along c =
    let all = c.goes_along.ensures.0 c.if-goes_along.true in (
      λ t. absurd cc,
      λ (i, o, low, below, at, never). absurd (never (goes_with_each c.args.w.now c.args.home c.args.offers.now o.to c.args.c all)),
    )

pub returns-then-not-goes_along : goal.returns-then-not-goes_along
returns-then-not-goes_along c =
    let offers = c.args.offers.now in
    let i = c.loop-i.i in
    let o = c.index-all-i.result in
    let low : c.args.start ≤ i = omega arith in
    let below : i < c.args.end = omega arith in
    let within : i < length offers = omega arith in
    let at : slice_get offers i ≡ Some o = slice_get_read offers (length offers) i o refl within (rw c.as_slice-all.ensures at c.index-all-i.is) in
    let tells : IsTrue c.goes_along-in-loop-i.result ↔ GoesAlong c.args.w.now c.args.home offers o.to c.args.c =
    subst (λ (x : Offer). IsTrue c.goes_along-in-loop-i.result ↔ GoesAlong c.args.w.now c.args.home offers x.to c.args.c) (sym c.index-all-i.is)
    c.goes_along-in-loop-i.ensures in
    let never = not_so c.goes_along-in-loop-i.result _ tells c.if-not-goes_along.true in
    (λ t. (i, o, low, below, at, never), λ h. refl)

pub loop-i-preserved : goal.loop-i-preserved
loop-i-preserved c =
    let offers = c.args.offers.now in
    let i = c.loop-i.i in
    let o = c.index-all-i.result in
    let within : i < length offers = omega arith in
    let at : slice_get offers i ≡ Some o = slice_get_read offers (length offers) i o refl within (rw c.as_slice-all.ensures at c.index-all-i.is) in
    let tells : IsTrue c.goes_along-in-loop-i.result ↔ GoesAlong c.args.w.now c.args.home offers o.to c.args.c =
    subst (λ (x : Offer). IsTrue c.goes_along-in-loop-i.result ↔ GoesAlong c.args.w.now c.args.home offers x.to c.args.c) (sym c.index-all-i.is)
    c.goes_along-in-loop-i.ensures in
    none_stays_on c.args.w.now c.args.home offers c.args.start c.args.c i o at (tells.0 c.if-not-goes_along.false) c.loop-i.invariant
