-- The offers of the next class are looked at, and the better of two is kept.
use Rattle.std.proofs.Common.{◌≡◌, ◌<◌, ◌↔◌, IsTrue, Some, refl, sym, subst, length, slice_get}
use Rattle.std.proofs.lemmas.Option.{slice_get_read}
use Rattle.jk_model_classes.specs.declared.sharing.Offer.{Offer}
use Rattle.shared_interfaces.specs.Earliest.{IsEarlier}
use Rattle.shared_interfaces.specs.Shapes.{ExposedBefore, ExposesInRun, IsRun}
use Rattle.shared_interfaces.proofs.FirstClass.{one_more}
use Rattle.shared_interfaces.proofs.OffersClassByClass.{all_offers, least_by_itself, next_run}
use Rattle.shared_interfaces.proofs.references.first_exposed.Goals as goal

pub loop-start-preserved : goal.loop-start-preserved
loop-start-preserved c =
    let w = c.args.w.now in
    let home = c.args.home in
    let first = c.args.first in
    let offers = c.args.offers.now in
    let start = c.loop-start.start in
    let end = c.end_of_run-end.result in
    let o = c.index-all-start.result in
    let within : start < length offers = rw c.as_slice-all.ensures at c.loop-start-test.true in
    let at : slice_get offers start ≡ Some o = slice_get_read offers (length offers) start o refl within (rw c.as_slice-all.ensures at c.index-all-start.is) in
    let run : IsRun offers start end = rw c.as_slice-all.ensures at c.end_of_run-end.ensures in
    let tells : IsTrue c.exposes.result ↔ ExposesInRun w home first offers start end o.class =
    subst (λ (x : Offer). IsTrue c.exposes.result ↔ ExposesInRun w home first offers start end x.class) (sym c.index-all-start.is) c.exposes.ensures in
    let chosen : IsEarlier w.classes c.loop-start.best o.class c.then_some-number.result c.earlier-best.result =
    subst (λ (x : Offer). IsEarlier w.classes c.loop-start.best x.class c.then_some-number.result c.earlier-best.result) (sym c.index-all-start.is)
    (rw c.classes.ensures at c.earlier-best.ensures) in
    one_more w.classes (ExposedBefore start w home first offers) o.class (λ n. (n ≡ 0) × ExposesInRun w home first offers start end o.class)
    (ExposedBefore end w home first offers)
    (next_run w home first offers start end o.class o at refl run) c.loop-start.best c.then_some-number.result c.earlier-best.result c.loop-start.invariant
    (rw c.then_some-number.ensures (least_by_itself (ExposesInRun w home first offers start end o.class) c.exposes.result tells)) chosen

pub returns : goal.returns
returns c =
    all_offers c.args.w.now c.args.home c.args.first c.args.offers.now c.loop-start.start
    (rw c.as_slice-all.ensures at c.loop-start-test.false) c.loop-start.best
    c.loop-start.invariant
