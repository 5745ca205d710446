-- The domain that is loaded offers by the list, another by its own.
use Rattle.std.proofs.Common.{sym, ◌∙◌, ap, rules}
use Rattle.std.proofs.lemmas.Bool.{eqb-false}
use Rattle.jk_model.specs.declared.identifiers.DomainId.{DomainId}
use Rattle.shared_interfaces.proofs.GoesAlongByHome.{own_offers, others_offers}
use Rattle.shared_interfaces.proofs.references.is_offered_by.Goals as goal

pub returns-then-eq : goal.returns-then-eq
returns-then-eq c =
    own_offers c.args.w.now c.args.home c.args.offers.now c.args.to.now c.args.c c.args.d c.goes_along.result (search rules) c.goes_along.ensures

pub returns-in-Some : goal.returns-in-Some
returns-in-Some c =
    others_offers c.args.w.now c.args.home c.args.offers.now c.args.to.now c.args.c c.args.d
    (λ same. eqb-false c.args.d.0 c.args.home.0 (sym c.eq.ensures ∙ c.if-eq.false) (ap (λ (x : DomainId). x.0) same))
    c.goes_along-in-Some.result c.in-Some.domain.now (sym c.in-Some.ensures) (rw c.offers.ensures at c.goes_along-in-Some.ensures)
