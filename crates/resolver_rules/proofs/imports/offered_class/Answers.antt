-- Nothing is offered where there is no such live domain, or it doesn't offer what the name means.
use Rattle.std.proofs.Common.{◌≡◌, ◌∙◌, ap, sym, subst, Some, None}
use Rattle.std.proofs.lemmas.Bool.{iff_false}
use Rattle.std.proofs.lemmas.Option.{same_Some}
use Rattle.jk_model.specs.declared.identifiers.ClassId.{ClassId}
use Rattle.jk_model_classes.specs.Worlds.{IsOfferedTo, class_named, domain_of}
use Rattle.resolver_rules.proofs.LinesBringIn.{none_offered}
use Rattle.resolver_rules.proofs.imports.offered_class.Goals as goal

pub returns-in_err-number : goal.returns-in_err-number
returns-in_err-number c = rw c.from_residual.ensures (λ x offered. c.in_err-number.ensures offered.0 offered.2)

pub returns-in_err-class : goal.returns-in_err-class
returns-in_err-class c =
    let at : domain_of c.args.w.now c.in_ok-number.number ≡ Some c.in_ok-domain.domain.now = sym c.in_ok-domain.ensures in
    let none : None ≡ class_named c.in_ok-domain.domain.now.table c.args.name.now =
    c.in_err-class.ensures ∙ ap (λ t. class_named t c.args.name.now) c.table.ensures in
    rw c.from_residual-in_err-class.ensures (none_offered c.args.w.now c.args.into.now c.requires c.args.from.now c.args.name.now
    c.in_ok-number.number c.in_ok-domain.domain.now c.in_ok-number.ensures at (λ x means to. (let both : None ≡ Some x = none ∙ means in cc)))

pub returns-else-is_offered_to : goal.returns-else-is_offered_to
returns-else-is_offered_to c =
    let at : domain_of c.args.w.now c.in_ok-number.number ≡ Some c.in_ok-domain.domain.now = sym c.in_ok-domain.ensures in
    let found : Some c.in_ok-class.class ≡ class_named c.in_ok-domain.domain.now.table c.args.name.now =
    c.in_ok-class.ensures ∙ ap (λ t. class_named t c.args.name.now) c.table.ensures in
    let not_to : IsOfferedTo c.in_ok-domain.domain.now.offers c.in_ok-class.class c.args.into.now → ⊥ =
    λ to. iff_false c.is_offered_to.ensures c.if-is_offered_to.false (rw c.offers.ensures to) in
    none_offered c.args.w.now c.args.into.now c.requires c.args.from.now c.args.name.now c.in_ok-number.number c.in_ok-domain.domain.now
    c.in_ok-number.ensures at
    (λ x means to. not_to (subst (λ (y : ClassId). IsOfferedTo c.in_ok-domain.domain.now.offers y c.args.into.now)
    (same_Some x c.in_ok-class.class (sym means ∙ sym found)) to))
