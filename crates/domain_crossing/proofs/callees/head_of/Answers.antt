-- One rule after another.
use Rattle.std.proofs.Common.{◌≡◌, false, true, Option, Ok, refl, sym, subst, ◌∙◌}
use Rattle.jk_model.specs.declared.frames.FrameHead.{FrameHead}
use Rattle.jk_model.specs.declared.identifiers.MemberId.{MemberId}
use Rattle.jk_model_classes.specs.Lookups.{Selects}
use Rattle.domain_crossing.specs.CalleesFound.{FindsHead}
use Rattle.domain_crossing.proofs.CalleesMet.{selected_is}
use Rattle.domain_crossing.proofs.callees.head_of.Goals as goal

pub returns-then-not-shows : goal.returns-then-not-shows
returns-then-not-shows c = FindsHead.not_shown (λ h. let never : false ≡ true = c.if-not-shows.ensures.1 h in cc)

pub returns-in_default : goal.returns-in_default
returns-in_default c =
    FindsHead.no_method (c.if-not-shows.ensures.0 refl)
    (subst (λ (o : Option MemberId). Selects c.args.t.now c.args.class c.args.method o) c.in_default.is c.select.ensures)

pub unreachable-requires : goal.unreachable-requires
unreachable-requires c =
    let is = selected_is c.args.t.now c.args.class c.args.method c.in-Some.target
    (subst (λ (o : Option MemberId). Selects c.args.t.now c.args.class c.args.method o) c.in-Some.is c.select.ensures) in
    c.in_default-method_record.ensures.none is.0 is.1

pub returns-in_default-body : goal.returns-in_default-body
returns-in_default-body c =
    FindsHead.no_code c.in-Some.target c.in-Some-method_record.record.now (c.if-not-shows.ensures.0 refl)
    (subst (λ (o : Option MemberId). Selects c.args.t.now c.args.class c.args.method o) c.in-Some.is c.select.ensures)
    c.in-Some-method_record.ensures.some (λ code e. c.in_default-body.not-Linked code e)

pub returns-then-has : goal.returns-then-has
returns-then-has c =
    subst (λ (h : FrameHead). FindsHead c.args.t.now c.args.class c.args.method (Ok h)) (sym c.call_head.ensures)
    (FindsHead.found c.in-Some.target c.in-Some-method_record.record.now c.in-Linked.code (c.if-not-shows.ensures.0 refl)
    (subst (λ (o : Option MemberId). Selects c.args.t.now c.args.class c.args.method o) c.in-Some.is c.select.ensures)
    c.in-Some-method_record.ensures.some c.in-Linked.is (sym c.has.ensures ∙ c.if-has.true))

pub returns-else-has : goal.returns-else-has
returns-else-has c =
    FindsHead.not_public c.in-Some.target c.in-Some-method_record.record.now c.in-Linked.code (c.if-not-shows.ensures.0 refl)
    (subst (λ (o : Option MemberId). Selects c.args.t.now c.args.class c.args.method o) c.in-Some.is c.select.ensures)
    c.in-Some-method_record.ensures.some c.in-Linked.is
    (λ public. let both : true ≡ false = sym public ∙ sym c.has.ensures ∙ c.if-has.false in cc)
