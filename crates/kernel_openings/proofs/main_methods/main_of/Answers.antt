-- What is found by the name and the type of `main` is the one `main` of the class, where it is public, static and has code.
use Rattle.std.proofs.Common.{◌≡◌, true, false, List, Some, None, ap, codes, sym, subst, ◌∙◌}
use Rattle.jk_model.specs.declared.frames.FrameHead.{FrameHead}
use Rattle.jk_model_classes.specs.declared.records.ClassRecord.{ClassRecord}
use Rattle.jk_model_classes.specs.Lookups.{FindsMethod}
use Rattle.jk_model_typing.specs.Scopes.{IsScopeOf}
use Rattle.type_rows.specs.CodeViews.{scope_of}
use Rattle.kernel_openings.proofs.MainOfAClass.{is-main, no-code, none-found, not-open}
use Rattle.kernel_openings.proofs.main_methods.main_of.Goals as goal

pub returns-in_default : goal.returns-in_default
returns-in_default c = λ m same.
    none-found m c.args.class c.args.kind.now c.requires
    (subst (λ (cs : List ClassRecord). FindsMethod cs c.args.class (codes "main") c.args.kind.now None) (sym same) c.in_default.ensures)

pub returns-in_default-of : goal.returns-in_default-of
returns-in_default-of c = λ m same.
    no-code m c.args.class c.args.kind.now c.requires c.in-Some.main
    (subst (λ (cs : List ClassRecord). FindsMethod cs c.args.class (codes "main") c.args.kind.now (Some c.in-Some.main)) (sym same) c.in-Some.ensures)
    (λ s scope. c.in_default-of.ensures.none s (subst (λ (cs : List ClassRecord). IsScopeOf cs c.in-Some.main s) same scope))

pub returns-then-not-is_open : goal.returns-then-not-is_open
returns-then-not-is_open c = λ m same.
    not-open m c.args.class c.args.kind.now c.requires c.in-Some.main
    (subst (λ (cs : List ClassRecord). FindsMethod cs c.args.class (codes "main") c.args.kind.now (Some c.in-Some.main)) (sym same) c.in-Some.ensures)
    (scope_of c.in-Some-of.view)
    (subst (λ (cs : List ClassRecord). IsScopeOf cs c.in-Some.main (scope_of c.in-Some-of.view)) (sym same) c.in-Some-of.ensures.some)
    (λ passes. (let both : true ≡ false = sym passes ∙ sym c.is_open.ensures ∙ c.if-not-is_open.true in absurd cc))

pub returns : goal.returns
returns c = λ m same. record {
  main = c.in-Some.main;
  code = (scope_of c.in-Some-of.view).code;
  is_main =
      is-main m c.args.class c.args.kind.now c.requires c.in-Some.main
      (subst (λ (cs : List ClassRecord). FindsMethod cs c.args.class (codes "main") c.args.kind.now (Some c.in-Some.main)) (sym same) c.in-Some.ensures)
      (scope_of c.in-Some-of.view)
      (subst (λ (cs : List ClassRecord). IsScopeOf cs c.in-Some.main (scope_of c.in-Some-of.view)) (sym same) c.in-Some-of.ensures.some)
      (sym c.is_open.ensures ∙ c.if-not-is_open.false);
  head_is = ap (λ (h : FrameHead). record h { need = Some c.args.class }) c.call_head.ensures;
}
