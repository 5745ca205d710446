-- The method has one record.
use Rattle.std.proofs.Common.{◌≡◌, IsTrue, true, false, sym, ◌∙◌, subst}
use Rattle.jk_model.specs.Flags.{has, FINAL}
use Rattle.jk_model_classes.specs.declared.records.MethodRecord.{MethodRecord}
use Rattle.class_lemmas.proofs.OneRecord.{one_method}
use Rattle.link_rules.proofs.final_methods.is_final_in.Goals as goal

pub returns-then-has : goal.returns-then-has
returns-then-has c =
    let m = c.in-Some.method.now in (
      λ t.
          let (f, is, over) = c.overrides.ensures.0 t in
          let same : m ≡ f = one_method c.args.t.now c.args.m m f c.in-Some.ensures.some is in
          (f, is, subst (λ (r : MethodRecord). IsTrue (has r.flags FINAL)) same (sym c.has.ensures ∙ c.if-has.true), over),
      λ (f, is, marked, over). c.overrides.ensures.1 (f, is, over),
    )

pub returns-else-has : goal.returns-else-has
returns-else-has c =
    let m = c.in-Some.method.now in (
      λ t. absurd cc,
      λ (f, is, marked, over).
          let same : f ≡ m = one_method c.args.t.now c.args.m f m is c.in-Some.ensures.some in
          let marked_m : has m.flags FINAL ≡ true = subst (λ (r : MethodRecord). IsTrue (has r.flags FINAL)) same marked in
          let z : false ≡ true = sym c.if-has.false ∙ c.has.ensures ∙ marked_m in
          absurd cc,
    )

pub returns-in-None : goal.returns-in-None
returns-in-None c = (λ t. absurd cc, λ (f, is, marked, over). absurd (c.in-None.ensures.none f is))
