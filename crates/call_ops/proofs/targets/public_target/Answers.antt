-- What is selected is there, and may not be public.
use Rattle.std.proofs.Common.{inl, inr, not, refl, sym, ap, ◌∙◌}
use Rattle.call_ops.proofs.SelectedIsMethod.{selected_is_method}
use Rattle.call_ops.proofs.targets.public_target.Goals as goal

pub unreachable-requires : goal.unreachable-requires
unreachable-requires c =
    let there = selected_is_method c.args.t.now c.args.class c.args.named c.in-Some.m c.in-Some.ensures in
    c.in-None-method_record.ensures.none there.0 there.1

pub returns-else-has : goal.returns-else-has
returns-else-has c =
    inr (inl (
      c.in-Some.m,
      c.in-Some-method_record.method.now,
      c.in-Some.ensures,
      c.in-Some-method_record.ensures.some,
      ap not (sym c.has.ensures ∙ c.if-has.false),
      refl,
    ))
