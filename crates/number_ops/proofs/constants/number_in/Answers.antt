-- The operand leads to an int or a long.
use Rattle.std.proofs.Common.{◌≡◌, rules, sym, ap, subst, ◌∙◌, inl, inr}
use Rattle.std.specs.Int.{cast_signed, cast_unsigned, w32, w64}
use Rattle.jk_model_classes.specs.declared.records.Link.TheVariants as To
use Rattle.jk_model_typing.specs.Scopes.{LeadsToLink}
use Rattle.type_rows.specs.CodeViews.{scope_of}
use Rattle.number_ops.proofs.constants.number_in.Goals as goal

pub unreachable-requires : goal.unreachable-requires
unreachable-requires c = elim c.requires [
  | inl int ↦ c.in_default.not-Int int.0 (sym (c.in-Some.ensures.only (To.Int int.0) int.1))
  | inr long ↦ c.in_default.not-Long long.0 (sym (c.in-Some.ensures.only (To.Long long.0) long.1))
]

pub unreachable-requires-in-None : goal.unreachable-requires-in-None
unreachable-requires-in-None c = elim c.requires [
  | inl int ↦ c.in-None.ensures (To.Int int.0) int.1
  | inr long ↦ c.in-None.ensures (To.Long long.0) long.1
]

pub returns-in-Int : goal.returns-in-Int
returns-in-Int c =
    let round : cast_signed w32 (cast_unsigned w32 c.in-Int.n) ≡ c.in-Int.n = search rules in
    subst (LeadsToLink (scope_of c.args.view.now) c.args.i.now) (c.in-Int.is ∙ ap To.Int (sym round)) c.in-Some.ensures.leads

pub returns-in-Long : goal.returns-in-Long
returns-in-Long c =
    let round : cast_signed w64 (cast_unsigned w64 c.in-Long.n) ≡ c.in-Long.n = search rules in
    subst (LeadsToLink (scope_of c.args.view.now) c.args.i.now) (c.in-Long.is ∙ ap To.Long (sym round)) c.in-Some.ensures.leads
