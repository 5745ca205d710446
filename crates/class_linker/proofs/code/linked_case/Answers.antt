-- The target is passed on as it is.
use Rattle.std.proofs.Common.{ℤ, SFits, w32, rules, subst, sym}
use Rattle.std.proofs.lemmas.Int.{to_z-of_z}
use Rattle.class_linker.specs.KnownCodes.{HasPlace}
use Rattle.class_linker.proofs.code.linked_case.Goals as goal

pub target_at-requires-clause-there : goal.target_at-requires-clause-there
target_at-requires-clause-there c =
    let fits : SFits w32 c.args.case.target = search rules in
    subst (λ (z : ℤ). HasPlace c.args.instrs.now z) (sym (to_z-of_z w32 c.args.case.target fits)) c.requires.leads
