-- A place that isn't negative is passed on as it is.
use Rattle.std.proofs.Common.{ℤ, SFits, w32, rules, subst, sym}
use Rattle.class_linker.specs.KnownCodes.{HasPlace}
use Rattle.class_linker.proofs.PlacesOfCode.{passed_on}
use Rattle.class_linker.proofs.code.target_at.Goals as goal

pub place_at-requires-clause-there : goal.place_at-requires-clause-there
place_at-requires-clause-there c =
    let fits : SFits w32 c.args.target = search rules in
    subst (λ (z : ℤ). HasPlace c.args.instrs.now z) (sym (passed_on c.args.target fits c.if-target-lt0.false)) c.requires.there
