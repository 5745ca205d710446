-- Where the code doesn't end, an instruction begins.
use Rattle.std.proofs.Common.{ℕ, subst, sym, arith, pos}
use Rattle.class_linker.specs.KnownCodes.{HasPlace}
use Rattle.class_linker.proofs.code.end_at.Goals as goal

pub place_at-requires-clause-there : goal.place_at-requires-clause-there
place_at-requires-clause-there c =
    subst (λ (n : ℕ). HasPlace c.args.instrs.now (pos n)) (sym c.from-else-from-len.ensures)
    (c.requires.there (λ e. absurd (omega (arith, c.from.ensures, c.len.ensures, c.if-from-len.false, e))))
