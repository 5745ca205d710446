-- The places of a catch entry are those of instructions.
use Rattle.std.proofs.Common.{ℕ, subst, sym, pos}
use Rattle.class_linker.specs.KnownCodes.{HasPlace}
use Rattle.class_linker.proofs.code.caught.Goals as goal

pub place_at-requires-clause-there : goal.place_at-requires-clause-there
place_at-requires-clause-there c = subst (λ (n : ℕ). HasPlace c.args.instrs.now (pos n)) (sym c.from.ensures) c.requires.places.start

pub place_at-requires-2-clause-there : goal.place_at-requires-2-clause-there
place_at-requires-2-clause-there c = subst (λ (n : ℕ). HasPlace c.args.instrs.now (pos n)) (sym c.from-2.ensures) c.requires.places.handler
