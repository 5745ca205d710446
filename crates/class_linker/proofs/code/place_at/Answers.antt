-- The search finds an instruction that can't but be there.
use Rattle.std.proofs.Common.{rules}
use Rattle.std.specs.Ordering.{nat_cmp}
use Rattle.std.proofs.lemmas.Fn.{always_returns_same}
use Rattle.jk_model.specs.declared.instructions.Instr.{Instr}
use Rattle.class_linker.proofs.PlacesOfCode.{found_at, never_missed}
use Rattle.class_linker.proofs.code.place_at.Goals as goal

pub unreachable-requires : goal.unreachable-requires
unreachable-requires c =
    let found = c.in-Err.ensures.position (λ (y : Instr). nat_cmp y.at c.args.byte) (always_returns_same _ _ _ (λ a r f h. search rules)) in
    c.requires.there (never_missed c.args.instrs.now c.args.byte c.in-Err.field-0 c.requires.order found)

pub returns-clause-place : goal.returns-clause-place
returns-clause-place c =
    let found = c.in-Ok.ensures.position (λ (y : Instr). nat_cmp y.at c.args.byte) (always_returns_same _ _ _ (λ a r f h. search rules)) in
    found_at c.args.instrs.now c.args.byte c.in-Ok.place c.in-Ok.ensures.bound found
