-- The nop, and the opcode after it.
use Rattle.std.proofs.Common.{[], ◌∷◌, refl}
use Rattle.jk_model.specs.Instructions.{plain}
use Rattle.std.specs.Prelude.{pos}
use Rattle.jk_model.proofs.laws.opcode_that_is_none.Goals as goal

pub returns : goal.returns
returns c =
    (0xba ∷ 0x00 ∷ [], (0x00 ∷ [], plain 0 0x00 (pos 0) (pos 0) ∷ [], refl, (0x00 ∷ [], [], refl, refl, refl), refl), refl)
