-- Each instruction, with the bytes after it.
use Rattle.std.proofs.Common.{[], ◌∷◌, refl}
use Rattle.jk_model.proofs.laws.loop_code.Goals as goal

pub returns : goal.returns
returns c = (
  0x1b ∷ [],
  0x9a ∷ 0xff ∷ 0xff ∷ 0xb1 ∷ [],
  refl,
  refl,
  (
    0x9a ∷ 0xff ∷ 0xff ∷ [],
    0xb1 ∷ [],
    refl,
    refl,
    (0xb1 ∷ [], [], refl, refl, refl),
  ),
)
