-- The nop, and the switch by its parts.
use Rattle.std.proofs.Common.{[], ◌∷◌, refl, arith, drop}
use Rattle.jk_model.specs.Examples.{switch_bytes}
use Rattle.jk_model.proofs.laws.switch_code.Goals as goal

pub returns : goal.returns
returns c = (
  0x00 ∷ [],
  drop 1 switch_bytes,
  refl,
  refl,
  (
    drop 1 switch_bytes,
    [],
    record {
      filling = 0x00 ∷ 0x00 ∷ [];
      default = 0x10;
      low = 0;
      high = 1;
      offsets = 0x0a ∷ 0xfffffffe ∷ [];
      layout = refl;
      filled = refl;
      numbers = (omega arith, omega arith, omega arith, (omega arith, (omega arith, tt)));
      order = omega arith;
      count = refl;
      says = refl;
    },
    refl,
    refl,
  ),
)
