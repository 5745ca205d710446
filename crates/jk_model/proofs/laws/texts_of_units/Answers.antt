-- The bytes of each unit.
use Rattle.std.proofs.Common.{[], ◌∷◌, refl, arith}
use Rattle.jk_model.proofs.PlainBytesAreTexts.{text_of_one}
use Rattle.jk_model.proofs.laws.texts_of_units.Goals as goal

pub returns-clause-overlong_zero : goal.returns-clause-overlong_zero
returns-clause-overlong_zero c =
    (0xc0 ∷ 0x80 ∷ [], [], (omega arith, omega arith, omega arith, omega arith, refl), refl, refl)

pub returns-clause-two_bytes : goal.returns-clause-two_bytes
returns-clause-two_bytes c =
    (0xc3 ∷ 0xa9 ∷ [], [], (omega arith, omega arith, omega arith, omega arith, refl), refl, refl)

pub returns-clause-surrogate : goal.returns-clause-surrogate
returns-clause-surrogate c =
    (0xed ∷ 0xa0 ∷ 0x80 ∷ [], [], (omega arith, omega arith, omega arith, omega arith, omega arith, omega arith, refl), refl, refl)

pub returns-clause-no_zero : goal.returns-clause-no_zero
returns-clause-no_zero c = λ h. omega (arith, (text_of_one 0 h).0)

pub returns-clause-no_four_bytes : goal.returns-clause-no_four_bytes
returns-clause-no_four_bytes c = λ h. omega (arith, (text_of_one 0xf0 h).1)

pub returns-clause-no_half : goal.returns-clause-no_half
returns-clause-no_half c = λ h. omega (arith, (text_of_one 0xc3 h).1)
