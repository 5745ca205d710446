-- The instructions of a code begin at the places where they stand, which are within the code.
use Rattle.std.proofs.Common.{◌≡◌, ℕ, zero, suc, ◌+◌, ◌<◌, List, [], ◌∷◌, length, Some, ap, arith, length-append}
use Rattle.std.specs.Prelude.{slice_get}
use Rattle.std.proofs.lemmas.Option.{same_Some, none-some}
use Rattle.jk_model.specs.declared.instructions.Instr.{Instr}
use Rattle.jk_model.specs.Instructions.{AreInstrs}
use Rattle.model_lemmas.proofs.PlacesOfInstrs.{place_of}

pub begin_within : (at : ℕ) (bytes : List ℕ) (instrs : List Instr) → AreInstrs at bytes instrs → (k : ℕ) (instr : Instr)
    → slice_get instrs k ≡ Some instr → instr.at < at + length bytes
begin_within at bytes [] h k instr e = absurd (none-some instr e)
begin_within at bytes (i ∷ instrs) (front, rest, one, e, more) zero instr s =
    let place = place_of at front i one in
    let same : i.at ≡ instr.at = ap (λ (x : Instr). x.at) (same_Some i instr s) in
    omega (arith, place.0, place.1, same, ap length e, length-append front rest)
begin_within at bytes (i ∷ instrs) (front, rest, one, e, more) (suc k) instr s =
    omega (arith, begin_within (at + length front) rest instrs more k instr s, ap length e, length-append front rest)
