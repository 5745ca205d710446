-- Of the instructions of a code one at most begins at a byte, and none at its end.
use Rattle.std.proofs.Common.{◌≡◌, ℕ, zero, suc, ◌+◌, ◌<◌, ◌≤◌, inl, inr, ℤ, pos, List, [], ◌∷◌, length, Some, sym, ◌∙◌, ap, arith, length-append, slice_get}
use Rattle.std.proofs.lemmas.Bool.{cases_order}
use Rattle.std.proofs.lemmas.Option.{same_Some, none-some}
use Rattle.list_lemmas.proofs.TestsAndOrders.{same_pos}
use Rattle.jk_model.specs.declared.instructions.Instr.{Instr}
use Rattle.jk_model.specs.Instructions.{AreInstrs, Decodes}
use Rattle.jk_model_folders.specs.LinkedClasses.{IsPlaceOf}
use Rattle.model_lemmas.proofs.PlacesOfInstrs.{place_of, rise}

-- an instruction begins within the bytes
begins_within : (at : ℕ) (bytes : List ℕ) (instrs : List Instr) → AreInstrs at bytes instrs → (k : ℕ) (instr : Instr)
    → slice_get instrs k ≡ Some instr → (at ≤ instr.at) × (instr.at < at + length bytes)
begins_within at bytes [] h k instr e = absurd (none-some instr e)
begins_within at bytes (i ∷ instrs) (front, rest, one, e, more) zero instr s =
    let place = place_of at front i one in
    let same : i.at ≡ instr.at = ap (λ (x : Instr). x.at) (same_Some i instr s) in
    let long = ap length e in
    (omega (arith, place.0, same), omega (arith, place.0, place.1, same, long, length-append front rest))
begins_within at bytes (i ∷ instrs) (front, rest, one, e, more) (suc k) instr s =
    let later = begins_within (at + length front) rest instrs more k instr s in
    let long = ap length e in
    (omega (arith, later.0), omega (arith, later.1, long, length-append front rest))

module _ (code : List ℕ) (instrs : List Instr) (decodes : Decodes code instrs) where
  pub one_place : (at : ℤ) (m n : ℕ) → IsPlaceOf instrs at m → IsPlaceOf instrs at n → m ≡ n
  one_place at m n (i, at_i, is) (j, at_j, also) =
      let same : i.at ≡ j.at = same_pos i.at j.at (is ∙ sym also) in
      elim (cases_order m n) [
        | inl one ↦ one
        | inr other ↦
            elim other [
              | inl below ↦ absurd (omega (arith, rise 0 code instrs decodes m n i j below at_i at_j, same))
              | inr above ↦ absurd (omega (arith, rise 0 code instrs decodes n m j i above at_j at_i, same))
            ]
      ]

  pub none_at_the_end : (end n : ℕ) → end ≡ length code → IsPlaceOf instrs (pos end) n → ⊥
  none_at_the_end end n is (i, at, place) =
      let same : i.at ≡ end = same_pos i.at end place in
      let within = begins_within 0 code instrs decodes n i at in
      omega (arith, within.1, same, is)
