-- The bytes of units, and the number of the first eight bytes of a digest.
use Rattle.std.proofs.Common.{◌≡◌, ℕ, ◌+◌, ◌*◌, ◌<◌, List, [], ◌∷◌, take, length, get_or, refl, arith}
use Rattle.std.proofs.lemmas.List.{get_or-take, take_more, take_more_set, length-set, append_assoc}
use Rattle.std.proofs.lemmas.List.Concat.{flat_map-append}
use Rattle.std.proofs.Math.ListN.{set}
use Rattle.std.specs.Int.{w16, w64, to_be_bytes, from_be_bytes}
use Rattle.shared_values.specs.Fingerprints.{unit_bytes, first_bits}

-- the bytes of one more unit, which are written after those before it
pub bytes_more : (units bytes : List ℕ) (i : ℕ) (pair : List ℕ) → i < length units → 2 * i + 1 < length bytes
    → take (2 * i) bytes ≡ unit_bytes (take i units) → pair ≡ to_be_bytes w16 (get_or units i 0)
    → take (2 * (i + 1)) (set (set bytes (2 * i) (get_or pair 0 0)) (2 * i + 1) (get_or pair 1 0)) ≡ unit_bytes (take (i + 1) units)
bytes_more units bytes i pair in_units in_bytes before is_pair =
    let next : 2 * (i + 1) ≡ 2 * i + 1 + 1 = omega arith in
    let first : 2 * i < length bytes = omega arith in
    let second : 2 * i + 1 < length (set bytes (2 * i) (get_or pair 0 0)) = omega (arith, length-set bytes (2 * i) (get_or pair 0 0)) in
    rw (
      next,
      take_more_set (set bytes (2 * i) (get_or pair 0 0)) (2 * i + 1) (get_or pair 1 0) second,
      take_more_set bytes (2 * i) (get_or pair 0 0) first,
      take_more units i 0 in_units,
      flat_map-append,
      append_assoc,
      before,
      is_pair,
    ) refl

-- the number of the first eight bytes, byte by byte
pub first_eight_of : (d : List ℕ) →
    first_bits d ≡ from_be_bytes w64
    (get_or d 0 0 ∷ get_or d 1 0 ∷ get_or d 2 0 ∷ get_or d 3 0 ∷ get_or d 4 0 ∷ get_or d 5 0 ∷ get_or d 6 0 ∷ get_or d 7 0 ∷ [])
unfolding first_bits
first_eight_of d =
    let in0 : 0 < 8 = omega arith in
    let in1 : 1 < 8 = omega arith in
    let in2 : 2 < 8 = omega arith in
    let in3 : 3 < 8 = omega arith in
    let in4 : 4 < 8 = omega arith in
    let in5 : 5 < 8 = omega arith in
    let in6 : 6 < 8 = omega arith in
    let in7 : 7 < 8 = omega arith in
    simp get_or-take
