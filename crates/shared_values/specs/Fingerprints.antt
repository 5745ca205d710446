-- Fingerprints of texts: the first 64 bits of the SHA-256 digest of their units, each as two bytes with the higher
-- one first.
use Rattle.std.specs.Prelude.{ℕ, List, take, flat_map}
use Rattle.std.specs.Int.{w16, w64, to_be_bytes, from_be_bytes}
use Rattle.sha2.specs.Sha256.{sha256}

-- the units as bytes, two a unit
abbrev pub unit_bytes : List ℕ → List ℕ
unit_bytes units = flat_map (to_be_bytes w16) units

-- the first 64 bits of a digest, the highest first
unfoldable pub first_bits : List ℕ → ℕ
first_bits digest = from_be_bytes w64 (take 8 digest)

-- the fingerprint of units
unfoldable pub fingerprint_of : List ℕ → ℕ
fingerprint_of units = first_bits (sha256 (unit_bytes units))
