-- What a hasher holds after units are fed to it.
use Rattle.std.specs.Prelude.{ℕ, List, ◌++◌}
use Rattle.sha2.specs.Hashers.{Holds256}
use Rattle.sha2.specs.declared.Sha256.{Sha256}
use Rattle.shared_values.specs.Fingerprints.{unit_bytes}

-- whatever the hasher held, it holds the bytes of these units after it
pub record Feeds (before after : Sha256) (units : List ℕ) : Type 0 where
  pub adds : (m : List ℕ) → Holds256 before m → Holds256 after (m ++ unit_bytes units)
