-- Files of which no call is to fail.
use Rattle.std.proofs.Common.{◌≡◌, ℕ, false, List, [], refl}
use Rattle.jk_outside.specs.Counts.{is_named}

pub is_unnamed : (fails : List ℕ) (number : ℕ) → fails ≡ [] → is_named fails number ≡ false
unfolding is_named
is_unnamed fails number none = rw none refl
