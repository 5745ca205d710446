-- The map from the names of live domains to their places.
use Rattle.std.specs.Prelude.{ℕ, List, Option, Vec}
use Rattle.std.specs.Ordering.{nat_cmp}
use Rattle.std.specs.Cmp.Lexicographic.{slice_cmp}
use Rattle.std.specs.BTreeMap.{BTreeMap, get_by}
use Rattle.std.specs.declared.alloc.Global.{Global}

abbrev pub place_of : BTreeMap (Vec ℕ Global) ℕ → List ℕ → Option ℕ
place_of names name = get_by (λ (k : Vec ℕ Global). slice_cmp nat_cmp name k.items) names
