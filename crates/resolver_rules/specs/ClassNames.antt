-- The index of the names under which a folder's class files stand.
use Rattle.std.specs.Prelude.{ℕ, ◌↔◌, Bool, IsTrue, List, Vec}
use Rattle.std.specs.Ordering.{nat_cmp}
use Rattle.std.specs.Cmp.Lexicographic.{slice_cmp}
use Rattle.std.specs.BTreeSet.{BTreeSet, contains_by}
use Rattle.std.specs.declared.alloc.Global.{Global}
use Rattle.jk_model_classes.specs.ResolverRules.{HasFileOf}

abbrev pub has_name : BTreeSet (Vec ℕ Global) → List ℕ → Bool
has_name names name = contains_by (λ (k : Vec ℕ Global). slice_cmp nat_cmp name k.items) names

-- a name is there exactly where a class file stands under its path
pub record AreNamesOf (paths : List (List ℕ)) (names : BTreeSet (Vec ℕ Global)) : Type 0 where
  pub each : (name : List ℕ) → IsTrue (has_name names name) ↔ HasFileOf paths name
