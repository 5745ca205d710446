-- Walks as a set that keeps the order of insertion takes them: by the numbers of their classes.
use Rattle.std.specs.Prelude.{ℕ, List, map, nat_eq}
use Rattle.indexmap.specs.IndexSet.{insert_all}
use Rattle.jk_model.specs.declared.identifiers.ClassId.{ClassId}

abbrev pub numbers : List ClassId → List ℕ
numbers classes = map (λ (c : ClassId). c.0) classes

abbrev pub classes_numbered : List ℕ → List ClassId
classes_numbered ns = map (λ n. record { 0 = n }) ns

-- the keys after these classes are put in
abbrev pub with_all : List ℕ → List ClassId → List ℕ
with_all keys walk = insert_all nat_eq keys (numbers walk)
