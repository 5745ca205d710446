-- What the names that values reach are: a closed list has them all, they are there for any heap and values, and their costs have one sum.
use Rattle.std.specs.Prelude.{◌≡◌, ℕ, ◌≤◌, List, sum_by, Contains, nat_eq}
use Rattle.std.specs.List.{IsDistinct}
use Rattle.jk_model.specs.declared.values.Value.TheVariants as Held
use Rattle.jk_model_classes.specs.declared.records.ClassRecord.{ClassRecord}
use Rattle.jk_model_graphs.specs.Reach.{Graph, IsReach, LeadsTo, Reach, ReachCosts}
use Rattle.jk_model_heaps.specs.Heaps.{heap_words}

-- ---- Lists of different numbers.

-- Different numbers, all among others, are no more than these, whatever each counts.
abbrev pub DistinctFits : Type 0
DistinctFits =
    (weight : ℕ → ℕ) (xs ys : List ℕ) → IsDistinct nat_eq xs → ((a : ℕ) → Contains xs a → Contains ys a) → sum_by weight xs ≤ sum_by weight ys

-- ---- What is reached.

-- the names that the values name are listed, and those to which a listed one leads
pub record IsClosed (classes : List ClassRecord) (g : Graph) (names : List ℕ) : Type 0 where
  pub given : (a : ℕ) → Contains g.values (Held.Obj a) → Contains names a
  pub further : (a b : ℕ) → Contains names a → LeadsTo classes g.heap a b → Contains names b

-- A closed list has all that is reached.
abbrev pub ClosedIsReach : Type 0
ClosedIsReach = (classes : List ClassRecord) (g : Graph) (names : List ℕ) → IsClosed classes g names → (a : ℕ) → Reach classes g a → Contains names a

-- Whatever the heap and the values are, the names that are reached can be listed, each once. So their costs have a sum.
abbrev pub ReachIsThere : Type 0
ReachIsThere = (classes : List ClassRecord) (g : Graph) → (names : List ℕ) × IsReach classes g names

-- and it has one alone
abbrev pub OneSum : Type 0
OneSum = (classes : List ClassRecord) (g : Graph) (m n : ℕ) → ReachCosts classes g m → ReachCosts classes g n → m ≡ n

-- What is reached costs no more than the whole heap.
abbrev pub ReachIsWithinHeap : Type 0
ReachIsWithinHeap = (classes : List ClassRecord) (g : Graph) (n : ℕ) → ReachCosts classes g n → n ≤ heap_words classes g.heap
