-- Which objects a finite path of items and of fields that aren't transient joins to given values, and what these objects cost together.
-- Capabilities aren't followed.
use Rattle.std.specs.Prelude.{◌≡◌, ℕ, List, Contains, Some, nat_eq, sum_by}
use Rattle.std.specs.List.{IsDistinct}
use Rattle.std.specs.Option.{option_map_or}
use Rattle.jk_model.specs.declared.values.Value.{Value}
use Rattle.jk_model.specs.declared.values.Value.TheVariants as Held
use Rattle.jk_model_classes.specs.declared.records.ClassRecord.{ClassRecord}
use Rattle.jk_model_domains.specs.Objects.{NamedObject, Object, object_named, object_words}
use Rattle.jk_model_graphs.specs.Followed.{followed}

-- values, and the heap whose objects they name
pub record Graph : Type 0 where
  pub heap : List NamedObject
  pub values : List Value

-- an object has another's name where a copy follows
abbrev pub LeadsTo : List ClassRecord → List NamedObject → ℕ → ℕ → Type 0
LeadsTo classes heap a b =
    (object : Object) × (object_named heap a ≡ Some object) × Contains (followed classes object) (Held.Obj b)

-- The names that are reached: one of the values is the name, or an object that is reached leads to it.
pub data Reach (classes : List ClassRecord) (g : Graph) : ℕ → Type 0 where
  from_value : (a : ℕ) → Contains g.values (Held.Obj a) → Reach classes g a
  from_object : (a b : ℕ) → Reach classes g a → LeadsTo classes g.heap a b → Reach classes g b

-- All names that are reached, each once.
pub record IsReach (classes : List ClassRecord) (g : Graph) (names : List ℕ) : Type 0 where
  pub distinct : IsDistinct nat_eq names
  pub each : (a : ℕ) → Contains names a → Reach classes g a
  pub all : (a : ℕ) → Reach classes g a → Contains names a

-- ---- Costs.

-- what the object of a name costs; nothing of a name that the heap lacks
abbrev pub words_named : List ClassRecord → List NamedObject → ℕ → ℕ
words_named classes heap a = option_map_or (object_words classes) (object_named heap a) 0

-- the sum of the costs of all objects that are reached, each counted once; a transient field counts as any other
abbrev pub ReachCosts : List ClassRecord → Graph → ℕ → Type 0
ReachCosts classes g n = (names : List ℕ) × IsReach classes g names × (n ≡ sum_by (words_named classes g.heap) names)
