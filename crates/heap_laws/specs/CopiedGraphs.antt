-- What a copy of a graph is to the domain that takes it: it is there, its values fit, it costs what its source costs, and the domain is as it
-- must be after it.
use Rattle.std.specs.Prelude.{◌≡◌, ℕ, ◌+◌, ◌<◌, ◌≤◌, ⊤, List, length, Some}
use Rattle.std.specs.List.{AllByRecursion}
use Rattle.jk_model.specs.SystemTable.{system_classes}
use Rattle.jk_model.specs.declared.identifiers.ClassId.{ClassId}
use Rattle.jk_model.specs.declared.values.Value.{Value}
use Rattle.jk_model_classes.specs.declared.records.ClassRecord.{ClassRecord}
use Rattle.jk_model_classes.specs.declared.records.TypeRef.{TypeRef}
use Rattle.jk_model_classes.specs.Worlds.{IsNamed, NamedClass}
use Rattle.jk_model_domains.specs.Objects.{NamedObject, Object, Plain, object_named}
use Rattle.jk_model_domains.specs.ValueTypes.{HoldsDeclared}
use Rattle.jk_model_graphs.specs.Copiable.{AllCopiable}
use Rattle.jk_model_graphs.specs.Copies.{Corresponds, IsCopy}
use Rattle.jk_model_graphs.specs.Reach.{Graph, Reach, ReachCosts}
use Rattle.jk_model_heaps.specs.Capabilities.{CapRange}
use Rattle.jk_model_heaps.specs.Heaps.{IsGrown, field_records, heap_words}
use Rattle.jk_model_heaps.specs.Workings.{Inside, with_heap}
use Rattle.jk_model_sealing.specs.SealedInsides.{IsKnownValue, IsSealedInside, Surroundings}

-- ---- A copy is there.

-- a plain object has a value for each field of its class
abbrev pub HasAllFields : List ClassRecord → Object → Type 0
HasAllFields classes (Plain c values) = length values ≡ length (field_records classes c)
HasAllFields classes object = ⊤

-- each name that is reached has an object, which has all of its fields
abbrev pub IsWhollyThere : List ClassRecord → Graph → Type 0
IsWhollyThere classes g = (a : ℕ) → Reach classes g a → (object : Object) × (object_named g.heap a ≡ Some object) × HasAllFields classes object

-- Into any heap there is a copy of it, the heap of the source among them. What may be copied and what there is room for is nothing to it.
abbrev pub ACopyIsThere : Type 0
ACopyIsThere =
    (classes : List ClassRecord) (source : Graph) (before : List NamedObject) → IsWhollyThere classes source
    → (copy : Graph) × (pairs : List (ℕ × ℕ)) × IsCopy classes source before copy pairs

-- In a domain that is sealed all that known values reach is so.
abbrev pub SealedIsWhollyThere : Type 0
SealedIsWhollyThere =
    (around : Surroundings) (quota : ℕ) (inside : Inside) (values : List Value) → IsSealedInside around quota inside
    → AllByRecursion (IsKnownValue around.caps inside.heap) values
    → IsWhollyThere around.classes (record { heap = inside.heap; values = values })

-- ---- What it costs, and what it is.

abbrev pub CopiesCostTheirReach : Type 0
CopiesCostTheirReach =
    (classes : List ClassRecord) (source : Graph) (before : List NamedObject) (copy : Graph) (pairs : List (ℕ × ℕ)) (n : ℕ)
    → IsCopy classes source before copy pairs → ReachCosts classes source n → heap_words classes copy.heap ≡ heap_words classes before + n

-- A value that a field, an element or a static field of a type may hold has a copy that one of that type may hold where the copy is.
abbrev pub CopiedValuesFit : Type 0
CopiedValuesFit =
    (classes : List ClassRecord) (source : Graph) (before : List NamedObject) (copy : Graph) (pairs : List (ℕ × ℕ)) (v w : Value) (t : TypeRef)
    → IsCopy classes source before copy pairs → Corresponds pairs v w → HoldsDeclared classes source.heap v t → HoldsDeclared classes copy.heap w t

-- ---- The domain that takes it.

-- A copy from one domain to another, or to itself: what names mean in the two, what each has inside, and the values.
pub record CopyBetween (classes : List ClassRecord) (caps : List CapRange) : Type 0 where
  pub giver : List NamedClass
  pub taker : List NamedClass
  pub from : Inside
  pub to : Inside
  pub quota_from : ℕ
  pub quota_to : ℕ
  pub from_sealed : IsSealedInside (record { classes = classes; table = giver; caps = caps }) quota_from from
  pub to_sealed : IsSealedInside (record { classes = classes; table = taker; caps = caps }) quota_to to
  -- the taker knows the system classes
  pub knows_system : (c : ClassId) → c.0 < length system_classes → IsNamed taker c
  pub values : List Value
  pub known : AllByRecursion (IsKnownValue caps from.heap) values
  pub copiable : AllCopiable classes giver taker (record { heap = from.heap; values = values })
  pub heap : List NamedObject
  pub copied : List Value
  pub pairs : List (ℕ × ℕ)
  pub copy : IsCopy classes (record { heap = from.heap; values = values }) to.heap (record { heap = heap; values = copied }) pairs
  pub words : ℕ
  pub costs : ReachCosts classes (record { heap = from.heap; values = values }) words
  pub enough : heap_words classes to.heap + words ≤ quota_to

-- The domain that takes it is sealed with it, has all that it had, and knows what it was given.
abbrev pub CopiesKeepDomains : Type 0
CopiesKeepDomains =
    (classes : List ClassRecord) (caps : List CapRange) (c : CopyBetween classes caps)
    → IsSealedInside (record { classes = classes; table = c.taker; caps = caps }) c.quota_to (with_heap c.to c.heap)
    × IsGrown c.to.heap c.heap × AllByRecursion (IsKnownValue caps c.heap) c.copied
