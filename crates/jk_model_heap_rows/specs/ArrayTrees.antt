-- Arrays of arrays that are made at once (the Java Virtual Machine Specification, 6, multianewarray): an array of the first count,
-- whose items are arrays of the second count, and so on. The items of the arrays of the last count are zeros or nulls.
use Rattle.std.specs.Prelude.{◌≡◌, ℕ, ◌+◌, ◌-◌, ◌*◌, List, [], ◌∷◌, length, flat_map, map}
use Rattle.std.specs.List.{AllByRecursion}
use Rattle.jk_model.specs.declared.values.Value.{Value}
use Rattle.jk_model.specs.declared.values.Value.TheVariants as Held
use Rattle.jk_model_classes.specs.declared.records.TypeRef.{TypeRef}
use Rattle.jk_model_classes.specs.Layouts.{HEADER_WORDS, type_words}
use Rattle.jk_model_typing.specs.FrameTypes.{array_type}
use Rattle.jk_model_domains.specs.Objects.{Array, NamedObject}
use Rattle.jk_model_domains.specs.OwnStates.{zero_of}
use Rattle.jk_model_heaps.specs.Heaps.{Makes, named}
use Rattle.jk_model_heaps.specs.Workings.{Setting}

-- what the elements of an array of this type are of
abbrev pub element_type : TypeRef → TypeRef
element_type t = array_type (t.dims - 1) t.base

-- a value, and the objects that are made for it
pub record Made : Type 0 where
  pub value : Value
  pub objects : List NamedObject

-- What is made for a value of a type by counts: nothing by none, so that it is 0 or null; else a new array of as many items as the
-- first count says, and then what is made for each item by the other counts.
abbrev pub IsTree : TypeRef → List ℕ → Made → Type 0
IsTree t [] tree = tree ≡ record { value = zero_of t; objects = [] }
IsTree t (n ∷ counts) tree =
    (a : ℕ) × (items : List Made) × (length items ≡ n) × AllByRecursion (IsTree (element_type t) counts) items
    × (tree ≡ record {
      value = Held.Obj a;
      objects = named a (Array (element_type t) (map (λ (e : Made). e.value) items)) ∷ flat_map (λ (e : Made). e.objects) items;
    })

-- what all of it costs
abbrev pub tree_words : TypeRef → List ℕ → ℕ
tree_words t [] = 0
tree_words t (n ∷ counts) = HEADER_WORDS + type_words (element_type t) * n + n * tree_words (element_type t) counts

-- the arrays of these counts are made together, and the one of the first count has the name a
pub record MakesTree (x : Setting) (t : TypeRef) (counts : List ℕ) (a : ℕ) (heap new : List NamedObject) : Type 0 where
  pub made : List NamedObject
  pub is_tree : IsTree t counts (record { value = Held.Obj a; objects = made })
  pub makes : Makes x.classes x.quota heap made new
