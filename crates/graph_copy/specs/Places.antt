-- The places of an object: those of its fields, those of the parents first, of its items or of its units; and what a copy follows up to a
-- place, and at it.
use Rattle.std.specs.Prelude.{◌≡◌, ℕ, Bool, true, false, not, List, [], ◌∷◌, length, take, Option, Some, None, slice_get, if◌then◌else◌}
use Rattle.std.specs.Option.{option_map_or}
use Rattle.jk_model.specs.declared.identifiers.DomainId.{DomainId}
use Rattle.jk_model.specs.declared.values.Value.{Value}
use Rattle.jk_model.specs.declared.values.Value.TheVariants as Held
use Rattle.jk_model_classes.specs.declared.records.ClassRecord.{ClassRecord}
use Rattle.jk_model_classes.specs.declared.records.FieldRecord.{FieldRecord}
use Rattle.jk_model_domains.specs.Objects.{Object, Array, Plain}
use Rattle.jk_model_domains.specs.OwnStates.{zero_of}
use Rattle.jk_model_graphs.specs.Followed.{followed, is_left_empty, kept_values}
use Rattle.jk_model_heaps.specs.declared.shapes.Shape.{Shape}
use Rattle.jk_model_heaps.specs.declared.shapes.Shape.TheVariants as Of
use Rattle.jk_model_heaps.specs.Heaps.{field_records, shape_of}
use Rattle.object_store.specs.HeapContents.{HasShapeClasses, HeapContent, IsLaidOut, IsLive}
use Rattle.graph_copy.specs.MetObjects.{AreNamed}

-- ---- How many places there are.

abbrev pub place_count : List ClassRecord → Shape → ℕ
place_count classes (Of.Plain c) = length (field_records classes c)
place_count classes (Of.Array t n) = n
place_count classes (Of.Text n) = n
place_count classes (Of.Task s) = 0

abbrev pub count_of_nulls : Value → ℕ → ℕ
count_of_nulls Held.Null n = n
count_of_nulls v n = 0

-- how many of the places, from the first on, may hold references: all or none
abbrev pub reference_count : List ClassRecord → Shape → ℕ
reference_count classes (Of.Plain c) = length (field_records classes c)
reference_count classes (Of.Array t n) = count_of_nulls (zero_of t) n
reference_count classes shape = 0

-- ---- What a copy keeps.

-- what stands at a place is kept in a copy
abbrev pub is_kept_at : List ClassRecord → Shape → ℕ → Bool
is_kept_at classes (Of.Plain c) i = option_map_or (λ (f : FieldRecord). not (is_left_empty f)) (slice_get (field_records classes c) i) false
is_kept_at classes shape i = true

-- of one field and its value
abbrev pub kept_value : Option FieldRecord → Option Value → List Value
kept_value (Some f) (Some v) = if is_left_empty f then [] else v ∷ []
kept_value f v = []

abbrev pub one_item : Option Value → List Value
one_item (Some v) = v ∷ []
one_item None = []

-- what is followed at a place
abbrev pub followed_at : List ClassRecord → Object → ℕ → List Value
followed_at classes (Plain c values) i = kept_value (slice_get (field_records classes c) i) (slice_get values i)
followed_at classes (Array t items) i = one_item (slice_get items i)
followed_at classes object i = []

-- what is followed at the places before one
abbrev pub followed_before : List ClassRecord → Object → ℕ → List Value
followed_before classes (Plain c values) i = kept_values (take i (field_records classes c)) (take i values)
followed_before classes (Array t items) i = take i items
followed_before classes object i = []

-- ---- An object whose values are walked over.

pub record IsWalked (c : HeapContent) (classes : List ClassRecord) (d : DomainId) (a : ℕ) (shape : Shape) : Type 0 where
  pub object : Object
  pub live : IsLive c d a object
  pub is : shape ≡ shape_of object
  pub laid_out : IsLaidOut classes object
  pub has_classes : HasShapeClasses classes shape
  pub named : AreNamed c d (followed classes object)
