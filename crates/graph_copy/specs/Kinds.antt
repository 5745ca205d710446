-- What is known of objects of a shape, and of the class whose objects came last.
use Rattle.std.specs.Prelude.{◌≡◌, ℕ, ◌<◌, List, Option, Some, true}
use Rattle.jk_model_classes.specs.declared.records.ClassRecord.{ClassRecord}
use Rattle.jk_model_heaps.specs.declared.shapes.Shape.{Shape}
use Rattle.jk_model_heaps.specs.declared.shapes.Shape.TheVariants as Of
use Rattle.object_store.specs.HeapContents.{shape_words}
use Rattle.graph_copy.specs.declared.kinds.Kind.{Kind}
use Rattle.graph_copy.specs.declared.kinds.KnownClass.{KnownClass}
use Rattle.graph_copy.specs.Places.{is_kept_at, place_count, reference_count}

pub record IsKindOf (classes : List ClassRecord) (shape : Shape) (k : Kind) : Type 0 where
  pub places : k.places ≡ place_count classes shape
  pub references : k.references ≡ reference_count classes shape
  pub words : k.words ≡ shape_words classes shape
  pub keeps_all : k.keeps_all ≡ true → (i : ℕ) → i < place_count classes shape → is_kept_at classes shape i ≡ true

-- the kind of the class that is known is right
abbrev pub IsKnown : List ClassRecord → Option KnownClass → Type 0
IsKnown classes last = (k : KnownClass) → last ≡ Some k → IsKindOf classes (Of.Plain k.class) k.kind

-- the shape is of the class that is known, and this is its kind
pub record IsKnownOf (last : Option KnownClass) (shape : Shape) (kind : Kind) : Type 0 where
  pub known : KnownClass
  pub is : last ≡ Some known
  pub of_class : shape ≡ Of.Plain known.class
  pub of_kind : kind ≡ known.kind
