-- What an object of a class is made of, and what it costs: one word of 32 bits a field, two where it is long, and
-- four words more.
use Rattle.std.specs.Prelude.{ℕ, zero, suc, ◌+◌, ◌-◌, ◌^◌, Bool, true, false, not, List, [], ◌∷◌, ◌++◌, flat_map, map, filter, sum_by, min, Option, Some, None, slice_get}
use Rattle.std.specs.List.{enumerate_from, filter_map}
use Rattle.std.specs.Option.{option_map_or}
use Rattle.jk_model.specs.Flags.{has, STATIC}
use Rattle.jk_model.specs.declared.identifiers.ClassId.{ClassId}
use Rattle.jk_model.specs.declared.identifiers.MemberId.{MemberId}
use Rattle.jk_model_classes.specs.declared.records.ClassRecord.{ClassRecord}
use Rattle.jk_model_classes.specs.declared.records.FieldRecord.{FieldRecord}
use Rattle.jk_model_classes.specs.declared.records.TypeRef.{TypeRef}
use Rattle.jk_model_classes.specs.declared.records.BaseRef.{BaseRef}
use Rattle.jk_model_classes.specs.declared.records.BaseRef.TheVariants.{Long}
use Rattle.jk_model_classes.specs.Classes.{record_of, parents_of}

-- a field of an object: which one it is, and how many words it takes
pub record InstanceField : Type 0 where
  pub member : MemberId
  pub words : ℕ

pub record Layout : Type 0 where
  -- the parent's instance fields first, then the class's own in the order of the class file
  pub fields : List InstanceField
  -- how many words they take together
  pub words : ℕ

-- a number that doesn't fit 32 bits stands as the greatest that does
abbrev pub up_to_32_bits : ℕ → ℕ
up_to_32_bits n = min n (2 ^ 32 - 1)

abbrev pub base_words : BaseRef → ℕ
base_words Long = 2
base_words _ = 1

abbrev pub dims_words : ℕ → BaseRef → ℕ
dims_words zero base = base_words base
dims_words (suc dims) base = 1

abbrev pub type_words : TypeRef → ℕ
type_words t = dims_words t.dims t.base

abbrev pub is_instance_field : ℕ × FieldRecord → Bool
is_instance_field p = not (has p.1.flags STATIC)

-- the class's own instance fields, in the order of the class file
abbrev pub own_fields : List ClassRecord → ClassId → List InstanceField
own_fields classes c =
    option_map_or
    (λ (r : ClassRecord). map
    (λ (p : ℕ × FieldRecord). record { member = record { class = c; index = p.0 }; words = type_words p.1.kind })
    (filter is_instance_field (enumerate_from 0 r.fields)))
    (record_of classes c) []

abbrev pub fields_within : ℕ → List ClassRecord → ClassId → List InstanceField
fields_within zero classes c = []
fields_within (suc height) classes c = flat_map (fields_within height classes) (parents_of classes c) ++ own_fields classes c

abbrev pub instance_fields : List ClassRecord → ClassId → List InstanceField
instance_fields classes c = fields_within (c.0 + 1) classes c

abbrev pub words_of : List InstanceField → ℕ
words_of fields = sum_by (λ f. f.words) fields

abbrev pub layout_of : List ClassRecord → ClassId → Layout
layout_of classes c =
    record { fields = instance_fields classes c; words = up_to_32_bits (words_of (instance_fields classes c)) }

-- what an object costs beside its payload
abbrev pub HEADER_WORDS : ℕ
HEADER_WORDS = 4

abbrev pub cost_of : List ClassRecord → ClassId → ℕ
cost_of classes c = up_to_32_bits (words_of (instance_fields classes c) + HEADER_WORDS)
