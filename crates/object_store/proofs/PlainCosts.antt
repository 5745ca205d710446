-- An object of a class costs four words and one or two for each field: so the bound on the sizes of objects holds of each new one.
use Rattle.std.proofs.Common.{ℕ, zero, suc, ◌+◌, ◌*◌, ◌≤◌, Bool, true, false, cond, not, List, [], ◌∷◌, length, map, filter, Option, Some, None, ap, arith}
use Rattle.std.specs.List.{enumerate_from, flat_map}
use Rattle.std.specs.Option.{option_map_or}
use Rattle.std.proofs.lemmas.List.{length-append, length-map, length-replicate}
use Rattle.std.proofs.Math.Nat.{mul-le-mul_right}
use Rattle.std.proofs.lemmas.List.Sums.{sum_by-append, sum_by-cons}
use Rattle.jk_model.specs.Flags.{has, STATIC}
use Rattle.jk_model.specs.declared.identifiers.ClassId.{ClassId}
use Rattle.jk_model_classes.specs.declared.records.BaseRef.{BaseRef}
use Rattle.jk_model_classes.specs.declared.records.BaseRef.TheVariants as Base
use Rattle.jk_model_classes.specs.declared.records.ClassRecord.{ClassRecord}
use Rattle.jk_model_classes.specs.declared.records.FieldRecord.{FieldRecord}
use Rattle.jk_model_classes.specs.Classes.{parents_of, record_of}
use Rattle.jk_model_classes.specs.Layouts.{InstanceField, base_words, dims_words, fields_within, instance_fields, is_instance_field, own_fields, type_words, words_of}
use Rattle.jk_model.specs.declared.values.Value.{Value}
use Rattle.jk_model_domains.specs.OwnStates.{zero_of}
use Rattle.jk_model_heaps.specs.declared.shapes.Shape.{Shape}
use Rattle.jk_model_heaps.specs.declared.shapes.Shape.TheVariants as Of
use Rattle.jk_model_heaps.specs.Heaps.{field_records, field_records_within, own_field_records, zero_object}
use Rattle.object_store.specs.HeapContents.{shape_words, size_of}

abbrev is_own : FieldRecord → Bool
is_own f = not (has f.flags STATIC)

abbrev placed_field : ClassId → ℕ × FieldRecord → InstanceField
placed_field c p = record { member = record { class = c; index = p.0 }; words = type_words p.1.kind }

abbrev words_in : InstanceField → ℕ
words_in f = f.words

some_base : (b : BaseRef) → 1 ≤ base_words b
some_base Base.Long = omega arith
some_base b = omega arith

some_words : (dims : ℕ) (b : BaseRef) → 1 ≤ dims_words dims b
some_words zero b = some_base b
some_words (suc dims) b = omega arith

one_more : (c : ClassId) (n : ℕ) (f : FieldRecord) (fs : List FieldRecord) (es : List (ℕ × FieldRecord)) (t : Bool)
    → length (filter is_own fs) ≤ words_of (map (placed_field c) es)
    → length (cond t (f ∷ filter is_own fs) (filter is_own fs)) ≤ words_of (map (placed_field c) (cond t ((n, f) ∷ es) es))
one_more c n f fs es true later =
    let here = some_words f.kind.dims f.kind.base in
    let sum = sum_by-cons words_in (placed_field c (n, f)) (map (placed_field c) es) in
    omega arith
one_more c n f fs es false later = later

own_words : (c : ClassId) (n : ℕ) (fs : List FieldRecord)
    → length (filter is_own fs) ≤ words_of (map (placed_field c) (filter is_instance_field (enumerate_from n fs)))
own_words c n [] = omega arith
own_words c n (f ∷ fs) =
    one_more c n f fs (filter is_instance_field (enumerate_from (n + 1) fs)) (is_own f) (own_words c (n + 1) fs)

own_by : (classes : List ClassRecord) (c : ClassId) (r : Option ClassRecord)
    → length (option_map_or (λ (r : ClassRecord). filter is_own r.fields) r [])
    ≤ words_of (option_map_or (λ (r : ClassRecord). map (placed_field c) (filter is_instance_field (enumerate_from 0 r.fields))) r [])
own_by classes c None = omega arith
own_by classes c (Some r) = own_words c 0 r.fields

each_parent : (f : ClassId → List FieldRecord) (g : ClassId → List InstanceField) → ((c : ClassId) → length (f c) ≤ words_of (g c))
    → (cs : List ClassId) → length (flat_map f cs) ≤ words_of (flat_map g cs)
each_parent f g each [] = omega arith
each_parent f g each (c ∷ cs) =
    let here = each c in
    let later = each_parent f g each cs in
    let long = length-append (f c) (flat_map f cs) in
    let sum = sum_by-append words_in (g c) (flat_map g cs) in
    omega arith

words_within : (height : ℕ) (classes : List ClassRecord) (c : ClassId)
    → length (field_records_within height classes c) ≤ words_of (fields_within height classes c)
words_within zero classes c = omega arith
words_within (suc height) classes c =
    let above = each_parent (field_records_within height classes) (fields_within height classes) (words_within height classes) (parents_of classes c) in
    let own = own_by classes c (record_of classes c) in
    let long = length-append (flat_map (field_records_within height classes) (parents_of classes c)) (own_field_records classes c) in
    let sum = sum_by-append words_in (flat_map (fields_within height classes) (parents_of classes c)) (own_fields classes c) in
    omega arith

-- an object has no more fields than its class takes words for them
pub fields_cost : (classes : List ClassRecord) (c : ClassId) → length (field_records classes c) ≤ words_of (instance_fields classes c)
fields_cost classes c = words_within (c.0 + 1) classes c

-- ---- What a new object costs bounds its size.

width_covers : (width n : ℕ) → 1 ≤ width → n ≤ width * n
width_covers width n some = omega (arith, mul-le-mul_right n some)

pub new_is_sized : (classes : List ClassRecord) (shape : Shape) → shape_words classes shape ≤ 16777216
    → size_of (zero_object classes shape) + 4 ≤ shape_words classes shape
new_is_sized classes (Of.Plain c) fits =
    let cost = fields_cost classes c in
    let long = length-map (field_records classes c) (λ (f : FieldRecord). zero_of f.kind) in
    omega arith
new_is_sized classes (Of.Array t n) fits =
    let wide = width_covers (type_words t) n (some_words t.dims t.base) in
    let long = length-replicate {A = Value} n (zero_of t) in
    let same = ap (λ (k : ℕ). type_words t * k) long in
    omega arith
new_is_sized classes (Of.Text n) fits = omega (arith, length-replicate {A = ℕ} n 0)
new_is_sized classes (Of.Task s) fits = omega arith
