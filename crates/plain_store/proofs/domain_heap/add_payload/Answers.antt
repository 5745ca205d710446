-- There is room for the fields, which are fewer than the words that the object costs.
use Rattle.std.proofs.Common.{◌≡◌, ◌+◌, ◌≤◌, List, length, ap, ◌∙◌, arith}
use Rattle.std.proofs.lemmas.List.{length-append}
use Rattle.jk_model.specs.declared.identifiers.ClassId.{ClassId}
use Rattle.jk_model.specs.declared.values.Value.{Value}
use Rattle.jk_model_classes.specs.declared.records.ClassRecord.{ClassRecord}
use Rattle.jk_model_heaps.specs.declared.shapes.Shape.{Shape}
use Rattle.jk_model_heaps.specs.declared.shapes.Shape.TheVariants as Of
use Rattle.jk_model_heaps.specs.Heaps.{zero_fields}
use Rattle.object_store.specs.HeapContents.{shape_words}
use Rattle.object_store.proofs.PlainCosts.{new_is_sized}
use Rattle.plain_store.proofs.domain_heap.add_payload.Goals as goal

fields_are_few : (classes : List ClassRecord) (shape : Shape) (c : ClassId) → shape ≡ Of.Plain c → shape_words classes shape ≤ 16777216
    → length (zero_fields classes c) + 4 ≤ shape_words classes shape
fields_are_few classes shape c is fits =
    let same : shape_words classes shape ≡ shape_words classes (Of.Plain c) = ap (shape_words classes) is in
    let sized = new_is_sized classes (Of.Plain c) (omega arith) in
    omega arith

pub add_fields-requires-clause-room : goal.add_fields-requires-clause-room
add_fields-requires-clause-room c =
    let few = fields_are_few c.args.t.now c.args.shape.now c.in-Plain.c c.in-Plain.is c.requires.fits in
    omega (arith, few, c.requires.values_room)

pub overflow_cast-result : goal.overflow_cast-result
overflow_cast-result c =
    let few = fields_are_few c.args.t.now c.args.shape.now c.in-Plain.c c.in-Plain.is c.requires.fits in
    let zeros = zero_fields c.args.t.now c.in-Plain.c in
    let long = ap (λ (vs : List Value). length vs) c.add_fields.ensures.items ∙ length-append c.args.values.now.items zeros in
    record { fits = omega (arith, few, long, c.len.ensures, c.add_fields.new.values.ok.0, c.requires.fits, c.requires.few_values) }
