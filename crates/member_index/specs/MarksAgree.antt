-- Members of one name and one type have the same marks.
use Rattle.std.proofs.Common.{◌≡◌, ◌∙◌, ℕ, List, ap}
use Rattle.jk_model.specs.Descriptors.{method_text}
use Rattle.jk_model.specs.declared.descriptors.MethodType.{MethodType}
use Rattle.jk_model_classes.specs.Lookups.{FieldSought, MethodSought}
use Rattle.jk_model_classes.specs.declared.records.FieldRecord.{FieldRecord}
use Rattle.jk_model_classes.specs.declared.records.MethodRecord.{MethodRecord}
use Rattle.jk_model_classes.specs.declared.records.TypeRef.{TypeRef}
use Rattle.member_index.specs.Finding.{FieldSuits, MethodSuits}
use Rattle.member_index.specs.Marks.{type_number, field_marks, field_sought, method_marks, method_sought}
use Rattle.member_index.specs.declared.marks.Marks.{Marks}
use Rattle.shared_values.specs.Fingerprints.{fingerprint_of}

pub field_marks_agree : (key : FieldSought) (field : FieldRecord) → FieldSuits key field → field_marks (field_sought field) ≡ field_marks key
field_marks_agree key field suits =
    let by_name : List ℕ → Marks = λ n. record { name = fingerprint_of n; kind = type_number field.kind } in
    let by_kind : TypeRef → Marks = λ k. record { name = fingerprint_of key.name; kind = type_number k } in
    ap by_name suits.0 ∙ ap by_kind suits.1

pub method_marks_agree : (key : MethodSought) (method : MethodRecord) → MethodSuits key method → method_marks (method_sought method) ≡ method_marks key
method_marks_agree key method suits =
    let by_name : List ℕ → Marks = λ n. record { name = fingerprint_of n; kind = fingerprint_of (method_text method.kind) } in
    let by_kind : MethodType → Marks = λ k. record { name = fingerprint_of key.name; kind = fingerprint_of (method_text k) } in
    ap by_name suits.0 ∙ ap by_kind suits.1
