-- The kind of the class that is known is that of each shape of this class.
use Rattle.std.proofs.Common.{◌≡◌, List, Option, Some, sym, subst}
use Rattle.std.proofs.lemmas.Option.{same_Some}
use Rattle.jk_model.specs.declared.identifiers.ClassId.{ClassId}
use Rattle.jk_model_classes.specs.declared.records.ClassRecord.{ClassRecord}
use Rattle.jk_model_heaps.specs.declared.shapes.Shape.{Shape}
use Rattle.jk_model_heaps.specs.declared.shapes.Shape.TheVariants as Of
use Rattle.graph_copy.specs.declared.kinds.Kind.{Kind}
use Rattle.graph_copy.specs.declared.kinds.KnownClass.{KnownClass}
use Rattle.graph_copy.specs.Kinds.{IsKindOf, IsKnown, IsKnownOf}

pub kind_by_class : (classes : List ClassRecord) (last : Option KnownClass) (shape : Shape) (kind : Kind) → IsKnown classes last
    → IsKnownOf last shape kind → IsKindOf classes shape kind
kind_by_class classes last shape kind known of =
    subst (λ (p : Shape). IsKindOf classes p kind) (sym of.of_class)
    (subst (λ (k : Kind). IsKindOf classes (Of.Plain of.known.class) k) (sym of.of_kind) (known of.known of.is))

pub class_is_known : (classes : List ClassRecord) (shape : Shape) (c : ClassId) (kind : Kind) → shape ≡ Of.Plain c → IsKindOf classes shape kind
    → IsKnown classes (Some (let k : KnownClass = record { class = c; kind = kind } in k))
class_is_known classes shape c kind is of = λ k same.
    subst (λ (x : KnownClass). IsKindOf classes (Of.Plain x.class) x.kind) (same_Some (record { class = c; kind = kind }) k same)
    (subst (λ (p : Shape). IsKindOf classes p kind) is of)
