-- Objects that are alike: of one class or element type, and of one length.
use Rattle.std.proofs.Common.{◌≡◌, ◌+◌, ◌*◌, ℕ, List, length, refl, sym, ap, subst, ◌∙◌}
use Rattle.jk_model.specs.declared.identifiers.ClassId.{ClassId}
use Rattle.jk_model.specs.declared.values.Value.{Value}
use Rattle.jk_model_classes.specs.declared.records.ClassRecord.{ClassRecord}
use Rattle.jk_model_classes.specs.declared.records.TypeRef.{TypeRef}
use Rattle.jk_model_classes.specs.Layouts.{HEADER_WORDS, cost_of, type_words}
use Rattle.jk_model_typing.specs.FrameTypes.{array_type}
use Rattle.jk_model_domains.specs.Objects.{Object, Array, Plain, Task, Text, class_type, object_words, type_of}
use Rattle.jk_model_domains.specs.ValueTypes.{IsPlainOf}
use Rattle.jk_model_heaps.specs.Heaps.{IsAlike}

pub alike_self : (o : Object) → IsAlike o o
alike_self (Plain c fields) = (refl, refl)
alike_self (Array t items) = (refl, refl)
alike_self (Text units) = refl
alike_self (Task s) = refl

pub alike_after : (o p q : Object) → IsAlike o p → IsAlike p q → IsAlike o q
alike_after (Plain c fields) (Plain d others) (Plain e more) h k = (h.0 ∙ k.0, h.1 ∙ k.1)
alike_after (Array t items) (Array u others) (Array v more) h k = (h.0 ∙ k.0, h.1 ∙ k.1)
alike_after (Text units) (Text others) (Text more) h k = h ∙ k
alike_after (Task r) (Task s) (Task t) h k = h ∙ k
alike_after (Plain c fields) (Plain d others) q h k = absurd k
alike_after (Array t items) (Array u others) q h k = absurd k
alike_after (Text units) (Text others) q h k = absurd k
alike_after (Task r) (Task s) q h k = absurd k
alike_after o p q h k = absurd h

-- they are of one type
pub alike_type : (o p : Object) → IsAlike o p → type_of o ≡ type_of p
alike_type (Plain c fields) (Plain d others) h = ap class_type h.0
alike_type (Array t items) (Array u others) h = ap (λ (e : TypeRef). array_type (e.dims + 1) e.base) h.0
alike_type (Text units) (Text others) h = refl
alike_type (Task r) (Task s) h = refl
alike_type o p h = absurd h

-- what is alike to a plain object is one of its class
plain_of : (c : ClassId) (fields : List Value) (p : Object) → IsAlike (Plain c fields) p → IsPlainOf c p
plain_of c fields (Plain d others) h = (others, ap (λ (e : ClassId). Plain e others) (sym h.0))
plain_of c fields p h = absurd h

pub alike_plain : (c : ClassId) (o p : Object) → IsAlike o p → IsPlainOf c o → IsPlainOf c p
alike_plain c o p h (fields, is) = plain_of c fields p (subst (λ (x : Object). IsAlike x p) is h)

pub alike_text : (units : List ℕ) (p : Object) → IsAlike (Text units) p → p ≡ Text units
alike_text units (Text others) h = ap Text (sym h)
alike_text units p h = absurd h

-- they cost the same
pub alike_words : (classes : List ClassRecord) (o p : Object) → IsAlike o p → object_words classes p ≡ object_words classes o
alike_words classes (Plain c fields) (Plain d others) h = ap (cost_of classes) (sym h.0)
alike_words classes (Array t items) (Array u others) h =
    ap (λ (e : TypeRef). HEADER_WORDS + type_words e * length others) (sym h.0)
    ∙ ap (λ (n : ℕ). HEADER_WORDS + type_words t * n) (sym h.1)
alike_words classes (Text units) (Text others) h = ap (λ (more : List ℕ). HEADER_WORDS + length more) (sym h)
alike_words classes (Task r) (Task s) h = refl
alike_words classes o p h = absurd h
