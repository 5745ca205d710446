-- Elements of one kind of whole numbers, or references, have zeros of one kind.
use Rattle.std.proofs.Common.{◌≡◌, ◌≢◌, ℕ, zero, suc, ◌==◌, pos, Option, Some, None, refl, sym, ap, ◌∙◌, subst, arith}
use Rattle.std.proofs.lemmas.Bool.{cond-false, ne_eqb}
use Rattle.jk_model.specs.declared.values.Value.{Value}
use Rattle.jk_model.specs.declared.values.Value.TheVariants as Held
use Rattle.jk_model_classes.specs.declared.records.BaseRef.{BaseRef}
use Rattle.jk_model_classes.specs.declared.records.BaseRef.TheVariants as Base
use Rattle.jk_model_classes.specs.declared.records.TypeRef.{TypeRef}
use Rattle.jk_model_typing.specs.FrameTypes.{array_type}
use Rattle.jk_model_domains.specs.OwnStates.{zero_of}
use Rattle.jk_model_system_rows.specs.ArrayCopies.{number_kind}
use Rattle.object_store.specs.HeapContents.{AreOfKind, IsReference}

-- the zero of elements, by the kind of whole numbers that they are, or none
abbrev kind_zero : Option BaseRef → Value
kind_zero None = Held.Null
kind_zero (Some Base.Long) = Held.Long (pos 0)
kind_zero (Some base) = Held.Int (pos 0)

no_number : (dims : ℕ) (base : BaseRef) → number_kind (array_type (suc dims) base) ≡ None
no_number dims base = let deep : suc dims ≢ 0 = λ e. omega (arith, e) in cond-false (suc dims == 0) _ None (ne_eqb (suc dims) 0 deep)

zero_by_kind : (dims : ℕ) (base : BaseRef) → zero_of (array_type dims base) ≡ kind_zero (number_kind (array_type dims base))
zero_by_kind zero Base.Byte = refl
zero_by_kind zero Base.Char = refl
zero_by_kind zero Base.Int = refl
zero_by_kind zero Base.Long = refl
zero_by_kind zero Base.Short = refl
zero_by_kind zero Base.Bool = refl
zero_by_kind zero (Base.Class c) = refl
zero_by_kind (suc dims) base = ap kind_zero (sym (no_number dims base))

of_itself : (kind : Option BaseRef) → AreOfKind (kind_zero kind) (kind_zero kind)
of_itself None = (tt, tt)
of_itself (Some Base.Long) = tt
of_itself (Some Base.Byte) = tt
of_itself (Some Base.Char) = tt
of_itself (Some Base.Int) = tt
of_itself (Some Base.Short) = tt
of_itself (Some Base.Bool) = tt
of_itself (Some (Base.Class c)) = tt

pub of_one_kind : (t u : TypeRef) → number_kind t ≡ number_kind u → AreOfKind (zero_of t) (zero_of u)
of_one_kind t u same =
    let first : zero_of t ≡ kind_zero (number_kind t) = zero_by_kind t.dims t.base in
    let second : zero_of u ≡ kind_zero (number_kind u) = zero_by_kind u.dims u.base in
    let one : kind_zero (number_kind t) ≡ zero_of u = ap kind_zero same ∙ sym second in
    subst (λ (v : Value). AreOfKind v (zero_of u)) (sym first)
    (subst (λ (v : Value). AreOfKind (kind_zero (number_kind t)) v) one (of_itself (number_kind t)))

-- ---- Elements that are no whole numbers.

null_kind : (v : Value) → AreOfKind Held.Null v → IsReference v
null_kind (Held.Int n) h = absurd h.1
null_kind (Held.Long n) h = absurd h.1
null_kind Held.Null h = tt
null_kind (Held.Obj a) h = tt
null_kind (Held.Cap k) h = tt
null_kind Held.Unset h = h.1

pub of_references : (t : TypeRef) (v : Value) → number_kind t ≡ None → AreOfKind (zero_of t) v → IsReference v
of_references t v none kind =
    let zero : zero_of t ≡ Held.Null = zero_by_kind t.dims t.base ∙ ap kind_zero none in
    null_kind v (subst (λ (w : Value). AreOfKind w v) zero kind)
