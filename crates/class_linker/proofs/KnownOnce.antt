-- The types that were read so far, and one more.
use Rattle.std.proofs.Common.{◌≡◌, ℕ, ◌<◌, inl, inr, List, length, sym, ◌∙◌, subst, Option, Some, slice_get}
use Rattle.std.specs.Prelude.{slice_set}
use Rattle.std.specs.List.{AllZip}
use Rattle.std.proofs.Math.ListN.{length-set}
use Rattle.std.proofs.lemmas.Option.{same_Some, slice_get_within}
use Rattle.jk_model.specs.declared.class_file.PoolEntry.{PoolEntry}
use Rattle.jk_model.specs.declared.descriptors.FieldType.{FieldType}
use Rattle.jk_model.specs.declared.descriptors.MethodType.{MethodType}
use Rattle.jk_model.specs.Descriptors.{IsMethodText}
use Rattle.jk_model_classes.specs.declared.records.TypeRef.{TypeRef}
use Rattle.jk_model_classes.specs.Members.{TextAt}
use Rattle.jk_model_classes.specs.SystemRecords.{IsResultFor, IsTypeFor}
use Rattle.list_lemmas.proofs.ItemsByPlace.{slice_get-set_cases}
use Rattle.class_linker.specs.declared.types.MethodKind.{MethodKind}
use Rattle.class_linker.specs.KnownDescriptors.{AreKindsKnown, AreTypesKnown, IsKindAt, IsTypeAt}
use Rattle.class_linker.specs.KnownTypes.{Meaning, IsKindOf}
use Rattle.class_linker.proofs.ItemByItem.{along}

pub text_within : (pool : List PoolEntry) (i : ℕ) (units : List ℕ) → TextAt pool i units → i < length pool
text_within pool i units (bytes, at, spelt) = slice_get_within pool i _ at

pub types_more : (m : Meaning) (pool : List PoolEntry) (known : List (Option TypeRef)) (n i : ℕ) (t : TypeRef) → n ≡ i → AreTypesKnown m pool known
    → IsTypeAt m pool i t → AreTypesKnown m pool (slice_set known n (Some t))
types_more m pool known n i t same are is = record { long = length-set known n (Some t) ∙ are.long; each = each }
  where
    each : (k : ℕ) (ref : TypeRef) → slice_get (slice_set known n (Some t)) k ≡ Some (Some ref) → IsTypeAt m pool k ref
    each k ref at =
        elim (slice_get-set_cases known n k (Some t) (Some ref) at) [
          | inl here ↦
              let one : t ≡ ref = same_Some t ref here.1 in
              subst (λ (r : TypeRef). IsTypeAt m pool k r) one (subst (λ (j : ℕ). IsTypeAt m pool j t) (sym same ∙ here.0) is)
          | inr old ↦ are.each k ref old
        ]

pub kinds_more : (m : Meaning) (pool : List PoolEntry) (known : List (Option MethodKind)) (n i : ℕ) (t : MethodKind) → n ≡ i → AreKindsKnown m pool known
    → IsKindAt m pool i t → AreKindsKnown m pool (slice_set known n (Some t))
kinds_more m pool known n i t same are is = record { long = length-set known n (Some t) ∙ are.long; each = each }
  where
    each : (k : ℕ) (ref : MethodKind) → slice_get (slice_set known n (Some t)) k ≡ Some (Some ref) → IsKindAt m pool k ref
    each k ref at =
        elim (slice_get-set_cases known n k (Some t) (Some ref) at) [
          | inl here ↦
              let one : t ≡ ref = same_Some t ref here.1 in
              subst (λ (r : MethodKind). IsKindAt m pool k r) one (subst (λ (j : ℕ). IsKindAt m pool j t) (sym same ∙ here.0) is)
          | inr old ↦ are.each k ref old
        ]

-- the parts of a method's type make one
pub kind_made : (m : Meaning) (units : List ℕ) (kind shared : MethodType) (types : List FieldType) (params held : List TypeRef) (returns : Option TypeRef)
    → IsMethodText units kind → shared ≡ kind → types ≡ kind.params → AllZip (IsTypeFor m) types params → held ≡ params → IsResultFor m kind.result returns
    → IsKindOf m units (record { kind = shared; params = held; returns = returns })
kind_made m units kind shared types params held returns text same_kind same_types zip same_params result =
    subst (λ (k : MethodType). IsKindOf m units (record { kind = k; params = held; returns = returns })) (sym same_kind)
    (subst (λ (p : List TypeRef). IsKindOf m units (record { kind = kind; params = p; returns = returns })) (sym same_params) (record {
      text = text;
      params = let all = along (IsTypeFor m) kind.params params (subst (λ (ts : List FieldType). AllZip (IsTypeFor m) ts params) same_types zip) in
          record { as_many = all.as_many; each = all.each };
      returns = result;
    }))
