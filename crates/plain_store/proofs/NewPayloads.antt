-- What a new object has beside its header: its values are zeros and nulls, and its units are 0.
use Rattle.std.proofs.Common.{◌≡◌, ℕ, zero, suc, ◌+◌, ◌<◌, true, false, List, [], length, replicate, Some, slice_get, refl, subst, arith}
use Rattle.std.proofs.lemmas.List.{length-replicate}
use Rattle.std.proofs.lemmas.Option.{same_Some}
use Rattle.list_lemmas.proofs.ItemsByPlace.{comes_from}
use Rattle.jk_model.specs.declared.values.Value.{Value}
use Rattle.jk_model_classes.specs.declared.records.BaseRef.{BaseRef}
use Rattle.jk_model_classes.specs.declared.records.BaseRef.TheVariants as Base
use Rattle.jk_model_classes.specs.declared.records.ClassRecord.{ClassRecord}
use Rattle.jk_model_classes.specs.declared.records.FieldRecord.{FieldRecord}
use Rattle.jk_model_classes.specs.declared.records.TypeRef.{TypeRef}
use Rattle.jk_model_domains.specs.Objects.{Object}
use Rattle.jk_model_domains.specs.OwnStates.{zero_of}
use Rattle.jk_model_heaps.specs.declared.shapes.Shape.{Shape}
use Rattle.jk_model_heaps.specs.declared.shapes.Shape.TheVariants as Of
use Rattle.jk_model_heaps.specs.Heaps.{field_records, zero_object}
use Rattle.object_store.specs.HeapContents.{size_of}
use Rattle.plain_store.specs.Headers.{IsNarrow, is_text, kind_of, object_with, said_kind, said_len, units_in, values_in}

-- An object's payload is one for a shape.
pub record IsPayload (shape : Shape) (object : Object) : Type 0 where
  pub is : object_with shape (values_in object) (units_in object) ≡ object
  pub no_values : is_text shape ≡ true → values_in object ≡ []
  pub no_units : is_text shape ≡ false → units_in object ≡ []
  pub long : said_len shape (length (values_in object) + length (units_in object)) ≡ length (values_in object) + length (units_in object)
  pub kinds : (k : ℕ) (v : Value) → slice_get (values_in object) k ≡ Some v → said_kind shape (kind_of v) ≡ kind_of v
  pub narrow : (k : ℕ) (v : Value) → slice_get (values_in object) k ≡ Some v → IsNarrow v
  pub fit : (k u : ℕ) → slice_get (units_in object) k ≡ Some u → u < 65536

base_narrow : (b : BaseRef) → IsNarrow (zero_of (record { dims = 0; base = b }))
base_narrow Base.Long = record { name = omega arith; number = omega arith }
base_narrow (Base.Class c) = record { name = omega arith; number = omega arith }
base_narrow b = record { name = omega arith; number = omega arith }

dims_narrow : (dims : ℕ) (b : BaseRef) → IsNarrow (zero_of (record { dims = dims; base = b }))
dims_narrow zero b = base_narrow b
dims_narrow (suc dims) b = record { name = omega arith; number = omega arith }

zero_narrow : (t : TypeRef) → IsNarrow (zero_of t)
zero_narrow t = dims_narrow t.dims t.base

replicated : {X : Type 0} (n : ℕ) (x : X) (k : ℕ) (y : X) → slice_get (replicate n x) k ≡ Some y → x ≡ y
replicated zero x k y e = absurd cc
replicated (suc n) x zero y e = same_Some x y e
replicated (suc n) x (suc k) y e = replicated n x k y e

abbrev zero_in : FieldRecord → Value
zero_in f = zero_of f.kind

pub new_payload : (classes : List ClassRecord) (shape : Shape) → IsPayload shape (zero_object classes shape)
new_payload classes (Of.Plain c) =
    record {
      is = refl;
      no_values = λ text. absurd cc;
      no_units = λ value. refl;
      long = refl;
      kinds = λ k v e. refl;
      narrow =
          λ k v e.
          let from = comes_from zero_in (field_records classes c) k v e in
          subst IsNarrow from.gives (zero_narrow from.from.kind);
      fit = λ k u e. absurd cc;
    }
new_payload classes (Of.Array t n) =
    record {
      is = refl;
      no_values = λ text. absurd cc;
      no_units = λ value. refl;
      long = omega (arith, length-replicate {A = Value} n (zero_of t));
      kinds =
          λ k v e.
          let P : Value → Type 0 = λ (w : Value). kind_of (zero_of t) ≡ kind_of w in
          subst P (replicated n (zero_of t) k v e) refl;
      narrow = λ k v e. subst IsNarrow (replicated n (zero_of t) k v e) (zero_narrow t);
      fit = λ k u e. absurd cc;
    }
new_payload classes (Of.Text n) =
    record {
      is = refl;
      no_values = λ text. refl;
      no_units = λ value. absurd cc;
      long = omega (arith, length-replicate {A = ℕ} n 0);
      kinds = λ k v e. absurd cc;
      narrow = λ k v e. absurd cc;
      fit = λ k u e. let same : 0 ≡ u = replicated n 0 k u e in omega arith;
    }
new_payload classes (Of.Task s) =
    record {
      is = refl;
      no_values = λ text. absurd cc;
      no_units = λ value. refl;
      long = refl;
      kinds = λ k v e. absurd cc;
      narrow = λ k v e. absurd cc;
      fit = λ k u e. absurd cc;
    }

-- the payload is the size of the object
pub payload_size : (shape : Shape) (classes : List ClassRecord)
    → length (values_in (zero_object classes shape)) + length (units_in (zero_object classes shape)) ≡ size_of (zero_object classes shape)
payload_size (Of.Plain c) classes = omega arith
payload_size (Of.Array t n) classes = omega arith
payload_size (Of.Text n) classes = omega arith
payload_size (Of.Task s) classes = omega arith
