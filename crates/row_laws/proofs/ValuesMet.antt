-- What is known of values that meet what an instruction asks.
use Rattle.std.proofs.Common.{inl, inr, ◌≡◌, ◌⊎◌, ℕ, zero, suc, ◌≤◌, ℤ, List, [], ◌∷◌, length, map, replicate, refl, ap, subst, ◌∙◌, arith}
use Rattle.jk_model.specs.declared.identifiers.CapId.{CapId}
use Rattle.jk_model.specs.declared.values.Value.{Value}
use Rattle.jk_model.specs.declared.values.Value.TheVariants as Held
use Rattle.jk_model_classes.specs.declared.records.BaseRef.{BaseRef}
use Rattle.jk_model_classes.specs.declared.records.BaseRef.TheVariants as Base
use Rattle.jk_model_classes.specs.declared.records.TypeRef.{TypeRef}
use Rattle.jk_model_typing.specs.declared.frames.Demand.{Demand}
use Rattle.jk_model_typing.specs.declared.frames.Demand.TheVariants.{Array, Fitting, FittingEither, Reference, ReferenceArray}
use Rattle.jk_model_typing.specs.declared.frames.VType.{VType}
use Rattle.jk_model_typing.specs.declared.frames.VType.TheVariants.{Unusable, Int, Long, Null, Ref, Fresh, FreshThis}
use Rattle.jk_model_typing.specs.FrameTypes.{Fits, RefFits, THROWABLE, throwable}
use Rattle.jk_model_typing.specs.Rows.{IsArray, IsReference}
use Rattle.jk_model_typing.specs.Scopes.{CodeScope}
use Rattle.jk_model_frames.specs.Frames.{FrameState}
use Rattle.jk_model_domains.specs.NumberRows.{IsOnTop}
use Rattle.jk_model_domains.specs.Objects.{NamedObject, CAPABILITY, class_type}
use Rattle.jk_model_domains.specs.ValueTypes.{ValueFits}
use Rattle.jk_model_heaps.specs.Capabilities.{CapRange, IsGivenOut}
use Rattle.jk_model_sealing.specs.SealedInsides.{IsKnownValue}
use Rattle.number_laws.proofs.ValuesFit.{fits_int, int_fits}
use Rattle.heap_laws.specs.SoundCodes.{AreSoundCodes}
use Rattle.type_frames.proofs.OrderOfTypes.{RefFits-trans}
use Rattle.row_laws.specs.Operands.{ValueMeets, ValuesMeet}
use Rattle.row_laws.proofs.ElementsOfArrays.{array_or_null, dims_fit, null_only, ref_array}
use Rattle.row_laws.proofs.SystemParents.{no_capability}
use Rattle.row_laws.specs.HeapOperands.{IsArrayOrNull, IsObjectOrNull}

-- the number of a class
abbrev number_of : BaseRef → ℕ
number_of (Base.Class c) = c.0
number_of base = 0

-- ---- So many values.

module _ (s : CodeScope) (heap : List NamedObject) (f : FrameState) where
  pub one_taken : (d : Demand) → (taken : List Value) × IsOnTop f taken × ValuesMeet s heap (d ∷ []) taken
      → (v : Value) × IsOnTop f (v ∷ []) × ValueMeets s heap d v
  one_taken d ([], top, meet) = absurd meet
  one_taken d (v ∷ [], top, meet) = (v, top, meet.0)
  one_taken d (v ∷ w ∷ more, top, meet) = absurd meet.1

  pub two_taken : (d e : Demand) → (taken : List Value) × IsOnTop f taken × ValuesMeet s heap (d ∷ e ∷ []) taken
      → (v : Value) × (w : Value) × IsOnTop f (v ∷ w ∷ []) × ValueMeets s heap d v × ValueMeets s heap e w
  two_taken d e ([], top, meet) = absurd meet
  two_taken d e (v ∷ [], top, meet) = absurd meet.1
  two_taken d e (v ∷ w ∷ [], top, meet) = (v, w, top, meet.0, meet.1.0)
  two_taken d e (v ∷ w ∷ u ∷ more, top, meet) = absurd meet.1.1

  pub three_taken : (d e g : Demand) → (taken : List Value) × IsOnTop f taken × ValuesMeet s heap (d ∷ e ∷ g ∷ []) taken
      → (v : Value) × (w : Value) × (u : Value) × IsOnTop f (v ∷ w ∷ u ∷ []) × ValueMeets s heap d v × ValueMeets s heap e w
      × ValueMeets s heap g u
  three_taken d e g ([], top, meet) = absurd meet
  three_taken d e g (v ∷ [], top, meet) = absurd meet.1
  three_taken d e g (v ∷ w ∷ [], top, meet) = absurd meet.1.1
  three_taken d e g (v ∷ w ∷ u ∷ [], top, meet) = (v, w, u, top, meet.0, meet.1.0, meet.1.1.0)
  three_taken d e g (v ∷ w ∷ u ∷ x ∷ more, top, meet) = absurd meet.1.1.1

-- ---- Values by what is asked.

module _ (s : CodeScope) (heap : List NamedObject) where
  pub int_met : (v : Value) → ValueMeets s heap (Fitting Int) v → (n : ℤ) × (v ≡ Held.Int n)
  int_met v (t, meets, fits) = int_fits s heap v (subst (ValueFits s heap v) (fits_int s heap t meets) fits)

  pub ints_met : (n : ℕ) (vs : List Value) → ValuesMeet s heap (replicate n (Fitting Int)) vs
      → (ks : List ℤ) × (vs ≡ map Held.Int ks) × (length ks ≡ n)
  ints_met zero [] h = ([], refl, refl)
  ints_met zero (v ∷ vs) h = absurd h
  ints_met (suc n) [] h = absurd h
  ints_met (suc n) (v ∷ vs) h =
      let one = int_met v h.0 in
      let more = ints_met n vs h.1 in
      (one.0 ∷ more.0, ap (λ (x : Value). x ∷ vs) one.1 ∙ ap (λ (xs : List Value). Held.Int one.0 ∷ xs) more.1, ap suc more.2)

  -- what fits a reference that isn't fresh is null or fits it as a reference
  ref_met : (t : VType) (u : TypeRef) → Fits s.classes t (Ref u) → (t ≡ Null) ⊎ ((a : TypeRef) × (t ≡ Ref a) × RefFits s.classes a u)
  ref_met Null u h = inl refl
  ref_met (Ref a) u h = inr (a, refl, h)
  ref_met Unusable u h = absurd cc
  ref_met Int u h = absurd cc
  ref_met Long u h = absurd cc
  ref_met (Fresh p) u h = absurd cc
  ref_met FreshThis u h = absurd cc

  array_fits : (u : TypeRef) → 1 ≤ u.dims → (v : Value) (t : VType) → Fits s.classes t (Ref u) → ValueFits s heap v t → IsArrayOrNull heap v
  array_fits u some v t meets fits = elim (ref_met t u meets) [
    | inl null ↦ inl (null_only s heap v (subst (ValueFits s heap v) null fits))
    | inr (a, is, below) ↦
        ref_array s heap v a (omega (arith, some, dims_fit s.classes a u below)) (subst (ValueFits s heap v) is fits)
  ]

  pub array_met : (u : TypeRef) → 1 ≤ u.dims → (v : Value) → ValueMeets s heap (Fitting (Ref u)) v → IsArrayOrNull heap v
  array_met u some v (t, meets, fits) = array_fits u some v t meets fits

  pub either_met : (u w : TypeRef) → 1 ≤ u.dims → 1 ≤ w.dims → (v : Value) → ValueMeets s heap (FittingEither (Ref u) (Ref w)) v
      → IsArrayOrNull heap v
  either_met u w some more v (t, inl meets, fits) = array_fits u some v t meets fits
  either_met u w some more v (t, inr meets, fits) = array_fits w more v t meets fits

  pub references_met : (v : Value) → ValueMeets s heap ReferenceArray v → IsArrayOrNull heap v
  references_met v (t, meets, fits) = array_or_null s heap v t meets fits

  any_array : (v : Value) (t : VType) → IsArray t → ValueFits s heap v t → IsArrayOrNull heap v
  any_array v Null k h = inl (null_only s heap v h)
  any_array v (Ref t) k h = ref_array s heap v t (omega (arith, k)) h
  any_array v Unusable k h = absurd k
  any_array v Int k h = absurd k
  any_array v Long k h = absurd k
  any_array v (Fresh p) k h = absurd k
  any_array v FreshThis k h = absurd k

  pub any_array_met : (v : Value) → ValueMeets s heap Array v → IsArrayOrNull heap v
  any_array_met v (t, meets, fits) = any_array v t meets fits

  -- a throwable, or null
  ref_object : (sound : AreSoundCodes s.classes) (v : Value) (a : TypeRef) → RefFits s.classes a (class_type THROWABLE) → ValueFits s heap v (Ref a)
      → IsObjectOrNull heap v
  ref_object sound (Held.Int n) a below h = absurd h
  ref_object sound (Held.Long n) a below h = absurd h
  ref_object sound Held.Null a below h = inl refl
  ref_object sound (Held.Obj n) a below (o, is, fits) = inr (n, o, refl, is)
  ref_object sound (Held.Cap k) a below h = absurd (no_cap (RefFits-trans s.classes sound.ordered (class_type CAPABILITY) a (class_type THROWABLE) h below))
    where
      no_cap : RefFits s.classes (class_type CAPABILITY) (class_type THROWABLE) → ⊥
      no_cap (inl same) = let number : 11 ≡ 9 = ap (λ (t : TypeRef). number_of t.base) same in omega (arith, number)
      no_cap (inr (inl (dims, up))) = no_capability s.classes sound CAPABILITY up refl
      no_cap (inr (inr (lower, object))) = omega (arith, lower)
  ref_object sound Held.Unset a below h = absurd h

  pub throwable_met : AreSoundCodes s.classes → (v : Value) → ValueMeets s heap (Fitting throwable) v → IsObjectOrNull heap v
  throwable_met sound v (t, meets, fits) = elim (ref_met t (class_type THROWABLE) meets) [
    | inl null ↦ inl (null_only s heap v (subst (ValueFits s heap v) null fits))
    | inr (a, is, below) ↦ ref_object sound v a below (subst (ValueFits s heap v) is fits)
  ]

  -- a reference: an object, null, or a capability that was given out
  known_reference : (ranges : List CapRange) (v : Value) (t : VType) → IsReference t → ValueFits s heap v t → IsKnownValue ranges heap v
      → IsObjectOrNull heap v ⊎ ((k : CapId) × (v ≡ Held.Cap k) × IsGivenOut ranges k)
  known_reference ranges v Null k h known = inl (inl (null_only s heap v h))
  known_reference ranges (Held.Int n) (Ref t) k h known = absurd h
  known_reference ranges (Held.Long n) (Ref t) k h known = absurd h
  known_reference ranges Held.Null (Ref t) k h known = inl (inl refl)
  known_reference ranges (Held.Obj a) (Ref t) k (o, is, fits) known = inl (inr (a, o, refl, is))
  known_reference ranges (Held.Cap c) (Ref t) k h known = inr (c, refl, known)
  known_reference ranges Held.Unset (Ref t) k h known = absurd h
  known_reference ranges v Unusable k h known = absurd k
  known_reference ranges v Int k h known = absurd k
  known_reference ranges v Long k h known = absurd k
  known_reference ranges v (Fresh p) k h known = absurd k
  known_reference ranges v FreshThis k h known = absurd k

  pub reference_met : (ranges : List CapRange) (v : Value) → IsKnownValue ranges heap v → ValueMeets s heap Reference v
      → IsObjectOrNull heap v ⊎ ((k : CapId) × (v ≡ Held.Cap k) × IsGivenOut ranges k)
  reference_met ranges v known (t, meets, fits) = known_reference ranges v t meets fits known
