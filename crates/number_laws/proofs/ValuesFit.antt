-- What is known of values that fit types: how many there are, how many slots they take, and of which kind they are.
use Rattle.std.proofs.Common.{◌≡◌, ℕ, zero, suc, ◌≤◌, ℤ, List, [], ◌∷◌, ◌++◌, length, Some, slice_get, refl, ap, subst, arith}
use Rattle.std.specs.List.{AllByRecursion}
use Rattle.std.proofs.lemmas.Option.{same_Some}
use Rattle.std.proofs.lemmas.List.Sums.{sum_by-cons}
use Rattle.jk_model.specs.declared.values.Value.{Value}
use Rattle.jk_model.specs.declared.values.Value.TheVariants as Held
use Rattle.jk_model_typing.specs.declared.frames.Demand.{Demand}
use Rattle.jk_model_typing.specs.declared.frames.Demand.TheVariants.{Fitting, FittingEither, FittingBoth, Reference, AnyReference, ReferenceArray, Array, Receiver, PutReceiver}
use Rattle.jk_model_typing.specs.declared.frames.VType.{VType}
use Rattle.jk_model_typing.specs.declared.frames.VType.TheVariants.{Unusable, Int, Long, Null, Ref, Fresh, FreshThis}
use Rattle.jk_model_typing.specs.FrameTypes.{Fits, IsUsable, slots, slots_of}
use Rattle.jk_model_typing.specs.Rows.{AllMeet, Meets}
use Rattle.jk_model_typing.specs.Scopes.{CodeScope}
use Rattle.jk_model_domains.specs.NumberRows.{value_slots, values_slots}
use Rattle.jk_model_domains.specs.Objects.{NamedObject}
use Rattle.jk_model_domains.specs.ValueTypes.{EachValueFits, ValueFits}
use Rattle.number_laws.specs.KnownValues.{AreMet, IsMet, IsOf}

pub usable-append : (ts us : List VType) → AllByRecursion IsUsable (ts ++ us) → AllByRecursion IsUsable ts × AllByRecursion IsUsable us
usable-append [] us h = (tt, h)
usable-append (t ∷ ts) us h = let more = usable-append ts us h.1 in ((h.0, more.0), more.1)

pub long_slots : (ts : List VType) → length ts ≤ slots ts
long_slots [] = omega arith
long_slots (t ∷ ts) = omega (arith, long_slots ts, sum_by-cons slots_of t ts, one t)
  where
    one : (t : VType) → 1 ≤ slots_of t
    one Unusable = omega arith
    one Int = omega arith
    one Long = omega arith
    one Null = omega arith
    one (Ref t) = omega arith
    one (Fresh p) = omega arith
    one FreshThis = omega arith

module _ (s : CodeScope) (heap : List NamedObject) where
  pub value_slots-fit : (v : Value) (t : VType) → ValueFits s heap v t → IsUsable t → value_slots v ≡ slots_of t
  value_slots-fit (Held.Int n) Unusable h u = absurd u
  value_slots-fit (Held.Int n) Int h u = refl
  value_slots-fit (Held.Int n) Long h u = absurd h
  value_slots-fit (Held.Int n) Null h u = absurd h
  value_slots-fit (Held.Int n) (Ref t) h u = absurd h
  value_slots-fit (Held.Int n) (Fresh p) h u = absurd h
  value_slots-fit (Held.Int n) FreshThis h u = absurd h
  value_slots-fit (Held.Long n) Unusable h u = absurd u
  value_slots-fit (Held.Long n) Int h u = absurd h
  value_slots-fit (Held.Long n) Long h u = refl
  value_slots-fit (Held.Long n) Null h u = absurd h
  value_slots-fit (Held.Long n) (Ref t) h u = absurd h
  value_slots-fit (Held.Long n) (Fresh p) h u = absurd h
  value_slots-fit (Held.Long n) FreshThis h u = absurd h
  value_slots-fit Held.Null Unusable h u = absurd u
  value_slots-fit Held.Null Int h u = absurd h
  value_slots-fit Held.Null Long h u = absurd h
  value_slots-fit Held.Null Null h u = refl
  value_slots-fit Held.Null (Ref t) h u = refl
  value_slots-fit Held.Null (Fresh p) h u = absurd h
  value_slots-fit Held.Null FreshThis h u = absurd h
  value_slots-fit (Held.Obj a) Unusable h u = absurd u
  value_slots-fit (Held.Obj a) Int h u = absurd h.2
  value_slots-fit (Held.Obj a) Long h u = absurd h.2
  value_slots-fit (Held.Obj a) Null h u = absurd h.2
  value_slots-fit (Held.Obj a) (Ref t) h u = refl
  value_slots-fit (Held.Obj a) (Fresh p) h u = refl
  value_slots-fit (Held.Obj a) FreshThis h u = refl
  value_slots-fit (Held.Cap k) Unusable h u = absurd u
  value_slots-fit (Held.Cap k) Int h u = absurd h
  value_slots-fit (Held.Cap k) Long h u = absurd h
  value_slots-fit (Held.Cap k) Null h u = absurd h
  value_slots-fit (Held.Cap k) (Ref t) h u = refl
  value_slots-fit (Held.Cap k) (Fresh p) h u = absurd h
  value_slots-fit (Held.Cap k) FreshThis h u = absurd h
  value_slots-fit Held.Unset Unusable h u = absurd u
  value_slots-fit Held.Unset Int h u = absurd h
  value_slots-fit Held.Unset Long h u = absurd h
  value_slots-fit Held.Unset Null h u = absurd h
  value_slots-fit Held.Unset (Ref t) h u = absurd h
  value_slots-fit Held.Unset (Fresh p) h u = absurd h
  value_slots-fit Held.Unset FreshThis h u = absurd h

  pub int_fits : (v : Value) → ValueFits s heap v Int → (n : ℤ) × (v ≡ Held.Int n)
  int_fits (Held.Int n) h = (n, refl)
  int_fits (Held.Long n) h = absurd h
  int_fits Held.Null h = absurd h
  int_fits (Held.Obj a) h = absurd h.2
  int_fits (Held.Cap k) h = absurd h
  int_fits Held.Unset h = absurd h

  pub long_fits : (v : Value) → ValueFits s heap v Long → (n : ℤ) × (v ≡ Held.Long n)
  long_fits (Held.Int n) h = absurd h
  long_fits (Held.Long n) h = (n, refl)
  long_fits Held.Null h = absurd h
  long_fits (Held.Obj a) h = absurd h.2
  long_fits (Held.Cap k) h = absurd h
  long_fits Held.Unset h = absurd h

  pub fits-length : (vs : List Value) (ts : List VType) → EachValueFits s heap vs ts → length vs ≡ length ts
  fits-length [] [] h = refl
  fits-length [] (t ∷ ts) h = absurd h
  fits-length (v ∷ vs) [] h = absurd h
  fits-length (v ∷ vs) (t ∷ ts) h = ap suc (fits-length vs ts h.1)

  pub fits-slots : (vs : List Value) (ts : List VType) → EachValueFits s heap vs ts → AllByRecursion IsUsable ts
      → values_slots vs ≡ slots ts
  fits-slots [] [] h u = refl
  fits-slots [] (t ∷ ts) h u = absurd h
  fits-slots (v ∷ vs) [] h u = absurd h
  fits-slots (v ∷ vs) (t ∷ ts) h u =
      omega (arith, fits-slots vs ts h.1 u.1, value_slots-fit v t h.0 u.0, sum_by-cons value_slots v vs, sum_by-cons slots_of t ts)

  -- the values of the types at the end
  pub record EndFits (vs : List Value) (ts us : List VType) : Type 0 where
    pub front : List Value
    pub back : List Value
    pub whole : vs ≡ front ++ back
    pub front_fits : EachValueFits s heap front ts
    pub back_fits : EachValueFits s heap back us

  pub end_fits : (vs : List Value) (ts us : List VType) → EachValueFits s heap vs (ts ++ us) → EndFits vs ts us
  end_fits vs [] us h = record { front = []; back = vs; whole = refl; front_fits = tt; back_fits = h }
  end_fits [] (t ∷ ts) us h = absurd h
  end_fits (v ∷ vs) (t ∷ ts) us h =
      let more = end_fits vs ts us h.1 in
      record {
        front = v ∷ more.front;
        back = more.back;
        whole = ap (λ (xs : List Value). v ∷ xs) more.whole;
        front_fits = (h.0, more.front_fits);
        back_fits = more.back_fits;
      }

  pub fits-append : (vs ws : List Value) (ts us : List VType) → EachValueFits s heap vs ts → EachValueFits s heap ws us
      → EachValueFits s heap (vs ++ ws) (ts ++ us)
  fits-append [] ws [] us h k = k
  fits-append [] ws (t ∷ ts) us h k = absurd h
  fits-append (v ∷ vs) ws [] us h k = absurd h
  fits-append (v ∷ vs) ws (t ∷ ts) us h k = (h.0, fits-append vs ws ts us h.1 k)

  pub record ValueAt (vs : List Value) (n : ℕ) (t : VType) : Type 0 where
    pub value : Value
    pub at : slice_get vs n ≡ Some value
    pub fits : ValueFits s heap value t

  pub value_at : (vs : List Value) (ts : List VType) (n : ℕ) (t : VType) → EachValueFits s heap vs ts → slice_get ts n ≡ Some t
      → ValueAt vs n t
  value_at [] [] n t h at = absurd cc
  value_at [] (u ∷ ts) n t h at = absurd h
  value_at (v ∷ vs) [] n t h at = absurd h
  value_at (v ∷ vs) (u ∷ ts) zero t h at =
      record { value = v; at = refl; fits = subst (ValueFits s heap v) (same_Some u t at) h.0 }
  value_at (v ∷ vs) (u ∷ ts) (suc n) t h at =
      let more = value_at vs ts n t h.1 at in
      record { value = more.value; at = more.at; fits = more.fits }

  -- ---- Demands.

  -- only an int fits int, and only a long fits long
  pub fits_int : (t : VType) → Fits s.classes t Int → t ≡ Int
  fits_int Unusable h = h
  fits_int Int h = refl
  fits_int Long h = h
  fits_int Null h = h
  fits_int (Ref t) h = h
  fits_int (Fresh p) h = h
  fits_int FreshThis h = h

  pub fits_long : (t : VType) → Fits s.classes t Long → t ≡ Long
  fits_long Unusable h = h
  fits_long Int h = h
  fits_long Long h = refl
  fits_long Null h = h
  fits_long (Ref t) h = h
  fits_long (Fresh p) h = h
  fits_long FreshThis h = h

  is_of : (t u : VType) (v : Value) → Fits s.classes u t → ValueFits s heap v u → IsOf t v
  is_of Unusable u v meets fits = tt
  is_of Int u v meets fits = int_fits v (subst (ValueFits s heap v) (fits_int u meets) fits)
  is_of Long u v meets fits = long_fits v (subst (ValueFits s heap v) (fits_long u meets) fits)
  is_of Null u v meets fits = tt
  is_of (Ref t) u v meets fits = tt
  is_of (Fresh p) u v meets fits = tt
  is_of FreshThis u v meets fits = tt

  is_met : (d : Demand) (u : VType) (v : Value) → Meets s d u → ValueFits s heap v u → IsMet d v
  is_met (Fitting t) u v meets fits = is_of t u v meets fits
  is_met (FittingEither t t') u v meets fits = tt
  is_met (FittingBoth t t') u v meets fits = tt
  is_met Reference u v meets fits = tt
  is_met AnyReference u v meets fits = tt
  is_met ReferenceArray u v meets fits = tt
  is_met Array u v meets fits = tt
  is_met (Receiver c m) u v meets fits = tt
  is_met (PutReceiver c m) u v meets fits = tt

  pub are_met : (ds : List Demand) (us : List VType) (vs : List Value) → AllMeet s ds us → EachValueFits s heap vs us → AreMet ds vs
  are_met [] [] [] meets fits = tt
  are_met [] [] (v ∷ vs) meets fits = absurd fits
  are_met [] (u ∷ us) vs meets fits = absurd meets
  are_met (d ∷ ds) [] vs meets fits = absurd meets
  are_met (d ∷ ds) (u ∷ us) [] meets fits = absurd fits
  are_met (d ∷ ds) (u ∷ us) (v ∷ vs) meets fits = (is_met d u v meets.0 fits.0, are_met ds us vs meets.1 fits.1)
