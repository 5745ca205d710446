-- A pool that gets the entry of a constant takes the constant, where its parts are there.
use Rattle.std.proofs.Common.{◌≡◌, ◌≢◌, ℕ, ◌⊎◌, inl, inr, List, [], ◌∷◌, ◌++◌, length, Some, slice_get, refl, sym, ◌∙◌, subst}
use Rattle.std.proofs.lemmas.List.{append-nil}
use Rattle.jk_model.specs.declared.class_file.PoolEntry.{PoolEntry}
use Rattle.jk_model.specs.declared.class_file.PoolEntry.TheVariants as entries
use Rattle.jk_model_classes.specs.Items.{HasItem}
use Rattle.jkasm.specs.declared.pool.key.Key.{Key}
use Rattle.jkasm.specs.Constants.{PoolConstant, Says, HasJust}
use Rattle.jkasm.specs.Limits.{places_of}
use Rattle.jkasm.specs.PoolGrowth.{Extends, Takes}
use Rattle.jkasm.specs.PoolIndex.{EntriesDiffer, HasPut}
use Rattle.jkasm.specs.PoolKeys.{entry_of, slots_of}
use Rattle.jkasm.proofs.EachSaidOnce.{says_once}
use Rattle.jkasm.proofs.IndexOfGrownPool.{old_or_new}
use Rattle.jkasm.proofs.ItemsOfBoth.{has_front, has_back, has_cases, has_one, one_has}
use Rattle.jkasm.proofs.SaysLater.{entry_later, says_later}

-- In this pool the entry of this content says the constant, no other does, and it takes as many places.
pub record IsEntryOf (pool : List PoolEntry) (key : Key) (c : PoolConstant) : Type 0 where
  pub says : (new : List PoolEntry) (i : ℕ) → Extends pool new → slice_get new i ≡ Some (entry_of key) → Says new i c
  pub only : (j : ℕ) → EntriesDiffer pool → Says pool j c → slice_get pool j ≡ Some (entry_of key)
  pub places : places_of c ≡ length (slots_of key)

pub differ_before : (old new : List PoolEntry) → Extends old new → EntriesDiffer new → EntriesDiffer old
differ_before old new grown differ i j e ne one other =
    differ i j e ne (entry_later old new i e grown one) (entry_later old new j e grown other)

module _ (old new : List PoolEntry) (key : Key) (i : ℕ) (put : HasPut old new key i) where
  pub put_extends : Extends old new
  put_extends = elim (put.grows) [
    | inl same ↦ ([], same ∙ sym (append-nil old))
    | inr (grown, place) ↦ (slots_of key, grown)
  ]

  -- what stands in the pool stood there, or is the entry that was put
  put_cases : (j : ℕ) (e : PoolEntry) → slice_get new j ≡ Some e → e ≢ entries.Unusable → (slice_get old j ≡ Some e) ⊎ (j ≡ i)
  put_cases j e at ne = elim (put.grows) [
    | inl same ↦ inl (rw same at at)
    | inr (grown, place) ↦ elim (old_or_new old key j e (rw grown at at) ne) [
      | inl front ↦ inl front
      | inr (last, is) ↦ inr (last ∙ sym place)
    ]
  ]

  module _ (c : PoolConstant) (entry : IsEntryOf old key c) where
    pub put_says : Says new i c
    put_says = entry.says new i put_extends (put.found)

    all_said : (before : List PoolConstant) → HasJust old before → (constant : PoolConstant)
        → HasItem (λ k. k ≡ constant) (before ++ c ∷ []) → (j : ℕ) × Says new j constant
    all_said before h constant has = elim (has_cases (λ k. k ≡ constant) before (c ∷ []) has) [
      | inl front ↦ let (j, said) = h.all constant front in (j, says_later old new j constant put_extends said)
      | inr last ↦ (i, subst (Says new i) (one_has (λ k. k ≡ constant) c last) put_says)
    ]

    only_these : (before : List PoolConstant) → HasJust old before → (j : ℕ) (e : PoolEntry) → slice_get new j ≡ Some e → e ≢ entries.Unusable
        → (constant : PoolConstant) × HasItem (λ k. k ≡ constant) (before ++ c ∷ []) × Says new j constant
    only_these before h j e at ne = elim (put_cases j e at ne) [
      | inl front ↦
          let (constant, has, said) = h.only j e front ne in
          (constant, has_front (λ k. k ≡ constant) before (c ∷ []) has, says_later old new j constant put_extends said)
      | inr last ↦ (
        c,
        has_back (λ k. k ≡ c) before (c ∷ []) (has_one (λ k. k ≡ c) c refl),
        subst (λ (x : ℕ). Says new x c) (sym last) put_says,
      )
    ]

    pub put_takes : Takes old new (c ∷ [])
    put_takes = record {
      extends = put_extends;
      just = λ before h. record {
        all = all_said before h;
        once = λ constant j k. says_once new (put.differ) j k constant;
        only = only_these before h;
      };
    }
