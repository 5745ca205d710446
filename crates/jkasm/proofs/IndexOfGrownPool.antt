-- The index of a pool knows it after an entry came to it, and where nothing came.
use Rattle.std.proofs.Common.{◌≡◌, ◌≢◌, ℕ, zero, suc, ◌+◌, ◌<◌, ◌≤◌, ◌⊎◌, inl, inr, Bool, true, false, cond, List, [], ◌∷◌, ◌++◌, length, take, Option, Some, None, slice_get, refl, sym, ◌∙◌, ap, subst, arith}
use Rattle.std.proofs.Math.Seq.{take-append_seam}
use Rattle.std.specs.BTreeMap.{BTreeMap, get, is_at, Updates}
use Rattle.jk_model.specs.declared.class_file.PoolEntry.{PoolEntry}
use Rattle.jk_model.specs.declared.class_file.PoolEntry.TheVariants as entries
use Rattle.jk_model.specs.ClassFile.{IsEntry, IsGoodEntry}
use Rattle.jkasm.specs.declared.pool.key.Key.{Key}
use Rattle.jkasm.specs.declared.pool.key.Key.TheVariants as keys
use Rattle.jkasm.specs.contracts.pool.key.KeyOrd.TheImpl as block
use Rattle.jkasm.specs.PoolIndex.{StandsOnlyAt, EntriesDiffer, IsIndexed, HasPut, IsFull}
use Rattle.jkasm.specs.PoolKeys.{entry_of, slots_of}
use Rattle.jkasm.proofs.GrownPool.{file_pool_grows}
use Rattle.jkasm.proofs.ItemsOfBoth.{get_front, get_back, get_cases}
use Rattle.jkasm.proofs.KeysByEntries.{same_entry, same_key}

key_usable : (key : Key) → entry_of key ≢ entries.Unusable
key_usable (keys.Utf8 bytes) e = cc
key_usable (keys.Integer n) e = cc
key_usable (keys.Long n) e = cc
key_usable (keys.Class name) e = cc
key_usable (keys.Str text) e = cc
key_usable (keys.NameAndType name descriptor) e = cc
key_usable (keys.Field class pair) e = cc
key_usable (keys.Method class pair) e = cc
key_usable (keys.InterfaceMethod class pair) e = cc

pub slots_begin : (key : Key) → slice_get (slots_of key) 0 ≡ Some (entry_of key)
slots_begin (keys.Utf8 bytes) = refl
slots_begin (keys.Integer n) = refl
slots_begin (keys.Long n) = refl
slots_begin (keys.Class name) = refl
slots_begin (keys.Str text) = refl
slots_begin (keys.NameAndType name descriptor) = refl
slots_begin (keys.Field class pair) = refl
slots_begin (keys.Method class pair) = refl
slots_begin (keys.InterfaceMethod class pair) = refl

-- the entry stands first, and what follows it is unusable
past_one : (x e : PoolEntry) (k : ℕ) → slice_get (x ∷ []) k ≡ Some e → (k ≡ 0) × (e ≡ x)
past_one x e zero at = (refl, cc)
past_one x e (suc k) at = absurd cc

past_two : (x e : PoolEntry) (k : ℕ) → slice_get (x ∷ entries.Unusable ∷ []) k ≡ Some e → e ≢ entries.Unusable → (k ≡ 0) × (e ≡ x)
past_two x e zero at ne = (refl, cc)
past_two x e (suc zero) at ne =
    let is : e ≡ entries.Unusable = cc in
    absurd (ne is)
past_two x e (suc (suc k)) at ne = absurd cc

pub in_slots : (key : Key) (k : ℕ) (e : PoolEntry) → slice_get (slots_of key) k ≡ Some e → e ≢ entries.Unusable → (k ≡ 0) × (e ≡ entry_of key)
in_slots (keys.Utf8 bytes) k e at ne = past_one (entries.Utf8 bytes.items) e k at
in_slots (keys.Integer n) k e at ne = past_one (entries.Integer n) e k at
in_slots (keys.Long n) k e at ne = past_two (entries.Long n) e k at ne
in_slots (keys.Class name) k e at ne = past_one (entries.Class name) e k at
in_slots (keys.Str text) k e at ne = past_one (entries.Str text) e k at
in_slots (keys.NameAndType name descriptor) k e at ne = past_one (entries.NameAndType name descriptor) e k at
in_slots (keys.Field class pair) k e at ne = past_one (entries.FieldRef class pair) e k at
in_slots (keys.Method class pair) k e at ne = past_one (entries.MethodRef class pair) e k at
in_slots (keys.InterfaceMethod class pair) k e at ne = past_one (entries.InterfaceMethodRef class pair) e k at

-- an entry of the grown pool was there, or is the one that came
pub old_or_new : (pool : List PoolEntry) (key : Key) (i : ℕ) (e : PoolEntry) → slice_get (pool ++ slots_of key) i ≡ Some e → e ≢ entries.Unusable
    → (slice_get pool i ≡ Some e) ⊎ ((i ≡ length pool) × (e ≡ entry_of key))
old_or_new pool key i e at ne = elim (get_cases pool (slots_of key) i e at) [
  | inl front ↦ inl front
  | inr (j, place, back) ↦
      let (first, is) = in_slots key j e back ne in
      inr (omega arith, is)
]

pub stands_last : (pool : List PoolEntry) (key : Key) → slice_get (pool ++ slots_of key) (length pool) ≡ Some (entry_of key)
stands_last pool key = get_back pool (slots_of key) (length pool) 0 (entry_of key) (omega arith) (slots_begin key)

module _ (pool : List PoolEntry) (key : Key) (absent : (j : ℕ) → slice_get pool j ≡ Some (entry_of key) → ⊥) where
  -- an entry that was there isn't the one that came
  not_both : (j : ℕ) (e : PoolEntry) → slice_get pool j ≡ Some e → e ≡ entry_of key → ⊥
  not_both j e at is = absent j (at ∙ ap (λ (x : PoolEntry). Some x) is)

  pub differ_grown : EntriesDiffer pool → EntriesDiffer (pool ++ slots_of key)
  differ_grown differ i j e ne one other = elim (old_or_new pool key i e one ne) [
    | inl front ↦ elim (old_or_new pool key j e other ne) [
      | inl here ↦ differ i j e ne front here
      | inr (place, is) ↦ absurd (not_both i e front is)
    ]
    | inr (place, is) ↦ elim (old_or_new pool key j e other ne) [
      | inl here ↦ absurd (not_both j e here is)
      | inr (there, as_well) ↦ omega arith
    ]
  ]

  -- ---- Where a content stands in the grown pool.

  key_stands : (q : Key) → entry_of key ≡ entry_of q → StandsOnlyAt (pool ++ slots_of key) (entry_of q) (Some (length pool))
  key_stands q same = (
    stands_last pool key ∙ ap (λ (x : PoolEntry). Some x) same,
    λ j at. elim (old_or_new pool key j (entry_of q) at (key_usable q)) [
      | inl front ↦ absurd (not_both j (entry_of q) front (sym same))
      | inr (place, is) ↦ place
    ],
  )

  others_stand : (q : Key) (place : Option ℕ) → (entry_of key ≡ entry_of q → ⊥) → StandsOnlyAt pool (entry_of q) place
      → StandsOnlyAt (pool ++ slots_of key) (entry_of q) place
  others_stand q None other h = λ j at. elim (old_or_new pool key j (entry_of q) at (key_usable q)) [
    | inl front ↦ h j front
    | inr (place, is) ↦ other (sym is)
  ]
  others_stand q (Some i) other (at, only) = (
    get_front pool (slots_of key) i (entry_of q) at,
    λ j there. elim (old_or_new pool key j (entry_of q) there (key_usable q)) [
      | inl front ↦ only j front
      | inr (place, is) ↦ absurd (other (sym is))
    ],
  )

  stands_by : (q : Key) (place : Option ℕ) (test : Bool) → is_at (block.ghosts.cmp key) q ≡ test → StandsOnlyAt pool (entry_of q) place
      → StandsOnlyAt (pool ++ slots_of key) (entry_of q) (cond test (Some (length pool)) place)
  stands_by q place true e h = key_stands q (same_entry key q e)
  stands_by q place false e h =
      let other : entry_of key ≡ entry_of q → ⊥ = λ same. let yes = same_key key q same in cc in
      others_stand q place other h

  pub index_grows : (m n : BTreeMap Key ℕ) → IsIndexed pool m → IsEntry (entry_of key) → IsGoodEntry pool (entry_of key)
      → length pool + length (slots_of key) ≤ 65535 → Updates block.ghosts.cmp m n key (Some (length pool))
      → IsIndexed (pool ++ slots_of key) n
  index_grows m n index entry good few updates = record {
    places = λ q. rw (updates.0 q) (stands_by q (get block.ghosts.cmp m q) (is_at (block.ghosts.cmp key) q) refl (index.places q));
    differ = differ_grown (index.differ);
    file = file_pool_grows pool key (index.file) entry good few;
  }

-- ---- Where nothing came.

pub index_stays : (pool new : List PoolEntry) (m n : BTreeMap Key ℕ) → IsIndexed pool m → new ≡ pool → n.entries ≡ m.entries → IsIndexed new n
index_stays pool new m n index same unchanged = record {
  places = λ q. rw (same, unchanged) (index.places q);
  differ = rw same (index.differ);
  file = rw same (index.file);
}

-- an entry came, and went as the index had no memory for it
pub index_refused : (pool grown new : List PoolEntry) (key : Key) (m n : BTreeMap Key ℕ) (i : ℕ) → IsIndexed pool m → i ≡ length pool
    → grown ≡ pool ++ slots_of key → new ≡ take i grown → n.entries ≡ m.entries → IsIndexed new n
index_refused pool grown new key m n i index place grows cut unchanged =
    index_stays pool new m n index (cut ∙ rw (place, grows) (take-append_seam pool (slots_of key))) unchanged

-- ---- Where the index has no place for a content.

module _ (pool : List PoolEntry) (key : Key) (m : BTreeMap Key ℕ) (index : IsIndexed pool m) (none : get block.ghosts.cmp m key ≡ None) where
  absent_by_index : (j : ℕ) → slice_get pool j ≡ Some (entry_of key) → ⊥
  absent_by_index = subst (StandsOnlyAt pool (entry_of key)) none (index.places key)

  pub full_by_index : 65535 < length pool + length (slots_of key) → IsFull pool key
  full_by_index places = record { absent = absent_by_index; places = places; differ = index.differ; file = index.file }

  pub put_by_index : (grown : List PoolEntry) (i : ℕ) → grown ≡ pool ++ slots_of key → i ≡ length pool → HasPut pool grown key i
  put_by_index grown i grows place = record {
    found = rw (grows, place) (stands_last pool key);
    grows = inr (grows, place);
    differ = rw grows (differ_grown pool key absent_by_index (index.differ));
  }

  pub index_put : (grown : List PoolEntry) (n : BTreeMap Key ℕ) (i : ℕ) → IsEntry (entry_of key) → IsGoodEntry pool (entry_of key)
      → length pool + length (slots_of key) ≤ 65535 → grown ≡ pool ++ slots_of key → i ≡ length pool
      → Updates block.ghosts.cmp m n key (Some i) → IsIndexed grown n
  index_put grown n i entry good few grows place updates =
      let last : Updates block.ghosts.cmp m n key (Some (length pool)) = subst (λ (x : ℕ). Updates block.ghosts.cmp m n key (Some x)) place updates in
      rw grows (index_grows pool key absent_by_index m n index entry good few last)
