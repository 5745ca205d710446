-- The slots of a pool, one after the other: an entry of one place, or one of two with an unusable index after it.
use Rattle.std.proofs.Common.{List, [], ◌∷◌, ◌++◌}
use Rattle.std.specs.Bool.{⊤}
use Rattle.jk_model.specs.declared.class_file.PoolEntry.{PoolEntry}
use Rattle.jk_model.specs.declared.class_file.PoolEntry.TheVariants.{Unusable, Long, Double}
use Rattle.jk_model.specs.ClassFile.{AreSlots}

abbrev pub IsWide : PoolEntry → Type 0
IsWide (Long n) = ⊤
IsWide (Double n) = ⊤
IsWide _ = ⊥

abbrev pub IsNarrow : PoolEntry → Type 0
IsNarrow Unusable = ⊥
IsNarrow (Long n) = ⊥
IsNarrow (Double n) = ⊥
IsNarrow _ = ⊤

pub data Slots : List PoolEntry → Type 0 where
  none : Slots []
  narrow : {rest : List PoolEntry} → (e : PoolEntry) → IsNarrow e → Slots rest → Slots (e ∷ rest)
  wide : {rest : List PoolEntry} → (e : PoolEntry) → IsWide e → Slots rest → Slots (e ∷ Unusable ∷ rest)

pub narrow_slot : (e : PoolEntry) (rest : List PoolEntry) → IsNarrow e → AreSlots rest → AreSlots (e ∷ rest)
narrow_slot Unusable rest is h = absurd is
narrow_slot (Long n) rest is h = absurd is
narrow_slot (Double n) rest is h = absurd is
narrow_slot _ rest is h = h

pub wide_slot : (e : PoolEntry) (rest : List PoolEntry) → IsWide e → AreSlots rest → AreSlots (e ∷ Unusable ∷ rest)
wide_slot (Long n) rest is h = h
wide_slot (Double n) rest is h = h
wide_slot _ rest is h = absurd is

pub slots_in_turn : (pool : List PoolEntry) → AreSlots pool → Slots pool
slots_in_turn [] h = none
slots_in_turn (Unusable ∷ rest) h = absurd h
slots_in_turn (Long n ∷ []) h = absurd h
slots_in_turn (Long n ∷ Unusable ∷ rest) h = wide (Long n) tt (slots_in_turn rest h)
slots_in_turn (Long n ∷ _ ∷ rest) h = absurd h
slots_in_turn (Double n ∷ []) h = absurd h
slots_in_turn (Double n ∷ Unusable ∷ rest) h = wide (Double n) tt (slots_in_turn rest h)
slots_in_turn (Double n ∷ _ ∷ rest) h = absurd h
slots_in_turn (e ∷ rest) h = narrow e tt (slots_in_turn rest h)

append_turns : (xs ys : List PoolEntry) → Slots xs → AreSlots ys → AreSlots (xs ++ ys)
append_turns [] ys none k = k
append_turns (e ∷ rest) ys (narrow _ is h) k = narrow_slot e (rest ++ ys) is (append_turns rest ys h k)
append_turns (e ∷ _ ∷ rest) ys (wide _ is h) k = wide_slot e (rest ++ ys) is (append_turns rest ys h k)

pub append_slots : (xs ys : List PoolEntry) → AreSlots xs → AreSlots ys → AreSlots (xs ++ ys)
append_slots xs ys h k = append_turns xs ys (slots_in_turn xs h) k
