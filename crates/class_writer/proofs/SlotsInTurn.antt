-- Entries are slots where each is unusable just if it stands first or the entry in front of it is wide.
use Rattle.std.proofs.Common.{◌≡◌, ℕ, suc, ◌+◌, Bool, true, false, List, [], ◌∷◌, drop, refl, sym, ap, subst, ◌∙◌, add-one}
use Rattle.std.proofs.Math.Bool.{not, beq}
use Rattle.std.proofs.Math.Seq.{drop-cons}
use Rattle.jk_model.specs.declared.class_file.PoolEntry.{PoolEntry}
use Rattle.jk_model.specs.declared.class_file.PoolEntry.TheVariants.{Unusable, Long, Double}
use Rattle.jk_model.specs.ClassFile.{AreSlots, BeginsUnusable}
use Rattle.class_writer.specs.Slots.{is_unusable, is_wide}
use Rattle.class_writer.proofs.RoomIsLeft.{IsAt}

-- the entries from an index on, where that index has to be unusable, or must not be
abbrev pub AreSlotsFrom : Bool → List PoolEntry → Type 0
AreSlotsFrom true entries = BeginsUnusable AreSlots entries
AreSlotsFrom false entries = AreSlots entries

pub alike : (a b : Bool) → not (beq a b) ≡ false → a ≡ b
alike true true h = refl
alike true false h = absurd cc
alike false true h = absurd cc
alike false false h = refl

-- both ways, as one fact
pub record Same (P Q : Type 0) : Type 0 where
  pub there : P → Q
  pub back : Q → P

after_long : (n : ℕ) (rest : List PoolEntry) → Same (AreSlots (Long n ∷ rest)) (BeginsUnusable AreSlots rest)
after_long n [] = record { there = λ h. h; back = λ h. h }
after_long n (Unusable ∷ rest) = record { there = λ h. h; back = λ h. h }
after_long n (_ ∷ rest) = record { there = λ h. h; back = λ h. h }

after_double : (n : ℕ) (rest : List PoolEntry) → Same (AreSlots (Double n ∷ rest)) (BeginsUnusable AreSlots rest)
after_double n [] = record { there = λ h. h; back = λ h. h }
after_double n (Unusable ∷ rest) = record { there = λ h. h; back = λ h. h }
after_double n (_ ∷ rest) = record { there = λ h. h; back = λ h. h }

next_slot : (due : Bool) (e : PoolEntry) (rest : List PoolEntry) → is_unusable e ≡ due
    → Same (AreSlotsFrom due (e ∷ rest)) (AreSlotsFrom (is_wide e) rest)
next_slot true Unusable rest h = record { there = λ h. h; back = λ h. h }
next_slot true _ rest h = absurd cc
next_slot false Unusable rest h = absurd cc
next_slot false (Long n) rest h = after_long n rest
next_slot false (Double n) rest h = after_double n rest
next_slot false _ rest h = record { there = λ h. h; back = λ h. h }

at_item : (pool : List PoolEntry) (i : ℕ) (e : PoolEntry) → IsAt pool i e → drop i pool ≡ e ∷ drop (i + 1) pool
at_item pool i e at =
    drop-cons pool i e at.within ∙ ap (λ (x : PoolEntry). x ∷ drop (suc i) pool) (sym at.is)
    ∙ ap (λ (n : ℕ). e ∷ drop n pool) (sym (add-one i))

-- the pool is one of slots just if the entries from an index on are
pub record SoFar (pool : List PoolEntry) (i : ℕ) (due : Bool) : Type 0 where
  pub same : Same (AreSlotsFrom true pool) (AreSlotsFrom due (drop i pool))

pub goes_on : (pool : List PoolEntry) (i : ℕ) (due : Bool) (e : PoolEntry) → IsAt pool i e → SoFar pool i due → is_unusable e ≡ due
    → SoFar pool (i + 1) (is_wide e)
goes_on pool i due e at h is =
    let here = subst (λ (es : List PoolEntry). Same (AreSlotsFrom true pool) (AreSlotsFrom due es)) (at_item pool i e at) h.same in
    let next = next_slot due e (drop (i + 1) pool) is in
    record { same = record { there = λ k. next.there (here.there k); back = λ k. here.back (next.back k) } }
