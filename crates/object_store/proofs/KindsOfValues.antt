-- Kinds of values: what is of one kind with a third value, and that an object which is written has what objects of a store have.
use Rattle.std.proofs.Common.{ℕ, zero, suc, ◌<◌, pos, List, [], ◌∷◌, slice_set, sym, subst}
use Rattle.std.specs.List.{AllByRecursion}
use Rattle.jk_model.specs.declared.values.Value.{Value}
use Rattle.jk_model.specs.declared.values.Value.TheVariants as Held
use Rattle.jk_model.proofs.EachItem.{all_at}
use Rattle.jk_model_domains.specs.Objects.{Array, Object, Plain, Task, Text}
use Rattle.jk_model_domains.specs.OwnStates.{zero_of}
use Rattle.object_store.specs.HeapContents.{AreOfKind, IsSmall, IsStored, IsWritten}

-- two values of one kind with a third
pub alike : (z v w : Value) → AreOfKind z v → AreOfKind z w → AreOfKind v w
alike (Held.Int n) (Held.Int m) (Held.Int k) p q = tt
alike (Held.Int n) (Held.Int m) w p q = absurd q.0
alike (Held.Int n) v w p q = absurd p.0
alike (Held.Long n) (Held.Long m) (Held.Long k) p q = tt
alike (Held.Long n) (Held.Long m) w p q = absurd q.0
alike (Held.Long n) v w p q = absurd p.0
alike z (Held.Int m) w p q = absurd p.1
alike z (Held.Long m) w p q = absurd p.1
alike z v w p q = (p.1, q.1)

pub turned : (v w : Value) → AreOfKind v w → AreOfKind w v
turned (Held.Int n) (Held.Int m) p = tt
turned (Held.Int n) w p = absurd p.0
turned (Held.Long n) (Held.Long m) p = tt
turned (Held.Long n) w p = absurd p.0
turned v (Held.Int m) p = absurd p.1
turned v (Held.Long m) p = absurd p.1
turned v w p = (p.1, p.0)

module _ {X : Type 0} (P : X → Type 0) where
  each_put : (xs : List X) (i : ℕ) (x : X) → AllByRecursion P xs → P x → AllByRecursion P (slice_set xs i x)
  each_put [] i x each new = tt
  each_put (y ∷ ys) zero x each new = (new, each.1)
  each_put (y ∷ ys) (suc i) x each new = (each.0, each_put ys i x each.1 new)

pub written_stored : (object : Object) (i : ℕ) (v : Value) (new : Object) → IsWritten object i v new → IsStored object → IsStored new
written_stored (Plain c fields) i v new written stored =
    let put = written.1 in
    subst IsStored (sym written.2) (subst (AllByRecursion IsSmall) (sym put.becomes) (each_put IsSmall fields i v stored put.small))
written_stored (Array t items) i v new written stored =
    let put = written.1 in
    let before = all_at (λ (w : Value). AreOfKind (zero_of t) w × IsSmall w) items i put.before stored put.stands in
    let kind = alike put.before (zero_of t) v (turned (zero_of t) put.before before.0) put.kind in
    subst IsStored (sym written.2)
    (subst (AllByRecursion (λ (w : Value). AreOfKind (zero_of t) w × IsSmall w)) (sym put.becomes)
    (each_put (λ (w : Value). AreOfKind (zero_of t) w × IsSmall w) items i v stored (kind, put.small)))
written_stored (Text units) i (Held.Int (pos u)) new written stored =
    subst IsStored (sym written.2) (each_put (λ (n : ℕ). n < 65536) units i u stored written.1)
written_stored (Text units) i v new written stored = absurd written
written_stored (Task s) i v new written stored = absurd written
