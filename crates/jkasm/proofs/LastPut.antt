-- A constant whose parts came to the pool first: what holds after its own entry was put, or found no room.
use Rattle.std.proofs.Common.{◌≡◌, ℕ, List, [], ◌∷◌, ◌++◌, Result, Err, IfOk, OnOk}
use Rattle.std.proofs.lemmas.Result.{MatchResult-weaker}
use Rattle.jk_model.specs.declared.class_file.PoolEntry.{PoolEntry}
use Rattle.jkasm.specs.declared.pool.PoolError.{PoolError}
use Rattle.jkasm.specs.declared.pool.PoolError.TheVariants.{Full}
use Rattle.jkasm.specs.declared.pool.key.Key.{Key}
use Rattle.jkasm.specs.Constants.{PoolConstant, Says}
use Rattle.jkasm.specs.PoolGrowth.{Takes, HasNoRoom}
use Rattle.jkasm.specs.PoolIndex.{HasPut, IsFull}
use Rattle.jkasm.proofs.NoRoomInFullPool.{no_room_in_full}
use Rattle.jkasm.proofs.PutTakesConstant.{IsEntryOf, put_says, put_takes}
use Rattle.jkasm.proofs.TakesInTurn.{takes_trans, no_room_after}

module _ (old new : List PoolEntry) (key : Key) (c : PoolConstant) (entry : IsEntryOf old key c) (r : Result ℕ PoolError) where
  pub says_by_put : IfOk r (HasPut old new key) → IfOk r (λ i. Says new i c)
  says_by_put puts = MatchResult-weaker r puts (λ i put. put_says old new key i put c entry) (λ e u. u)

  pub takes_by_put : IfOk r (HasPut old new key) → OnOk r (Takes old new (c ∷ []))
  takes_by_put puts = MatchResult-weaker r puts (λ i put. put_takes old new key i put c entry) (λ e u. u)

  -- after the parts
  pub takes_after : (first : List PoolEntry) (cs : List PoolConstant) → Takes first old cs
      → IfOk r (HasPut old new key) → OnOk r (Takes first new (cs ++ c ∷ []))
  takes_after first cs takes puts =
      MatchResult-weaker r puts (λ i put. takes_trans first old new cs (c ∷ []) takes (put_takes old new key i put c entry)) (λ e u. u)

  pub full_after : (first : List PoolEntry) (cs : List PoolConstant) → Takes first old cs
      → (r ≡ Err Full → IsFull old key) → r ≡ Err Full → HasNoRoom first (cs ++ c ∷ [])
  full_after first cs takes full e = no_room_after first old cs (c ∷ []) takes (no_room_in_full old key c (full e) entry)
