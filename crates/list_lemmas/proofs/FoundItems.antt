-- What a search in a list finds: the first item that passes a test, or that none does.
use Rattle.std.proofs.Common.{◌≡◌, ℕ, zero, suc, ◌<◌, Bool, true, false, cond, List, [], ◌∷◌, length, Option, Some, None, find, slice_get, refl, subst}
use Rattle.std.specs.Option.{option_map}
use Rattle.std.specs.Result.{OnErr}
use Rattle.std.specs.declared.result.Result.{Result}
use Rattle.std.specs.declared.result.Result.TheVariants.{Ok, Err}
use Rattle.std.proofs.lemmas.Option.{same_Some}
use Rattle.list_lemmas.proofs.ItemsByPlace.{not_missing}

module _ {X : Type 0} where
  -- what a search for the first answers: one that passes, and where; or none does
  abbrev pub Finds : (X → Bool) → List X → Option X → Type 0
  Finds test xs None = (k : ℕ) (x : X) → slice_get xs k ≡ Some x → test x ≡ false
  Finds test xs (Some x) = (k : ℕ) × (slice_get xs k ≡ Some x) × (test x ≡ true)

  fails_here : (test : X → Bool) (y : X) (ys : List X) → test y ≡ false → Finds test ys None → (k : ℕ) (x : X) → slice_get (y ∷ ys) k ≡ Some x
      → test x ≡ false
  fails_here test y ys e h zero x at = subst (λ (z : X). test z ≡ false) (same_Some y x at) e
  fails_here test y ys e h (suc k) x at = h k x at

  found_later : (test : X → Bool) (y : X) (ys : List X) (o : Option X) → test y ≡ false → Finds test ys o → Finds test (y ∷ ys) o
  found_later test y ys None e h = λ k x at. fails_here test y ys e h k x at
  found_later test y ys (Some x) e h = (suc h.0, h.1, h.2)

  found_by : (test : X → Bool) (y : X) (ys : List X) (b : Bool) → test y ≡ b → Finds test ys (find test ys)
      → Finds test (y ∷ ys) (cond b (Some y) (find test ys))
  found_by test y ys true e h = (0, refl, e)
  found_by test y ys false e h = found_later test y ys (find test ys) e h

  pub finds : (test : X → Bool) (xs : List X) → Finds test xs (find test xs)
  finds test [] = λ k x e. absurd cc
  finds test (y ∷ ys) = found_by test y ys (test y) refl (finds test ys)

-- ---- What isn't there.

pub maps_nothing : {X Y : Type 0} (f : X → Y) (o : Option X) → None ≡ option_map f o → o ≡ None
maps_nothing f None e = refl
maps_nothing f (Some x) e = absurd cc

-- where the entry at a place tells nothing, the place is past the end
pub no_entry : {X Y : Type 0} (f : X → Y) (xs : List X) (k : ℕ) → None ≡ option_map f (slice_get xs k) → k < length xs → ⊥
no_entry f xs k none within = not_missing xs k within (maps_nothing f (slice_get xs k) none)

-- ---- Errors.

-- what holds anyhow holds at an error
pub on_err : {T E : Type 0} (r : Result T E) (P : Type 0) → P → OnErr r P
on_err (Ok t) P h = tt
on_err (Err e) P h = h
