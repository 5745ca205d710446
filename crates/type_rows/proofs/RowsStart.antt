-- The frame with which a method begins: it is one, and the code has room for it.
use Rattle.std.proofs.Common.{◌≡◌, ◌≢◌, ℕ, zero, suc, ◌-◌, ◌≤◌, Bool, true, false, List, [], ◌∷◌, ◌++◌, length, flat_map, replicate, Some, refl, sym, ap, ◌∙◌, arith, add-one}
use Rattle.std.specs.List.{slice_get}
use Rattle.std.specs.Prelude.{if◌then◌else◌}
use Rattle.std.proofs.lemmas.List.{length-append, length-replicate}
use Rattle.jk_model_typing.specs.declared.frames.FrameType.{FrameType}
use Rattle.jk_model_typing.specs.declared.frames.VType.{VType}
use Rattle.jk_model_typing.specs.declared.frames.VType.TheVariants.{Unusable, Long, FreshThis}
use Rattle.jk_model_typing.specs.FrameTypes.{IsFrameOf, of_class}
use Rattle.jk_model_typing.specs.Scopes.{CodeScope, own_receiver, parameter_values, is_static, is_init}
use Rattle.jk_model_typing.specs.Typing.{IsStart, as_locals}
use Rattle.type_rows.proofs.RowsFitLocals.{AreHalved}

module _ (s : CodeScope) where
  pub start-determined : (f g : FrameType) → IsStart s f → IsStart s g → f ≡ g
  start-determined f g a b =
      let given : a.given ≡ b.given = a.given_is ∙ sym b.given_is in
      let locals : f.locals ≡ g.locals =
      a.locals ∙ ap (λ (vs : List VType). vs ++ replicate (s.code.max_locals - length vs) Unusable) given ∙ sym b.locals in
      let stack : f.stack ≡ g.stack = a.stack ∙ sym b.stack in
      let fresh : f.fresh ≡ g.fresh = a.fresh ∙ sym b.fresh in
      λ j. record { locals = locals j; stack = stack j; fresh = fresh j }

-- ---- Halves of longs.

get_more : (xs ys : List VType) (n : ℕ) (v : VType) → slice_get xs n ≡ Some v → slice_get (xs ++ ys) n ≡ Some v
get_more [] ys n v at = cc
get_more (x ∷ xs) ys zero v at = at
get_more (x ∷ xs) ys (suc n) v at = get_more xs ys n v at

append-halved : (xs ys : List VType) → AreHalved xs → AreHalved ys → AreHalved (xs ++ ys)
append-halved [] ys h k = k
append-halved (x ∷ xs) ys h k = elim [
  | zero ↦ λ at. get_more xs ys zero Unusable (h zero at)
  | suc n ↦ λ at. append-halved xs ys (λ m there. h (suc m) there) k n at
]

-- a list of one entry, which is no long
one-halved : (v : VType) → v ≢ Long → AreHalved (v ∷ [])
one-halved v other = elim [ zero ↦ λ at. absurd (other cc) | suc n ↦ λ at. cc ]

as_locals-halved : (v : VType) → AreHalved (as_locals v)
as_locals-halved Long = elim [ zero ↦ λ at. refl | suc n ↦ λ at. one-halved Unusable (λ e. cc) n at ]
as_locals-halved v = one-halved v (λ e. cc)

all_locals-halved : (vs : List VType) → AreHalved (flat_map as_locals vs)
all_locals-halved [] = λ n at. cc
all_locals-halved (v ∷ vs) = append-halved (as_locals v) (flat_map as_locals vs) (as_locals-halved v) (all_locals-halved vs)

rest-halved : (n : ℕ) → AreHalved (replicate n Unusable)
rest-halved zero = λ n at. cc
rest-halved (suc n) = elim [ zero ↦ λ at. cc | suc k ↦ λ at. rest-halved n k at ]

receiver-halved : (static init : Bool) (class : VType) → class ≢ Long
    → AreHalved (if static then [] else if init then FreshThis ∷ [] else class ∷ [])
receiver-halved true init class other = λ n at. cc
receiver-halved false true class other = one-halved FreshThis (λ e. cc)
receiver-halved false false class other = one-halved class other

module _ (s : CodeScope) where
  locals-halved : (given : List VType) → given ≡ own_receiver s ++ flat_map as_locals (parameter_values s s.method) → (rest : ℕ)
      → AreHalved (given ++ replicate rest Unusable)
  locals-halved given given_is rest =
      rw given_is
      (append-halved (own_receiver s ++ flat_map as_locals (parameter_values s s.method)) (replicate rest Unusable)
      (append-halved (own_receiver s) (flat_map as_locals (parameter_values s s.method))
      (receiver-halved (is_static s.method) (is_init s.method) (of_class s.classes s.self) (λ e. cc))
      (all_locals-halved (parameter_values s s.method)))
      (rest-halved rest))

  -- the code has room for it
  pub start-sized : (f : FrameType) → IsStart s f → IsFrameOf s.code f
  start-sized f start =
      let rest : ℕ = s.code.max_locals - length start.given in
      let halves = locals-halved start.given start.given_is rest in
      let room : length start.given ≤ s.code.max_locals = start.room in
      record {
        locals = rw start.locals (omega (arith, length-append start.given (replicate rest Unusable), length-replicate rest Unusable, room));
        stack = rw start.stack (omega arith);
        usable = rw start.stack tt;
        halves = rw start.locals (λ n at. rw add-one (halves n at));
      }
