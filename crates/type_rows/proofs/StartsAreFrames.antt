-- The frame with which a method begins is one that its code may have.
use Rattle.std.proofs.Common.{◌≡◌, ◌≢◌, ℕ, zero, suc, ◌+◌, ◌-◌, ◌<◌, ◌≤◌, ◌⊎◌, inl, inr, Bool, true, false, not, ◌&&◌, List, [], ◌∷◌, ◌++◌, length, Some, slice_get, refl, sym, ap, subst, ◌∙◌, arith}
use Rattle.std.specs.Prelude.{flat_map, replicate, if◌then◌else◌}
use Rattle.std.proofs.lemmas.List.{length-append, length-replicate}
use Rattle.std.proofs.lemmas.List.Concat.{flat_map-cons}
use Rattle.std.proofs.lemmas.Option.{same_Some, slice_get_within}
use Rattle.list_lemmas.proofs.ItemsByPlace.{slice_get-front, slice_get-back, slice_get-nil}
use Rattle.jk_model_typing.specs.declared.frames.VType.{VType}
use Rattle.jk_model_typing.specs.declared.frames.VType.TheVariants.{Unusable, Int, Long, Null, Ref, Fresh, FreshThis}
use Rattle.jk_model_typing.specs.FrameTypes.{IsFrameOf, of_class}
use Rattle.jk_model_typing.specs.Scopes.{CodeScope, is_init, is_static, own_receiver, parameter_values}
use Rattle.jk_model_typing.specs.Typing.{IsStart, as_locals}
use Rattle.type_rows.specs.Shapes.{given_values}
use Rattle.type_rows.proofs.LocalsKeepHalves.{Halves}

none : Halves []
none = record { after = λ n at. absurd (slice_get-nil n Long at) }

no_long : (v : VType) → v ≢ Long → Halves (v ∷ [])
no_long v other = record { after = here }
  where
    here : (n : ℕ) → slice_get (v ∷ []) n ≡ Some Long → slice_get (v ∷ []) (n + 1) ≡ Some Unusable
    here zero at = absurd (other (same_Some v Long at))
    here (suc n) at = absurd (slice_get-nil n Long at)

one_long : Halves (Long ∷ Unusable ∷ [])
one_long = record { after = here }
  where
    here : (n : ℕ) → slice_get (Long ∷ Unusable ∷ []) n ≡ Some Long → slice_get (Long ∷ Unusable ∷ []) (n + 1) ≡ Some Unusable
    here zero at = refl
    here (suc zero) at = absurd cc
    here (suc (suc n)) at = absurd (slice_get-nil n Long at)

value_in_locals : (v : VType) → Halves (as_locals v)
value_in_locals Unusable = no_long Unusable (λ e. cc)
value_in_locals Int = no_long Int (λ e. cc)
value_in_locals Long = one_long
value_in_locals Null = no_long Null (λ e. cc)
value_in_locals (Ref t) = no_long (Ref t) (λ e. cc)
value_in_locals (Fresh p) = no_long (Fresh p) (λ e. cc)
value_in_locals FreshThis = no_long FreshThis (λ e. cc)

joined : (xs ys : List VType) → Halves xs → Halves ys → Halves (xs ++ ys)
joined xs ys front back = record { after = here }
  where
    side : (n k : ℕ) → (n < k) ⊎ ((j : ℕ) × (n ≡ k + j))
    side n zero = inr (n, omega arith)
    side zero (suc k) = inl (omega arith)
    side (suc n) (suc k) =
        elim (side n k) [ inl low ↦ inl (omega (arith, low)) | inr high ↦ inr (high.0, omega (arith, high.1)) ]

    here : (n : ℕ) → slice_get (xs ++ ys) n ≡ Some Long → slice_get (xs ++ ys) (n + 1) ≡ Some Unusable
    here n at =
        elim (side n (length xs)) [
          | inl low ↦
              (let next = front.after n (sym (slice_get-front xs ys n low) ∙ at) in
              slice_get-front xs ys (n + 1) (slice_get_within xs (n + 1) Unusable next) ∙ next)
          | inr (j, e) ↦
              (let next = back.after j (sym (slice_get-back xs ys j n e) ∙ at) in
              slice_get-back xs ys (j + 1) (n + 1) (omega (arith, e)) ∙ next)
        ]

values_in_locals : (vs : List VType) → Halves (flat_map as_locals vs)
values_in_locals [] = none
values_in_locals (v ∷ vs) =
    subst (λ (xs : List VType). Halves xs) (sym (flat_map-cons as_locals v vs))
    (joined (as_locals v) (flat_map as_locals vs) (value_in_locals v) (values_in_locals vs))

unusable : (n : ℕ) → Halves (replicate n Unusable)
unusable zero = none
unusable (suc n) = joined (Unusable ∷ []) (replicate n Unusable) (no_long Unusable (λ e. cc)) (unusable n)

receiver_in_locals : (s : CodeScope) → Halves (own_receiver s)
receiver_in_locals s = chosen (is_static s.method) (is_init s.method)
  where
    chosen : (a b : Bool) → Halves (if a then [] else if b then FreshThis ∷ [] else of_class s.classes s.self ∷ [])
    chosen true b = none
    chosen false true = no_long FreshThis (λ e. cc)
    chosen false false = no_long (of_class s.classes s.self) (λ e. cc)

pub started : (s : CodeScope) (given locals stack : List VType) (fresh : Bool) → given ≡ given_values s
    → length given ≤ s.code.max_locals → locals ≡ given ++ replicate (s.code.max_locals - length given) Unusable → stack ≡ []
    → fresh ≡ (not (is_static s.method) && is_init s.method)
    → IsStart s (record { locals = locals; stack = stack; fresh = fresh })
    × IsFrameOf s.code (record { locals = locals; stack = stack; fresh = fresh })
started s given locals stack fresh e room filled empty flag =
    let spare : List VType = replicate (s.code.max_locals - length given) Unusable in
    let front : Halves given =
    subst (λ (xs : List VType). Halves xs) (sym e)
    (joined (own_receiver s) (flat_map as_locals (parameter_values s s.method)) (receiver_in_locals s)
    (values_in_locals (parameter_values s s.method))) in
    let halves : Halves locals =
    subst (λ (xs : List VType). Halves xs) (sym filled)
    (joined given spare front (unusable (s.code.max_locals - length given))) in
    let many : length spare ≡ s.code.max_locals - length given = length-replicate (s.code.max_locals - length given) Unusable in (
      record { given = given; given_is = e; room = room; locals = filled; stack = empty; fresh = flag },
      record {
        locals = ap (λ (xs : List VType). length xs) filled ∙ length-append given spare ∙ omega (arith, many, room);
        stack = rw empty (omega arith);
        usable = rw empty tt;
        halves = halves.after;
      },
    )
