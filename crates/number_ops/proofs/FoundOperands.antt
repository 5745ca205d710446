-- The operands of which kinds an instruction finds on top.
use Rattle.std.proofs.Common.{ℕ, ℤ, List, [], ◌∷◌, length, subst}
use Rattle.jk_model.specs.declared.identifiers.SegmentNo.{SegmentNo}
use Rattle.jk_model.specs.declared.values.Value.{Value}
use Rattle.jk_model.specs.declared.values.Value.TheVariants as Held
use Rattle.jk_model_typing.specs.declared.frames.Demand.{Demand}
use Rattle.jk_model_typing.specs.declared.frames.VType.{VType}
use Rattle.jk_model_typing.specs.Groups.{Takes, int, long}
use Rattle.frame_store.specs.FrameContents.{FrameContent}
use Rattle.number_ops.specs.Operands.{FindsShape}
use Rattle.number_laws.specs.KnownValues.{IsMet}
use Rattle.number_ops.specs.TopChanges.{OnTop, OnTopWithRoom}

module _ (c : FrameContent) (s : SegmentNo) where
  found_one : (d : Demand) (gives : List VType) → FindsShape c s (Takes (d ∷ []) gives)
      → (v : Value) × IsMet d v × OnTopWithRoom c s (v ∷ []) (length gives)
  found_one d gives ([], met, on) = absurd met
  found_one d gives (v ∷ [], met, on) = (v, met.0, on)
  found_one d gives (v ∷ w ∷ vs, met, on) = absurd met.1

  found_two : (d e : Demand) (gives : List VType) → FindsShape c s (Takes (d ∷ e ∷ []) gives)
      → (v : Value) × (w : Value) × IsMet d v × IsMet e w × OnTopWithRoom c s (v ∷ w ∷ []) (length gives)
  found_two d e gives ([], met, on) = absurd met
  found_two d e gives (v ∷ [], met, on) = absurd met.1
  found_two d e gives (v ∷ w ∷ [], met, on) = (v, w, met.0, met.1.0, on)
  found_two d e gives (v ∷ w ∷ x ∷ vs, met, on) = absurd met.1.1

  pub found_none : (gives : List VType) → FindsShape c s (Takes [] gives) → OnTopWithRoom c s [] (length gives)
  found_none gives ([], met, on) = on
  found_none gives (v ∷ vs, met, on) = absurd met

  pub found_int : (gives : List VType) → FindsShape c s (Takes (int ∷ []) gives)
      → (x : ℤ) × OnTopWithRoom c s (Held.Int x ∷ []) (length gives)
  found_int gives h =
      let one = found_one int gives h in
      (one.1.0, subst (λ (v : Value). OnTopWithRoom c s (v ∷ []) (length gives)) one.1.1 one.2)

  pub found_long : (gives : List VType) → FindsShape c s (Takes (long ∷ []) gives)
      → (x : ℤ) × OnTopWithRoom c s (Held.Long x ∷ []) (length gives)
  found_long gives h =
      let one = found_one long gives h in
      (one.1.0, subst (λ (v : Value). OnTopWithRoom c s (v ∷ []) (length gives)) one.1.1 one.2)

  pub found_ints : (gives : List VType) → FindsShape c s (Takes (int ∷ int ∷ []) gives)
      → (x : ℤ) × (y : ℤ) × OnTopWithRoom c s (Held.Int x ∷ Held.Int y ∷ []) (length gives)
  found_ints gives h =
      let two = found_two int int gives h in (
        two.2.0,
        two.3.0,
        subst (λ (v : Value). OnTopWithRoom c s (Held.Int two.2.0 ∷ v ∷ []) (length gives)) two.3.1
            (subst (λ (v : Value). OnTopWithRoom c s (v ∷ two.1 ∷ []) (length gives)) two.2.1 two.4),
      )

  pub found_longs : (gives : List VType) → FindsShape c s (Takes (long ∷ long ∷ []) gives)
      → (x : ℤ) × (y : ℤ) × OnTopWithRoom c s (Held.Long x ∷ Held.Long y ∷ []) (length gives)
  found_longs gives h =
      let two = found_two long long gives h in (
        two.2.0,
        two.3.0,
        subst (λ (v : Value). OnTopWithRoom c s (Held.Long two.2.0 ∷ v ∷ []) (length gives)) two.3.1
            (subst (λ (v : Value). OnTopWithRoom c s (v ∷ two.1 ∷ []) (length gives)) two.2.1 two.4),
      )

  pub found_long_and_int : (gives : List VType) → FindsShape c s (Takes (long ∷ int ∷ []) gives)
      → (x : ℤ) × (n : ℤ) × OnTopWithRoom c s (Held.Long x ∷ Held.Int n ∷ []) (length gives)
  found_long_and_int gives h =
      let two = found_two long int gives h in (
        two.2.0,
        two.3.0,
        subst (λ (v : Value). OnTopWithRoom c s (Held.Long two.2.0 ∷ v ∷ []) (length gives)) two.3.1
            (subst (λ (v : Value). OnTopWithRoom c s (v ∷ two.1 ∷ []) (length gives)) two.2.1 two.4),
      )

  pub found_value : (d : Demand) (gives : List VType) → FindsShape c s (Takes (d ∷ []) gives) → (v : Value) × OnTop c s (v ∷ [])
  found_value d gives h =
      let one = found_one d gives h in
      (one.0, record { frame = one.2.frame; top = one.2.top; on_top = (one.2.below, one.2.stack) })

  pub found_values : (d e : Demand) (gives : List VType) → FindsShape c s (Takes (d ∷ e ∷ []) gives)
      → (v : Value) × (w : Value) × OnTop c s (v ∷ w ∷ [])
  found_values d e gives h =
      let two = found_two d e gives h in
      (two.0, two.1, record { frame = two.4.frame; top = two.4.top; on_top = (two.4.below, two.4.stack) })

  pub roomless : (vs : List Value) (n : ℕ) → OnTopWithRoom c s vs n → OnTop c s vs
  roomless vs n h = record { frame = h.frame; top = h.top; on_top = (h.below, h.stack) }
