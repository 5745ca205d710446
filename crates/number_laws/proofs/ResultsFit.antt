-- A value that is returned fits the type of the method's result.
use Rattle.std.proofs.Common.{◌≡◌, ◌⊎◌, inl, inr, ℕ, List, [], ◌∷◌, ◌++◌, ◌==◌, Some, None, IsTrue, refl, sym, subst, ◌∙◌}
use Rattle.list_lemmas.proofs.EndsOfLists.{one_split}
use Rattle.jk_model.specs.declared.instructions.Instr.{Instr}
use Rattle.jk_model.specs.declared.steps.After.{After}
use Rattle.jk_model.specs.declared.steps.After.TheVariants as Next
use Rattle.jk_model.specs.declared.values.Value.{Value}
use Rattle.jk_model_classes.specs.Classes.{AreOrdered}
use Rattle.jk_model_typing.specs.declared.frames.Demand.{Demand}
use Rattle.jk_model_typing.specs.declared.frames.Demand.TheVariants.{Fitting}
use Rattle.jk_model_typing.specs.declared.frames.FrameType.{FrameType}
use Rattle.jk_model_typing.specs.declared.frames.VType.{VType}
use Rattle.jk_model_typing.specs.declared.frames.VType.TheVariants.{Int, Long, Ref}
use Rattle.jk_model_typing.specs.Groups.{Group, Shape, ReturnsInt, ReturnsLong, ReturnsReference, Takes, group_of}
use Rattle.jk_model_typing.specs.Rows.{AllMeet, Does, HasShape, Meets}
use Rattle.jk_model_typing.specs.Scopes.{CodeScope}
use Rattle.jk_model_frames.specs.Frames.{FrameState}
use Rattle.jk_model_domains.specs.NumberRows.{NumberRow, Replaces, divides_by_zero, exchanges, is_return_of_value, jumps, returns, returns_nothing, switches, uses_local}
use Rattle.jk_model_domains.specs.Objects.{NamedObject}
use Rattle.jk_model_domains.specs.ValueTypes.{EachValueFits, ValueFits}
use Rattle.number_laws.specs.FrameLaws.{FitsResult, IsTyped}
use Rattle.number_laws.specs.NumberOpcodes.{value_return_opcodes}
use Rattle.number_laws.proofs.EachOpcode.{each_among, three_ways}
use Rattle.number_laws.proofs.ValuesAbove.{value-above}
use Rattle.number_laws.proofs.ValuesFit.{end_fits, fits-length, fits_int, fits_long}

module _ (s : CodeScope) (heap : List NamedObject) (place : ℕ) (i : Instr) (f g : FrameState) (before after : FrameType)
    (typed : IsTyped s heap place i f before after) where
  -- the entry that is taken meets the demand
  top_meets : (d : Demand) (v : Value) (below ts : List VType) → before.stack ≡ below ++ ts → AllMeet s (d ∷ []) ts → Replaces f g (v ∷ []) []
      → (u : VType) × Meets s d u × ValueFits s heap v u
  top_meets d v below [] stack meet rep = absurd meet
  top_meets d v below (u ∷ []) stack meet rep =
      let split = end_fits s heap f.stack below (u ∷ []) (subst (EachValueFits s heap f.stack) stack typed.holds.stack) in
      let whole : rep.below ++ v ∷ [] ≡ split.front ++ split.back = sym rep.before ∙ split.whole in
      let both = one_split rep.below split.front (v ∷ []) split.back whole (sym (fits-length s heap split.back (u ∷ []) split.back_fits)) in
      let fit : EachValueFits s heap (v ∷ []) (u ∷ []) = subst (λ (vs : List Value). EachValueFits s heap vs (u ∷ [])) (sym both.1) split.back_fits in
      (u, meet.0, fit.0)
  top_meets d v below (u ∷ w ∷ ts) stack meet rep = absurd meet.1

  taken_meets : (d : Demand) (v : Value) → typed.row.shape ≡ Takes (d ∷ []) [] → Replaces f g (v ∷ []) []
      → (u : VType) × Meets s d u × ValueFits s heap v u
  taken_meets d v e rep =
      let does = subst (λ (y : Shape). Does s place y before after) e typed.row.does in
      top_meets d v does.0 does.1 does.2 does.3 rep

  result_fits : AreOrdered s.classes → (v : Value) → IsTrue (is_return_of_value i.op) → Replaces f g (v ∷ []) [] → FitsResult s heap v
  result_fits ordered v op rep =
      elim (each_among (λ (k : ℕ). (group_of k ≡ ReturnsInt) ⊎ ((group_of k ≡ ReturnsLong) ⊎ (group_of k ≡ ReturnsReference))) value_return_opcodes
      i.op (inl refl, (inr (inl refl), (inr (inr refl), tt))) (three_ways (i.op == 0xac) (i.op == 0xad) (i.op == 0xb0) op)) [
        | inl e ↦
            (let is = subst (λ (p : Group). HasShape s i p typed.row.shape) e typed.row.shape_is in
            let top = taken_meets (Fitting Int) v is.1 rep in
            let int : ValueFits s heap v Int = subst (ValueFits s heap v) (fits_int s heap top.0 top.1) top.2 in
            (is.0.0, is.0.1, subst (ValueFits s heap v) is.0.2 int))
        | inr (inl e) ↦
            (let is = subst (λ (p : Group). HasShape s i p typed.row.shape) e typed.row.shape_is in
            let top = taken_meets (Fitting Long) v is.1 rep in
            let long : ValueFits s heap v Long = subst (ValueFits s heap v) (fits_long s heap top.0 top.1) top.2 in
            (is.0.0, is.0.1, subst (ValueFits s heap v) is.0.2 long))
        | inr (inr e) ↦
            (let is = subst (λ (p : Group). HasShape s i p typed.row.shape) e typed.row.shape_is in
            let top = taken_meets (Fitting (Ref is.0)) v is.2 rep in
            let ref : ValueFits s heap v (Ref is.0) = value-above s heap ordered v top.0 (Ref is.0) top.2 top.1 in
            (is.1.0, is.1.1, subst (ValueFits s heap v) is.1.2 ref))
      ]

  value_returned : AreOrdered s.classes → (a : After) → NumberRow s place i f g a → (v : Value) → a ≡ Next.Return (Some v) → FitsResult s heap v
  value_returned ordered a (exchanges taken pushed ex rep) v e = absurd cc
  value_returned ordered a (uses_local h) v e = absurd cc
  value_returned ordered a (jumps taken holds n d rep at) v e = absurd cc
  value_returned ordered a (switches key n op rep at) v e = absurd cc
  value_returned ordered a (divides_by_zero taken d on same) v e = absurd cc
  value_returned ordered a (returns w op rep) v e =
      let same : w ≡ v = cc in
      subst (FitsResult s heap) same (result_fits ordered w op rep)
  value_returned ordered a (returns_nothing op same) v e = absurd cc

  nothing_returned : (a : After) → NumberRow s place i f g a → a ≡ Next.Return None → s.method.result ≡ None
  nothing_returned a (exchanges taken pushed ex rep) e = absurd cc
  nothing_returned a (uses_local h) e = absurd cc
  nothing_returned a (jumps taken holds n d rep at) e = absurd cc
  nothing_returned a (switches key n op rep at) e = absurd cc
  nothing_returned a (divides_by_zero taken d on same) e = absurd cc
  nothing_returned a (returns w op rep) e = absurd cc
  nothing_returned a (returns_nothing op same) e =
      let is = subst (λ (k : ℕ). HasShape s i (group_of k) typed.row.shape) op typed.row.shape_is in
      is.0

pub returned_fits : (s : CodeScope) (heap : List NamedObject) (place : ℕ) (i : Instr) (f g : FrameState) (before after : FrameType) (v : Value)
    → AreOrdered s.classes → IsTyped s heap place i f before after → NumberRow s place i f g (Next.Return (Some v)) → FitsResult s heap v
returned_fits s heap place i f g before after v ordered typed row =
    value_returned s heap place i f g before after typed ordered (Next.Return (Some v)) row v refl

pub none_returned : (s : CodeScope) (heap : List NamedObject) (place : ℕ) (i : Instr) (f g : FrameState) (before after : FrameType)
    → IsTyped s heap place i f before after → NumberRow s place i f g (Next.Return None) → s.method.result ≡ None
none_returned s heap place i f g before after typed row =
    nothing_returned s heap place i f g before after typed (Next.Return None) row refl
