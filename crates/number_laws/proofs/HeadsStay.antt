-- An instruction on numbers looks at no head of its frame, and leaves it as it is.
use Rattle.std.proofs.Common.{◌≡◌, ℕ, List, [], ◌∷◌, ap, inl, inr}
use Rattle.jk_model.specs.declared.frames.FrameHead.{FrameHead}
use Rattle.jk_model.specs.declared.instructions.Instr.{Instr}
use Rattle.jk_model.specs.declared.steps.After.{After}
use Rattle.jk_model.specs.declared.values.Value.{Value}
use Rattle.jk_model.specs.declared.values.Value.TheVariants as Held
use Rattle.jk_model_typing.specs.Scopes.{CodeScope}
use Rattle.jk_model_frames.specs.Frames.{FrameState}
use Rattle.jk_model_domains.specs.NumberRows.{NumberRow, Replaces, UsesLocal, divides_by_zero, exchanges, jumps, returns, returns_nothing, switches, uses_local}
use Rattle.number_laws.specs.FrameLaws.{with_head}

-- ---- It stays.

pub head-kept : (f g : FrameState) (taken pushed : List Value) → Replaces f g taken pushed → g.head ≡ f.head
head-kept f g taken pushed rep = ap (λ (x : FrameState). x.head) rep.after

head-local : (i : Instr) (f g : FrameState) → UsesLocal i f g → g.head ≡ f.head
head-local i f g (inl u) = ap (λ (x : FrameState). x.head) u.5
head-local i f g (inr (inl u)) = ap (λ (x : FrameState). x.head) u.7
head-local i f g (inr (inr u)) = ap (λ (x : FrameState). x.head) u.5

pub number-head : (s : CodeScope) (place : ℕ) (i : Instr) (f g : FrameState) (a : After) → NumberRow s place i f g a → g.head ≡ f.head
number-head s place i f g a (exchanges taken pushed ex rep) = head-kept f g taken pushed rep
number-head s place i f g a (uses_local u) = head-local i f g u
number-head s place i f g a (jumps taken holds n d rep at) = head-kept f g taken [] rep
number-head s place i f g a (switches key n op rep at) = head-kept f g (Held.Int key ∷ []) [] rep
number-head s place i f g a (divides_by_zero taken d on same) = ap (λ (x : FrameState). x.head) same
number-head s place i f g a (returns v op rep) = head-kept f g (v ∷ []) [] rep
number-head s place i f g a (returns_nothing op same) = ap (λ (x : FrameState). x.head) same

-- ---- It isn't looked at.

module _ (f g : FrameState) (h : FrameHead) where
  replaced : (taken pushed : List Value) → Replaces f g taken pushed → Replaces (with_head f h) (with_head g h) taken pushed
  replaced taken pushed rep = record {
    below = rep.below;
    before = rep.before;
    after = ap (λ (x : FrameState). with_head x h) rep.after;
  }

  used : (i : Instr) → UsesLocal i f g → UsesLocal i (with_head f h) (with_head g h)
  used i (inl u) = inl (u.0, u.1, u.2, u.3, u.4, ap (λ (x : FrameState). with_head x h) u.5)
  used i (inr (inl u)) = inr (inl (u.0, u.1, u.2, u.3, u.4, u.5, u.6, ap (λ (x : FrameState). with_head x h) u.7))
  used i (inr (inr u)) = inr (inr (u.0, u.1, u.2, u.3, u.4, ap (λ (x : FrameState). with_head x h) u.5))

  pub row-with-head : (s : CodeScope) (place : ℕ) (i : Instr) (a : After) → NumberRow s place i f g a
      → NumberRow s place i (with_head f h) (with_head g h) a
  row-with-head s place i a (exchanges taken pushed ex rep) = exchanges taken pushed ex (replaced taken pushed rep)
  row-with-head s place i a (uses_local u) = uses_local (used i u)
  row-with-head s place i a (jumps taken holds n d rep at) = jumps taken holds n d (replaced taken [] rep) at
  row-with-head s place i a (switches key n op rep at) = switches key n op (replaced (Held.Int key ∷ []) [] rep) at
  row-with-head s place i a (divides_by_zero taken d on same) = divides_by_zero taken d on (ap (λ (x : FrameState). with_head x h) same)
  row-with-head s place i a (returns v op rep) = returns v op (replaced (v ∷ []) [] rep)
  row-with-head s place i a (returns_nothing op same) = returns_nothing op (ap (λ (x : FrameState). with_head x h) same)
