-- An instruction on numbers whose opcode is in the range of returns returns; and below the top one of two frames or more there are callers.
use Rattle.std.proofs.Common.{inl, inr, ◌≡◌, ◌≢◌, ℕ, ◌+◌, ◌<◌, ◌≤◌, ◌⊎◌, Bool, ℤ, List, [], ◌∷◌, ◌++◌, length, length-append, Option, option_map, refl, ap, ◌∙◌, lit<, arith}
use Rattle.std.specs.List.{AllByRecursion}
use Rattle.std.proofs.lemmas.Grind.{common_steps}
use Rattle.std.proofs.lemmas.Option.{same_Some}
use Rattle.list_lemmas.proofs.ItemsOfLists.{each-of}
use Rattle.jk_model.specs.declared.identifiers.SegmentNo.{SegmentNo}
use Rattle.jk_model.specs.declared.instructions.Instr.{Instr}
use Rattle.jk_model.specs.declared.steps.After.{After}
use Rattle.jk_model.specs.declared.steps.After.TheVariants as Next
use Rattle.jk_model.specs.declared.values.Value.{Value}
use Rattle.jk_model.specs.declared.values.Value.TheVariants as Held
use Rattle.jk_model_typing.specs.Scopes.{CodeScope}
use Rattle.jk_model_frames.specs.Frames.{FrameState}
use Rattle.jk_model_domains.specs.NumberRows.{Calculates, Decides, DividesByZero, Exchanges, HasRow, IsConversion, Moves, NumberRow, Pushes, UsesLocal, comparisons, copies, divides_by_zero, drops, exchanges, int_divisions, int_operations, jumps, long_divisions, long_operations, long_shifts, returns, returns_nothing, switches, uses_local}
use Rattle.frame_store.specs.FrameContents.{FrameContent, StoredSegment, TopFrame}
use Rattle.segment_steps.proofs.GivingBack.{HasDepth}

-- ---- No other row has such an opcode.

-- it is below those of returns, or above them
abbrev IsApart : ℕ → Type 0
IsApart op = (op < 0xac) ⊎ (0xb1 < op)

low : (op k : ℕ) → op ≡ k → k < 0xac → IsApart op
low op k is below = inl (omega (arith, is, below))

in_table : {X : Type 0} (rows : List (ℕ × X)) (op : ℕ) (x : X) → AllByRecursion (λ (r : ℕ × X). r.0 < 0xac) rows → HasRow rows op x → IsApart op
in_table {X = X} rows op x all h = inl (each-of (λ (r : ℕ × X). r.0 < 0xac) rows (op, x) all h)

-- a jump that compares is one of six
few : (place : ℕ) (test : ℤ → ℤ → Bool) → HasRow comparisons place test → place < 6
few place test h =
    each-of (λ (r : ℕ × (ℤ → ℤ → Bool)). r.0 < 6) comparisons (place, test)
    (lit< tt, (lit< tt, (lit< tt, (lit< tt, (lit< tt, (lit< tt, tt)))))) h

module _ (s : CodeScope) (i : Instr) where
  by_pushes : (pushed : List Value) → Pushes s i pushed → IsApart i.op
  by_pushes pushed (inl h) = low i.op 0x00 h.0 (lit< tt)
  by_pushes pushed (inr (inl h)) = low i.op 0x01 h.0 (lit< tt)
  by_pushes pushed (inr (inr (inl h))) = low i.op 0x11 h.0 (lit< tt)
  by_pushes pushed (inr (inr (inr (inl h)))) = low i.op 0x09 h.0 (lit< tt)
  by_pushes pushed (inr (inr (inr (inr (inl h))))) = low i.op 0x13 h.0 (lit< tt)
  by_pushes pushed (inr (inr (inr (inr (inr h))))) = low i.op 0x14 h.0 (lit< tt)

  by_moves : (taken pushed : List Value) → Moves i.op taken pushed → IsApart i.op
  by_moves taken pushed (inl h) = in_table drops i.op h.0 (lit< tt, (lit< tt, tt)) h.1
  by_moves taken pushed (inr (inl h)) =
      in_table copies i.op (h.0, h.1) (lit< tt, (lit< tt, (lit< tt, (lit< tt, (lit< tt, (lit< tt, tt)))))) h.4
  by_moves taken pushed (inr (inr h)) = low i.op 0x5f h.0 (lit< tt)

  by_conversion : (v w : Value) → IsConversion i.op v w → IsApart i.op
  by_conversion (Held.Int x) w (inl h) = low i.op 0x74 h.0 (lit< tt)
  by_conversion (Held.Int x) w (inr (inl h)) = low i.op 0x85 h.0 (lit< tt)
  by_conversion (Held.Int x) w (inr (inr (inl h))) = low i.op 0x91 h.0 (lit< tt)
  by_conversion (Held.Int x) w (inr (inr (inr (inl h)))) = low i.op 0x92 h.0 (lit< tt)
  by_conversion (Held.Int x) w (inr (inr (inr (inr h)))) = low i.op 0x93 h.0 (lit< tt)
  by_conversion (Held.Long x) w (inl h) = low i.op 0x75 h.0 (lit< tt)
  by_conversion (Held.Long x) w (inr h) = low i.op 0x88 h.0 (lit< tt)
  by_conversion v w h = absurd h

  of_ints : AllByRecursion (λ (r : ℕ × (ℤ → ℤ → ℤ)). r.0 < 0xac) int_operations
  of_ints = (
    lit< tt,
    (lit< tt, (lit< tt, (lit< tt, (lit< tt, (lit< tt, (lit< tt, (lit< tt, (lit< tt, tt)))))))),
  )

  by_calculation : (taken pushed : List Value) → Calculates i.op taken pushed → IsApart i.op
  by_calculation taken pushed (inl h) = in_table int_operations i.op h.0 of_ints h.3
  by_calculation taken pushed (inr (inl h)) = in_table int_divisions i.op h.0 (lit< tt, (lit< tt, tt)) h.3
  by_calculation taken pushed (inr (inr (inl h))) =
      in_table long_operations i.op h.0 (lit< tt, (lit< tt, (lit< tt, (lit< tt, (lit< tt, (lit< tt, tt)))))) h.3
  by_calculation taken pushed (inr (inr (inr (inl h)))) = in_table long_divisions i.op h.0 (lit< tt, (lit< tt, tt)) h.3
  by_calculation taken pushed (inr (inr (inr (inr (inl h))))) = in_table long_shifts i.op h.0 (lit< tt, (lit< tt, (lit< tt, tt))) h.3
  by_calculation taken pushed (inr (inr (inr (inr (inr (inl h)))))) = low i.op 0x94 h.2 (lit< tt)
  by_calculation taken pushed (inr (inr (inr (inr (inr (inr h)))))) = by_conversion h.0 h.1 h.2

  by_exchange : (taken pushed : List Value) → Exchanges s i taken pushed → IsApart i.op
  by_exchange taken pushed (inl h) = by_pushes pushed h.1
  by_exchange taken pushed (inr (inl h)) = by_moves taken pushed h
  by_exchange taken pushed (inr (inr h)) = by_calculation taken pushed h

  by_local : (f g : FrameState) → UsesLocal i f g → IsApart i.op
  by_local f g (inl h) = inl (grind (arith, common_steps, h.2))
  by_local f g (inr (inl h)) = inl (grind (arith, common_steps, h.3))
  by_local f g (inr (inr h)) = low i.op 0x84 h.2 (lit< tt)

  by_decision : (taken : List Value) (holds : Bool) → Decides i.op taken holds → IsApart i.op
  by_decision taken holds (inl h) = inl (omega (arith, h.4, few h.0 h.1 h.3))
  by_decision taken holds (inr (inl h)) = inl (omega (arith, h.5, few h.0 h.1 h.4))
  by_decision taken holds (inr (inr (inl h))) = low i.op 0xa5 h.2 (lit< tt)
  by_decision taken holds (inr (inr (inr (inl h)))) = low i.op 0xa6 h.2 (lit< tt)
  by_decision taken holds (inr (inr (inr (inr (inl h))))) = inr (omega (arith, h.1))
  by_decision taken holds (inr (inr (inr (inr (inr (inl h)))))) = inr (omega (arith, h.1))
  by_decision taken holds (inr (inr (inr (inr (inr (inr h)))))) = low i.op 0xa7 h.0 (lit< tt)

  by_division : (taken : List Value) → DividesByZero i.op taken → IsApart i.op
  by_division taken (inl h) = in_table int_divisions i.op h.0 (lit< tt, (lit< tt, tt)) h.2
  by_division taken (inr h) = in_table long_divisions i.op h.0 (lit< tt, (lit< tt, tt)) h.2

  out_of_range : IsApart i.op → 0xac ≤ i.op → i.op ≤ 0xb1 → ⊥
  out_of_range (inl before) from to = absurd (omega (arith, before, from))
  out_of_range (inr behind) from to = absurd (omega (arith, behind, to))

  pub only_returns : (place : ℕ) (f g : FrameState) (after : After) → NumberRow s place i f g after → 0xac ≤ i.op → i.op ≤ 0xb1
      → ((v : Option Value) → after ≡ Next.Return v → ⊥) → ⊥
  only_returns place f g after (exchanges taken pushed h rep) from to never = out_of_range (by_exchange taken pushed h) from to
  only_returns place f g after (uses_local h) from to never = out_of_range (by_local f g h) from to
  only_returns place f g after (jumps taken holds next h rep at) from to never = out_of_range (by_decision taken holds h) from to
  only_returns place f g after (switches key next h rep at) from to never = out_of_range (inl (grind (arith, common_steps, h))) from to
  only_returns place f g after (divides_by_zero taken h top same) from to never = out_of_range (by_division taken h) from to
  only_returns place f g after (returns v h rep) from to never = never _ refl
  only_returns place f g after (returns_nothing op same) from to never = never _ refl

-- ---- A segment of two frames or more has callers of its top frame, and one of fewer has none.

pub has_callers : (c : FrameContent) (s : SegmentNo) (f : FrameState) (top : TopFrame c s f) (n : ℕ) → HasDepth c s n → 2 ≤ n → top.lower ≢ []
has_callers c s f top n depth many none =
    let is : n ≡ length top.segment.frames =
    same_Some n (length top.segment.frames) (depth ∙ ap (option_map (λ (g : StoredSegment). length g.frames)) top.is_there) in
    let one : length top.segment.frames ≡ length (f ∷ []) = ap length (top.frames ∙ ap (λ (l : List FrameState). l ++ f ∷ []) none) in
    omega (arith, is, one, many)

pub no_callers_below : (c : FrameContent) (s : SegmentNo) (f : FrameState) (top : TopFrame c s f) (n : ℕ) → HasDepth c s n → n < 2 → top.lower ≡ []
no_callers_below c s f top n depth few = by top.lower refl
  where
    by : (lower : List FrameState) → top.lower ≡ lower → top.lower ≡ []
    by [] is = is
    by (g ∷ lower) is =
        let all : n ≡ length top.segment.frames =
        same_Some n (length top.segment.frames) (depth ∙ ap (option_map (λ (g : StoredSegment). length g.frames)) top.is_there) in
        let more : length top.segment.frames ≡ length ((g ∷ lower) ++ f ∷ []) =
        ap length (top.frames ∙ ap (λ (l : List FrameState). l ++ f ∷ []) is) in
        let longer : length ((g ∷ lower) ++ f ∷ []) ≡ length (g ∷ lower) + 1 = length-append (g ∷ lower) (f ∷ []) in
        let some : 1 ≤ length (g ∷ lower) = omega arith in
        absurd (omega (arith, all, more, longer, some, few))
