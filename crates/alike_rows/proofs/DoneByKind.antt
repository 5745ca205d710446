-- What an instruction on numbers does, by the kind of its opcode: the cases of a row, one a kind.
use Rattle.std.proofs.Common.{◌≡◌, ◌≢◌, ℕ, ◌+◌, ◌⊎◌, inl, inr, ℤ, pos, Bool, true, not, List, [], ◌∷◌, ◌++◌, Some, None, slice_get, refl, sym, subst}
use Rattle.std.specs.Prelude.{slice_set}
use Rattle.std.specs.Int.{int_wrapping_add, w32}
use Rattle.jk_model.specs.declared.instructions.Instr.{Instr}
use Rattle.jk_model.specs.declared.opcodes.TheConstants.{IFEQ, IF_ICMPEQ}
use Rattle.jk_model.specs.declared.steps.After.{After}
use Rattle.jk_model.specs.declared.steps.After.TheVariants as Next
use Rattle.jk_model.specs.declared.steps.Raise.TheVariants.{Fresh}
use Rattle.jk_model.specs.declared.values.Value.{Value}
use Rattle.jk_model.specs.declared.values.Value.TheVariants.{Int, Long, Null}
use Rattle.jk_model_classes.specs.declared.records.Link.TheVariants as To
use Rattle.jk_model_typing.specs.Scopes.{CodeScope, LeadsToLink}
use Rattle.jk_model_frames.specs.Frames.{FrameState}
use Rattle.jk_model_domains.specs.NumberRows.{ARITHMETIC_EXCEPTION, Calculates, Decides, DividesByZero, HasRow, IsConversion, IsOnTop, Moves, NumberRow, Pushes, Replaces, UsesLocal, compared, comparisons, copies, divides_by_zero, drops, exchanges, int_divisions, int_operations, is_null, is_same_reference, jumps, long_divisions, long_operations, long_shifts, place_after, returns, returns_nothing, switch_target, switches, uses_local, value_slots, values_slots, with_value}
use Rattle.alike_rows.proofs.InstructionKinds.{Kind, NoEntry, NullEntry, IntEntry, LongEntry, IntLink, LongLink, Dropping, Copying, Swapping, OfInts, IntQuotient, OfLongs, LongQuotient, Shifting, Comparing, Converting, Loading, Storing, Counting, JumpOnInt, JumpOnInts, JumpIfSame, JumpIfDifferent, JumpIfNull, JumpIfNoNull, Jumping, Switching, ReturnOfValue, ReturnOfNone, Other, kind_of, of_acmpeq, of_acmpne, of_copies, of_drops, of_goto, of_i2b, of_i2c, of_i2l, of_i2s, of_ifnonnull, of_ifnull, of_iinc, of_ineg, of_int, of_int_jump, of_int_link, of_int_quotient, of_ints, of_ints_jump, of_l2i, of_lcmp, of_lneg, of_load, of_long, of_long_link, of_long_quotient, of_longs, of_nop, of_null, of_return, of_shift, of_store, of_swap, of_switch, of_value_return}

module _ (s : CodeScope) (place : ℕ) (i : Instr) (f g : FrameState) (after : After) where
  -- entries are taken and others put in their place, as this says, and the next instruction follows
  pub record Exchanged (Q : List Value → List Value → Type 0) : Type 0 where
    pub taken : List Value
    pub pushed : List Value
    pub fits : Q taken pushed
    pub replaced : Replaces f g taken pushed
    pub goes_on : after ≡ Next.Goto (place + 1)

  -- entries are taken, and a test of them, as this says, decides where control goes on
  pub record Decided (Q : List Value → Bool → Type 0) : Type 0 where
    pub taken : List Value
    pub holds : Bool
    pub next : ℕ
    pub fits : Q taken holds
    pub replaced : Replaces f g taken []
    pub target : place_after place holds i.a ≡ pos next
    pub goes_on : after ≡ Next.Goto next

  -- a divisor is 0
  pub record Refused (Q : List Value → Type 0) : Type 0 where
    pub taken : List Value
    pub fits : Q taken
    pub on_top : IsOnTop f taken
    pub same : g ≡ f
    pub raised : after ≡ Next.Raise (Fresh ARITHMETIC_EXCEPTION)

  abbrev pub Divided : List (ℕ × (ℤ → ℤ → ℤ)) → (ℤ → Value) → Type 0
  Divided rows made =
      Exchanged (λ taken pushed. (o : ℤ → ℤ → ℤ) × (x : ℤ) × (y : ℤ) × HasRow rows i.op o × (y ≢ pos 0) × (taken ≡ made x ∷ made y ∷ [])
      × (pushed ≡ made (o x y) ∷ []))
      ⊎ Refused (λ taken. (o : ℤ → ℤ → ℤ) × (x : ℤ) × HasRow rows i.op o × (taken ≡ made x ∷ made (pos 0) ∷ []))

  abbrev pub Done : Kind → Type 0
  Done NoEntry = Exchanged (λ taken pushed. (taken ≡ []) × (pushed ≡ []))
  Done NullEntry = Exchanged (λ taken pushed. (taken ≡ []) × (pushed ≡ Null ∷ []))
  Done IntEntry = Exchanged (λ taken pushed. (taken ≡ []) × (pushed ≡ Int i.a ∷ []))
  Done LongEntry = Exchanged (λ taken pushed. (taken ≡ []) × (pushed ≡ Long i.a ∷ []))
  Done IntLink = Exchanged (λ taken pushed. (taken ≡ []) × ((n : ℤ) × LeadsToLink s i (To.Int n) × (pushed ≡ Int n ∷ [])))
  Done LongLink = Exchanged (λ taken pushed. (taken ≡ []) × ((n : ℤ) × LeadsToLink s i (To.Long n) × (pushed ≡ Long n ∷ [])))
  Done Dropping = Exchanged (λ taken pushed. (n : ℕ) × HasRow drops i.op n × (values_slots taken ≡ n) × (pushed ≡ []))
  Done Copying =
      Exchanged (λ taken pushed. (below : ℕ) × (top : ℕ) × (skipped : List Value) × (copied : List Value) × HasRow copies i.op (below, top)
      × (values_slots skipped ≡ below) × (values_slots copied ≡ top) × (taken ≡ skipped ++ copied) × (pushed ≡ copied ++ skipped ++ copied))
  Done Swapping =
      Exchanged (λ taken pushed. (v : Value) × (w : Value) × (value_slots v ≡ 1) × (value_slots w ≡ 1) × (taken ≡ v ∷ w ∷ [])
      × (pushed ≡ w ∷ v ∷ []))
  Done OfInts =
      Exchanged (λ taken pushed. (o : ℤ → ℤ → ℤ) × (x : ℤ) × (y : ℤ) × HasRow int_operations i.op o × (taken ≡ Int x ∷ Int y ∷ [])
      × (pushed ≡ Int (o x y) ∷ []))
  Done IntQuotient = Divided int_divisions Int
  Done OfLongs =
      Exchanged (λ taken pushed. (o : ℤ → ℤ → ℤ) × (x : ℤ) × (y : ℤ) × HasRow long_operations i.op o × (taken ≡ Long x ∷ Long y ∷ [])
      × (pushed ≡ Long (o x y) ∷ []))
  Done LongQuotient = Divided long_divisions Long
  Done Shifting =
      Exchanged (λ taken pushed. (o : ℤ → ℤ → ℤ) × (x : ℤ) × (n : ℤ) × HasRow long_shifts i.op o × (taken ≡ Long x ∷ Int n ∷ [])
      × (pushed ≡ Long (o x n) ∷ []))
  Done Comparing =
      Exchanged (λ taken pushed. (x : ℤ) × (y : ℤ) × (taken ≡ Long x ∷ Long y ∷ []) × (pushed ≡ Int (compared x y) ∷ []))
  Done Converting = Exchanged (λ taken pushed. (v : Value) × (w : Value) × IsConversion i.op v w × (taken ≡ v ∷ []) × (pushed ≡ w ∷ []))
  Done Loading =
      ((n : ℕ) × (v : Value) × (i.a ≡ pos n) × (slice_get f.locals n ≡ Some v) × (g ≡ record f { stack = f.stack ++ v ∷ [] }))
      × (after ≡ Next.Goto (place + 1))
  Done Storing =
      ((n : ℕ) × (v : Value) × (below : List Value) × (i.a ≡ pos n) × (f.stack ≡ below ++ v ∷ [])
      × (g ≡ record f { locals = with_value f.locals n v; stack = below }))
      × (after ≡ Next.Goto (place + 1))
  Done Counting =
      ((n : ℕ) × (x : ℤ) × (i.a ≡ pos n) × (slice_get f.locals n ≡ Some (Int x))
      × (g ≡ record f { locals = slice_set f.locals n (Int (int_wrapping_add w32 x i.b)) }))
      × (after ≡ Next.Goto (place + 1))
  Done JumpOnInt =
      Decided (λ taken holds. (at : ℕ) × (test : ℤ → ℤ → Bool) × (x : ℤ) × HasRow comparisons at test × (i.op ≡ IFEQ + at)
      × (taken ≡ Int x ∷ []) × (holds ≡ test x (pos 0)))
  Done JumpOnInts =
      Decided (λ taken holds. (at : ℕ) × (test : ℤ → ℤ → Bool) × (x : ℤ) × (y : ℤ) × HasRow comparisons at test × (i.op ≡ IF_ICMPEQ + at)
      × (taken ≡ Int x ∷ Int y ∷ []) × (holds ≡ test x y))
  Done JumpIfSame = Decided (λ taken holds. (v : Value) × (w : Value) × (taken ≡ v ∷ w ∷ []) × (holds ≡ is_same_reference v w))
  Done JumpIfDifferent = Decided (λ taken holds. (v : Value) × (w : Value) × (taken ≡ v ∷ w ∷ []) × (holds ≡ not (is_same_reference v w)))
  Done JumpIfNull = Decided (λ taken holds. (v : Value) × (taken ≡ v ∷ []) × (holds ≡ is_null v))
  Done JumpIfNoNull = Decided (λ taken holds. (v : Value) × (taken ≡ v ∷ []) × (holds ≡ not (is_null v)))
  Done Jumping = Decided (λ taken holds. (taken ≡ []) × (holds ≡ true))
  Done Switching =
      (key : ℤ) × (next : ℕ) × Replaces f g (Int key ∷ []) [] × (switch_target i key ≡ pos next) × (after ≡ Next.Goto next)
  Done ReturnOfValue = (v : Value) × Replaces f g (v ∷ []) [] × (after ≡ Next.Return (Some v))
  Done ReturnOfNone = (g ≡ f) × (after ≡ Next.Return None)
  Done Other = ⊥

  module _ (goes_on : after ≡ Next.Goto (place + 1)) where
    module _ (taken pushed : List Value) (replaced : Replaces f g taken pushed) where
      exchanged : (Q : List Value → List Value → Type 0) → Q taken pushed → Exchanged Q
      exchanged Q fits = record { taken = taken; pushed = pushed; fits = fits; replaced = replaced; goes_on = goes_on }

      pushes : taken ≡ [] → Pushes s i pushed → Done (kind_of i.op)
      pushes none (inl h) = subst Done (sym (of_nop i.op h.0)) (exchanged _ (none, h.1))
      pushes none (inr (inl h)) = subst Done (sym (of_null i.op h.0)) (exchanged _ (none, h.1))
      pushes none (inr (inr (inl h))) = subst Done (sym (of_int i.op h.0)) (exchanged _ (none, h.1))
      pushes none (inr (inr (inr (inl h)))) = subst Done (sym (of_long i.op h.0)) (exchanged _ (none, h.1))
      pushes none (inr (inr (inr (inr (inl h))))) = subst Done (sym (of_int_link i.op h.0)) (exchanged _ (none, h.1))
      pushes none (inr (inr (inr (inr (inr h))))) = subst Done (sym (of_long_link i.op h.0)) (exchanged _ (none, h.1))

      moves : Moves i.op taken pushed → Done (kind_of i.op)
      moves (inl h) = subst Done (sym (of_drops i.op h.0 h.1)) (exchanged _ h)
      moves (inr (inl h)) = subst Done (sym (of_copies i.op (h.0, h.1) h.4)) (exchanged _ h)
      moves (inr (inr h)) = subst Done (sym (of_swap i.op h.0)) (exchanged _ h.1)

      converts : (v w : Value) → IsConversion i.op v w → kind_of i.op ≡ Converting
      converts (Int x) w (inl h) = of_ineg i.op h.0
      converts (Int x) w (inr (inl h)) = of_i2l i.op h.0
      converts (Int x) w (inr (inr (inl h))) = of_i2b i.op h.0
      converts (Int x) w (inr (inr (inr (inl h)))) = of_i2c i.op h.0
      converts (Int x) w (inr (inr (inr (inr h)))) = of_i2s i.op h.0
      converts (Long x) w (inl h) = of_lneg i.op h.0
      converts (Long x) w (inr h) = of_l2i i.op h.0
      converts v w h = absurd h

      calculates : Calculates i.op taken pushed → Done (kind_of i.op)
      calculates (inl h) = subst Done (sym (of_ints i.op h.0 h.3)) (exchanged _ h)
      calculates (inr (inl h)) = subst Done (sym (of_int_quotient i.op h.0 h.3)) (inl (exchanged _ h))
      calculates (inr (inr (inl h))) = subst Done (sym (of_longs i.op h.0 h.3)) (exchanged _ h)
      calculates (inr (inr (inr (inl h)))) = subst Done (sym (of_long_quotient i.op h.0 h.3)) (inl (exchanged _ h))
      calculates (inr (inr (inr (inr (inl h))))) = subst Done (sym (of_shift i.op h.0 h.3)) (exchanged _ h)
      calculates (inr (inr (inr (inr (inr (inl h)))))) = subst Done (sym (of_lcmp i.op h.2)) (exchanged _ (h.0, h.1, h.3, h.4))
      calculates (inr (inr (inr (inr (inr (inr h)))))) = subst Done (sym (converts h.0 h.1 h.2)) (exchanged _ h)

    uses : UsesLocal i f g → Done (kind_of i.op)
    uses (inl h) = subst Done (sym (of_load i.op h.2)) ((h.0, h.1, h.3, h.4, h.5), goes_on)
    uses (inr (inl h)) = subst Done (sym (of_store i.op h.3)) ((h.0, h.1, h.2, h.4, h.5, h.7), goes_on)
    uses (inr (inr h)) = subst Done (sym (of_iinc i.op h.2)) ((h.0, h.1, h.3, h.4, h.5), goes_on)

  module _ (taken : List Value) (holds : Bool) (next : ℕ) (replaced : Replaces f g taken []) where
    module _ (target : place_after place holds i.a ≡ pos next) (goes_on : after ≡ Next.Goto next) where
      decided : (Q : List Value → Bool → Type 0) → Q taken holds → Decided Q
      decided Q fits = record { taken = taken; holds = holds; next = next; fits = fits; replaced = replaced; target = target; goes_on = goes_on }

      decides : Decides i.op taken holds → Done (kind_of i.op)
      decides (inl h) = subst Done (sym (of_int_jump i.op h.0 h.1 h.3 h.4)) (decided _ h)
      decides (inr (inl h)) = subst Done (sym (of_ints_jump i.op h.0 h.1 h.4 h.5)) (decided _ h)
      decides (inr (inr (inl h))) = subst Done (sym (of_acmpeq i.op h.2)) (decided _ (h.0, h.1, h.3, h.4))
      decides (inr (inr (inr (inl h)))) = subst Done (sym (of_acmpne i.op h.2)) (decided _ (h.0, h.1, h.3, h.4))
      decides (inr (inr (inr (inr (inl h))))) = subst Done (sym (of_ifnull i.op h.1)) (decided _ (h.0, h.2, h.3))
      decides (inr (inr (inr (inr (inr (inl h)))))) = subst Done (sym (of_ifnonnull i.op h.1)) (decided _ (h.0, h.2, h.3))
      decides (inr (inr (inr (inr (inr (inr h)))))) = subst Done (sym (of_goto i.op h.0)) (decided _ (h.1, h.2))

  refuses : (taken : List Value) → DividesByZero i.op taken → IsOnTop f taken → g ≡ f → after ≡ Next.Raise (Fresh ARITHMETIC_EXCEPTION)
      → Done (kind_of i.op)
  refuses taken (inl h) top same raised =
      subst Done (sym (of_int_quotient i.op h.0 h.2)) (inr (record { taken = taken; fits = h; on_top = top; same = same; raised = raised }))
  refuses taken (inr h) top same raised =
      subst Done (sym (of_long_quotient i.op h.0 h.2)) (inr (record { taken = taken; fits = h; on_top = top; same = same; raised = raised }))

module _ (s : CodeScope) (place : ℕ) (i : Instr) (f g : FrameState) where
  exchanged_done : (taken pushed : List Value)
      → ((taken ≡ []) × Pushes s i pushed) ⊎ Moves i.op taken pushed ⊎ Calculates i.op taken pushed → Replaces f g taken pushed
      → Done s place i f g (Next.Goto (place + 1)) (kind_of i.op)
  exchanged_done taken pushed (inl h) rep = pushes s place i f g (Next.Goto (place + 1)) refl taken pushed rep h.0 h.1
  exchanged_done taken pushed (inr (inl h)) rep = moves s place i f g (Next.Goto (place + 1)) refl taken pushed rep h
  exchanged_done taken pushed (inr (inr h)) rep = calculates s place i f g (Next.Goto (place + 1)) refl taken pushed rep h

  -- a row does what its opcode's kind says
  pub row_done : (after : After) → NumberRow s place i f g after → Done s place i f g after (kind_of i.op)
  row_done after (exchanges taken pushed ex rep) = exchanged_done taken pushed ex rep
  row_done after (uses_local h) = uses s place i f g _ refl h
  row_done after (jumps taken holds next d rep at) = decides s place i f g _ taken holds next rep at refl d
  row_done after (switches key next op rep at) = subst (Done s place i f g _) (sym (of_switch i.op op)) (key, next, rep, at, refl)
  row_done after (divides_by_zero taken d top same) = refuses s place i f g _ taken d top same refl
  row_done after (returns v op rep) = subst (Done s place i f g _) (sym (of_value_return i.op op)) (v, rep, refl)
  row_done after (returns_nothing op same) = subst (Done s place i f g _) (sym (of_return i.op op)) (same, refl)
