-- A throwable that leaves frames: the domain stays sealed, what leaves them is a throwable of it, and classes with states and texts with
-- objects keep them.
use Rattle.std.proofs.Common.{inl, inr, ◌≡◌, ℕ, List, [], ◌∷◌, refl, sym, ap, subst, ◌∙◌, arith}
use Rattle.jk_model.specs.declared.identifiers.ClassId.{ClassId}
use Rattle.jk_model.specs.declared.steps.Raise.TheVariants as Raised
use Rattle.jk_model_frames.specs.Frames.{FrameState}
use Rattle.jk_model_domains.specs.declared.states.ClassState.TheVariants as State
use Rattle.jk_model_domains.specs.OwnStates.{HasState, OwnState, with_state}
use Rattle.jk_model_heaps.specs.SystemClasses.{EXCEPTION_IN_INITIALIZER_ERROR}
use Rattle.jk_model_heaps.specs.Workings.{Inside, Setting, with_own}
use Rattle.jk_model_sealing.specs.SealedInsides.{IsSealedInside, Surroundings}
use Rattle.jk_model_unwinding.specs.Unwinding.{LeavesFrame, LeavesFrames, LeavesInitialiser}
use Rattle.heap_laws.proofs.GrownHeaps.{grown_after, grown_self}
use Rattle.heap_laws.proofs.SealedStill.{state_sealed}
use Rattle.heap_laws.specs.KeptInsides.{KeepsInside}
use Rattle.heap_laws.specs.RaisableObjects.{IsThrowable, MayBeRaised}
use Rattle.heap_laws.specs.RunningFrames.{IsKnownSetting}
use Rattle.row_laws.proofs.SystemParents.{below_listed}
use Rattle.row_laws.proofs.Raised.{thrown}
use Rattle.row_laws.proofs.WaysThere.{state_stays}

pub keeps_after : (around : Surroundings) (x : Setting) (first second third : Inside) → KeepsInside around x first second
    → KeepsInside around x second third → KeepsInside around x first third
keeps_after around x first second third g h = record {
  sealed = h.sealed;
  grown = grown_after first.heap second.heap third.heap g.grown h.grown;
  tasks = λ a n is. elim (h.tasks a n is) [ inl before ↦ g.tasks a n before | inr new ↦ inr new ];
  pages = (h.pages.0 ∙ g.pages.0, h.pages.1 ∙ g.pages.1);
}

-- what has one class broken
abbrev pub broken_in : Inside → ClassId → Inside
broken_in inside c = with_own inside (with_state inside.own c State.Broken)

pub breaking_keeps : (around : Surroundings) (x : Setting) (inside : Inside) (c : ClassId) → IsSealedInside around x.quota inside
    → KeepsInside around x inside (broken_in inside c)
breaking_keeps around x inside c sealed = record {
  sealed = state_sealed around x.quota inside sealed c State.Broken;
  grown = grown_self inside.heap;
  tasks = λ a n is. inl is;
  pages = (refl, refl);
}

module _ (around : Surroundings) (x : Setting) (known : IsKnownSetting around x) where
  pub record LeftSealed (old new : Inside) (b : ℕ) : Type 0 where
    pub inside : KeepsInside around x old new
    pub thrown : IsThrowable around.classes new.heap b
    pub states : (c : ClassId) → HasState old.own c → HasState new.own c
    pub literals : new.own.literals ≡ old.own.literals

  -- what is raised keeps the own state
  abbrev IsThrown : Inside → Inside → ℕ → Type 0
  IsThrown old new b = KeepsInside around x old new × IsThrowable around.classes new.heap b × (new.own ≡ old.own)

  states_same : (old new : Inside) → new.own ≡ old.own → (c : ClassId) → HasState old.own c → HasState new.own c
  states_same old new same c has = subst (λ (own : OwnState). HasState own c) (sym same) has

  initialiser_left : (old new : Inside) (a b : ℕ) → IsSealedInside around x.quota old → IsThrowable around.classes old.heap a
      → LeavesInitialiser x old a new b → IsThrown old new b
  initialiser_left old new a b sealed throws (inl (error, same, is)) = thrown around x known old sealed new (Raised.Object a) b throws (same, is)
  initialiser_left old new a b sealed throws (inr (other, raised)) =
      let may : MayBeRaised around.classes old.heap (Raised.Fresh EXCEPTION_IN_INITIALIZER_ERROR) =
      (omega arith, below_listed around.classes known.codes 9 EXCEPTION_IN_INITIALIZER_ERROR.0 9 refl) in
      thrown around x known old sealed new (Raised.Fresh EXCEPTION_IN_INITIALIZER_ERROR) b may raised

  pub frame_left : (f : FrameState) (old new : Inside) (a b : ℕ) → IsSealedInside around x.quota old → IsThrowable around.classes old.heap a
      → LeavesFrame x f old a new b → LeftSealed old new b
  frame_left f old new a b sealed throws (inl (plain, same, is)) =
      let all = thrown around x known old sealed new (Raised.Object a) b throws (same, is) in
      record {
        inside = all.0;
        thrown = all.1;
        states = states_same old new all.2;
        literals = ap (λ (own : OwnState). own.literals) all.2;
      }
  frame_left f old new a b sealed throws (inr (c, initialises, has, left)) =
      let breaks = breaking_keeps around x old c sealed in
      let all = initialiser_left (broken_in old c) new a b breaks.sealed throws left in
      record {
        inside = keeps_after around x old (broken_in old c) new breaks all.0;
        thrown = all.1;
        states = λ d there. states_same (broken_in old c) new all.2 d (state_stays old.own c d State.Broken there);
        literals = ap (λ (own : OwnState). own.literals) all.2;
      }

  pub frames_left : (frames : List FrameState) (old new : Inside) (a b : ℕ) → IsSealedInside around x.quota old
      → IsThrowable around.classes old.heap a → LeavesFrames x frames old a new b → LeftSealed old new b
  frames_left [] old new a b sealed throws left =
      let all = thrown around x known old sealed new (Raised.Object a) b throws left in
      record {
        inside = all.0;
        thrown = all.1;
        states = states_same old new all.2;
        literals = ap (λ (own : OwnState). own.literals) all.2;
      }
  frames_left (f ∷ upper) old new a b sealed throws (mid, met, leaves, not, leave) =
      let was = frames_left upper old mid a met sealed throws leaves in
      let is = frame_left f mid new met b was.inside.sealed was.thrown leave in
      record {
        inside = keeps_after around x old mid new was.inside is.inside;
        thrown = is.thrown;
        states = λ c has. is.states c (was.states c has);
        literals = is.literals ∙ was.literals;
      }
