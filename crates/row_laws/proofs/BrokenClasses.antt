-- What it changes of the classes in progress that a class which a thread has in progress is broken.
use Rattle.std.proofs.Common.{◌≡◌, ◌≢◌, inl, inr, ℕ, ◌+◌, ◌≤◌, Bool, true, false, ◌==◌, List, [], ◌∷◌, find, Option, Some, None, refl, sym, ap, subst, ◌∙◌, arith}
use Rattle.std.specs.Prelude.{if◌then◌else◌}
use Rattle.std.specs.Option.{option_map_or}
use Rattle.std.proofs.lemmas.Bool.{both_ways, cases_Bool, eqb-true, eqb-false, eq-eqb, ne_eqb}
use Rattle.jk_model.specs.declared.identifiers.ClassId.{ClassId}
use Rattle.jk_model.specs.declared.identifiers.ThreadNo.{ThreadNo}
use Rattle.jk_model_domains.specs.declared.states.ClassState.{ClassState}
use Rattle.jk_model_domains.specs.declared.states.ClassState.TheVariants as State
use Rattle.jk_model_domains.specs.OwnStates.{ClassPart, OwnState, state_of, with_part, with_state}
use Rattle.jk_model_sealing.specs.ClassesInProgress.{progress_by}
use Rattle.model_lemmas.proofs.SameNumbers.{same_class}

abbrev pub one_if : Bool → ℕ
one_if b = if b then 1 else 0

-- ---- States of classes.

abbrev state_in : List ClassPart → ClassId → ClassState
state_in ps c = option_map_or (λ (e : ClassPart). e.state) (find (λ (e : ClassPart). e.class.0 == c.0) ps) State.Done

abbrev broken : ClassPart → ClassPart
broken e = record e { state = State.Broken }

state-other : (ps : List ClassPart) (c d : ClassId) → d.0 == c.0 ≡ false → state_in (with_part c broken ps) d ≡ state_in ps d
state-other [] c d other = refl
state-other (e ∷ ps) c d other = by_tests (e.class.0 == c.0) (e.class.0 == d.0) refl refl (state-other ps c d other)
  where
    by_tests : (a b : Bool) → e.class.0 == c.0 ≡ a → e.class.0 == d.0 ≡ b → state_in (with_part c broken ps) d ≡ state_in ps d
        → state_in (with_part c broken (e ∷ ps)) d ≡ state_in (e ∷ ps) d
    by_tests true true p q rest =
        absurd (both_ways (d.0 == c.0) other (eq-eqb d.0 c.0 (sym (eqb-true e.class.0 d.0 q) ∙ eqb-true e.class.0 c.0 p)))
    by_tests true false p q rest = rw (p, q) rest
    by_tests false true p q rest = rw (p, q) refl
    by_tests false false p q rest = rw (p, q) rest

state-same : (ps : List ClassPart) (c : ClassId)
    → state_in (with_part c broken ps) c
    ≡ option_map_or (λ (e : ClassPart). State.Broken) (find (λ (e : ClassPart). e.class.0 == c.0) ps) State.Done
state-same [] c = refl
state-same (e ∷ ps) c = by_test (e.class.0 == c.0) refl (state-same ps c)
  where
    by_test : (a : Bool) → e.class.0 == c.0 ≡ a
        → state_in (with_part c broken ps) c
        ≡ option_map_or (λ (x : ClassPart). State.Broken) (find (λ (x : ClassPart). x.class.0 == c.0) ps) State.Done
        → state_in (with_part c broken (e ∷ ps)) c
        ≡ option_map_or (λ (x : ClassPart). State.Broken) (find (λ (x : ClassPart). x.class.0 == c.0) (e ∷ ps)) State.Done
    by_test true p rest = rw (p, p) refl
    by_test false p rest = rw (p, p) rest

-- ---- Progress by threads.

-- 1 where a class in this state is in progress by the thread, and else 0
abbrev taken_by : ThreadNo → ClassState → ℕ
taken_by t (State.InProgress by) = if by.0 == t.0 then 1 else 0
taken_by t state = 0

taken_once : (t : ThreadNo) (s : ClassState) → taken_by t s ≤ 1
taken_once t (State.InProgress by) = by_test (by.0 == t.0) refl
  where
    by_test : (b : Bool) → by.0 == t.0 ≡ b → taken_by t (State.InProgress by) ≤ 1
    by_test true e = rw e (omega arith)
    by_test false e = rw e (omega arith)
taken_once t State.Untouched = omega arith
taken_once t State.Done = omega arith
taken_once t State.Broken = omega arith

-- what one thread has in progress, no other has
taken_alone : (t u : ThreadNo) (s : ClassState) → u ≢ t → 1 ≤ taken_by t s → taken_by u s ≡ 0
taken_alone t u (State.InProgress by) apart some = by_tests (by.0 == t.0) (by.0 == u.0) refl refl
  where
    same_thread : (v w : ThreadNo) → v.0 ≡ w.0 → v ≡ w
    same_thread v w e = let of : ℕ → ThreadNo = λ n. record { 0 = n } in ap of e

    by_tests : (a b : Bool) → by.0 == t.0 ≡ a → by.0 == u.0 ≡ b → taken_by u (State.InProgress by) ≡ 0
    by_tests true true p q = absurd (apart (same_thread u t (sym (eqb-true by.0 u.0 q) ∙ eqb-true by.0 t.0 p)))
    by_tests false b p q = let none : 1 ≤ 0 = rw p at some in absurd (omega (arith, none))
    by_tests a false p q = rw q refl
taken_alone t u State.Untouched apart some = refl
taken_alone t u State.Done apart some = refl
taken_alone t u State.Broken apart some = refl

progress_elsewhere : (u : ThreadNo) (own : OwnState) (c d : ClassId) → d.0 == c.0 ≡ false
    → progress_by u (with_state own c State.Broken) d ≡ progress_by u own d
progress_elsewhere u own c d other = ap (taken_by u) (state-other own.classes c d other)

progress_here : (u : ThreadNo) (own : OwnState) (c : ClassId) → progress_by u (with_state own c State.Broken) c ≡ 0
progress_here u own c = ap (taken_by u) (state-same own.classes c) ∙ by_part (find (λ (e : ClassPart). e.class.0 == c.0) own.classes)
  where
    by_part : (o : Option ClassPart) → taken_by u (option_map_or (λ (e : ClassPart). State.Broken) o State.Done) ≡ 0
    by_part None = refl
    by_part (Some e) = refl

same_number : (c d : ClassId) → d.0 == c.0 ≡ true → c ≡ d
same_number c d e = same_class c d (sym (eqb-true d.0 c.0 e))

turned : (c d : ClassId) (b : Bool) → d.0 == c.0 ≡ b → c.0 == d.0 ≡ b
turned c d true e = eq-eqb c.0 d.0 (sym (eqb-true d.0 c.0 e))
turned c d false e = ne_eqb c.0 d.0 (λ same. eqb-false d.0 c.0 e (sym same))

-- the thread has the class in progress no more, and nothing else changes
module _ (t : ThreadNo) (own : OwnState) (c : ClassId) (some : 1 ≤ progress_by t own c) where
  pub broken_others : (u : ThreadNo) (d : ClassId) → u ≢ t → progress_by u (with_state own c State.Broken) d ≡ progress_by u own d
  broken_others u d apart = elim (cases_Bool (d.0 == c.0)) [
    | inl same ↦
        subst (λ (e : ClassId). progress_by u (with_state own c State.Broken) e ≡ progress_by u own e) (same_number c d same)
        (progress_here u own c ∙ sym (taken_alone t u (state_of own c) apart some))
    | inr other ↦ progress_elsewhere u own c d other
  ]

  pub broken_own : (d : ClassId) → progress_by t (with_state own c State.Broken) d + one_if (c.0 == d.0) ≡ progress_by t own d
  broken_own d = elim (cases_Bool (d.0 == c.0)) [
    | inl same ↦
        let now = progress_here t own c in
        let once = taken_once t (state_of own c) in
        let here : progress_by t (with_state own c State.Broken) c + one_if (c.0 == c.0) ≡ progress_by t own c =
        rw (eq-eqb c.0 c.0 refl) (omega (arith, now, once, some)) in
        subst (λ (e : ClassId). progress_by t (with_state own c State.Broken) e + one_if (c.0 == e.0) ≡ progress_by t own e)
        (same_number c d same) here
    | inr other ↦
        let now = progress_elsewhere t own c d other in
        rw (turned c d false other) (omega (arith, now))
  ]
