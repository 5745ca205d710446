-- What another state of a class changes of the classes in progress: one that was in progress by a thread comes to rest, or one that was
-- untouched comes into progress.
use Rattle.std.proofs.Common.{◌≡◌, ◌≢◌, inl, inr, ℕ, ◌+◌, ◌≤◌, Bool, true, false, ◌==◌, List, [], ◌∷◌, find, Option, Some, None, refl, sym, ap, subst, ◌∙◌, arith}
use Rattle.std.specs.Prelude.{if◌then◌else◌}
use Rattle.std.specs.Option.{option_map_or}
use Rattle.std.proofs.lemmas.Bool.{both_ways, cases_Bool, eqb-true, eqb-false, eq-eqb, ne_eqb}
use Rattle.jk_model.specs.declared.identifiers.ClassId.{ClassId}
use Rattle.jk_model.specs.declared.identifiers.ThreadNo.{ThreadNo}
use Rattle.jk_model_domains.specs.declared.states.ClassState.{ClassState}
use Rattle.jk_model_domains.specs.declared.states.ClassState.TheVariants as State
use Rattle.jk_model_domains.specs.OwnStates.{ClassPart, OwnState, state_of, with_part, with_state}
use Rattle.jk_model_sealing.specs.ClassesInProgress.{progress_by}
use Rattle.model_lemmas.proofs.SameNumbers.{same_class}
use Rattle.row_laws.proofs.FramesInARow.{one_if}

-- ---- States of classes.

abbrev state_in : List ClassPart → ClassId → ClassState
state_in ps c = option_map_or (λ (e : ClassPart). e.state) (find (λ (e : ClassPart). e.class.0 == c.0) ps) State.Done

abbrev stated : ClassState → ClassPart → ClassPart
stated s e = record e { state = s }

state_other : (ps : List ClassPart) (c d : ClassId) (s : ClassState) → d.0 == c.0 ≡ false → state_in (with_part c (stated s) ps) d ≡ state_in ps d
state_other [] c d s other = refl
state_other (e ∷ ps) c d s other = by_tests (e.class.0 == c.0) (e.class.0 == d.0) refl refl (state_other ps c d s other)
  where
    by_tests : (a b : Bool) → e.class.0 == c.0 ≡ a → e.class.0 == d.0 ≡ b → state_in (with_part c (stated s) ps) d ≡ state_in ps d
        → state_in (with_part c (stated s) (e ∷ ps)) d ≡ state_in (e ∷ ps) d
    by_tests true true p q rest =
        absurd (both_ways (d.0 == c.0) other (eq-eqb d.0 c.0 (sym (eqb-true e.class.0 d.0 q) ∙ eqb-true e.class.0 c.0 p)))
    by_tests true false p q rest = rw (p, q) rest
    by_tests false true p q rest = rw (p, q) refl
    by_tests false false p q rest = rw (p, q) rest

state_same : (ps : List ClassPart) (c : ClassId) (s : ClassState)
    → state_in (with_part c (stated s) ps) c ≡ option_map_or (λ (e : ClassPart). s) (find (λ (e : ClassPart). e.class.0 == c.0) ps) State.Done
state_same [] c s = refl
state_same (e ∷ ps) c s = by_test (e.class.0 == c.0) refl (state_same ps c s)
  where
    by_test : (a : Bool) → e.class.0 == c.0 ≡ a
        → state_in (with_part c (stated s) ps) c ≡ option_map_or (λ (x : ClassPart). s) (find (λ (x : ClassPart). x.class.0 == c.0) ps) State.Done
        → state_in (with_part c (stated s) (e ∷ ps)) c
        ≡ option_map_or (λ (x : ClassPart). s) (find (λ (x : ClassPart). x.class.0 == c.0) (e ∷ ps)) State.Done
    by_test true p rest = rw (p, p) refl
    by_test false p rest = rw (p, p) rest

-- ---- Progress by threads.

-- 1 where a class in this state is in progress by the thread, and else 0
abbrev pub taken_by : ThreadNo → ClassState → ℕ
taken_by t (State.InProgress by) = if by.0 == t.0 then 1 else 0
taken_by t state = 0

taken_once : (t : ThreadNo) (s : ClassState) → taken_by t s ≤ 1
taken_once t (State.InProgress by) = by_test (by.0 == t.0) refl
  where
    by_test : (b : Bool) → by.0 == t.0 ≡ b → taken_by t (State.InProgress by) ≤ 1
    by_test true e = rw e (omega arith)
    by_test false e = rw e (omega arith)
taken_once t State.Untouched = omega arith
taken_once t State.Done = omega arith
taken_once t State.Broken = omega arith

same_thread : (v w : ThreadNo) → v.0 ≡ w.0 → v ≡ w
same_thread v w e = let of : ℕ → ThreadNo = λ n. record { 0 = n } in ap of e

-- what one thread has in progress, no other has
taken_alone : (t u : ThreadNo) (s : ClassState) → u ≢ t → 1 ≤ taken_by t s → taken_by u s ≡ 0
taken_alone t u (State.InProgress by) apart some = by_tests (by.0 == t.0) (by.0 == u.0) refl refl
  where
    by_tests : (a b : Bool) → by.0 == t.0 ≡ a → by.0 == u.0 ≡ b → taken_by u (State.InProgress by) ≡ 0
    by_tests true true p q = absurd (apart (same_thread u t (sym (eqb-true by.0 u.0 q) ∙ eqb-true by.0 t.0 p)))
    by_tests false b p q = let none : 1 ≤ 0 = rw p at some in absurd (omega (arith, none))
    by_tests a false p q = rw q refl
taken_alone t u State.Untouched apart some = refl
taken_alone t u State.Done apart some = refl
taken_alone t u State.Broken apart some = refl

progress_elsewhere : (u : ThreadNo) (own : OwnState) (c d : ClassId) (s : ClassState) → d.0 == c.0 ≡ false
    → progress_by u (with_state own c s) d ≡ progress_by u own d
progress_elsewhere u own c d s other = ap (taken_by u) (state_other own.classes c d s other)

done_rests : (u : ThreadNo) (own : OwnState) (c : ClassId) → progress_by u (with_state own c State.Done) c ≡ 0
done_rests u own c = ap (taken_by u) (state_same own.classes c State.Done) ∙ by_part (find (λ (e : ClassPart). e.class.0 == c.0) own.classes)
  where
    by_part : (o : Option ClassPart) → taken_by u (option_map_or (λ (e : ClassPart). State.Done) o State.Done) ≡ 0
    by_part None = refl
    by_part (Some e) = refl

state_begun : (own : OwnState) (c : ClassId) (s : ClassState) → state_of own c ≡ State.Untouched → state_of (with_state own c s) c ≡ s
state_begun own c s untouched =
    state_same own.classes c s ∙ by_part (find (λ (e : ClassPart). e.class.0 == c.0) own.classes) untouched
  where
    by_part : (o : Option ClassPart) → option_map_or (λ (e : ClassPart). e.state) o State.Done ≡ State.Untouched
        → option_map_or (λ (e : ClassPart). s) o State.Done ≡ s
    by_part None e = absurd cc
    by_part (Some p) e = refl

turned : (c d : ClassId) (b : Bool) → d.0 == c.0 ≡ b → c.0 == d.0 ≡ b
turned c d true e = eq-eqb c.0 d.0 (sym (eqb-true d.0 c.0 e))
turned c d false e = ne_eqb c.0 d.0 (λ same. eqb-false d.0 c.0 e (sym same))

-- a class that was in progress by a thread is done
module _ (t : ThreadNo) (own : OwnState) (c : ClassId) (some : 1 ≤ progress_by t own c) where
  pub ended_others : (u : ThreadNo) (d : ClassId) → u ≢ t → progress_by u (with_state own c State.Done) d ≡ progress_by u own d
  ended_others u d apart = elim (cases_Bool (d.0 == c.0)) [
    | inl same ↦
        subst (λ (x : ClassId). progress_by u (with_state own c State.Done) x ≡ progress_by u own x) (same_class c d (sym (eqb-true d.0 c.0 same)))
        (done_rests u own c ∙ sym (taken_alone t u (state_of own c) apart some))
    | inr other ↦ progress_elsewhere u own c d State.Done other
  ]

  pub ended_own : (d : ClassId) → progress_by t (with_state own c State.Done) d + one_if (c.0 == d.0) ≡ progress_by t own d
  ended_own d = elim (cases_Bool (d.0 == c.0)) [
    | inl same ↦
        let now = done_rests t own c in
        let once = taken_once t (state_of own c) in
        let here : progress_by t (with_state own c State.Done) c + one_if (c.0 == c.0) ≡ progress_by t own c =
        rw (eq-eqb c.0 c.0 refl) (omega (arith, now, once, some)) in
        subst (λ (x : ClassId). progress_by t (with_state own c State.Done) x + one_if (c.0 == x.0) ≡ progress_by t own x)
        (same_class c d (sym (eqb-true d.0 c.0 same))) here
    | inr other ↦
        let now = progress_elsewhere t own c d State.Done other in
        rw (turned c d false other) (omega (arith, now))
  ]

-- a class that was untouched comes into progress by a thread
module _ (t : ThreadNo) (own : OwnState) (c : ClassId) (untouched : state_of own c ≡ State.Untouched) where
  none_before : (u : ThreadNo) → progress_by u own c ≡ 0
  none_before u = ap (taken_by u) untouched

  now_by : (u : ThreadNo) → progress_by u (with_state own c (State.InProgress t)) c ≡ taken_by u (State.InProgress t)
  now_by u = ap (taken_by u) (state_begun own c (State.InProgress t) untouched)

  pub begun_others : (u : ThreadNo) (d : ClassId) → u ≢ t
      → progress_by u (with_state own c (State.InProgress t)) d ≡ progress_by u own d
  begun_others u d apart = elim (cases_Bool (d.0 == c.0)) [
    | inl same ↦
        let none : taken_by u (State.InProgress t) ≡ 0 = rw (ne_eqb t.0 u.0 (λ e. apart (same_thread u t (sym e)))) refl in
        subst (λ (x : ClassId). progress_by u (with_state own c (State.InProgress t)) x ≡ progress_by u own x) (same_class c d (sym (eqb-true d.0 c.0 same)))
        (now_by u ∙ none ∙ sym (none_before u))
    | inr other ↦ progress_elsewhere u own c d (State.InProgress t) other
  ]

  pub begun_own : (d : ClassId)
      → progress_by t (with_state own c (State.InProgress t)) d ≡ progress_by t own d + one_if (c.0 == d.0)
  begun_own d = elim (cases_Bool (d.0 == c.0)) [
    | inl same ↦
        let one : taken_by t (State.InProgress t) ≡ 1 = rw (eq-eqb t.0 t.0 refl) refl in
        let here : progress_by t (with_state own c (State.InProgress t)) c ≡ progress_by t own c + one_if (c.0 == c.0) =
        rw (eq-eqb c.0 c.0 refl) (omega (arith, now_by t, one, none_before t)) in
        subst (λ (x : ClassId). progress_by t (with_state own c (State.InProgress t)) x ≡ progress_by t own x + one_if (c.0 == x.0))
        (same_class c d (sym (eqb-true d.0 c.0 same))) here
    | inr other ↦
        let now = progress_elsewhere t own c d (State.InProgress t) other in
        rw (turned c d false other) (omega (arith, now))
  ]
