-- A way of the machine that is gone so many times, as steps of a thread and rounds are: more of them after some, and those that change
-- nothing. What each one keeps, so many keep.
use Rattle.std.proofs.Common.{◌≡◌, ℕ, zero, suc, ◌+◌, ◌-◌, ◌≤◌, List, [], ◌++◌, refl, sym, ap, subst, ◌∙◌, append_assoc, arith}
use Rattle.std.proofs.lemmas.List.{append-nil}
use Rattle.jk_model.specs.declared.identifiers.ThreadNo.{ThreadNo}
use Rattle.jk_model.specs.declared.output.Line.{Line}
use Rattle.jk_model_machine_state.specs.Machines.{Machine}
use Rattle.jk_model_runs.specs.Events.{Goes, IsWhole, Move, Nothing, Rounds, Then, Turns}
use Rattle.jk_model_runs.specs.Steps.{Steps}
use Rattle.kernel_events.specs.StepsInTurn.{StepsApart, TurnsApart}

-- the many are so many of the one
pub record Repeats (One : Move) (Many : ℕ → Move) : Type 0 where
  pub none : (m last : Machine) (lines : List Line) → Many 0 m lines last → Nothing m lines last
  pub nothing : (m : Machine) → Many 0 m [] m
  pub parts : (n : ℕ) (m last : Machine) (lines : List Line) → Many (suc n) m lines last → Then One (Many n) m lines last
  pub whole : (n : ℕ) (m last : Machine) (lines : List Line) → Then One (Many n) m lines last → Many (suc n) m lines last

-- so many steps of a thread
abbrev pub StepOf : ThreadNo → Move
StepOf t = λ m lines new. Steps m t lines new

abbrev pub TurnsOf : ThreadNo → ℕ → Move
TurnsOf t = λ n. Turns n t

pub turns_repeat : (t : ThreadNo) → Repeats (StepOf t) (TurnsOf t)
turns_repeat t = record {
  none = λ m last lines h. h;
  nothing = λ m. (refl, refl);
  parts = λ n m last lines h. h;
  whole = λ n m last lines h. h;
}

-- each of them confined
abbrev pub ApartOf : ThreadNo → Move
ApartOf t = λ m lines new. StepsApart m t lines new

abbrev pub AllApartOf : ThreadNo → ℕ → Move
AllApartOf t = λ n. TurnsApart n t

pub apart_repeat : (t : ThreadNo) → Repeats (ApartOf t) (AllApartOf t)
apart_repeat t = record {
  none = λ m last lines h. h;
  nothing = λ m. (refl, refl);
  parts = λ n m last lines h. h;
  whole = λ n m last lines h. h;
}

-- so many rounds
abbrev pub RoundOf : ℕ → Move
RoundOf steps = Goes steps 1

abbrev pub RoundsOf : ℕ → ℕ → Move
RoundsOf steps = λ n. Rounds n steps

pub rounds_repeat : (steps : ℕ) → Repeats (RoundOf steps) (RoundsOf steps)
rounds_repeat steps = record {
  none = λ m last lines h. h;
  nothing = λ m. (refl, refl);
  parts = λ n m last lines h. h;
  whole = λ n m last lines h. h;
}

module _ (One : Move) (Many : ℕ → Move) (r : Repeats One Many) where
  -- some and then some more
  pub ways_join : (a b : ℕ) (m mid last : Machine) (first rest : List Line) → Many a m first mid → Many b mid rest last
      → Many (a + b) m (first ++ rest) last
  ways_join zero b m mid last first rest p q =
      let none = r.none m mid first p in
      let same : Many b m rest last = subst (λ (x : Machine). Many b x rest last) none.1 q in
      subst (λ (n : ℕ). Many n m (first ++ rest) last) (omega arith)
      (subst (λ (ls : List Line). Many b m (ls ++ rest) last) (sym none.0) same)
  ways_join (suc a) b m mid last first rest p q =
      let s = r.parts a m mid first p in
      let more = ways_join a b s.0 mid last s.2 rest s.5 q in
      let e : suc (a + b) ≡ suc a + b = omega arith in
      subst (λ (n : ℕ). Many n m (first ++ rest) last) e
      (r.whole (a + b) m last (first ++ rest)
      (s.0, s.1, s.2 ++ rest, s.3, s.4, more, ap (λ (ls : List Line). ls ++ rest) s.6 ∙ append_assoc s.1 s.2 rest))

  -- one
  pub one_way : (m last : Machine) (lines : List Line) → One m lines last → IsWhole last → Many 1 m lines last
  one_way m last lines one whole = r.whole 0 m last lines (last, lines, [], one, whole, r.nothing last, sym (append-nil lines))

  -- some and one more
  pub ways_more : (n : ℕ) (m mid last : Machine) (first rest : List Line) → Many n m first mid → One mid rest last → IsWhole last
      → Many (n + 1) m (first ++ rest) last
  ways_more n m mid last first rest p one whole = ways_join n 1 m mid last first rest p (one_way mid last rest one whole)

  -- one that changes nothing changes nothing, however often
  pub ways_rest : (n : ℕ) (m : Machine) → IsWhole m → One m [] m → Many n m [] m
  ways_rest zero m whole one = r.nothing m
  ways_rest (suc n) m whole one = r.whole n m m [] (m, [], [], one, whole, ways_rest n m whole one, refl)

  -- those that change nothing after some of all
  pub ways_then_rest : (i n : ℕ) (m mid : Machine) (first : List Line) → i ≤ n → Many i m first mid → IsWhole mid → One mid [] mid
      → Many n m first mid
  ways_then_rest i n m mid first le p whole one =
      let all = ways_join i (n - i) m mid mid first [] p (ways_rest (n - i) mid whole one) in
      let count : i + (n - i) ≡ n = omega (arith, le) in
      subst (λ (k : ℕ). Many k m first mid) count
      (subst (λ (ls : List Line). Many (i + (n - i)) m ls mid) (append-nil first) all)

  -- what one keeps, so many keep
  pub ways_keep : (Kept : Machine → Type 0) → ((m last : Machine) (lines : List Line) → Kept m → One m lines last → Kept last)
      → (n : ℕ) (m last : Machine) (lines : List Line) → Kept m → Many n m lines last → Kept last
  ways_keep Kept law zero m last lines kept p = subst Kept (sym (r.none m last lines p).1) kept
  ways_keep Kept law (suc n) m last lines kept p =
      let s = r.parts n m last lines p in
      ways_keep Kept law n s.0 last s.2 (law m s.0 s.1 kept s.3) s.5

  -- and where one is another, so many are as many of those
  pub ways_as : (One' : Move) (Many' : ℕ → Move) → Repeats One' Many' → (Kept : Machine → Type 0)
      → ((m last : Machine) (lines : List Line) → Kept m → One m lines last → Kept last × One' m lines last)
      → (n : ℕ) (m last : Machine) (lines : List Line) → Kept m → Many n m lines last → Many' n m lines last
  ways_as One' Many' r' Kept law zero m last lines kept p =
      let none = r.none m last lines p in
      subst (λ (x : Machine). Many' 0 m lines x) (sym none.1) (subst (λ (ls : List Line). Many' 0 m ls m) (sym none.0) (r'.nothing m))
  ways_as One' Many' r' Kept law (suc n) m last lines kept p =
      let s = r.parts n m last lines p in
      let first = law m s.0 s.1 kept s.3 in
      r'.whole n m last lines (s.0, s.1, s.2, first.1, s.4, ways_as One' Many' r' Kept law n s.0 last s.2 first.0 s.5, s.6)
