-- Turns and rounds are there from each machine of which something is kept from step to step, and lead to such a machine, where steps do.
use Rattle.std.proofs.Common.{◌≡◌, inl, inr, ℕ, zero, suc, ◌+◌, ◌≤◌, List, [], ◌++◌, refl, ◌∙◌, arith}
use Rattle.std.proofs.lemmas.Bool.{cases_lt}
use Rattle.jk_model.specs.declared.identifiers.ThreadNo.{ThreadNo}
use Rattle.jk_model.specs.declared.output.Line.{Line}
use Rattle.jk_model_machine_state.specs.Machines.{Machine}
use Rattle.jk_model_runs.specs.Events.{Goes, Rounds, Turns, on, over}
use Rattle.jk_model_runs.specs.Steps.{Steps}
use Rattle.machine_laws.proofs.WorldsKept.{steps_keep}
use Rattle.machine_laws.specs.StepProgress.{KeepsOn}

-- What a machine leads to.
pub record LeadsOn (Kept : Machine → Type 0) (Way : Machine → List Line → Machine → Type 0) (m : Machine) : Type 0 where
  pub lines : List Line
  pub new : Machine
  pub way : Way m lines new
  pub kept : Kept new
  -- no thread number is given out on the way
  pub next : new.next_thread ≡ m.next_thread

module _ (Kept : Machine → Type 0) (go : KeepsOn Kept) where
  step_on : (t : ThreadNo) (m : Machine) → Kept m → LeadsOn Kept (λ m lines new. Steps m t lines new) m
  step_on t m kept =
      let s = go.steps m t kept in
      record {
        lines = s.0;
        new = s.1;
        way = s.2;
        kept = go.kept m s.1 t s.0 kept s.2;
        next = (steps_keep m s.1 t s.2.0 s.0 s.2.1).next_thread;
      }

  pub turns_on : (n : ℕ) (t : ThreadNo) (m : Machine) → Kept m → LeadsOn Kept (Turns n t) m
  turns_on zero t m kept = record { lines = []; new = m; way = (refl, refl); kept = kept; next = refl }
  turns_on (suc n) t m kept =
      let first = step_on t m kept in
      let rest = turns_on n t first.new first.kept in
      record {
        lines = first.lines ++ rest.lines;
        new = rest.new;
        way = (first.new, first.lines, rest.lines, first.way, (go.known first.new first.kept).0, rest.way, refl);
        kept = rest.kept;
        next = rest.next ∙ first.next;
      }

  goes_within : (height steps thread : ℕ) (m : Machine) → m.next_thread ≤ thread + height → Kept m → LeadsOn Kept (Goes steps thread) m
  goes_within zero steps thread m low kept =
      record { lines = []; new = m; way = over thread m (omega (arith, low)); kept = kept; next = refl }
  goes_within (suc height) steps thread m low kept = elim (cases_lt thread m.next_thread) [
    | inl live ↦
        let first = turns_on steps (record { 0 = thread }) m kept in
        let rest = goes_within height steps (suc thread) first.new (omega (arith, low, first.next)) first.kept in
        record {
          lines = first.lines ++ rest.lines;
          new = rest.new;
          way = on thread m first.new rest.new first.lines rest.lines live first.way (go.known first.new first.kept).0 rest.way;
          kept = rest.kept;
          next = rest.next ∙ first.next;
        }
    | inr past ↦ record { lines = []; new = m; way = over thread m (omega (arith, past)); kept = kept; next = refl }
  ]

  pub goes_on : (steps thread : ℕ) (m : Machine) → Kept m → LeadsOn Kept (Goes steps thread) m
  goes_on steps thread m kept = goes_within m.next_thread steps thread m (omega arith) kept

  pub rounds_on : (n steps : ℕ) (m : Machine) → Kept m → LeadsOn Kept (Rounds n steps) m
  rounds_on zero steps m kept = record { lines = []; new = m; way = (refl, refl); kept = kept; next = refl }
  rounds_on (suc n) steps m kept =
      let first = goes_on steps 1 m kept in
      let rest = rounds_on n steps first.new first.kept in
      record {
        lines = first.lines ++ rest.lines;
        new = rest.new;
        way = (first.new, first.lines, rest.lines, first.way, (go.known first.new first.kept).0, rest.way, refl);
        kept = rest.kept;
        next = rest.next ∙ first.next;
      }
