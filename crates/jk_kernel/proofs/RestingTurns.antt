-- A thread that rests takes no step, and rests on.
use Rattle.std.proofs.Common.{◌≡◌, ℕ, ◌+◌, sym, subst, arith}
use Rattle.jk_model.specs.declared.identifiers.ThreadNo.{ThreadNo}
use Rattle.jk_model_machine_state.specs.Machines.{Machine}
use Rattle.kernel_events.specs.PrintedLines.{SinkState}
use Rattle.kernel_turns.specs.RestingThreads.{IsResting}
use Rattle.jk_kernel.proofs.TurnsSoFar.{Went, went_nowhere}

pub still_rests : (t : ThreadNo) (done : ℕ) (first now : Machine) (a b : SinkState) → Went t done first now a b → (IsResting first t → done ≡ 0)
    → IsResting first t → IsResting now t
still_rests t done first now a b went so_far rests =
    subst (λ (m : Machine). IsResting m t) (sym (went_nowhere t done first now a b (so_far rests) went)) rests

pub none_taken : (t : ThreadNo) (done more : ℕ) (first now : Machine) (a b : SinkState) → Went t done first now a b → (IsResting first t → done ≡ 0)
    → (IsResting now t → more ≡ 0) → IsResting first t → done + more ≡ 0
none_taken t done more first now a b went so_far alone rests =
    let before : done ≡ 0 = so_far rests in
    let after : more ≡ 0 = alone (still_rests t done first now a b went so_far rests) in
    omega (arith, before, after)
