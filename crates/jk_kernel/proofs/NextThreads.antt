-- The least number of a live thread above a number, as domains share it, is that of the machine's least live thread above it.
use Rattle.std.proofs.Common.{◌≡◌, ◌==◌, ℕ, ◌<◌, Bool, true, false, List, find, Option, Some, None, refl, sym, ◌∙◌, arith}
use Rattle.std.specs.Prelude.{IfNone, IfSome}
use Rattle.std.proofs.lemmas.Bool.{eq-eqb, eqb-true}
use Rattle.list_lemmas.proofs.FoundItems.{Finds, finds}
use Rattle.list_lemmas.proofs.ItemsOfLists.{Contains-at, place_of}
use Rattle.jk_model.specs.declared.identifiers.ThreadNo.{ThreadNo}
use Rattle.jk_model_machine_state.specs.Machines.{IsLiveThread, Machine}
use Rattle.jk_model_sharing.specs.Segments.{SharedThread, thread_numbered}
use Rattle.thread_segments.specs.Answers.{IsLeastAbove, IsLiveNumber}
use Rattle.kernel_events.specs.KernelCalls.{IsNextLive}
use Rattle.machine_parts.specs.MachineParts.{MachineParts, machine_of}
use Rattle.machine_parts.proofs.TopsOfThreads.{lives_in_both, lives_in_machine}

abbrev has_number : ℕ → SharedThread → Bool
has_number t e = e.number.0 == t

-- a thread that is found has the number, and one that has it is found
number_found : (threads : List SharedThread) (t : ℕ) (e : SharedThread) → thread_numbered threads (record { 0 = t }) ≡ Some e → IsLiveNumber threads t
number_found threads t e is = by (find (has_number t) threads) is (finds (has_number t) threads)
  where
    by : (o : Option SharedThread) → o ≡ Some e → Finds (has_number t) threads o → IsLiveNumber threads t
    by None same h = absurd cc
    by (Some x) same h = (x, Contains-at threads h.0 x h.1, eqb-true x.number.0 t h.2)

found_numbered : (threads : List SharedThread) (t : ℕ) → IsLiveNumber threads t → (e : SharedThread) × (thread_numbered threads (record { 0 = t }) ≡ Some e)
found_numbered threads t (e, there, number) = by (find (has_number t) threads) refl (finds (has_number t) threads)
  where
    by : (o : Option SharedThread) → find (has_number t) threads ≡ o → Finds (has_number t) threads o
        → (x : SharedThread) × (thread_numbered threads (record { 0 = t }) ≡ Some x)
    by (Some x) is h = (x, is)
    by None is h =
        let at = place_of threads e there in
        let never : true ≡ false = sym (eq-eqb e.number.0 t number) ∙ h at.0 e at.1 in
        absurd cc

module _ (p : MachineParts) where
  abbrev m : Machine
  m = machine_of p

  lives : (t : ℕ) → IsLiveNumber p.shared.threads t → IsLiveThread m (record { 0 = t })
  lives t live = let found = found_numbered p.shared.threads t live in lives_in_machine p (record { 0 = t }) found.0 found.1

  numbered_so : (u : ThreadNo) → IsLiveThread m u → IsLiveNumber p.shared.threads u.0
  numbered_so u live = let found = lives_in_both p u live in number_found p.shared.threads u.0 found.0 found.1

  pub next_found : (above : ℕ) (result : Option ℕ) → IsLeastAbove (IsLiveNumber p.shared.threads) above result
      → IfSome result (λ t. IsNextLive m above t)
  next_found above None least = tt
  next_found above (Some t) (live, later, least) = record {
    later = later;
    live = lives t live;
    none_between = λ u higher lower there. let past = least u.0 (numbered_so u there) higher in omega (arith, past, lower);
  }

  pub none_found : (above : ℕ) (result : Option ℕ) → IsLeastAbove (IsLiveNumber p.shared.threads) above result
      → IfNone result ((u : ThreadNo) → above < u.0 → IsLiveThread m u → ⊥)
  none_found above None least = λ u higher there. let past = least u.0 (numbered_so u there) in omega (arith, past, higher)
  none_found above (Some t) least = tt
