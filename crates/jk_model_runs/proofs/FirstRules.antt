-- Of the rules of a step the first that applies is taken.
use Rattle.std.proofs.Common.{◌≡◌, ◌≢◌, ℕ, false, true, List, [], Some, refl, sym, ap, subst, ◌∙◌, true≢false}
use Rattle.jk_model.specs.declared.identifiers.ThreadNo.{ThreadNo}
use Rattle.jk_model.specs.declared.output.Line.{Line}
use Rattle.jk_model.specs.declared.steps.Raise.TheVariants as Raised
use Rattle.jk_model.specs.declared.steps.Standing.TheVariants as Stands
use Rattle.jk_model_sharing.specs.Segments.{with_revoked, with_stop}
use Rattle.jk_model_machine_state.specs.Machines.{DomainState, Machine, Segment, paid}
use Rattle.jk_model_machine_state.specs.Places.{RunningSegment, with_flags}
use Rattle.jk_model_crossings.specs.Throwing.{RaisesInThread}
use Rattle.jk_model_runs.specs.Steps.{Acts, Deed, IsHeld, Rested, StepsBy, acts, deed_of_raise, does, is_held, is_revoked, is_spent, not_live, stops}
use Rattle.jk_model_runs.proofs.OneRunningSegment.{also_held, one_domain, one_segment, same_flags}

module _ (m : Machine) (t : ThreadNo) (p : RunningSegment m t) where
  pub held_rests : (deed : Deed) (lines : List Line) (new : Machine) → IsHeld p → StepsBy m t deed lines new
      → (deed ≡ Rested) × (lines ≡ []) × (new ≡ m)
  held_rests deed lines new held (not_live isnt) = (refl, refl, refl)
  held_rests deed lines new held (is_held q also) = (refl, refl, refl)
  held_rests deed lines new held (is_spent q free none) = (refl, refl, refl)
  held_rests deed lines new held (acts q by said to free some act) = absurd (free (also_held m t p q held))

  -- the steps of the domain of another such segment
  same_steps : (q : RunningSegment m t) → p.home.domain.steps_left ≡ q.home.domain.steps_left
  same_steps q = ap (λ (d : DomainState). d.steps_left) (one_domain m t p q)

  pub spent_rests : (deed : Deed) (lines : List Line) (new : Machine) → p.home.domain.steps_left ≡ Some 0 → StepsBy m t deed lines new
      → (deed ≡ Rested) × (lines ≡ []) × (new ≡ m)
  spent_rests deed lines new spent (not_live isnt) = (refl, refl, refl)
  spent_rests deed lines new spent (is_held q also) = (refl, refl, refl)
  spent_rests deed lines new spent (is_spent q free none) = (refl, refl, refl)
  spent_rests deed lines new spent (acts q by said to free some act) = absurd (some (sym (same_steps q) ∙ spent))

  pub others_pay : (deed : Deed) (lines : List Line) (new : Machine) → (IsHeld p → ⊥) → p.home.domain.steps_left ≢ Some 0
      → StepsBy m t deed lines new → Acts (paid p.segment.shared.domain m) t deed lines new
  others_pay deed lines new free left (not_live isnt) = absurd (isnt (p.thread, p.is_thread))
  others_pay deed lines new free left (is_held q held) = absurd (free (also_held m t q p held))
  others_pay deed lines new free left (is_spent q also none) = absurd (left (same_steps q ∙ none))
  others_pay deed lines new free left (acts q by said to also some act) =
      subst (λ (s : Segment). Acts (paid s.shared.domain m) t by said to) (one_segment m t q p) act

  -- ---- What acts.

  same_stop : (q : RunningSegment m t) → p.segment.shared.stop ≡ q.segment.shared.stop
  same_stop q = ap (λ (s : Segment). s.shared.stop) (one_segment m t p q)

  same_revoked : (q : RunningSegment m t) → p.segment.shared.revoked ≡ q.segment.shared.revoked
  same_revoked q = ap (λ (s : Segment). s.shared.revoked) (one_segment m t p q)

  -- a throwable is raised in a machine with other flags
  abbrev Stopped : Deed → List Line → Machine → Type 0
  Stopped deed lines new =
      (n : ℕ) × (deed ≡ deed_of_raise n)
      × RaisesInThread (with_flags p (with_stop false p.segment.shared)) t (Raised.Standing Stands.ThreadDeath) n lines new

  abbrev Revoked : Deed → List Line → Machine → Type 0
  Revoked deed lines new =
      (n : ℕ) × (deed ≡ deed_of_raise n)
      × RaisesInThread (with_flags p (with_revoked false p.segment.shared)) t (Raised.Standing Stands.Revoked) n lines new

  pub stop_first : (deed : Deed) (lines : List Line) (new : Machine) → p.segment.shared.stop ≡ true → Acts m t deed lines new → Stopped deed lines new
  stop_first deed lines new pending (stops q n said to also raises) =
      (n, refl, subst (λ (x : Machine). RaisesInThread x t (Raised.Standing Stands.ThreadDeath) n said to) (same_flags m t q p (with_stop false)) raises)
  stop_first deed lines new pending (is_revoked q n said to none also raises) = absurd (true≢false (sym pending ∙ same_stop q ∙ none))
  stop_first deed lines new pending (does q run went by said to none also step ensues) = absurd (true≢false (sym pending ∙ same_stop q ∙ none))

  pub revoked_second : (deed : Deed) (lines : List Line) (new : Machine) → p.segment.shared.stop ≡ false → p.segment.shared.revoked ≡ true
      → Acts m t deed lines new → Revoked deed lines new
  revoked_second deed lines new none pending (stops q n said to stop raises) = absurd (true≢false (sym stop ∙ sym (same_stop q) ∙ none))
  revoked_second deed lines new none pending (is_revoked q n said to also too raises) =
      (n, refl, subst (λ (x : Machine). RaisesInThread x t (Raised.Standing Stands.Revoked) n said to) (same_flags m t q p (with_revoked false)) raises)
  revoked_second deed lines new none pending (does q run went by said to also never step ensues) =
      absurd (true≢false (sym pending ∙ same_revoked q ∙ never))
