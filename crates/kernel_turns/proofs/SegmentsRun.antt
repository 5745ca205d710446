-- What a thread's top segment did, with what follows where the thread left it, as steps of the machine.
use Rattle.std.proofs.Common.{◌≡◌, ℕ, ◌+◌, ◌≤◌, Bool, false, true, List, [], Result, Ok, true≢false, refl, sym, ap, subst, arith}
use Rattle.jk_model.specs.declared.identifiers.ThreadNo.{ThreadNo}
use Rattle.jk_model.specs.declared.output.Line.{Line}
use Rattle.jk_model_machine_state.specs.Machines.{Machine}
use Rattle.kernel_events.specs.KernelCalls.{MayDraw}
use Rattle.kernel_parts.specs.SoundKernels.{AreKernelParts, KernelContent, kernel_machine}
use Rattle.segment_steps.specs.declared.meeting.Runs.{Runs}
use Rattle.segment_steps.specs.declared.went.Went.{Went}
use Rattle.segment_steps.specs.declared.went.Went.TheVariants as Goes
use Rattle.jk_outside.specs.declared.sinks.SinkFailed.{SinkFailed}
use Rattle.kernel_turns.specs.declared.frame_steps.Ran.{Ran}
use Rattle.kernel_turns.specs.RestingThreads.{IsResting}
use Rattle.kernel_turns.specs.SegmentRuns.{RanSo, RunsOn, leaves}
use Rattle.kernel_turns.specs.SteppedParts.{Follows, MayFollow}
use Rattle.kernel_turns.specs.WorkingSegments.{LeavesBy, WorksOn, WorksOrLeaves}

-- what doesn't go on leaves
pub leaves_else : (went : Went) → (went ≡ Goes.GoesOn → ⊥) → true ≡ leaves went
leaves_else Goes.GoesOn not = absurd (not refl)
leaves_else (Goes.Returned v) not = refl
leaves_else (Goes.Left a) not = refl
leaves_else (Goes.Crosses c m) not = refl
leaves_else Goes.Terminates not = refl

-- no step
runs_nowhere : (m : Machine) (t : ThreadNo) → RunsOn m t 0 false [] m
runs_nowhere m t = record { alone = 0; count = refl; mid = m; turns = (refl, refl); last = (refl, refl) }

abbrev Told : Ran → Result Ran SinkFailed
Told ran = Ok ran

pub ran_nowhere : (m : Machine) (t : ThreadNo) (most : ℕ) → RanSo m t most (Told (record { steps = 0; left = false })) [] m
ran_nowhere m t most =
    let few : 0 ≤ most = omega arith in
    record { ran = record { steps = 0; left = false }; told = refl; few = few; runs = runs_nowhere m t }

-- an answer of none
pub ran_none : (n : ℕ) (left : Bool) → n ≡ 0 → left ≡ false
    → Told (record { steps = n; left = left }) ≡ Told (record { steps = 0; left = false })
ran_none n left none stays = λ i. Ok (record { steps = none i; left = stays i })

module _ (k : KernelContent) (r : Runs) (n : ℕ) (new : KernelContent) where
  pub follows_then : (went : Went) → WorksOrLeaves k r n went new → MayDraw (kernel_machine k) 1 → MayFollow new r went
  follows_then Goes.GoesOn did draws = tt
  follows_then (Goes.Returned v) did draws = did.may draws
  follows_then (Goes.Left a) did draws = absurd did
  follows_then (Goes.Crosses c m) did draws = did.may draws
  follows_then Goes.Terminates did draws = absurd did

  abbrev Went_so : Went → List Line → KernelContent → Type 0
  Went_so went after last = RunsOn (kernel_machine k) r.thread n (leaves went) after (kernel_machine last) × AreKernelParts last

  runs_further : (went : Went) → leaves went ≡ true → LeavesBy k r n went new → (after : List Line) (last : KernelContent)
      → Follows new r.thread went after last → Went_so went after last
  runs_further went is did after last follows =
      let step = did.steps after last follows in
      let count : n ≡ did.before + 1 = omega (arith, did.count) in
      subst (λ (left : Bool). RunsOn (kernel_machine k) r.thread n left after (kernel_machine last) × AreKernelParts last) (sym is)
      ((record { alone = did.before; count = count; mid = did.mid; turns = did.turns; last = step.0 }), step.1)

  runs_still : WorksOn k r n new → (after : List Line) (last : KernelContent) → Follows new r.thread Goes.GoesOn after last
      → Went_so Goes.GoesOn after last
  runs_still did after last follows =
      let count : n ≡ n + 0 = omega arith in (
        (record { alone = n; count = count; mid = kernel_machine new; turns = did.turns; last = (follows.0, ap kernel_machine follows.1) }),
        subst AreKernelParts (sym follows.1) did.parts,
      )

  pub runs_then : (went : Went) → WorksOrLeaves k r n went new → (after : List Line) (last : KernelContent)
      → Follows new r.thread went after last → Went_so went after last
  runs_then Goes.GoesOn did after last follows = runs_still did after last follows
  runs_then (Goes.Returned v) did after last follows = runs_further (Goes.Returned v) refl did after last follows
  runs_then (Goes.Left a) did after last follows = absurd did
  runs_then (Goes.Crosses c m) did after last follows = runs_further (Goes.Crosses c m) refl did after last follows
  runs_then Goes.Terminates did after last follows = absurd did

  -- where the segment goes on, nothing follows
  still : (went : Went) → leaves went ≡ false → WorksOrLeaves k r n went new → WorksOn k r n new
  still Goes.GoesOn is did = did
  still (Goes.Returned v) is did = absurd (true≢false is)
  still (Goes.Left a) is did = absurd (true≢false is)
  still (Goes.Crosses c m) is did = absurd (true≢false is)
  still Goes.Terminates is did = absurd (true≢false is)

  pub parts_still : (went : Went) → leaves went ≡ false → WorksOrLeaves k r n went new → AreKernelParts new
  parts_still went is did = (still went is did).parts

  pub stays_there : (went : Went) → leaves went ≡ false → WorksOrLeaves k r n went new
      → RunsOn (kernel_machine k) r.thread n false [] (kernel_machine new)
  stays_there went is did =
      let count : n ≡ n + 0 = omega arith in
      record { alone = n; count = count; mid = kernel_machine new; turns = (still went is did).turns; last = (refl, refl) }

  -- a thread that rests takes no step
  pub none_of_rest : (went : Went) → WorksOrLeaves k r n went new → IsResting (kernel_machine k) r.thread → (n ≡ 0) × (leaves went ≡ false)
  none_of_rest Goes.GoesOn did rests = (did.none rests, refl)
  none_of_rest (Goes.Returned v) did rests = absurd (did.none rests)
  none_of_rest (Goes.Left a) did rests = absurd did
  none_of_rest (Goes.Crosses c m) did rests = absurd (did.none rests)
  none_of_rest Goes.Terminates did rests = absurd did
