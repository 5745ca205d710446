-- Of a thread of one segment no frame is left: the thread ends with it, and all else of the machine stays.
use Rattle.std.proofs.Common.{◌≡◌, ◌≢◌, ℕ, ◌+◌, ◌==◌, Bool, true, false, cond, List, [], ◌∷◌, ◌++◌, sum_by, Contains, Option, refl, sym, ap, ◌∙◌, arith}
use Rattle.std.specs.Prelude.{count_by}
use Rattle.std.proofs.lemmas.List.Sums.{sum_by_push}
use Rattle.std.proofs.lemmas.Option.{same_Some}
use Rattle.jk_model.specs.declared.identifiers.ClassId.{ClassId}
use Rattle.jk_model.specs.declared.identifiers.DomainId.{DomainId}
use Rattle.jk_model.specs.declared.identifiers.ThreadNo.{ThreadNo}
use Rattle.jk_model.specs.declared.output.Line.{Line}
use Rattle.jk_model.specs.declared.values.Value.{Value}
use Rattle.jk_model_frames.specs.Frames.{FrameState}
use Rattle.jk_model_sealing.specs.ClassesInProgress.{initialises}
use Rattle.jk_model_machine_state.specs.Machines.{Machine, Segment, Thread, without_thread}
use Rattle.jk_model_machine_state.specs.Places.{RunningSegment}
use Rattle.jk_model_crossings.specs.Answers.{Returns}
use Rattle.jk_model_crossings.specs.Throwing.{Throws, TopTwo}
use Rattle.jk_model_runs.specs.AnsweredCalls.{AreCallsAnswered, SegmentsAnswer}
use Rattle.jk_model_runs.specs.Sealed.{IsSealed, initialisers_of, segment_initialisers}
use Rattle.list_lemmas.proofs.ItemsOfLists.{Contains-at}
use Rattle.machine_laws.proofs.RunsAgain.{thread_set}
use Rattle.machine_laws.proofs.SealedAfterRuns.{sealed_after}
use Rattle.machine_laws.proofs.SegmentsThatRan.{HasRun, after, one_place, stood, thread_here}
use Rattle.machine_laws.proofs.ThreadsAfterRuns.{each_thread}
use Rattle.machine_laws.proofs.ThreadsEnded.{InitialisesNone, answered_without, sealed_without}

-- ---- A thread of one segment.

-- where the thread runs in a segment, that one is the lowest
abbrev pub IsAlone : Machine → ThreadNo → Type 0
IsAlone m t = (p : RunningSegment m t) → p.lower ≡ []

not_none : {X : Type 0} (xs : List X) (x : X) → xs ++ x ∷ [] ≡ [] → ⊥
not_none [] x e = cc
not_none (y ∷ xs) x e = cc

no_two : (m : Machine) (t : ThreadNo) → IsAlone m t → TopTwo m t → ⊥
no_two m t alone s =
    let below : s.below.thread ≡ record s.left.thread { segments = s.left.lower } =
    same_Some s.below.thread (record s.left.thread { segments = s.left.lower }) (sym s.below.is_thread ∙ thread_set m t s.left.lower s.left) in
    not_none s.below.lower s.below.segment
    (sym s.below.are_segments ∙ ap (λ (e : Thread). e.segments) below ∙ alone s.left)

-- what it throws ends it
pub throws_end : (t : ThreadNo) (n : ℕ) (m : Machine) (a : ℕ) (lines : List Line) (new : Machine) → Throws t n m a lines new → IsAlone m t
    → new ≡ without_thread t m
throws_end t n m a lines new (Throws.ends w b p class lowest orphan) alone = refl
throws_end t n m a lines new (Throws.ends_orphan w b p lowest orphan) alone = refl
throws_end t n m a lines new (Throws.drops w b s orphan) alone = absurd (no_two w t alone s)
throws_end t n m a lines new (Throws.caught w mid b s r orphan brought p run raised) alone = absurd (no_two w t alone s)
throws_end t n m a lines new (Throws.goes_on k w mid end b c said s r orphan brought p run raised thrown) alone = absurd (no_two w t alone s)

-- what it returns ends it
pub returns_end : (m : Machine) (t : ThreadNo) (v : Option Value) (n : ℕ) (lines : List Line) (new : Machine) → Returns m t v n lines new
    → IsAlone m t → new ≡ without_thread t m
returns_end m t v n lines new (Returns.ends w p lowest) alone = refl
returns_end m t v n lines new (Returns.drops w s orphan) alone = absurd (no_two m t alone s)
returns_end m t v n lines new (Returns.gives_nothing s end orphan received) alone = absurd (no_two m t alone s)
returns_end m t v n lines new (Returns.gives x w s heap end orphan passes received) alone = absurd (no_two m t alone s)
returns_end m t v n lines new (Returns.is_uncopiable x s k said end orphan not raised) alone = absurd (no_two m t alone s)
returns_end m t v n lines new (Returns.is_too_large x s k said end orphan large raised) alone = absurd (no_two m t alone s)

-- ---- The machine without it.

zero_if : (b : Bool) → ◌≡◌ {A = ℕ} (cond b 0 0) 0
zero_if true = refl
zero_if false = refl

pub no_initialisers : (d : DomainId) (c : ClassId) (s : Segment) → s.frames ≡ [] → segment_initialisers d c s ≡ 0
no_initialisers d c s none =
    ap (λ (frames : List FrameState). cond (s.shared.domain.0 == d.0) (count_by (initialises c) frames) 0) none ∙ zero_if (s.shared.domain.0 == d.0)

module _ (m : Machine) (t : ThreadNo) (r : HasRun m t) (lowest : r.place.lower ≡ []) (left : r.segment.frames ≡ []) where
  none_here : InitialisesNone (thread_here r)
  none_here d c =
      let below : sum_by (segment_initialisers d c) r.place.lower ≡ 0 = ap (sum_by (segment_initialisers d c)) lowest in
      let all : initialisers_of d c (thread_here r) ≡ sum_by (segment_initialisers d c) r.place.lower + segment_initialisers d c r.segment =
      sum_by_push (segment_initialisers d c) r.place.lower r.segment in
      let own = no_initialisers d c r.segment left in
      omega (arith, below, all, own)

  idle : (e : Thread) → Contains (after r).threads e → e.number.0 ≡ t.0 → InitialisesNone e
  idle =
      each_thread m t r (λ e. e.number.0 ≡ t.0 → InitialisesNone e) (λ same. none_here)
      (λ i e differ at same.
      absurd
      (differ (one_place m t r i (stood m t r).0 e r.place.thread at (stood m t r).1 (same ∙ sym (stood m t r).2))))

  pub left_sealed : IsSealed (without_thread t (after r))
  left_sealed = sealed_without (after r) t (sealed_after m t r) idle

  pub left_answered : AreCallsAnswered m → AreCallsAnswered (without_thread t (after r))
  left_answered h =
      answered_without (after r) t
      (each_thread m t r (λ e. e.number.0 ≢ t.0 → SegmentsAnswer m.classes e.segments) (λ differ. absurd (differ (stood m t r).2))
      (λ i e apart at differ. h.segments e (Contains-at m.threads i e at)))
