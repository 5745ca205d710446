-- A thread has one top segment, with one live domain.
use Rattle.std.proofs.Common.{◌≡◌, List, [], ◌∷◌, ◌++◌, refl, inl, inr, sym, ap, subst, ◌∙◌}
use Rattle.std.proofs.lemmas.Option.{same_Some}
use Rattle.jk_model.specs.declared.identifiers.ThreadNo.{ThreadNo}
use Rattle.jk_model_heaps.specs.Workings.{Inside}
use Rattle.jk_model_running.specs.Initialising.{IsInProgressElsewhere}
use Rattle.jk_model_sharing.specs.Segments.{SharedSegment}
use Rattle.jk_model_machine_state.specs.Machines.{DomainState, Machine, Segment, Thread, domain_at, with_inside, with_segments}
use Rattle.jk_model_machine_state.specs.Places.{RunningSegment, with_flags}
use Rattle.jk_model_runs.specs.Steps.{IsHeld}
use Rattle.list_lemmas.proofs.EndsOfLists.{head_is, one_split}

module _ (m : Machine) (t : ThreadNo) (p q : RunningSegment m t) where
  parts : (p.lower ≡ q.lower) × (p.segment ∷ [] ≡ q.segment ∷ [])
  parts =
      let thread : p.thread ≡ q.thread = same_Some p.thread q.thread (sym p.is_thread ∙ q.is_thread) in
      let all : p.lower ++ p.segment ∷ [] ≡ q.lower ++ q.segment ∷ [] =
      sym p.are_segments ∙ ap (λ (x : Thread). x.segments) thread ∙ q.are_segments in
      one_split p.lower q.lower (p.segment ∷ []) (q.segment ∷ []) all refl

  pub one_segment : p.segment ≡ q.segment
  one_segment = head_is p.segment q.segment [] [] parts.1

  pub one_domain : p.home.domain ≡ q.home.domain
  one_domain = same_Some p.home.domain q.home.domain
      (sym p.home.is_domain ∙ ap (λ (s : Segment). domain_at m s.shared.domain) one_segment ∙ q.home.is_domain)

  one_inside : p.home.inside ≡ q.home.inside
  one_inside = same_Some p.home.inside q.home.inside
      (sym p.home.is_inside ∙ ap (λ (d : DomainState). d.inside) one_domain ∙ q.home.is_inside)

  pub also_held : IsHeld p → IsHeld q
  also_held (inl suspended) = inl (sym (ap (λ (s : Segment). s.shared.suspended) one_segment) ∙ suspended)
  also_held (inr (top, class, needs, elsewhere)) = inr (
    record {
      callers = top.callers;
      frame = top.frame;
      are_frames = sym (ap (λ (s : Segment). s.frames) one_segment) ∙ top.are_frames;
    },
    class,
    needs,
    subst (λ (inside : Inside). IsInProgressElsewhere inside.own t class) one_inside elsewhere,
  )

  -- the machine with other flags of the segment
  abbrev flagged : (SharedSegment → SharedSegment) → List Segment → Segment → Inside → Machine
  flagged change lower s inside =
      with_segments t (lower ++ record s { shared = change s.shared } ∷ []) (with_inside s.shared.domain inside m)

  pub same_flags : (change : SharedSegment → SharedSegment) → with_flags p (change p.segment.shared) ≡ with_flags q (change q.segment.shared)
  same_flags change =
      ap (λ (lower : List Segment). flagged change lower p.segment p.home.inside) parts.0
      ∙ ap (λ (s : Segment). flagged change q.lower s p.home.inside) one_segment
      ∙ ap (λ (inside : Inside). flagged change q.lower q.segment inside) one_inside
