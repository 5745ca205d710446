-- The top segment goes from what domains share, and its frames from the store: the machine is without it.
use Rattle.std.proofs.Common.{◌≡◌, ◌==◌, Bool, true, false, not, cond, filter, List, [], ◌∷◌, ◌++◌, map, Contains, None, refl, sym, ap, subst, ◌∙◌, inl, inr}
use Rattle.std.specs.Prelude.{ℕ}
use Rattle.std.proofs.lemmas.Bool.{eqb-false}
use Rattle.jk_model.specs.declared.identifiers.DomainId.{DomainId}
use Rattle.jk_model.specs.declared.identifiers.ThreadNo.{ThreadNo}
use Rattle.jk_model_sharing.specs.SharedStates.{popped}
use Rattle.jk_model_machine_state.specs.Machines.{Machine, Segment, Thread, without_thread}
use Rattle.jk_model_machine_state.specs.Places.{RunningSegment, without_top}
use Rattle.frame_store.specs.FrameContents.{Changes, FrameContent}
use Rattle.list_lemmas.proofs.ItemsOfLists.{Contains-cases, Contains-here, Contains-none, Contains-there}
use Rattle.machine_parts.specs.ChangedParts.{AreSegmentsApart, with_frames_of}
use Rattle.machine_parts.specs.MachineParts.{MachineParts, machine_of}
use Rattle.machine_parts.specs.SharedInMachines.{HaveAllSegments}
use Rattle.machine_parts.proofs.SegmentsChanged.{frames_change_machines}
use Rattle.machine_parts.proofs.SharedChanged.{gone_frames, higher_pops, lowest_pops}
use Rattle.machine_parts.proofs.RunningChanged.{lower_apart, others_apart}

-- ---- What lists have that are made of others.

module _ {X : Type 0} where
  from_map : (f : X → X) (xs : List X) (y : X) → Contains (map f xs) y → (x : X) × Contains xs x × (f x ≡ y)
  from_map f [] y h = absurd (Contains-none y h)
  from_map f (x ∷ xs) y h = elim (Contains-cases y (f x) (map f xs) h) [
    | inl e ↦ (x, Contains-here x xs, e)
    | inr later ↦
        let from = from_map f xs y later in
        (from.0, Contains-there from.0 x xs from.1, from.2)
  ]

  filter_step : (b : Bool) (p : X → Bool) (x y : X) (xs : List X) → p x ≡ b → (Contains (filter p xs) y → Contains xs y × (p y ≡ true))
      → Contains (cond b (x ∷ filter p xs) (filter p xs)) y → Contains (x ∷ xs) y × (p y ≡ true)
  filter_step false p x y xs is rest h = let later = rest h in (Contains-there y x xs later.0, later.1)
  filter_step true p x y xs is rest h = elim (Contains-cases y x (filter p xs) h) [
    | inl e ↦ (subst (λ (z : X). Contains (x ∷ xs) z) e (Contains-here x xs), subst (λ (z : X). p z ≡ true) e is)
    | inr there ↦
        let later = rest there in
        (Contains-there y x xs later.0, later.1)
  ]

  from_filter : (p : X → Bool) (xs : List X) (y : X) → Contains (filter p xs) y → Contains xs y × (p y ≡ true)
  from_filter p [] y h = absurd (Contains-none y h)
  from_filter p (x ∷ xs) y h = filter_step (p x) p x y xs refl (from_filter p xs y) h

not_true : (b : Bool) → not b ≡ true → b ≡ false
not_true true e = absurd cc
not_true false e = refl

-- ---- No segment that is left has the number.

module _ (m : Machine) (t : ThreadNo) (r : RunningSegment m t) (apart : AreSegmentsApart m) where
  left_by : (b : Bool) (e thread : Thread) → Contains m.threads e → e.number.0 == t.0 ≡ b → cond b (record e { segments = r.lower }) e ≡ thread
      → (s : Segment) → Contains thread.segments s → s.shared.number.0 ≡ r.segment.shared.number.0 → ⊥
  left_by true e thread there is same s in_it number =
      lower_apart m t r apart s (subst (λ (x : Thread). Contains x.segments s) (sym same) in_it) number
  left_by false e thread there is same s in_it number =
      others_apart m t r apart e there (λ k. eqb-false e.number.0 t.0 is k) s (subst (λ (x : Thread). Contains x.segments s) (sym same) in_it)
      number

  none_below : (thread : Thread) (s : Segment) → Contains (without_top r).threads thread → Contains thread.segments s
      → s.shared.number.0 ≡ r.segment.shared.number.0 → ⊥
  none_below thread s there in_it number =
      let from = from_map (λ (e : Thread). cond (e.number.0 == t.0) (record e { segments = r.lower }) e) m.threads thread there in
      left_by (from.0.number.0 == t.0) from.0 thread from.1 refl from.2 s in_it number

  none_elsewhere : (thread : Thread) (s : Segment) → Contains (without_thread t m).threads thread → Contains thread.segments s
      → s.shared.number.0 ≡ r.segment.shared.number.0 → ⊥
  none_elsewhere thread s there in_it number =
      let from = from_filter (λ (e : Thread). not (e.number.0 == t.0)) m.threads thread there in
      others_apart m t r apart thread from.0 (λ k. eqb-false thread.number.0 t.0 (not_true (thread.number.0 == t.0) from.1) k) s in_it number

-- ---- The whole.

module _ (p : MachineParts) (mid : FrameContent) (t : ThreadNo) (r : RunningSegment (machine_of p) t) (d : DomainId) (used : ℕ)
    (all : HaveAllSegments p) (apart : AreSegmentsApart (machine_of p)) (h : Changes p.frames mid r.segment.shared.number d None used) where
  abbrev popped_off : MachineParts
  popped_off = record p { shared = popped t p.shared }

  frames_go : (m : Machine) → machine_of popped_off ≡ m
      → ((thread : Thread) (s : Segment) → Contains m.threads thread → Contains thread.segments s → s.shared.number.0 ≡ r.segment.shared.number.0 → ⊥)
      → machine_of (record p { shared = popped t p.shared; frames = mid }) ≡ m
  frames_go m same none =
      frames_change_machines popped_off mid r.segment.shared.number d None used h
      ∙ ap (with_frames_of r.segment.shared.number []) same ∙ gone_frames m r.segment.shared.number [] none

  pub higher_goes_off : (lower : List Segment) (below : Segment) → r.lower ≡ lower ++ below ∷ []
      → machine_of (record p { shared = popped t p.shared; frames = mid }) ≡ without_top r
  higher_goes_off lower below is = frames_go (without_top r) (higher_pops p t r all apart lower below is) (none_below (machine_of p) t r apart)

  pub lowest_goes_off : r.lower ≡ [] → machine_of (record p { shared = popped t p.shared; frames = mid }) ≡ without_thread t (machine_of p)
  lowest_goes_off is = frames_go (without_thread t (machine_of p)) (lowest_pops p t r all apart is) (none_elsewhere (machine_of p) t r apart)
