-- Where a segment has run, each domain is sealed: it keeps its number, its name and its quotas, and uses no more than these.
use Rattle.std.proofs.Common.{◌≡◌, ◌≢◌, ℕ, ◌+◌, ◌-◌, ◌≤◌, ◌==◌, ◌⊎◌, inl, inr, Bool, true, false, cond, not, List, length, filter, sum_by, Contains, Some, None, slice_get, set, refl, sym, ap, subst, ◌∙◌, arith, eq-eqb, ne_eqb}
use Rattle.std.proofs.lemmas.List.Sums.{sum_by_push}
use Rattle.jk_model.specs.declared.identifiers.DomainId.{DomainId}
use Rattle.jk_model.specs.declared.identifiers.ThreadNo.{ThreadNo}
use Rattle.jk_model_frames.specs.Frames.{frames_chunks, segment_chunks}
use Rattle.jk_model_heaps.specs.Workings.{Inside}
use Rattle.jk_model_sealing.specs.SealedInsides.{IsSealedInside, Surroundings}
use Rattle.jk_model_machine_state.specs.Machines.{DomainState, IsLiveDomain, Machine, Segment, Thread, chunks_of, chunks_used, started_in}
use Rattle.jk_model_runs.specs.Sealed.{AreSealedDomains, is_stand_in, surroundings}
use Rattle.list_lemmas.proofs.ItemsOfLists.{Contains-at}
use Rattle.machine_laws.proofs.CapabilitiesAfterRuns.{home_lives, no_stand_in}
use Rattle.machine_laws.proofs.ChangedItems.{as_many_pass, sum_changed}
use Rattle.machine_laws.proofs.SegmentsThatRan.{HasRun, after, changed, changed_thread, domain_cases, each_domain, each_inside, here, home_at, home_number, home_there, number_here, parts_of_each, stood, surroundings_stay, thread_here, thread_part, threads_are}

-- ---- Sums.

room : (sum_after sum_before lower new_cost old_cost new old quota : ℕ) → sum_after + (lower + old_cost) ≡ sum_before + (lower + new_cost)
    → old_cost ≡ 1 + old → new_cost ≡ 1 + new → new ≤ old + (quota - sum_before) → sum_before ≤ quota → sum_after ≤ quota
room sum_after sum_before lower new_cost old_cost new old quota all is_old is_new fits within = omega arith

no_room : (sum_after sum_before lower new_cost old_cost quota : ℕ) → sum_after + (lower + old_cost) ≡ sum_before + (lower + new_cost)
    → old_cost ≡ 0 → new_cost ≡ 0 → sum_before ≤ quota → sum_after ≤ quota
no_room sum_after sum_before lower new_cost old_cost quota all is_old is_new within = omega arith

costs_if : (b : Bool) (n : ℕ) → b ≡ true → cond b n 0 ≡ n
costs_if true n e = refl
costs_if false n e = absurd cc

free_if : (b : Bool) (n : ℕ) → b ≡ false → cond b n 0 ≡ 0
free_if true n e = absurd cc
free_if false n e = refl

pub costs_here : (n : DomainId) (s : Segment) → s.shared.domain.0 ≡ n.0 → chunks_of n s ≡ 1 + frames_chunks s.frames
costs_here n s same = costs_if (s.shared.domain.0 == n.0) (segment_chunks s.frames) (eq-eqb s.shared.domain.0 n.0 same)

pub costs_elsewhere : (n : DomainId) (s : Segment) → s.shared.domain.0 ≢ n.0 → chunks_of n s ≡ 0
costs_elsewhere n s differ = free_if (s.shared.domain.0 == n.0) (segment_chunks s.frames) (ne_eqb s.shared.domain.0 n.0 differ)

module _ (m : Machine) (t : ThreadNo) (r : HasRun m t) where
  -- ---- Chunks.

  abbrev of_thread : DomainId → Thread → ℕ
  of_thread n thread = sum_by (chunks_of n) thread.segments

  all_chunks : (n : DomainId) → chunks_used (after r) n + (sum_by (chunks_of n) r.place.lower + chunks_of n r.place.segment)
      ≡ chunks_used m n + (sum_by (chunks_of n) r.place.lower + chunks_of n r.segment)
  all_chunks n =
      ap (λ (ts : List Thread). sum_by (of_thread n) ts + (sum_by (chunks_of n) r.place.lower + chunks_of n r.place.segment)) (threads_are m t r)
      ∙ ap (λ (k : ℕ). sum_by (of_thread n) (set m.threads (stood m t r).0 (thread_here r)) + k) (sym before)
      ∙ sum_changed (of_thread n) m.threads (stood m t r).0 r.place.thread (thread_here r) (stood m t r).1
      ∙ ap (λ (k : ℕ). chunks_used m n + k) (sum_by_push (chunks_of n) r.place.lower r.segment)
    where
      before : of_thread n r.place.thread ≡ sum_by (chunks_of n) r.place.lower + chunks_of n r.place.segment
      before = ap (sum_by (chunks_of n)) r.place.are_segments ∙ sum_by_push (chunks_of n) r.place.lower r.place.segment

  new_domain : r.segment.shared.domain.0 ≡ (number_here r).0
  new_domain = ap (λ (n : DomainId). n.0) r.domain

  chunks_here : chunks_used (after r) r.place.home.domain.number ≤ r.place.home.domain.quotas.chunks
  chunks_here =
      let n = r.place.home.domain.number in
      room (chunks_used (after r) n) (chunks_used m n) (sum_by (chunks_of n) r.place.lower) (chunks_of n r.segment) (chunks_of n r.place.segment)
      (frames_chunks r.segment.frames) (frames_chunks r.place.segment.frames) r.place.home.domain.quotas.chunks (all_chunks n)
      (costs_here n r.place.segment (sym (home_number m t r))) (costs_here n r.segment (new_domain ∙ sym (home_number m t r))) r.chunks
      (r.sealed.domains.chunks r.place.home.domain (home_there m t r))

  chunks_elsewhere : (i : ℕ) (e : DomainState) → i ≢ (number_here r).0 → slice_get m.domains i ≡ Some e
      → chunks_used (after r) e.number ≤ e.quotas.chunks
  chunks_elsewhere i e differ at =
      let number = r.sealed.domains.numbered i e at in
      no_room (chunks_used (after r) e.number) (chunks_used m e.number) (sum_by (chunks_of e.number) r.place.lower) (chunks_of e.number r.segment)
      (chunks_of e.number r.place.segment) e.quotas.chunks (all_chunks e.number)
      (costs_elsewhere e.number r.place.segment (λ same. differ (sym number ∙ sym same)))
      (costs_elsewhere e.number r.segment (λ same. differ (sym number ∙ sym same ∙ new_domain)))
      (r.sealed.domains.chunks e (Contains-at m.domains i e at))

  -- ---- Which domains there are.

  pub numbers_stay : (i : ℕ) (e : DomainState) → slice_get (after r).domains i ≡ Some e → e.number.0 ≡ i
  numbers_stay i e at = elim (domain_cases m t r i e at) [
    | inl (same, is) ↦ subst (λ (x : DomainState). x.number.0 ≡ i) is (home_number m t r ∙ sym same)
    | inr (differ, is) ↦ r.sealed.domains.numbered i e is
  ]

  -- the domain that stood at a place before, of the same name and as live
  record WasNamed (i : ℕ) (e : DomainState) : Type 0 where
    before : DomainState
    at : slice_get m.domains i ≡ Some before
    name : e.name ≡ before.name
    live : IsLiveDomain e → IsLiveDomain before

  was_named : (i : ℕ) (e : DomainState) → slice_get (after r).domains i ≡ Some e → WasNamed i e
  was_named i e at = elim (domain_cases m t r i e at) [
    | inl (same, is) ↦ record {
      before = r.place.home.domain;
      at = ap (slice_get m.domains) same ∙ home_at m t r;
      name = ap (λ (x : DomainState). x.name) (sym is);
      live = λ lives. home_lives m t r;
    }
    | inr (differ, is) ↦ record { before = e; at = is; name = refl; live = λ lives. lives }
  ]

  names_differ : (i j : ℕ) (a b : DomainState) → slice_get (after r).domains i ≡ Some a → slice_get (after r).domains j ≡ Some b
      → IsLiveDomain a → IsLiveDomain b → a.name ≡ b.name → i ≡ j
  names_differ i j a b at bt live alive same =
      let was = was_named i a at in
      let were = was_named j b bt in
      r.sealed.domains.names_differ i j was.before were.before was.at were.at (was.live live) (were.live alive)
      (sym was.name ∙ same ∙ were.name)

  few_domains : length (filter (λ (d : DomainState). not (is_stand_in m.classes d)) (after r).domains) ≤ 65535
  few_domains =
      subst (λ (n : ℕ). n ≤ 65535)
      (sym (as_many_pass (changed r) (λ (d : DomainState). not (is_stand_in m.classes d)) m.domains
      (parts_of_each m t r (λ (d : DomainState). not (is_stand_in m.classes d)) (ap not (sym (no_stand_in m t r))))))
      r.sealed.domains.few

  started_stay : (n : DomainId) → started_in (after r) n ≡ started_in m n
  started_stay n =
      as_many_pass (changed_thread m t r) (λ (thread : Thread). thread.domain.0 == n.0) m.threads
      (λ thread on. thread_part m t r (λ (e : Thread). e.domain.0 == n.0) (λ e s. refl) thread)

  sealed_insides : (d : DomainState) (inside : Inside) → Contains (after r).domains d → d.inside ≡ Some inside
      → IsSealedInside (surroundings (after r) d) d.quotas.heap inside
  sealed_insides =
      each_inside m t r (λ d inside. IsSealedInside (surroundings (after r) d) d.quotas.heap inside)
      (subst (λ (around : Surroundings). IsSealedInside around r.place.home.domain.quotas.heap r.inside)
      (surroundings_stay m t r r.place.home.domain (here r) refl) r.keeps.sealed)
      (λ i e x differ at is.
      subst (λ (around : Surroundings). IsSealedInside around e.quotas.heap x) (surroundings_stay m t r e e refl)
      (r.sealed.domains.insides e x (Contains-at m.domains i e at) is))

  pub domains_sealed : AreSealedDomains (after r)
  domains_sealed = record {
    numbered = numbers_stay;
    few = few_domains;
    names_differ = names_differ;
    insides = sealed_insides;
    chunks = each_domain m t r (λ d. chunks_used (after r) d.number ≤ d.quotas.chunks) chunks_here chunks_elsewhere;
    budgets = each_domain m t r
        (λ d. ((d.quotas.steps ≡ None) × (d.steps_left ≡ None))
        ⊎ ((most : ℕ) × (left : ℕ) × (d.quotas.steps ≡ Some most) × (d.steps_left ≡ Some left) × (left ≤ most)))
        (r.sealed.domains.budgets r.place.home.domain (home_there m t r))
        (λ i e differ at. r.sealed.domains.budgets e (Contains-at m.domains i e at));
    started = each_domain m t r (λ d. started_in (after r) d.number ≤ d.quotas.threads)
        (subst (λ (n : ℕ). n ≤ r.place.home.domain.quotas.threads) (sym (started_stay r.place.home.domain.number))
        (r.sealed.domains.started r.place.home.domain (home_there m t r)))
        (λ i e differ at.
        subst (λ (n : ℕ). n ≤ e.quotas.threads) (sym (started_stay e.number))
        (r.sealed.domains.started e (Contains-at m.domains i e at)));
  }
