-- What domains share stays sound with one more domain.
use Rattle.std.proofs.Common.{◌≡◌, ℕ, zero, suc, ◌+◌, ◌<◌, ◌≤◌, ◌⊎◌, inl, inr, Bool, true, false, List, [], ◌∷◌, ◌++◌, length, filter, take, Option, Some, None, Contains, slice_get, refl, sym, ap, subst, ◌∙◌, arith}
use Rattle.std.specs.Prelude.{◌==◌}
use Rattle.std.proofs.lemmas.Bool.{cases_Bool, ne_eqb}
use Rattle.std.proofs.lemmas.List.{length-map, map-append, take-append-le}
use Rattle.std.proofs.lemmas.List.Sums.{sum_by-append}
use Rattle.std.proofs.lemmas.Option.{slice_get_within}
use Rattle.jk_model.specs.Capabilities.{last_number}
use Rattle.jk_model.specs.declared.identifiers.CapId.{CapId}
use Rattle.jk_model.specs.declared.identifiers.DomainId.{DomainId}
use Rattle.jk_model.specs.declared.script.Quotas.{Quotas}
use Rattle.jk_model_classes.specs.declared.sharing.Stub.{Stub}
use Rattle.jk_model_heaps.specs.Capabilities.{CapRange, IsGivenOut, OwnedCapability, capability_in, capability_numbered, has_number}
use Rattle.jk_model_sharing.specs.BoundNames.{BoundName, count_bound_by}
use Rattle.jk_model_sharing.specs.CapabilityCalls.{count_numbers}
use Rattle.jk_model_sharing.specs.Segments.{SharedThread, count_segments_of, count_started_in, is_of, shared_form}
use Rattle.jk_model_sharing.specs.SharedStates.{SharedDomain, SharedState, admitted, caps_of, first_domain, stub_for}
use Rattle.list_lemmas.proofs.ItemsByPlace.{slice_get-push_cases}
use Rattle.list_lemmas.proofs.ItemsOfLists.{Contains-here, Contains-none, Contains-there, place_of}
use Rattle.thread_segments.specs.Asked.{IsAdmitted, IsLiveDomain, IsNext}
use Rattle.thread_segments.specs.SoundStates.{AreNumbered, AreSound, IsWithin, all_segments}
use Rattle.thread_segments.proofs.OneMore.{last_more, new_or_old}
use Rattle.thread_segments.proofs.SoundGrowth.{found_domain}
use Rattle.thread_segments.proofs.SoundThreads.{counted_in}
use Rattle.thread_segments.proofs.StubsByClass.{find_front}

pub none_pass : {X : Type 0} (p : X → Bool) (xs : List X) → ((x : X) → Contains xs x → p x ≡ false) → length (filter p xs) ≡ 0
none_pass p [] none = refl
none_pass p (x ∷ xs) none =
    let miss : p x ≡ false = none x (Contains-here x xs) in
    rw miss (none_pass p xs (λ y there. none y (Contains-there y x xs there)))

-- a budget that none was spent of
whole_budget : (steps : Option ℕ) → IsWithin steps steps
whole_budget None = refl
whole_budget (Some n) = (n, refl, omega arith)

module _ (s : SharedState) (d : DomainId) (q : Quotas) (stubs : List Stub) (next : IsNext s d) (fits : count_numbers (caps_of s) + q.caps ≤ last_number)
    (h : AreSound s) where
  abbrev last : SharedDomain
  last = first_domain s.domains d q

  abbrev new : SharedState
  new = admitted d q stubs s

  -- a domain that was admitted has a lower number
  lower : (c : DomainId) → IsAdmitted s c → c.0 < d.0
  lower c (e, is) =
      let f = found_domain s c e is in
      let at = place_of s.domains e f.0 in
      omega (arith, h.numbered at.0 e at.1, slice_get_within s.domains at.0 e at.1, f.1, next)

  other : (c : DomainId) → IsAdmitted s c → c.0 == d.0 ≡ false
  other c a = ne_eqb c.0 d.0 (λ same. let low = lower c a in omega (arith, low, same))

  still_admitted : (c : DomainId) → IsAdmitted s c → IsAdmitted new c
  still_admitted c (e, is) = (e, find_front (λ (x : SharedDomain). x.number.0 == c.0) s.domains (last ∷ []) e is)

  still_live : (c : DomainId) → IsLiveDomain s c → IsLiveDomain new c
  still_live c (e, is, live) = (e, find_front (λ (x : SharedDomain). x.number.0 == c.0) s.domains (last ∷ []) e is, live)

  ranges_are : caps_of new ≡ caps_of s ++ last.caps ∷ []
  ranges_are = map-append (λ (e : SharedDomain). e.caps) s.domains (last ∷ [])

  given_in_front : (caps : List CapRange) (r : CapRange) (k : CapId) (c : OwnedCapability) → capability_numbered caps k ≡ Some c
      → capability_numbered (caps ++ r ∷ []) k ≡ Some c
  given_in_front [] r k c is = absurd cc
  given_in_front (x ∷ caps) r k c is = elim (cases_Bool (has_number k x)) [
    | inl hit ↦
        let here : capability_in k x ≡ Some c = rw hit at is in rw hit here
    | inr miss ↦
        let later : capability_numbered caps k ≡ Some c = rw miss at is in
        rw miss (given_in_front caps r k c later)
  ]

  still_given : (k : CapId) → IsGivenOut (caps_of s) k → IsGivenOut (caps_of new) k
  still_given k (c, is) = (c, ap (λ (rs : List CapRange). capability_numbered rs k) ranges_are ∙ given_in_front (caps_of s) last.caps k c is)

  new_or_old_domain : (e : SharedDomain) → Contains new.domains e → (last ≡ e) ⊎ Contains s.domains e
  new_or_old_domain e there = new_or_old last s.domains (s.domains ++ last ∷ []) e (last_more last s.domains) there

  -- what holds of the domains that there were, and of the new one, holds of all
  each : (P : SharedDomain → Type 0) → ((e : SharedDomain) → Contains s.domains e → P e) → P last → (e : SharedDomain) → Contains new.domains e → P e
  each P old here e there = elim (new_or_old_domain e there) [ inl is ↦ subst P is here | inr among ↦ old e among ]

  numbered_more : AreNumbered new.domains
  numbered_more i e at = elim (slice_get-push_cases s.domains last e i at) [
    | inl old ↦ h.numbered i e old.1
    | inr here ↦ ap (λ (x : SharedDomain). x.number.0) (sym here.1) ∙ next ∙ sym here.0
  ]

  numbers_before : (i : ℕ) → i ≤ length s.domains → count_numbers (take i (caps_of new)) ≡ count_numbers (take i (caps_of s))
  numbers_before i low =
      let within : i ≤ length (caps_of s) = omega (arith, low, length-map s.domains (λ (e : SharedDomain). e.caps)) in
      ap (λ (rs : List CapRange). count_numbers (take i rs)) ranges_are ∙ ap count_numbers (take-append-le i (caps_of s) (last.caps ∷ []) within)

  take_whole : {X : Type 0} (xs : List X) (n : ℕ) → n ≡ length xs → take n xs ≡ xs
  take_whole [] zero e = refl
  take_whole [] (suc n) e = refl
  take_whole (x ∷ xs) zero e = absurd (omega (arith, e))
  take_whole (x ∷ xs) (suc n) e = ap (λ ys. x ∷ ys) (take_whole xs n (omega (arith, e)))

  chained_more : (i : ℕ) (e : SharedDomain) → slice_get new.domains i ≡ Some e → e.caps.first ≡ 1 + count_numbers (take i (caps_of new))
  chained_more i e at = elim (slice_get-push_cases s.domains last e i at) [
    | inl old ↦ h.ranges.chained i e old.1 ∙ ap (λ n. 1 + n) (sym (numbers_before i (omega (arith, old.0))))
    | inr here ↦
        let whole : take i (caps_of s) ≡ caps_of s = take_whole (caps_of s) i (here.0 ∙ sym (length-map s.domains (λ (e : SharedDomain). e.caps))) in
        ap (λ (x : SharedDomain). x.caps.first) (sym here.1)
        ∙ ap (λ (rs : List CapRange). 1 + count_numbers rs) (sym whole)
        ∙ ap (λ n. 1 + n) (sym (numbers_before i (omega (arith, here.0))))
  ]

  pub none_bound : count_bound_by s.names d ≡ 0
  none_bound =
      none_pass (λ (n : BoundName). n.binder.0 == d.0) s.names (λ n there. let b = h.names.binders n there in other n.binder (b.0, b.1))

  pub sound_admitted : AreSound new
  sound_admitted = record {
    numbered = numbered_more;
    budgets = each (λ (e : SharedDomain). IsWithin e.quotas.steps e.steps_left) h.budgets (whole_budget q.steps);
    next_thread = h.next_thread;
    next_segment = h.next_segment;
    ranges = record {
      owner = each (λ (e : SharedDomain). e.caps.owner ≡ e.number) h.ranges.owner refl;
      count = each (λ (e : SharedDomain). e.caps.count ≡ e.quotas.caps) h.ranges.count refl;
      chained = chained_more;
      made = each (λ (e : SharedDomain). length e.caps.made ≤ e.caps.count) h.ranges.made (omega arith);
      few =
          let sum : count_numbers (caps_of s ++ last.caps ∷ []) ≡ count_numbers (caps_of s) + count_numbers (last.caps ∷ []) =
          sum_by-append (λ (r : CapRange). r.count) (caps_of s) (last.caps ∷ []) in
          let one : count_numbers (last.caps ∷ []) ≡ q.caps = omega arith in
          rw ranges_are (omega (arith, sum, one, fits));
      dead =
          λ e c there. each (λ (x : SharedDomain). x.live ≡ false → Contains x.caps.made c → c.revoked ≡ true)
          (λ x among gone made. h.ranges.dead x c among gone made) (λ gone made. absurd (Contains-none c made)) e there;
      have_stubs =
          λ e c there. each (λ (x : SharedDomain). Contains x.caps.made c → (stub : Stub) × (stub_for new c.class ≡ Some stub))
          (λ x among made.
          let b = h.ranges.have_stubs x c among made in
          (b.0, find_front (λ (y : Stub). y.class.0 == c.class.0) s.stubs stubs b.0 b.1))
          (λ made. absurd (Contains-none c made)) e there;
    };
    names = record {
      short = h.names.short;
      given_out = λ n there. still_given n.cap (h.names.given_out n there);
      binders = λ n there. still_live n.binder (h.names.binders n there);
      differ = h.names.differ;
      few =
          each (λ (e : SharedDomain). count_bound_by s.names e.number ≤ e.quotas.names) h.names.few
          (omega (arith, none_bound));
    };
    threads = record {
      rise = h.threads.rise;
      before = h.threads.before;
      have_segments = h.threads.have_segments;
      started = λ t there. still_admitted t.domain (h.threads.started t there);
      few =
          each (λ (e : SharedDomain). count_started_in s.threads e.number ≤ e.quotas.threads) h.threads.few
          (let none : count_started_in s.threads d ≡ 0 =
          none_pass (λ (t : SharedThread). t.domain.0 == d.0) s.threads (λ t there. other t.domain (h.threads.started t there)) in
          omega (arith, none));
    };
    segments = record {
      before = h.segments.before;
      homes = λ e there. still_live e.domain (h.segments.homes e there);
      differ = h.segments.differ;
      few =
          each (λ (e : SharedDomain). count_segments_of s.threads e.number ≤ e.quotas.chunks) h.segments.few
          (let none : length (filter (is_of shared_form d) (all_segments s)) ≡ 0 =
          none_pass (is_of shared_form d) (all_segments s) (λ e there. let b = h.segments.homes e there in other e.domain (b.0, b.1)) in
          omega (arith, none, counted_in d s.threads));
    };
  }
