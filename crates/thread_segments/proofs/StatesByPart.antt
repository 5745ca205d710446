-- The shared state as its parts have it, and what the calls make of it.
use Rattle.std.proofs.Common.{◌≡◌, ◌≢◌, ℕ, suc, true, false, ◌-◌, ◌<◌, ◌≤◌, IsTrue, List, [], ◌∷◌, ◌++◌, length, nat_lt, set, find, Option, Some, None, slice_get, refl, sym, ap, subst, ◌∙◌, arith, map, Result, Ok, Err}
use Rattle.std.specs.Prelude.{◌==◌, option_and_then, option_map}
use Rattle.std.proofs.lemmas.Bool.{lt-ltb, ltb-true}
use Rattle.std.proofs.lemmas.Option.{same_Some, slice_get_within}
use Rattle.jk_model.specs.Capabilities.{last_number}
use Rattle.jk_model.specs.declared.identifiers.CapId.{CapId}
use Rattle.jk_model.specs.declared.identifiers.ClassId.{ClassId}
use Rattle.jk_model.specs.declared.identifiers.DomainId.{DomainId}
use Rattle.jk_model.specs.declared.identifiers.ThreadNo.{ThreadNo}
use Rattle.jk_model.specs.declared.script.Quotas.{Quotas}
use Rattle.jk_model.specs.declared.steps.Raise.{Raise}
use Rattle.jk_model.specs.declared.steps.Raise.TheVariants.{Standing}
use Rattle.jk_model.specs.declared.steps.Standing.TheVariants as Stands
use Rattle.jk_model_classes.specs.declared.sharing.Stub.{Stub}
use Rattle.jk_model_heaps.specs.Capabilities.{CapRange, OwnedCapability, capability_numbered, has_number}
use Rattle.jk_model_sharing.specs.BoundNames.{BoundName}
use Rattle.jk_model_sharing.specs.CapabilityCalls.{LacksNumbers, count_numbers, first_range, has_room, next_number, of_another, own, status_of, used_up, with_capability_revoked, with_created}
use Rattle.jk_model_sharing.specs.Segments.{live_threads, new_segment, with_stack, without_top}
use Rattle.jk_model_sharing.specs.SharedStates.{MayBegin, SharedDomain, SharedState, admitted, begun, caps_of, domain_numbered, popped, spent, stub_for, stub_of, with_caps}
use Rattle.thread_segments.specs.ClassedRanges.{CreatesIn, has_room_in, revoked_in, used_up_in}
use Rattle.thread_segments.specs.Asked.{IsAdmitted, IsLiveDomain, IsNext, MaySpend, MaySpendSteps}
use Rattle.thread_segments.specs.Answers.{CreatesFor, RevokesFor, count_numbers_left, has_stub, known_class, known_status, quotas_of, spent_steps, steps_left_of}
use Rattle.thread_segments.specs.declared.domains.DomainEntry.{DomainEntry}
use Rattle.thread_segments.specs.DomainEntries.{AreCounted, domain_with, domains_with, state_of}
use Rattle.thread_segments.specs.NameEntries.{NameList}
use Rattle.thread_stacks.specs.Stacks.{ThreadList}
use Rattle.thread_segments.specs.SoundStates.{AreSound}
use Rattle.thread_segments.proofs.OwnersByNumber.{put_back, revoked_for}
use Rattle.thread_stacks.proofs.ItemsByKey.{found_none}
use Rattle.thread_segments.proofs.CapsOfDomains.{AreOwnedFrom, caps_changed, one_range, owner_found, range_stays}
use Rattle.thread_segments.proofs.DomainsByNumber.{changed_at, domains_with-mapped, domains_with-push, length-domains_with, ranges_of-domains_with, same_domains, stands_at}

module _ (es : List DomainEntry) (rs : List CapRange) (stubs : List Stub) (ns : NameList) (t : ThreadList) (h : AreCounted es rs t) where
  abbrev here : SharedState
  here = state_of es rs stubs ns t

  pub caps_are : caps_of here ≡ rs
  caps_are = ranges_of-domains_with 0 es rs h.as_many

  pub next_is : (d : DomainId) → IsNext here d → d.0 ≡ length es
  next_is d next = next ∙ length-domains_with 0 es rs h.as_many

  -- the entry of a domain, and its range
  pub record Admitted (d : DomainId) : Type 0 where
    pub entry : DomainEntry
    pub range : CapRange
    pub there : slice_get es d.0 ≡ Some entry
    pub has_range : slice_get rs d.0 ≡ Some range
    pub is : domain_numbered here d ≡ Some (domain_with d.0 entry range)

  pub admitted_at : (d : DomainId) → IsAdmitted here d → Admitted d
  admitted_at d (e, at) =
      let s = stands_at 0 d.0 es rs e at in
      let P : ℕ → Type 0 = λ k. slice_get es k ≡ Some s.entry in
      let R : ℕ → Type 0 = λ k. slice_get rs k ≡ Some s.range in
      record {
        entry = s.entry;
        range = s.range;
        there = subst P (omega (arith, s.is_place)) s.has_entry;
        has_range = subst R (omega (arith, s.is_place)) s.has_range;
        is = at ∙ ap Some s.is;
      }

  pub live_at : (d : DomainId) → IsLiveDomain here d → Admitted d
  live_at d (e, at, live) = admitted_at d (e, at)

  pub lives_of : (d : DomainId) (a : Admitted d) → IsLiveDomain here d → a.entry.live ≡ true
  lives_of d a (e, at, live) = ap (λ (x : SharedDomain). x.live) (same_Some (domain_with d.0 a.entry a.range) e (sym a.is ∙ at)) ∙ live

  pub low_of : (d : DomainId) (a : Admitted d) → d.0 < length es
  low_of d a = slice_get_within es d.0 a.entry a.there

  pub quotas_are : (d : DomainId) (a : Admitted d) → Some a.entry.quotas ≡ quotas_of here d
  quotas_are d a = rw a.is refl

  pub steps_are : (d : DomainId) (a : Admitted d) → a.entry.steps_left ≡ steps_left_of here d
  steps_are d a = rw a.is refl

  pub may_spend : (d : DomainId) (a : Admitted d) → MaySpend here d → a.entry.steps_left ≢ Some 0
  may_spend d a may = may (domain_with d.0 a.entry a.range) a.is

  pub may_spend_steps : (n : ℕ) (d : DomainId) (a : Admitted d) → MaySpendSteps here d n → (left : ℕ) → a.entry.steps_left ≡ Some left → n ≤ left
  may_spend_steps n d a may left is = may (domain_with d.0 a.entry a.range) left a.is is

  -- ---- Threads that may begin.

  pub may_begin : (d : DomainId) (a : Admitted d) → a.entry.threads < a.entry.quotas.threads → MayBegin here d
  may_begin d a few = (domain_with d.0 a.entry a.range, a.is, rw (← h.started d.0 a.entry a.there) few)

  pub started_few : (d : DomainId) (a : Admitted d) → MayBegin here d → a.entry.threads < a.entry.quotas.threads
  started_few d a (e, is, few) =
      let same : domain_with d.0 a.entry a.range ≡ e = same_Some (domain_with d.0 a.entry a.range) e (sym a.is ∙ is) in
      let quota : a.entry.quotas.threads ≡ e.quotas.threads = ap (λ (x : SharedDomain). x.quotas.threads) same in
      omega (arith, h.started d.0 a.entry a.there, few, quota)

  pub may_begin_told : (d : DomainId) (a : Admitted d) (e : DomainEntry) → e ≡ a.entry
      → (IsTrue (nat_lt e.threads e.quotas.threads) → MayBegin here d) × (MayBegin here d → IsTrue (nat_lt e.threads e.quotas.threads))
  may_begin_told d a e is =
      let threads : e.threads ≡ a.entry.threads = ap (λ (x : DomainEntry). x.threads) is in
      let quota : e.quotas.threads ≡ a.entry.quotas.threads = ap (λ (x : DomainEntry). x.quotas.threads) is in (
        λ hit. may_begin d a (let low : e.threads < e.quotas.threads = ltb-true e.threads e.quotas.threads hit in omega (arith, low, threads, quota)),
        λ may. lt-ltb e.threads e.quotas.threads (let low = started_few d a may in omega (arith, low, threads, quota)),
      )

  -- ---- What the calls make of the state.

  pub begun_is : (d : DomainId) (a : Admitted d) (more : DomainEntry) (new : ThreadList) → more.quotas ≡ a.entry.quotas → more.steps_left ≡ a.entry.steps_left
      → more.live ≡ a.entry.live
      → new ≡ record t {
        threads = t.threads ++ record {
          number = record { 0 = t.next_thread };
          domain = d;
          segments = new_segment (record { 0 = t.next_segment }) d ∷ [];
        } ∷ [];
        next_thread = suc t.next_thread;
        next_segment = suc t.next_segment;
      }
      → state_of (set es d.0 more) rs stubs ns new ≡ begun d here
  begun_is d a more new quotas steps live is = rw (is, same_domains 0 d.0 es rs a.entry more a.there quotas steps live) refl

  pub popped_is : (thread : ThreadNo) (i most : ℕ) (e less : DomainEntry) (new : ThreadList) → slice_get es i ≡ Some e → less.quotas ≡ e.quotas
      → less.steps_left ≡ e.steps_left → less.live ≡ e.live → new ≡ record t { threads = live_threads (with_stack thread without_top t.threads); most = most }
      → state_of (set es i less) rs stubs ns new ≡ popped thread here
  popped_is thread i most e less new at quotas steps live is = rw (is, same_domains 0 i es rs e less at quotas steps live) refl

  pub admitted_is : (d : DomainId) (q : Quotas) (more : List Stub) (e : DomainEntry) → d.0 ≡ length es → e.quotas ≡ q → e.steps_left ≡ q.steps → e.live ≡ true
      → admitted d q more here
      ≡ record here { domains = domains_with 0 (es ++ e ∷ []) (rs ++ first_range rs d q.caps ∷ []); stubs = stubs ++ more }
  admitted_is d q more e next quotas steps live =
      let push = domains_with-push 0 d.0 es rs e (first_range rs d q.caps) h.as_many (omega (arith, next)) in
      rw (push, caps_are, quotas, steps, live) refl

  pub spent_is : (d : DomainId) (a : Admitted d) (new : DomainEntry) → new.quotas ≡ a.entry.quotas
      → new.steps_left ≡ option_map (λ (n : ℕ). n - 1) a.entry.steps_left → new.live ≡ a.entry.live
      → record here { domains = domains_with 0 (set es d.0 new) rs } ≡ spent d here
  spent_is d a new quotas steps live =
      let change : SharedDomain → SharedDomain = λ e. record e { steps_left = option_map (λ (n : ℕ). n - 1) e.steps_left } in
      ap (λ (ds : List SharedDomain). record here { domains = ds })
      (changed_at change d.0 0 d.0 es rs a.entry new a.there (omega arith) (λ r. rw (quotas, steps, live) refl))

  pub spent_steps_is : (n : ℕ) (d : DomainId) (a : Admitted d) (new : DomainEntry) → new.quotas ≡ a.entry.quotas
      → new.steps_left ≡ option_map (λ (k : ℕ). k - n) a.entry.steps_left → new.live ≡ a.entry.live
      → record here { domains = domains_with 0 (set es d.0 new) rs } ≡ spent_steps n d here
  spent_steps_is n d a new quotas steps live =
      let change : SharedDomain → SharedDomain = λ e. record e { steps_left = option_map (λ (k : ℕ). k - n) e.steps_left } in
      ap (λ (ds : List SharedDomain). record here { domains = ds })
      (changed_at change d.0 0 d.0 es rs a.entry new a.there (omega arith) (λ r. rw (quotas, steps, live) refl))

  pub domains_stay : (d : DomainId) (a : Admitted d) (new : DomainEntry) → new.quotas ≡ a.entry.quotas → new.steps_left ≡ a.entry.steps_left
      → new.live ≡ a.entry.live
      → domains_with 0 (set es d.0 new) rs ≡ domains_with 0 es rs
  domains_stay d a new quotas steps live = same_domains 0 d.0 es rs a.entry new a.there quotas steps live

  -- ---- Capabilities.

  -- the next domain has no range yet
  pub no_range : (d : DomainId) → d.0 ≡ length es → find (λ (r : CapRange). r.owner.0 == d.0) rs ≡ None
  no_range d next =
      found_none (λ (r : CapRange). r.owner.0) rs d.0
      (λ j r at same. omega (arith, h.owners j r at, same, slice_get_within rs j r at, h.as_many, next))

  pub lacks_here : (count : ℕ) → LacksNumbers rs count → LacksNumbers (caps_of here) count
  lacks_here count lacks = rw caps_are lacks

  pub here_lacks : (count : ℕ) → LacksNumbers (caps_of here) count → LacksNumbers rs count
  here_lacks count lacks = subst (λ (xs : List CapRange). LacksNumbers xs count) caps_are lacks

  stub_from : (class : ClassId) (o : Option OwnedCapability) → Some class ≡ option_map (λ (c : OwnedCapability). c.capability.class) o
      → stub_for here class ≡ option_and_then (λ (c : OwnedCapability). stub_for here c.capability.class) o
  stub_from class None e = absurd cc
  stub_from class (Some c) e = ap (stub_for here) (same_Some class c.capability.class e)

  pub stub_some : (k : CapId) (class : ClassId) → Some class ≡ option_map (λ (c : OwnedCapability). c.capability.class) (capability_numbered rs k)
      → stub_for here class ≡ stub_of here k
  stub_some k class e = rw caps_are (stub_from class (capability_numbered rs k) e)

  no_stub_from : (o : Option OwnedCapability) → None ≡ option_map (λ (c : OwnedCapability). c.capability.class) o
      → None ≡ option_and_then (λ (c : OwnedCapability). stub_for here c.capability.class) o
  no_stub_from None e = refl
  no_stub_from (Some c) e = absurd cc

  pub stub_none : (k : CapId) → None ≡ option_map (λ (c : OwnedCapability). c.capability.class) (capability_numbered rs k) → None ≡ stub_of here k
  stub_none k e = rw caps_are (no_stub_from (capability_numbered rs k) e)

  pub status_here : (k : CapId) → option_map status_of (capability_numbered rs k) ≡ known_status here k
  status_here k = rw caps_are refl

  pub class_here : (k : CapId) → option_map (λ (c : OwnedCapability). c.capability.class) (capability_numbered rs k) ≡ known_class here k
  class_here k = rw caps_are refl

  pub numbers_here : last_number - count_numbers rs ≡ count_numbers_left here
  numbers_here = rw caps_are refl

  -- ---- A capability is created.

  owners_from : AreOwnedFrom 0 rs
  owners_from i r at = let e = h.owners i r at in omega (arith, e)

  pub range_found : (d : DomainId) (a : Admitted d) → find (λ (x : CapRange). x.owner.0 == d.0) rs ≡ Some a.range
  range_found d a = owner_found 0 d.0 d.0 rs a.range owners_from a.has_range (omega arith)

  with_range : (d : DomainId) (a : Admitted d) (g : CapRange → CapRange) (k : ℕ) (range : CapRange) → k ≡ d.0 → g a.range ≡ range
      → with_caps d range here ≡ state_of es (map (one_range g k) rs) stubs ns t
  with_range d a g k range is becomes =
      let same = caps_changed g d.0 range 0 d.0 es rs a.range owners_from a.has_range (omega arith) becomes in
      let domains = sym same ∙ ap (λ n. domains_with 0 es (map (one_range g n) rs)) (sym is) in
      ap (λ (ds : List SharedDomain). record here { domains = ds }) domains

  owner_is : (d : DomainId) (a : Admitted d) → a.range.owner.0 ≡ d.0
  owner_is d a = h.owners d.0 a.range a.has_range

  pub create_is : (d : DomainId) (a : Admitted d) (class : ClassId) (target : ℕ) (answer : Result CapId Raise) (new : List CapRange)
      → CreatesIn rs class target a.range answer new → (stub : Stub) → stub_for here class ≡ Some stub
      → CreatesFor here d class target answer (state_of es new stubs ns t)
  create_is d a class target answer new (used_up_in full) stub is =
      let e = domain_with d.0 a.entry a.range in
      let whole : with_caps d a.range here ≡ here =
      with_range d a (λ (r : CapRange). r) d.0 a.range refl refl ∙ ap (λ (xs : List CapRange). state_of es xs stubs ns t) (range_stays d.0 rs) in
      let P : SharedState → Type 0 = λ x. CreatesFor here d class target (Err (Standing Stands.Quota)) x in
      subst P whole (has_stub stub e (Err (Standing Stands.Quota)) a.range is a.is (used_up full))
  create_is d a class target answer new (has_room_in room) stub is =
      let e = domain_with d.0 a.entry a.range in
      let range = with_created class target a.range in
      let whole = with_range d a (with_created class target) a.range.owner.0 range (owner_is d a) refl in
      let P : SharedState → Type 0 = λ x. CreatesFor here d class target (Ok (next_number a.range)) x in
      subst P whole (has_stub stub e (Ok (next_number a.range)) range is a.is (has_room room))

  -- ---- A capability is revoked.

  pub revoked_is : (k : CapId) (d : DomainId) (e : SharedDomain) → AreSound here → domain_numbered here d ≡ Some e → has_number k e.caps ≡ true
      → state_of es (map (revoked_in k) rs) stubs ns t ≡ with_caps d (with_capability_revoked k e.caps) here
  revoked_is k d e sound is has =
      ap (λ (ds : List SharedDomain). record here { domains = ds })
      (domains_with-mapped (revoked_in k) 0 es rs ∙ revoked_for here sound k d e is has)

  pub revokes_own : (k : CapId) (d : DomainId) (e : SharedDomain) → AreSound here → domain_numbered here d ≡ Some e → has_number k e.caps ≡ true
      → RevokesFor here d k (Ok tt) (state_of es (map (revoked_in k) rs) stubs ns t)
  revokes_own k d e sound is has = record {
    domain = e;
    is_domain = is;
    range = with_capability_revoked k e.caps;
    revokes = own has;
    becomes = revoked_is k d e sound is has;
  }

  pub revokes_none : (k : CapId) (d : DomainId) (e : SharedDomain) → AreSound here → domain_numbered here d ≡ Some e → has_number k e.caps ≡ false
      → RevokesFor here d k (Err (Standing Stands.Security)) here
  revokes_none k d e sound is other = record {
    domain = e;
    is_domain = is;
    range = e.caps;
    revokes = of_another other;
    becomes = sym (put_back here sound d e is);
  }

  -- ---- Names.

  -- an entry is changed but for what is seen of it, and the names are others
  pub names_are : (i : ℕ) (e other : DomainEntry) (new : NameList) (names : List BoundName) → slice_get es i ≡ Some e → other.quotas ≡ e.quotas
      → other.steps_left ≡ e.steps_left → other.live ≡ e.live → new ≡ record ns { names = names } → state_of (set es i other) rs stubs new t ≡ record
      here { names = names }
  names_are i e other new names at quotas steps live becomes =
      let same : new.names ≡ names = ap (λ (x : NameList). x.names) becomes in
      rw (same, same_domains 0 i es rs e other at quotas steps live) refl

  pub names_alone : (new : NameList) (names : List BoundName) → new ≡ record ns { names = names } → state_of es rs stubs new t ≡ record here { names = names }
  names_alone new names becomes =
      let same : new.names ≡ names = ap (λ (x : NameList). x.names) becomes in rw same refl
