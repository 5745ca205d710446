-- What a program asks of package jk is done: the machine is sealed but for the thread that asks, as it was.
use Rattle.std.proofs.Common.{◌≡◌, ℕ, zero, suc, ◌-◌, ◌≤◌, ◌==◌, ◌⊎◌, inl, inr, Bool, true, false, cond, List, [], ◌∷◌, ◌++◌, length, length-append, map, Contains, Option, Some, slice_get, Result, refl, sym, ap, subst, ◌∙◌, arith}
use Rattle.std.specs.Option.{option_map}
use Rattle.std.proofs.lemmas.Bool.{eqb-true}
use Rattle.std.proofs.lemmas.List.Elements.{Contains-append_cases}
use Rattle.std.proofs.lemmas.Option.{same_Some}
use Rattle.jk_model.specs.declared.identifiers.CapId.{CapId}
use Rattle.jk_model.specs.declared.identifiers.ClassId.{ClassId}
use Rattle.jk_model.specs.declared.identifiers.DomainId.{DomainId}
use Rattle.jk_model.specs.declared.identifiers.SegmentNo.{SegmentNo}
use Rattle.jk_model.specs.declared.identifiers.ThreadNo.{ThreadNo}
use Rattle.jk_model.specs.declared.steps.Raise.{Raise}
use Rattle.jk_model_classes.specs.Stubs.{ImplementsRemote}
use Rattle.jk_model_heaps.specs.Capabilities.{CapRange, Capability, IsGivenOut}
use Rattle.jk_model_heaps.specs.Workings.{Inside, Request}
use Rattle.jk_model_sealing.specs.SealedInsides.{IsOfClass}
use Rattle.jk_model_sharing.specs.Answers.{Granted}
use Rattle.jk_model_sharing.specs.BoundNames.{Binds, BoundName, Unbinds}
use Rattle.jk_model_sharing.specs.CapabilityCalls.{Creates, Revokes, revoked_at}
use Rattle.jk_model_sharing.specs.Segments.{with_revoked}
use Rattle.jk_model_machine_state.specs.Machines.{DomainState, Machine, Segment, Thread, caps_of}
use Rattle.jk_model_machine_state.specs.Places.{LiveDomain, RunningSegment, with_flags}
use Rattle.jk_model_crossings.specs.Requests.{Grants, with_range}
use Rattle.jk_model_runs.specs.Sealed.{IsSealed, is_stand_in}
use Rattle.list_lemmas.proofs.ItemsByPlace.{mapped_at, slice_get-longer}
use Rattle.list_lemmas.proofs.ItemsOfLists.{Contains-at, Contains-cases, Contains-here, Contains-none, Contains-there, place_of}
use Rattle.list_lemmas.proofs.LastItems.{one_last}
use Rattle.machine_laws.specs.CallsAndAnswers.{MayBeAsked}
use Rattle.machine_laws.specs.SoundMachines.{HasSoundClasses, IsSealedAtCall}
use Rattle.machine_laws.proofs.CapabilitiesChanged.{CapsChange, caps_sealed, changes_caps, part_stays, with_made}
use Rattle.machine_laws.proofs.FlagsChanged.{Flag, Stop, Suspension, flagged_sealed, flags, flags_domain, flags_front, flags_revoked, flags_thread}
use Rattle.machine_laws.proofs.InitialisersAfterRuns.{found_still}
use Rattle.machine_laws.proofs.NamesChanged.{named, new_name_sealed, own_name_sealed, removed_sealed}
use Rattle.machine_laws.proofs.RaisesSealed.{numbered, sealed as sealed_there}
use Rattle.machine_laws.proofs.RunsAgain.{set_segments}
use Rattle.machine_laws.proofs.ThreadsThinned.{thinned}
use Rattle.machine_laws.proofs.TopSegmentsTaken.{inside_stays}

-- ---- Whichever place of the running segment is taken.

abbrev pub revoked_too : Segment → Segment
revoked_too s = record s { shared = with_revoked true s.shared }

module _ (mid : Machine) (t : ThreadNo) (numbers : (i : ℕ) (e : DomainState) → slice_get mid.domains i ≡ Some e → e.number.0 ≡ i) (q : RunningSegment mid t) where
  abbrev revoked_there : Machine
  revoked_there = record mid { threads = map (set_segments t (q.lower ++ revoked_too q.segment ∷ [])) mid.threads }

  one_stack : (r : RunningSegment mid t) → (r.lower ≡ q.lower) × (r.segment ≡ q.segment)
  one_stack r =
      one_last r.lower q.lower r.segment q.segment
      (sym r.are_segments ∙ ap (λ (e : Thread). e.segments) (same_Some r.thread q.thread (sym r.is_thread ∙ q.is_thread)) ∙ q.are_segments)

  leads_there : (r : RunningSegment mid t) → with_flags r (with_revoked true r.segment.shared) ≡ revoked_there
  leads_there r = λ i. record mid {
    domains = inside_stays mid r.segment.shared.domain numbers r.home.domain r.home.inside r.home.is_domain r.home.is_inside i;
    threads = map (set_segments t ((one_stack r).0 i ++ revoked_too ((one_stack r).1 i) ∷ [])) mid.threads;
  }

  waits_there : IsSealed revoked_there → IsSealedAtCall mid t
  waits_there h r = subst IsSealed (sym (leads_there r)) h

-- ---- Lists.

same_map : {X Y : Type 0} (f g : X → Y) (xs : List X) → ((x : X) → Contains xs x → f x ≡ g x) → map f xs ≡ map g xs
same_map f g [] h = refl
same_map f g (x ∷ xs) h = λ i. h x (Contains-here x xs) i ∷ same_map f g xs (λ y later. h y (Contains-there y x xs later)) i

-- what is left of each of these where the one at a place is revoked
pub record WasMade (made : List Capability) (c : Capability) : Type 0 where
  pub before : Capability
  pub there : Contains made before
  pub class : before.class ≡ c.class
  pub target : before.target ≡ c.target
  pub live : c.revoked ≡ false → before.revoked ≡ false

was_made_later : (c x : Capability) (made : List Capability) → WasMade made c → WasMade (x ∷ made) c
was_made_later c x made h = record {
  before = h.before;
  there = Contains-there h.before x made h.there;
  class = h.class;
  target = h.target;
  live = h.live;
}

was_made : (c : Capability) (made : List Capability) → Contains made c → WasMade made c
was_made c made on = record { before = c; there = on; class = refl; target = refl; live = λ h. h }

revoked_from_by : (b : Bool) (x : Capability) (made rest : List Capability) (c : Capability) → (Contains rest c → WasMade made c)
    → Contains (cond b (record x { revoked = true } ∷ made) (x ∷ rest)) c → WasMade (x ∷ made) c
revoked_from_by true x made rest c further on = elim (Contains-cases c (record x { revoked = true }) made on) [
  | inl same ↦ record {
    before = x;
    there = Contains-here x made;
    class = ap (λ (y : Capability). y.class) same;
    target = ap (λ (y : Capability). y.target) same;
    live = λ live. let no_one : true ≡ false = ap (λ (y : Capability). y.revoked) same ∙ live in absurd cc;
  }
  | inr later ↦ was_made_later c x made (was_made c made later)
]
revoked_from_by false x made rest c further on = elim (Contains-cases c x rest on) [
  | inl same ↦ subst (WasMade (x ∷ made)) same (was_made x (x ∷ made) (Contains-here x made))
  | inr later ↦ was_made_later c x made (further later)
]

revoked_from : (made : List Capability) (place : ℕ) (c : Capability) → Contains (revoked_at made place) c → WasMade made c
revoked_from [] place c on = absurd (Contains-none c on)
revoked_from (x ∷ made) place c on =
    revoked_from_by (place == 0) x made (revoked_at made (place - 1)) c (λ later. revoked_from made (place - 1) c later) on

revoked_slots_by : (b : Bool) (x : Capability) (made rest : List Capability) (j : ℕ) (a : Capability)
    → ((k : ℕ) → slice_get made k ≡ Some a → (d : Capability) × (slice_get rest k ≡ Some d)) → slice_get (x ∷ made) j ≡ Some a
    → (d : Capability) × (slice_get (cond b (record x { revoked = true } ∷ made) (x ∷ rest)) j ≡ Some d)
revoked_slots_by true x made rest zero a further at = (record x { revoked = true }, refl)
revoked_slots_by true x made rest (suc j) a further at = (a, at)
revoked_slots_by false x made rest zero a further at = (x, refl)
revoked_slots_by false x made rest (suc j) a further at = further j at

revoked_slots : (made : List Capability) (place j : ℕ) (a : Capability) → slice_get made j ≡ Some a
    → (b : Capability) × (slice_get (revoked_at made place) j ≡ Some b)
revoked_slots [] place j a at = absurd cc
revoked_slots (x ∷ made) place j a at =
    revoked_slots_by (place == 0) x made (revoked_at made (place - 1)) j a (λ k there. revoked_slots made (place - 1) k a there) at

as_many_by : (b : Bool) (x : Capability) (made rest : List Capability) → length rest ≡ length made
    → length (cond b (record x { revoked = true } ∷ made) (x ∷ rest)) ≡ length (x ∷ made)
as_many_by true x made rest h = refl
as_many_by false x made rest h = omega (arith, h)

as_many_revoked : (made : List Capability) (place : ℕ) → length (revoked_at made place) ≡ length made
as_many_revoked [] place = refl
as_many_revoked (x ∷ made) place = as_many_by (place == 0) x made (revoked_at made (place - 1)) (as_many_revoked made (place - 1))

-- ---- In a machine that is sealed but for a thread.

module _ (m : Machine) (t : ThreadNo) (p : RunningSegment m t) (waits : IsSealedAtCall m t) (sound : HasSoundClasses m) where
  abbrev pub stack : List Segment
  stack = p.lower ++ revoked_too p.segment ∷ []

  -- where a RevokedException is pending for the running segment
  abbrev pub there : Machine
  there = record m { threads = map (set_segments t stack) m.threads }

  pub sealed : IsSealed there
  sealed =
      subst IsSealed
      (λ i. record there {
        domains = inside_stays m p.segment.shared.domain (numbered m t p waits sound) p.home.domain p.home.inside p.home.is_domain
            p.home.is_inside i;
      }) (sealed_there m t p waits sound)

  home_there : Contains m.domains p.home.domain
  home_there = Contains-at m.domains p.segment.shared.domain.0 p.home.domain p.home.is_domain

  abbrev home_of : LiveDomain there p.home.domain.number
  home_of = record {
    domain = p.home.domain;
    is_domain = ap (λ (d : DomainId). slice_get m.domains d.0) p.home.numbered ∙ p.home.is_domain;
    numbered = refl;
    inside = p.home.inside;
    is_inside = p.home.is_inside;
  }

  -- ---- Capabilities.

  module _ (f : CapRange → List Capability) (slots : (r : CapRange) (j : ℕ) (a : Capability) → slice_get r.made j ≡ Some a
      → (b : Capability) × (slice_get (f r) j ≡ Some b)) (within : length (f p.home.domain.caps) ≤ p.home.domain.caps.count)
      (each : (c : Capability) → Contains (f p.home.domain.caps) c
      → WasMade p.home.domain.caps.made c ⊎ (ImplementsRemote m.classes c.class × IsOfClass p.home.inside.heap c.target c.class)) where
    abbrev n : DomainId
    n = p.home.domain.number

    abbrev made_there : Machine
    made_there = record m { domains = map (changes_caps n f) m.domains }

    lives : is_stand_in m.classes p.home.domain ≡ false
    lives = ap (λ (o : Option Inside). is_stand_in m.classes (record p.home.domain { inside = o })) p.home.is_inside

    remote_by : (c : Capability) → WasMade p.home.domain.caps.made c ⊎ (ImplementsRemote m.classes c.class × IsOfClass p.home.inside.heap c.target c.class)
        → ImplementsRemote m.classes c.class
    remote_by c (inl w) =
        subst (ImplementsRemote m.classes) w.class (sealed.capabilities.remote p.home.domain w.before home_there lives w.there)
    remote_by c (inr new) = new.0

    targets_by : (c : Capability) → WasMade p.home.domain.caps.made c ⊎ (ImplementsRemote m.classes c.class × IsOfClass p.home.inside.heap c.target c.class)
        → c.revoked ≡ false → IsOfClass p.home.inside.heap c.target c.class
    targets_by c (inl w) live =
        let x = sealed.capabilities.targets p.home.domain w.before home_there w.there (w.live live) in
        let one : x.0 ≡ p.home.inside = same_Some x.0 p.home.inside (sym x.1 ∙ p.home.is_inside) in
        subst (λ (a : ℕ). IsOfClass p.home.inside.heap a c.class) w.target
        (subst (λ (k : ClassId). IsOfClass p.home.inside.heap w.before.target k) w.class
        (subst (λ (y : Inside). IsOfClass y.heap w.before.target w.before.class) one x.2))
    targets_by c (inr new) live = new.1

    change : CapsChange there n f
    change = record {
      slots = slots;
      home = home_of;
      within = within;
      remote = λ c on. remote_by c (each c on);
      targets = λ c on live. targets_by c (each c on) live;
    }

    abbrev asks_there : RunningSegment made_there t
    asks_there = record {
      thread = p.thread;
      is_thread = p.is_thread;
      lower = p.lower;
      segment = p.segment;
      are_segments = p.are_segments;
      home = record {
        domain = changes_caps n f p.home.domain;
        is_domain = mapped_at (changes_caps n f) m.domains p.segment.shared.domain.0 p.home.domain p.home.is_domain;
        numbered = part_stays n f (λ (e : DomainState). e.number) (λ e r. refl) p.home.domain ∙ p.home.numbered;
        inside = p.home.inside;
        is_inside = part_stays n f (λ (e : DomainState). e.inside) (λ e r. refl) p.home.domain ∙ p.home.is_inside;
      };
    }

    numbers : (i : ℕ) (e : DomainState) → slice_get made_there.domains i ≡ Some e → e.number.0 ≡ i
    numbers = (caps_sealed there sealed n f change).domains.numbered

    made_waits : IsSealedAtCall made_there t
    made_waits = waits_there made_there t numbers asks_there (caps_sealed there sealed n f change)

    changes_by : (b : Bool) (e : DomainState) (range : CapRange) → (b ≡ true → range ≡ with_made f e.caps)
        → cond b (record e { caps = range }) e ≡ cond b (record e { caps = with_made f e.caps }) e
    changes_by true e range h = λ i. record e { caps = h refl i }
    changes_by false e range h = refl

    is_home : (e : DomainState) → Contains m.domains e → (e.number.0 == n.0) ≡ true → p.home.domain ≡ e
    is_home e on same =
        let at = place_of m.domains e on in
        let place = sym (eqb-true e.number.0 n.0 same) ∙ sealed.domains.numbered at.0 e at.1 in
        same_Some p.home.domain e (sym home_of.is_domain ∙ ap (slice_get m.domains) place ∙ at.1)

    pub caps_granted : (range : CapRange) → range ≡ with_made f p.home.domain.caps → IsSealedAtCall (with_range n range m) t
    caps_granted range is =
        subst (λ (x : Machine). IsSealedAtCall x t)
        (λ i. record m {
          domains = sym (same_map (λ (e : DomainState). cond (e.number.0 == n.0) (record e { caps = range }) e) (changes_caps n f) m.domains
              (λ e on.
              changes_by (e.number.0 == n.0) e range
              (λ same. is ∙ ap (λ (d : DomainState). with_made f d.caps) (is_home e on same)))) i;
        }) made_waits

  within_before : length p.home.domain.caps.made ≤ p.home.domain.caps.count
  within_before = sealed.capabilities.within p.home.domain home_there

  created : (class : ClassId) (target : ℕ) → IsOfClass p.home.inside.heap target class → ImplementsRemote m.classes class
      → (answer : Result CapId Raise) (range : CapRange) → Creates p.home.domain.caps class target answer range
      → IsSealedAtCall (with_range p.home.domain.number range m) t
  created class target of remote answer range (Creates.used_up full) =
      caps_granted (λ r. r.made) (λ r j a at. (a, at)) within_before (λ c on. inl (was_made c p.home.domain.caps.made on)) range refl
  created class target of remote answer range (Creates.has_room few) =
      let new : Capability = record { target = target; class = class; revoked = false } in
      caps_granted (λ r. r.made ++ new ∷ []) (λ r j a at. (a, slice_get-longer r.made (new ∷ []) j a at))
      (let long = length-append p.home.domain.caps.made (new ∷ []) in omega (arith, long, few))
      (λ c on.
      elim (Contains-append_cases p.home.domain.caps.made (new ∷ []) c on) [
        | inl old ↦ inl (was_made c p.home.domain.caps.made old)
        | inr last ↦ elim (Contains-cases c new [] last) [
          | inl same ↦ inr (
            subst (λ (x : Capability). ImplementsRemote m.classes x.class) same remote,
            subst (λ (x : Capability). IsOfClass p.home.inside.heap x.target x.class) same of,
          )
          | inr never ↦ absurd (Contains-none c never)
        ]
      ]) range refl

  revoked : (k : CapId) (answer : Result (Unit {0}) Raise) (range : CapRange) → Revokes p.home.domain.caps k answer range
      → IsSealedAtCall (with_range p.home.domain.number range m) t
  revoked k answer range (Revokes.of_another other) =
      caps_granted (λ r. r.made) (λ r j a at. (a, at)) within_before (λ c on. inl (was_made c p.home.domain.caps.made on)) range refl
  revoked k answer range (Revokes.own own) =
      caps_granted (λ r. revoked_at r.made (k.0 - r.first)) (λ r j a at. revoked_slots r.made (k.0 - r.first) j a at)
      (let many = as_many_revoked p.home.domain.caps.made (k.0 - p.home.domain.caps.first) in
      let before = within_before in
      omega (arith, many, before)) (λ c on. inl (revoked_from p.home.domain.caps.made (k.0 - p.home.domain.caps.first) c on)) range refl

  -- ---- Names.

  abbrev asks_named : (names : List BoundName) → RunningSegment (record m { names = names }) t
  asks_named names = record {
    thread = p.thread;
    is_thread = p.is_thread;
    lower = p.lower;
    segment = p.segment;
    are_segments = p.are_segments;
    home = record {
      domain = p.home.domain;
      is_domain = p.home.is_domain;
      numbered = p.home.numbered;
      inside = p.home.inside;
      is_inside = p.home.is_inside;
    };
  }

  names_wait : (names : List BoundName) → IsSealed (named there sealed names) → IsSealedAtCall (record m { names = names }) t
  names_wait names h = waits_there (record m { names = names }) t sealed.domains.numbered (asks_named names) h

  bound : (text : List ℕ) (k : CapId) → IsGivenOut (caps_of m) k → (answer : Result (Unit {0}) Raise) (names : List BoundName)
      → Binds m.names p.home.domain.quotas.names (record { text = text; cap = k; binder = p.home.domain.number }) answer names
      → IsSealedAtCall (record m { names = names }) t
  bound text k given answer names (Binds.too_long long) = waits
  bound text k given answer names (Binds.of_another b short is other) = waits
  bound text k given answer names (Binds.own_name b short is own) =
      let asked : BoundName = record { text = text; cap = k; binder = p.home.domain.number } in
      names_wait names (own_name_sealed there sealed asked given home_of short b is own)
  bound text k given answer names (Binds.one_too_many short is full) = waits
  bound text k given answer names (Binds.new_name short is few) =
      let asked : BoundName = record { text = text; cap = k; binder = p.home.domain.number } in
      names_wait names (new_name_sealed there sealed asked given home_of short is few)

  unbound : (text : List ℕ) (answer : Result (Unit {0}) Raise) (names : List BoundName)
      → Unbinds m.names p.home.domain.number text answer names → IsSealedAtCall (record m { names = names }) t
  unbound text answer names (Unbinds.not_own b is other) = waits
  unbound text answer names (Unbinds.removed b is own) = names_wait names (removed_sealed there sealed text)
  unbound text answer names (Unbinds.not_bound none) = waits

  -- ---- Flags.

  module _ (s : SegmentNo) (flag : Flag) where
    abbrev flags_there : Machine
    flags_there = thinned m (flags_thread s flag)

    home_flagged : LiveDomain flags_there (flags s flag p.segment).shared.domain
    home_flagged =
        subst (LiveDomain flags_there) (sym (flags_domain s flag p.segment))
        (record {
          domain = p.home.domain;
          is_domain = p.home.is_domain;
          numbered = p.home.numbered;
          inside = p.home.inside;
          is_inside = p.home.is_inside;
        })

    abbrev asks_flagged : RunningSegment flags_there t
    asks_flagged = record {
      thread = flags_thread s flag p.thread;
      is_thread = found_still (flags_thread s flag) (λ (e : Thread). e.number.0 == t.0) (λ e. refl) m.threads
          ∙ ap (option_map (flags_thread s flag)) p.is_thread;
      lower = map (flags s flag) p.lower;
      segment = flags s flag p.segment;
      are_segments = ap (map (flags s flag)) p.are_segments ∙ flags_front s flag p.lower p.segment;
      home = home_flagged;
    }

    sets_by : (b : Bool) (segments : List Segment) (e : Thread)
        → flags_thread s flag (cond b (record e { segments = segments }) e)
        ≡ cond b (record (flags_thread s flag e) { segments = map (flags s flag) segments }) (flags_thread s flag e)
    sets_by true segments e = refl
    sets_by false segments e = refl

    threads_same : (segments : List Segment) (es : List Thread)
        → map (flags_thread s flag) (map (set_segments t segments) es)
        ≡ map (set_segments t (map (flags s flag) segments)) (map (flags_thread s flag) es)
    threads_same segments [] = refl
    threads_same segments (e ∷ es) = λ i. sets_by (e.number.0 == t.0) segments e i ∷ threads_same segments es i

    stack_same : map (flags s flag) stack ≡ map (flags s flag) p.lower ++ revoked_too (flags s flag p.segment) ∷ []
    stack_same =
        flags_front s flag p.lower (revoked_too p.segment)
        ∙ ap (λ (x : Segment). map (flags s flag) p.lower ++ x ∷ []) (flags_revoked s flag p.segment)

    flags_wait : IsSealedAtCall flags_there t
    flags_wait =
        waits_there flags_there t sealed.domains.numbered asks_flagged
        (subst IsSealed
        (λ i. record m {
          threads = (threads_same stack m.threads
              ∙ ap (λ (ss : List Segment). map (set_segments t ss) (map (flags_thread s flag) m.threads)) stack_same) i;
        }) (flagged_sealed s flag there sealed))

pub granted_sealed : (m : Machine) (t : ThreadNo) (p : RunningSegment m t) (request : Request) (granted : Granted) (mid : Machine) → IsSealedAtCall m t
    → HasSoundClasses m → MayBeAsked p request → Grants p request granted mid → IsSealedAtCall mid t
granted_sealed m t p request granted mid waits sound may (Grants.creates class target answer range g does is) =
    created m t p waits sound class target may.0 may.1 answer range does
granted_sealed m t p request granted mid waits sound may (Grants.revokes k answer range g does is) = revoked m t p waits sound k answer range does
granted_sealed m t p request granted mid waits sound may (Grants.binds text k answer names g does is) =
    bound m t p waits sound text k may answer names does
granted_sealed m t p request granted mid waits sound may (Grants.looks_up text found is) = waits
granted_sealed m t p request granted mid waits sound may (Grants.unbinds text answer names g does is) =
    unbound m t p waits sound text answer names does
granted_sealed m t p request granted mid waits sound may (Grants.suspends s) = flags_wait m t p waits sound s (Suspension true)
granted_sealed m t p request granted mid waits sound may (Grants.resumes s) = flags_wait m t p waits sound s (Suspension false)
granted_sealed m t p request granted mid waits sound may (Grants.stops s) = flags_wait m t p waits sound s (Stop true)
