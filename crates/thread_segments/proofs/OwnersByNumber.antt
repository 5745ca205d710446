-- A capability's number is in the range of its owner alone.
use Rattle.std.proofs.Common.{◌≡◌, ℕ, zero, suc, ◌+◌, ◌<◌, ◌≤◌, inl, inr, true, false, List, [], ◌∷◌, Contains, Option, Some, None, map, nat_le, nat_lt, slice_get, take, refl, sym, ap, ◌∙◌, arith}
use Rattle.std.specs.Prelude.{◌-◌, ◌==◌, option_map}
use Rattle.std.proofs.lemmas.Bool.{and_parts, cases_Bool, cases_lt, eq-eqb, eqb-true, ltb-true, leb-true}
use Rattle.std.proofs.lemmas.List.Sums.{sum_by-cons}
use Rattle.std.proofs.lemmas.Option.{same_Some}
use Rattle.jk_model.specs.declared.capabilities.CapStatus.{CapStatus}
use Rattle.jk_model.specs.declared.identifiers.CapId.{CapId}
use Rattle.jk_model.specs.declared.identifiers.DomainId.{DomainId}
use Rattle.jk_model_heaps.specs.Capabilities.{CapRange, Capability, IsGivenOut, OwnedCapability, capability_in, capability_numbered, has_number}
use Rattle.jk_model_sharing.specs.CapabilityCalls.{count_numbers, status_of, with_capability_revoked}
use Rattle.jk_model_sharing.specs.SharedStates.{SharedDomain, SharedState, caps_of, domain_numbered, ranges_of, with_caps}
use Rattle.list_lemmas.proofs.ItemsByPlace.{mapped_at}
use Rattle.list_lemmas.proofs.ItemsOfLists.{Contains-here, Contains-there, place_of}
use Rattle.thread_segments.specs.ClassedRanges.{revoked_in}
use Rattle.thread_segments.specs.SoundStates.{AreSound}
use Rattle.thread_segments.proofs.SoundCapabilities.{maps_alike}
use Rattle.thread_segments.proofs.SoundDomains.{one_changed}
use Rattle.thread_segments.proofs.SoundGrowth.{found_domain, of_domain}

-- the numbers of a range come before those of each later one
numbers_before : (ranges : List CapRange) (i j : ℕ) (r : CapRange) → slice_get ranges i ≡ Some r → i < j
    → count_numbers (take i ranges) + r.count ≤ count_numbers (take j ranges)
numbers_before [] i j r at low = absurd cc
numbers_before (x ∷ ranges) i zero r at low = absurd (omega arith)
numbers_before (x ∷ ranges) zero (suc j) r at low =
    let counts : CapRange → ℕ = λ c. c.count in
    let same : x.count ≡ r.count = ap counts (same_Some x r at) in
    omega (arith, same, sum_by-cons counts x (take j ranges))
numbers_before (x ∷ ranges) (suc i) (suc j) r at low =
    let counts : CapRange → ℕ = λ c. c.count in
    let rest = numbers_before ranges i j r at (omega arith) in
    omega (arith, rest, sum_by-cons counts x (take i ranges), sum_by-cons counts x (take j ranges))

record IsIn (k : CapId) (r : CapRange) : Type 0 where
  low : r.first ≤ k.0
  high : k.0 < r.first + r.count

is_in : (k : CapId) (r : CapRange) → has_number k r ≡ true → IsIn k r
is_in k r has =
    let parts = and_parts (nat_le r.first k.0) (nat_lt k.0 (r.first + r.count)) has in
    record { low = leb-true r.first k.0 parts.0; high = ltb-true k.0 (r.first + r.count) parts.1 }

module _ (s : SharedState) (h : AreSound s) (k : CapId) where
  not_before : (i j : ℕ) (e f : SharedDomain) → slice_get s.domains i ≡ Some e → slice_get s.domains j ≡ Some f → IsIn k e.caps → IsIn k f.caps → i < j → ⊥
  not_before i j e f at_e at_f in_e in_f low =
      let sums = numbers_before (caps_of s) i j e.caps (mapped_at (λ (x : SharedDomain). x.caps) s.domains i e at_e) low in
      omega (arith, sums, h.ranges.chained i e at_e, h.ranges.chained j f at_f, in_e.high, in_f.low)

  -- no two domains have one number
  pub one_owner : (e f : SharedDomain) → Contains s.domains e → Contains s.domains f → has_number k e.caps ≡ true → has_number k f.caps ≡ true → e ≡ f
  one_owner e f there_e there_f has_e has_f =
      let i = place_of s.domains e there_e in
      let j = place_of s.domains f there_f in
      let in_e = is_in k e.caps has_e in
      let in_f = is_in k f.caps has_f in
      elim (cases_lt i.0 j.0) [
        | inl low ↦ absurd (not_before i.0 j.0 e f i.1 j.1 in_e in_f low)
        | inr le ↦ elim (cases_lt j.0 i.0) [
          | inl high ↦ absurd (not_before j.0 i.0 f e j.1 i.1 in_f in_e high)
          | inr ge ↦
              let same : i.0 ≡ j.0 = omega (arith, le, ge) in
              same_Some e f (sym i.1 ∙ ap (slice_get s.domains) same ∙ j.1)
        ]
      ]

  -- a domain that has the number, whose the capability is
  record Owner (c : OwnedCapability) : Type 0 where
    domain : SharedDomain
    there : Contains s.domains domain
    has : has_number k domain.caps ≡ true
    owner : c.owner ≡ domain.caps.owner

  owner_in : (r : CapRange) (c : OwnedCapability) → capability_in k r ≡ Some c → c.owner ≡ r.owner
  owner_in r c is = by_item (slice_get r.made (k.0 - r.first)) is
    where
      by_item : (o : Option Capability) → option_map (λ (x : Capability). let w : OwnedCapability = record { owner = r.owner; capability = x } in w) o ≡ Some c
          → c.owner ≡ r.owner
      by_item None is = absurd cc
      by_item (Some x) is = ap (λ (w : OwnedCapability). w.owner) (sym (same_Some (record { owner = r.owner; capability = x }) c is))

  owner_from : (domains : List SharedDomain) (c : OwnedCapability) → capability_numbered (ranges_of domains) k ≡ Some c
      → (e : SharedDomain) × Contains domains e × (has_number k e.caps ≡ true) × (c.owner ≡ e.caps.owner)
  owner_from [] c is = absurd cc
  owner_from (e ∷ domains) c is = elim (cases_Bool (has_number k e.caps)) [
    | inl hit ↦
        let here : capability_in k e.caps ≡ Some c = rw hit at is in
        (e, Contains-here e domains, hit, owner_in e.caps c here)
    | inr miss ↦
        let later : capability_numbered (ranges_of domains) k ≡ Some c = rw miss at is in
        let r = owner_from domains c later in
        (r.0, Contains-there r.0 e domains r.1, r.2, r.3)
  ]

  -- the owner has a number exactly where it is in its range
  pub owner_tells : (d : DomainId) (e : SharedDomain) (c : OwnedCapability) → domain_numbered s d ≡ Some e → capability_numbered (caps_of s) k ≡ Some c
      → (c.owner.0 == d.0) ≡ has_number k e.caps
  owner_tells d e c is given =
      let f = owner_from s.domains c given in
      let found = found_domain s d e is in
      let number : c.owner.0 ≡ f.0.number.0 = ap (λ (x : DomainId). x.0) (f.3 ∙ h.ranges.owner f.0 f.1) in
      elim (cases_Bool (has_number k e.caps)) [
        | inl hit ↦
            let same : e ≡ f.0 = one_owner e f.0 found.0 f.1 hit f.2 in
            let its : c.owner.0 ≡ d.0 = number ∙ ap (λ (x : SharedDomain). x.number.0) (sym same) ∙ found.1 in
            eq-eqb c.owner.0 d.0 its ∙ sym hit
        | inr miss ↦ elim (cases_Bool (c.owner.0 == d.0)) [
          | inl its ↦
              let same : e ≡ f.0 = of_domain s h.numbered d e f.0 is f.1 (sym number ∙ eqb-true c.owner.0 d.0 its) in
              let never : false ≡ true = sym miss ∙ ap (λ (x : SharedDomain). has_number k x.caps) same ∙ f.2 in
              absurd cc
          | inr other ↦ other ∙ sym miss
        ]
      ]

-- ---- What is known of it.

status_some : (o : Option OwnedCapability) (st : CapStatus) → Some st ≡ option_map status_of o → (c : OwnedCapability) × (o ≡ Some c) × (st.owner ≡ c.owner)
status_some None st e = absurd cc
status_some (Some c) st e = (c, refl, ap (λ (x : CapStatus). x.owner) (same_Some st (status_of c) e))

pub status_tells : (s : SharedState) (h : AreSound s) (k : CapId) (d : DomainId) (e : SharedDomain) (st : CapStatus) → domain_numbered s d ≡ Some e
    → Some st ≡ option_map status_of (capability_numbered (caps_of s) k) → (st.owner.0 == d.0) ≡ has_number k e.caps
status_tells s h k d e st is known =
    let c = status_some (capability_numbered (caps_of s) k) st known in
    ap (λ (x : DomainId). x.0 == d.0) c.2 ∙ owner_tells s h k d e c.0 is c.1

pub no_status : (s : SharedState) (k : CapId) → IsGivenOut (caps_of s) k → None ≡ option_map status_of (capability_numbered (caps_of s) k) → ⊥
no_status s k (c, is) none =
    let never : None ≡ Some (status_of c) = none ∙ ap (option_map status_of) is in cc

-- ---- A domain's range is put where it stands, or with a capability revoked.

pub same_items : {X : Type 0} (f : X → X) (xs : List X) → ((x : X) → Contains xs x → f x ≡ x) → map f xs ≡ xs
same_items f [] same = refl
same_items f (x ∷ xs) same =
    rw (same x (Contains-here x xs), same_items f xs (λ y there. same y (Contains-there y x xs there))) refl

pub put_back : (s : SharedState) → AreSound s → (d : DomainId) (e : SharedDomain) → domain_numbered s d ≡ Some e → with_caps d e.caps s ≡ s
put_back s h d e is =
    ap (λ (ds : List SharedDomain). record s { domains = ds }) (same_items (one_changed d (λ (x : SharedDomain). record x { caps = e.caps })) s.domains stays)
  where
    stays : (x : SharedDomain) → Contains s.domains x → one_changed d (λ (y : SharedDomain). record y { caps = e.caps }) x ≡ x
    stays x there = elim (cases_Bool (x.number.0 == d.0)) [
      | inl hit ↦
          let same = of_domain s h.numbered d e x is there (eqb-true x.number.0 d.0 hit) in
          rw hit (ap (λ (c : CapRange). let y : SharedDomain = record x { caps = c } in y) (ap (λ (y : SharedDomain). y.caps) same))
      | inr miss ↦ rw miss refl
    ]

-- the ranges that have the number are one domain's
pub revoked_for : (s : SharedState) → AreSound s → (k : CapId) (d : DomainId) (e : SharedDomain) → domain_numbered s d ≡ Some e → has_number k e.caps ≡ true
    → map (λ (x : SharedDomain). record x { caps = revoked_in k x.caps }) s.domains ≡ (with_caps d (with_capability_revoked k e.caps) s).domains
revoked_for s h k d e is has =
    maps_alike (λ (x : SharedDomain). record x { caps = revoked_in k x.caps })
    (one_changed d (λ (x : SharedDomain). record x { caps = with_capability_revoked k e.caps })) s.domains alike
  where
    alike : (x : SharedDomain) → Contains s.domains x
        → (let y : SharedDomain = record x { caps = revoked_in k x.caps } in y)
        ≡ one_changed d (λ (y : SharedDomain). record y { caps = with_capability_revoked k e.caps }) x
    alike x there = elim (cases_Bool (x.number.0 == d.0)) [
      | inl hit ↦
          let same = of_domain s h.numbered d e x is there (eqb-true x.number.0 d.0 hit) in
          let its : has_number k x.caps ≡ true = ap (λ (y : SharedDomain). has_number k y.caps) (sym same) ∙ has in
          rw (hit, its) (ap (λ (c : CapRange). let y : SharedDomain = record x { caps = with_capability_revoked k c } in y)
          (ap (λ (y : SharedDomain). y.caps) (sym same)))
      | inr miss ↦ elim (cases_Bool (has_number k x.caps)) [
        | inl its ↦
            let same = one_owner s h k e x (found_domain s d e is).0 there has its in
            let number : x.number.0 ≡ d.0 = ap (λ (y : SharedDomain). y.number.0) (sym same) ∙ (found_domain s d e is).1 in
            let never : false ≡ true = sym miss ∙ eq-eqb x.number.0 d.0 number in
            absurd cc
        | inr not_its ↦ rw (miss, not_its) refl
      ]
    ]
