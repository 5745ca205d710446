-- A domain has ended: what is seen of the domains then, and that names and room are counted right.
use Rattle.std.proofs.Common.{◌≡◌, ◌≢◌, ℕ, zero, suc, ◌+◌, ◌<◌, ◌≤◌, inl, inr, true, false, List, [], ◌∷◌, length, map, set, sum_by, Some, slice_get, refl, sym, ap, ◌∙◌, arith}
use Rattle.std.specs.Prelude.{◌==◌, if◌then◌else◌}
use Rattle.std.proofs.lemmas.Bool.{cases_Bool, eq-eqb, eqb-true, ne_eqb}
use Rattle.std.proofs.lemmas.List.{length-map}
use Rattle.std.proofs.lemmas.List.Sums.{sum_by-cons}
use Rattle.std.proofs.lemmas.Option.{same_Some}
use Rattle.jk_model.specs.declared.identifiers.DomainId.{DomainId}
use Rattle.jk_model_classes.specs.declared.sharing.Stub.{Stub}
use Rattle.jk_model_heaps.specs.Capabilities.{CapRange}
use Rattle.jk_model_sharing.specs.BoundNames.{BoundName, count_bound_by, without_names_of}
use Rattle.jk_model_sharing.specs.CapabilityCalls.{all_revoked}
use Rattle.jk_model_sharing.specs.SharedStates.{SharedDomain, Drops}
use Rattle.list_lemmas.proofs.ItemsByPlace.{comes_from, mapped_at}
use Rattle.thread_segments.specs.declared.domains.DomainEntry.{DomainEntry}
use Rattle.thread_segments.specs.ClassedRanges.{all_revoked_in}
use Rattle.thread_segments.specs.DomainEntries.{AreNamed, HasSegmentRoom, chunks_of, domain_with, domains_with, spare_names, AreCounted, state_of}
use Rattle.thread_segments.specs.DomainsEnding.{uncounted, after_end}
use Rattle.thread_segments.specs.NameEntries.{NameList}
use Rattle.thread_segments.proofs.CapsOfDomains.{AreOwnedFrom}
use Rattle.thread_segments.proofs.CountsAreKept.{part_le}
use Rattle.thread_segments.proofs.NamesAreCounted.{names_live, renamed}
use Rattle.thread_stacks.specs.Stacks.{ThreadList}

-- ---- Counts of threads aside.

pub domains_uncounted : (n : ℕ) (es : List DomainEntry) (rs : List CapRange) → domains_with n (map uncounted es) rs ≡ domains_with n es rs
domains_uncounted n [] rs = refl
domains_uncounted n (e ∷ es) [] = refl
domains_uncounted n (e ∷ es) (r ∷ rs) = ap (λ zs. domain_with n e r ∷ zs) (domains_uncounted (suc n) es rs)

sum_uncounted : (f : DomainEntry → ℕ) → ((e : DomainEntry) → f (uncounted e) ≡ f e) → (es : List DomainEntry) → sum_by f (map uncounted es) ≡ sum_by f es
sum_uncounted f same [] = refl
sum_uncounted f same (e ∷ es) =
    omega (arith, sum_by-cons f (uncounted e) (map uncounted es), sum_by-cons f e es, same e, sum_uncounted f same es)

-- an entry is as one that was there
pub record WasThere (old : List DomainEntry) (i : ℕ) (e : DomainEntry) : Type 0 where
  pub entry : DomainEntry
  pub there : slice_get old i ≡ Some entry
  pub same : uncounted entry ≡ uncounted e

module _ (old new : List DomainEntry) (alike : map uncounted new ≡ map uncounted old) where
  pub as_long : length new ≡ length old
  as_long = sym (length-map new uncounted) ∙ ap (λ (xs : List DomainEntry). length xs) alike ∙ length-map old uncounted

  pub was_there : (i : ℕ) (e : DomainEntry) → slice_get new i ≡ Some e → WasThere old i e
  was_there i e at =
      let c = comes_from uncounted old i (uncounted e)
      (ap (λ (xs : List DomainEntry). slice_get xs i) (sym alike) ∙ mapped_at uncounted new i e at) in
      record { entry = c.from; there = c.there; same = c.gives }

  pub domains_alike : (n : ℕ) (rs : List CapRange) → domains_with n new rs ≡ domains_with n old rs
  domains_alike n rs =
      sym (domains_uncounted n new rs) ∙ ap (λ (xs : List DomainEntry). domains_with n xs rs) alike ∙ domains_uncounted n old rs

  pub named_alike : (names : NameList) → AreNamed old names → AreNamed new names
  named_alike names h = record {
    bound = λ i e at. let w = was_there i e at in ap (λ (x : DomainEntry). x.names) (sym w.same) ∙ h.bound i w.entry w.there;
    within =
        λ i e at.
        let w = was_there i e at in
        omega (arith, h.within i w.entry w.there, ap (λ (x : DomainEntry). x.names) w.same, ap (λ (x : DomainEntry). x.quotas.names) w.same);
    small = λ i e at. let w = was_there i e at in omega (arith, h.small i w.entry w.there, ap (λ (x : DomainEntry). x.quotas.names) w.same);
    room =
        omega (
          arith,
          h.room,
          sum_uncounted spare_names (λ e. refl) new,
          sum_uncounted spare_names (λ e. refl) old,
          ap (λ (xs : List DomainEntry). sum_by spare_names xs) alike,
        );
  }

  pub room_alike : (t now : ThreadList) → HasSegmentRoom old t → now.most_segments ≡ t.most_segments → now.domains ≡ t.domains → HasSegmentRoom new now
  room_alike t now h most domains = record {
    room =
        omega (
          arith,
          h.room,
          sum_uncounted chunks_of (λ e. refl) new,
          sum_uncounted chunks_of (λ e. refl) old,
          ap (λ (xs : List DomainEntry). sum_by chunks_of xs) alike,
          most,
        );
    homes = omega (arith, h.homes, as_long, domains);
    few = omega (arith, h.few, as_long);
  }

-- ---- What is seen of the domains.

abbrev pub ended_domain : ℕ → SharedDomain → SharedDomain
ended_domain k x = if x.number.0 == k then record x { live = false; caps = all_revoked x.caps } else x

module _ (d : DomainId) where
  ended_past : (n : ℕ) (es : List DomainEntry) (rs : List CapRange) → AreOwnedFrom n rs → d.0 < n
      → domains_with n es (map (all_revoked_in d) rs) ≡ map (ended_domain d.0) (domains_with n es rs)
  ended_past n [] rs h past = refl
  ended_past n (x ∷ es) [] h past = refl
  ended_past n (x ∷ es) (y ∷ rs) h past =
      let owner : (y.owner.0 == d.0) ≡ false = ne_eqb y.owner.0 d.0 (λ e. omega (arith, h zero y refl, e, past)) in
      let number : (n == d.0) ≡ false = ne_eqb n d.0 (λ e. omega (arith, e, past)) in
      rw (owner, number, ended_past (suc n) es rs (tail n y rs h) (omega arith)) refl
    where
      tail : (n : ℕ) (y : CapRange) (rs : List CapRange) → AreOwnedFrom n (y ∷ rs) → AreOwnedFrom (suc n) rs
      tail n y rs h i r at = let e = h (suc i) r at in omega (arith, e)

  pub ended_seen : (n i : ℕ) (es : List DomainEntry) (rs : List CapRange) (e : DomainEntry) → AreOwnedFrom n rs → slice_get es i ≡ Some e → d.0 ≡ n + i
      → domains_with n (set es i (record e { live = false; names = 0 })) (map (all_revoked_in d) rs)
      ≡ map (ended_domain d.0) (domains_with n es rs)
  ended_seen n i [] rs e h at is = absurd cc
  ended_seen n zero (x ∷ es) [] e h at is = refl
  ended_seen n (suc i) (x ∷ es) [] e h at is = refl
  ended_seen n zero (x ∷ es) (y ∷ rs) e h at is =
      let owner : (y.owner.0 == d.0) ≡ true = eq-eqb y.owner.0 d.0 (omega (arith, h zero y refl, is)) in
      let number : (n == d.0) ≡ true = eq-eqb n d.0 (omega (arith, is)) in
      let here : e ≡ x = sym (same_Some x e at) in
      rw (owner, number, here, ended_past (suc n) es rs (tail n y rs h) (omega (arith, is))) refl
    where
      tail : (n : ℕ) (y : CapRange) (rs : List CapRange) → AreOwnedFrom n (y ∷ rs) → AreOwnedFrom (suc n) rs
      tail n y rs h i r at = let e = h (suc i) r at in omega (arith, e)
  ended_seen n (suc i) (x ∷ es) (y ∷ rs) e h at is =
      let owner : (y.owner.0 == d.0) ≡ false = ne_eqb y.owner.0 d.0 (λ same. omega (arith, h zero y refl, same, is)) in
      let number : (n == d.0) ≡ false = ne_eqb n d.0 (λ same. omega (arith, same, is)) in
      rw (owner, number, ended_seen (suc n) i es rs e (tail n y rs h) at (omega (arith, is))) refl
    where
      tail : (n : ℕ) (y : CapRange) (rs : List CapRange) → AreOwnedFrom n (y ∷ rs) → AreOwnedFrom (suc n) rs
      tail n y rs h i r at = let e = h (suc i) r at in omega (arith, e)

pub all_revoked-owner : (d : DomainId) (r : CapRange) → (all_revoked_in d r).owner ≡ r.owner
all_revoked-owner d r = elim (cases_Bool (r.owner.0 == d.0)) [ inl hit ↦ rw hit refl | inr miss ↦ rw miss refl ]

-- ---- Names.

-- how many a domain bound, and how many are left
names_parted : (d : DomainId) (names : List BoundName) → length (without_names_of d names) + count_bound_by names d ≡ length names
names_parted d [] = refl
names_parted d (n ∷ names) = elim (cases_Bool (n.binder.0 == d.0)) [
  | inl hit ↦ rw hit (omega (arith, names_parted d names))
  | inr miss ↦ rw miss (omega (arith, names_parted d names))
]

none_by : (d : DomainId) (names : List BoundName) → count_bound_by (without_names_of d names) d ≡ 0
none_by d [] = refl
none_by d (n ∷ names) = elim (cases_Bool (n.binder.0 == d.0)) [
  | inl hit ↦ rw hit (none_by d names)
  | inr miss ↦ rw (miss, miss) (none_by d names)
]

others_by : (d e : DomainId) (names : List BoundName) → d.0 ≢ e.0 → count_bound_by (without_names_of d names) e ≡ count_bound_by names e
others_by d e [] ne = refl
others_by d e (n ∷ names) ne = elim (cases_Bool (n.binder.0 == d.0)) [
  | inl hit ↦ elim (cases_Bool (n.binder.0 == e.0)) [
    | inl both ↦
        let one : n.binder.0 ≡ d.0 = eqb-true n.binder.0 d.0 hit in
        let two : n.binder.0 ≡ e.0 = eqb-true n.binder.0 e.0 both in
        absurd (ne (sym one ∙ two))
    | inr other ↦ rw (hit, other) (others_by d e names ne)
  ]
  | inr miss ↦ elim (cases_Bool (n.binder.0 == e.0)) [
    | inl its ↦ rw (miss, its) (ap suc (others_by d e names ne))
    | inr other ↦ rw (miss, other) (others_by d e names ne)
  ]
]

pub named_ended : (es : List DomainEntry) (n new : NameList) (d : DomainId) (e : DomainEntry) → AreNamed es n → slice_get es d.0 ≡ Some e → e.live ≡ true
    → new.names ≡ without_names_of d n.names → n.most ≤ new.most + e.quotas.names → AreNamed (set es d.0 (record e { live = false; names = 0 })) new
named_ended es n new d e h at lives names most =
    renamed es n new d.0 e (record e { live = false; names = 0 }) h
    (record {
      there = at;
      quotas = refl;
      within = omega arith;
      here = rw names (sym (none_by d n.names));
      elsewhere = λ other ne. rw names (others_by d other n.names ne);
      room =
          let parted = names_parted d n.names in
          let none : spare_names (record e { live = false; names = 0 }) ≡ 0 = refl in
          omega (
            arith,
            ap (λ (xs : List BoundName). length xs) names,
            parted,
            none,
            h.bound d.0 e at,
            h.within d.0 e at,
            names_live e lives,
            most,
          );
    })

-- the names that are left, and as many as the domain might bind, have room
pub names_to_leave : (es : List DomainEntry) (n : NameList) (d : DomainId) (e : DomainEntry) → AreNamed es n → slice_get es d.0 ≡ Some e → e.live ≡ true
    → length (without_names_of d n.names) + e.quotas.names ≤ n.most
names_to_leave es n d e h at lives =
    omega (arith, h.room, part_le spare_names es d.0 e at, names_live e lives, names_parted d n.names, h.bound d.0 e at, h.within d.0 e at)

-- ---- All of it.

pub dropped_is : (es now : List DomainEntry) (rs : List CapRange) (stubs : List Stub) (ns new : NameList) (t left : ThreadList) → AreCounted es rs t
    → (d : DomainId) (e : DomainEntry) → map uncounted now ≡ map uncounted es → slice_get now d.0 ≡ Some e
    → (let x : ThreadList = after_end d t in
    (left.threads ≡ x.threads) × (left.next_thread ≡ x.next_thread) × (left.next_segment ≡ x.next_segment))
    → new.names ≡ without_names_of d ns.names
    → Drops (state_of es rs stubs ns t) d
    (state_of (set now d.0 (record e { live = false; names = 0 })) (map (all_revoked_in d) rs) stubs new left)
dropped_is es now rs stubs ns new t left h d e alike at after names = record {
  domains =
      ended_seen d 0 d.0 now rs e (λ i r there. let own = h.owners i r there in omega (arith, own)) at (omega arith)
      ∙ ap (λ (ds : List SharedDomain). map (ended_domain d.0) ds) (domains_alike es now alike 0 rs);
  names = names;
  threads = after.0;
  next_thread = after.1;
  next_segment = after.2;
  stubs = refl;
}
