-- Parts fit again where other own states, stores and shared states stand in for those before: with the same domains, of which the same live with the
-- same quotas and capabilities, and where the stores count what is used and have the segments of live threads.
use Rattle.std.proofs.Common.{◌≡◌, ℕ, ◌==◌, true, List, find, length, slice_get, Contains, Option, Some, None, is_some, refl, sym, ap, subst, ◌∙◌, arith}
use Rattle.std.proofs.lemmas.Option.{same_Some, slice_get_within}
use Rattle.jk_model.specs.declared.identifiers.DomainId.{DomainId}
use Rattle.jk_model.specs.declared.script.Quotas.{Quotas}
use Rattle.jk_model_classes.specs.declared.sharing.Stub.{Stub}
use Rattle.jk_model_domains.specs.OwnStates.{OwnState}
use Rattle.jk_model_heaps.specs.Capabilities.{CapRange}
use Rattle.jk_model_heaps.specs.Heaps.{heap_words}
use Rattle.jk_model_sharing.specs.SharedStates.{SharedDomain, SharedState}
use Rattle.jk_model_machine_state.specs.Machines.{DomainState, chunks_used}
use Rattle.jk_model_machine_state.specs.Places.{LiveDomain}
use Rattle.list_lemmas.proofs.ItemsByPlace.{item_there}
use Rattle.list_lemmas.proofs.ItemsOfLists.{Contains-at, place_of}
use Rattle.object_store.specs.HeapContents.{HeapContent}
use Rattle.frame_store.specs.FrameContents.{FrameContent}
use Rattle.machine_parts.specs.FittingParts.{AreFittingParts, HaveOneList, HaveSegments}
use Rattle.machine_parts.specs.MachineParts.{MachineParts, machine_of}
use Rattle.machine_parts.proofs.DomainsOfParts.{live_domain_is_of_parts}
use Rattle.domain_crossing.proofs.DomainsByPlace.{home_of, own_of_live, shared_there}

-- what was shared of a domain, in all that matters
pub record WasShared (old : List SharedDomain) (i : ℕ) (s : SharedDomain) : Type 0 where
  pub before : SharedDomain
  pub at : slice_get old i ≡ Some before
  pub number : s.number ≡ before.number
  pub live : s.live ≡ before.live
  pub quotas : s.quotas ≡ before.quotas
  pub caps : s.caps ≡ before.caps

pub record KeepsShared (old new : SharedState) : Type 0 where
  pub as_many : length new.domains ≡ length old.domains
  pub each : (i : ℕ) (s : SharedDomain) → slice_get new.domains i ≡ Some s → WasShared old.domains i s
  pub stubs : new.stubs ≡ old.stubs

pub record KeepsOwns (old new : List (Option OwnState)) : Type 0 where
  pub as_many : length new ≡ length old
  pub each : (i : ℕ) (o : Option OwnState) → slice_get new i ≡ Some o
      → (before : Option OwnState) × (slice_get old i ≡ Some before) × (is_some o ≡ is_some before)

pub same_owns : (owns : List (Option OwnState)) → KeepsOwns owns owns
same_owns owns = record { as_many = refl; each = λ i o at. (o, at, refl) }

pub same_shared : (s new : SharedState) → new.domains ≡ s.domains → new.stubs ≡ s.stubs → KeepsShared s new
same_shared s new domains stubs = record {
  as_many = ap length domains;
  each = λ i e at. record {
    before = e;
    at = sym (ap (λ (ds : List SharedDomain). slice_get ds i) domains) ∙ at;
    number = refl;
    live = refl;
    quotas = refl;
    caps = refl;
  };
  stubs = stubs;
}

there_is : (o : Option OwnState) → is_some o ≡ true → (own : OwnState) × (o ≡ Some own)
there_is None e = absurd cc
there_is (Some own) e = (own, refl)

module _ (p : MachineParts) (fit : AreFittingParts p) (owns : List (Option OwnState)) (shared : SharedState) (heap : HeapContent) (frames : FrameContent)
    (keeps : KeepsShared p.shared shared) (kept : KeepsOwns p.owns owns) where
  abbrev new : MachineParts
  new = record { world = p.world; owns = owns; shared = shared; heap = heap; frames = frames }

  pub one_list : HaveOneList new
  one_list = record {
    shared = keeps.as_many ∙ fit.domains.shared;
    owns = kept.as_many ∙ fit.domains.owns;
    numbered = fit.domains.numbered;
    same_number = λ i names s at there.
        let was = keeps.each i s there in
        let same = fit.domains.same_number i names was.before at was.at in
        (was.number ∙ same.0, was.live ∙ same.1);
    same_life = λ i names own at there.
        let was = kept.each i own there in
        was.2 ∙ fit.domains.same_life i names was.0 at was.1;
  }

  -- the same domains live
  lived : (d : DomainId) (own : OwnState) → slice_get owns d.0 ≡ Some (Some own) → (was : OwnState) × (slice_get p.owns d.0 ≡ Some (Some was))
  lived d own at =
      let was = kept.each d.0 (Some own) at in
      let there = there_is was.0 (sym was.2) in
      (there.0, was.1 ∙ ap (λ (o : Option OwnState). Some o) there.1)

  lives : (d : DomainId) → LiveDomain (machine_of p) d → LiveDomain (machine_of new) d
  lives d l =
      let was = own_of_live p fit.domains d l in
      let low = slice_get_within p.owns d.0 (Some was.0) was.1 in
      let many = kept.as_many in
      let item = item_there owns d.0 (omega (arith, low, many)) in
      let from = kept.each d.0 item.0 item.1 in
      let same : from.0 ≡ Some was.0 = same_Some from.0 (Some was.0) (sym from.1 ∙ was.1) in
      let on : is_some item.0 ≡ true = from.2 ∙ ap is_some same in
      let there = there_is item.0 on in
      let stands : slice_get owns d.0 ≡ Some (Some there.0) = item.1 ∙ ap (λ (o : Option OwnState). Some o) there.1 in
      home_of new one_list d there.0 stands

  -- with the same quotas
  lived_on : (d : DomainId) (l : LiveDomain (machine_of new) d) → (old : LiveDomain (machine_of p) d) × (l.domain.quotas ≡ old.domain.quotas)
  lived_on d l =
      let found = live_domain_is_of_parts new d l one_list in
      let stands = found.3 in
      let was = lived d found.0 stands.is_own in
      let old = home_of p fit.domains d was.0 was.1 in
      let s = shared_there p fit.domains d was.0 was.1 in
      let from = keeps.each d.0 found.2 stands.is_shared in
      let one : from.before ≡ s.0 = same_Some from.before s.0 (sym from.at ∙ s.1) in
      (old, ap (λ (e : DomainState). e.quotas) found.4 ∙ from.quotas ∙ ap (λ (e : SharedDomain). e.quotas) one)

  pub fits_again : ((d : DomainId) → heap.quota d ≡ p.heap.quota d) → ((d : DomainId) → frames.quota d ≡ p.frames.quota d)
      → ((d : DomainId) → heap.used d ≡ heap_words p.world.classes (heap.heap d))
      → ((d : DomainId) → frames.used d ≡ chunks_used (machine_of new) d) → HaveSegments new → ((d : DomainId) (a : ℕ) → heap.mark d a ≡ 0)
      → AreFittingParts new
  fits_again words chunks used_words used_chunks segments calm = record {
    domains = one_list;
    live = record {
      words = λ d l.
          let old = lived_on d l in
          words d ∙ fit.live.words d old.0 ∙ ap (λ (q : Quotas). Some q.heap) (sym old.1);
      chunks = λ d l.
          let old = lived_on d l in
          chunks d ∙ fit.live.chunks d old.0 ∙ ap (λ (q : Quotas). Some q.chunks) (sym old.1);
      no_others = λ d never.
          let none = fit.live.no_others d (λ l. never (lives d l)) in
          (words d ∙ none.0, chunks d ∙ none.1);
    };
    used = record { words = used_words; chunks = used_chunks };
    segments = segments;
    stubs = record {
      known = record {
        each = λ s there. fit.stubs.known.each s (was_stub s there);
        apart = λ s r there other same. fit.stubs.known.apart s r (was_stub s there) (was_stub r other) same;
      };
      all = λ c r at home remote.
          let stub = fit.stubs.all c r at home remote in
          (stub.0, ap (find (λ (e : Stub). e.class.0 == c.0)) keeps.stubs ∙ stub.1);
      made = λ d c there in_it.
          let place = place_of shared.domains d there in
          let was = keeps.each place.0 d place.1 in
          let made = subst (λ (r : CapRange). Contains r.made c) was.caps in_it in
          let stub = fit.stubs.made was.before c (Contains-at p.shared.domains place.0 was.before was.at) made in
          (stub.0, ap (find (λ (e : Stub). e.class.0 == c.class.0)) keeps.stubs ∙ stub.1);
    };
    calm = calm;
  }
    where
      was_stub : (s : Stub) → Contains shared.stubs s → Contains p.shared.stubs s
      was_stub s there = subst (λ (ss : List Stub). Contains ss s) keeps.stubs there
