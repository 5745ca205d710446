-- The name at the place alone goes, and is counted of the domain no longer.
use Rattle.std.proofs.Common.{◌≡◌, ◌∙◌, ◌-◌, ◌<◌, Some, Ok, ap, arith, length, slice_get, subst, sym, refl}
use Rattle.std.specs.Prelude.{◌==◌}
use Rattle.std.specs.List.{remove}
use Rattle.std.proofs.lemmas.Bool.{eqb-true}
use Rattle.std.proofs.lemmas.Option.{get_or_from_slice_get}
use Rattle.jk_model.specs.declared.identifiers.DomainId.{DomainId}
use Rattle.jk_model_sharing.specs.SharedStates.{SharedState}
use Rattle.list_lemmas.proofs.ItemsByPlace.{item_there}
use Rattle.thread_segments.specs.declared.domains.DomainEntry.{DomainEntry}
use Rattle.thread_segments.specs.Answers.{UnbindsFor}
use Rattle.thread_segments.specs.Asked.{IsLiveDomain}
use Rattle.thread_segments.specs.DomainEntries.{state_of}
use Rattle.thread_segments.proofs.CountsAreKept.{recounted, recounts_paid}
use Rattle.thread_segments.proofs.NamesAreCounted.{named_removed, some_bound}
use Rattle.thread_segments.proofs.NamesOfStates.{unbinds_not, unbinds_own}
use Rattle.thread_segments.proofs.SoundNames.{sound_unbound}
use Rattle.thread_segments.proofs.StatesByPart.{live_at, lives_of, low_of, names_are}
use Rattle.thread_segments.proofs.SegmentRoom.{room_entry}
use Rattle.thread_segments.proofs.shared.Shared.remove_name.Goals as goal

pub returns-then-not-is_same : goal.returns-then-not-is_same
returns-then-not-is_same c =
    λ n at.
    let s = c.self.inside in
    let now = state_of s.domains.items s.caps s.stubs.stubs s.names s.threads in
    let T : SharedState → Type 0 = λ x. slice_get x.names c.args.place ≡ Some n in
    let there = subst T (sym c.self.view_is) at in
    let told = ap (λ (b : DomainId). b.0 == c.args.d.0) (sym (c.binder.ensures n there)) ∙ sym c.is_same.ensures ∙ c.if-not-is_same.true in
    rw (← c.self.view_is) (unbinds_not now c.self.invariant.sound c.args.place n there c.args.d told)

pub index_mut-entry-requires : goal.index_mut-entry-requires
index_mut-entry-requires c =
    let s = c.self.inside in
    let P : SharedState → Type 0 = λ x. IsLiveDomain x c.args.d in
    let a = live_at s.domains.items s.caps s.stubs.stubs s.names s.threads c.self.invariant.counted c.args.d (subst P (sym c.self.view_is) c.requires.live) in
    omega (arith, low_of s.domains.items s.caps s.stubs.stubs s.names s.threads c.self.invariant.counted c.args.d a, s.domains.ok.0)

pub overflow_sub-entry : goal.overflow_sub-entry
overflow_sub-entry c =
    let s = c.self.inside in
    let P : SharedState → Type 0 = λ x. IsLiveDomain x c.args.d in
    let a = live_at s.domains.items s.caps s.stubs.stubs s.names s.threads c.self.invariant.counted c.args.d (subst P (sym c.self.view_is) c.requires.live) in
    let W : SharedState → Type 0 = λ x. c.args.place < length x.names in
    let item = item_there s.names.names c.args.place (subst W (sym c.self.view_is) c.requires.bound) in
    let n = item.0 in
    let told = ap (λ (b : DomainId). b.0 == c.args.d.0) (sym (c.binder.ensures n item.1)) ∙ sym c.is_same.ensures ∙ c.if-not-is_same.false in
    let home : n.binder.0 ≡ c.args.d.0 = eqb-true n.binder.0 c.args.d.0 told in
    let same = c.index_mut-entry.ensures.value ∙ get_or_from_slice_get s.domains.items c.args.d.0 a.entry c.index_mut-entry.result.now a.there in
    let some = some_bound s.domains.items s.names c.args.d.0 c.args.place a.entry n c.self.invariant.named a.there item.1 home in
    let names = ap (λ (e : DomainEntry). e.names) same in
    omega (arith, some, names)

pub invariant_of-self : goal.invariant_of-self
invariant_of-self c =
    let s = c.self.inside in
    let now = state_of s.domains.items s.caps s.stubs.stubs s.names s.threads in
    let P : SharedState → Type 0 = λ x. IsLiveDomain x c.args.d in
    let a = live_at s.domains.items s.caps s.stubs.stubs s.names s.threads c.self.invariant.counted c.args.d (subst P (sym c.self.view_is) c.requires.live) in
    let W : SharedState → Type 0 = λ x. c.args.place < length x.names in
    let item = item_there s.names.names c.args.place (subst W (sym c.self.view_is) c.requires.bound) in
    let n = item.0 in
    let told = ap (λ (b : DomainId). b.0 == c.args.d.0) (sym (c.binder.ensures n item.1)) ∙ sym c.is_same.ensures ∙ c.if-not-is_same.false in
    let home : n.binder.0 ≡ c.args.d.0 = eqb-true n.binder.0 c.args.d.0 told in
    let same = c.index_mut-entry.ensures.value ∙ get_or_from_slice_get s.domains.items c.args.d.0 a.entry c.index_mut-entry.result.now a.there in
    let Q : SharedState → Type 0 = λ x. UnbindsFor now c.args.d n.text (Ok tt) x in
    record {
      counted =
          recounted s.domains.items s.caps s.threads s.threads c.args.d.0 a.entry _ c.self.invariant.counted
          (recounts_paid s.domains.items s.caps s.threads c.args.d.0 a.entry _ c.self.invariant.counted a.there
          (ap (λ (e : DomainEntry). e.quotas) same) (ap (λ (e : DomainEntry). e.threads) same) (ap (λ (e : DomainEntry). e.live) same));
      named =
          named_removed s.domains.items s.names c.remove.new.self c.args.d.0 c.args.place a.entry _ n c.self.invariant.named a.there
          (lives_of s.domains.items s.caps s.stubs.stubs s.names s.threads c.self.invariant.counted c.args.d a
          (subst P (sym c.self.view_is) c.requires.live)) item.1 home
          (ap (λ (e : DomainEntry). record e { names = e.names - 1 }) same) c.remove.ensures;
      segments =
          room_entry s.domains.items s.threads s.threads c.args.d.0 a.entry _ c.self.invariant.segments a.there (ap (λ (e : DomainEntry). e.quotas) same)
          (ap (λ (e : DomainEntry). e.live) same) refl refl;
      sound =
          sound_unbound now c.self.invariant.sound c.args.d n.text (Ok tt) _
          (subst Q
          (sym (names_are s.domains.items s.caps s.stubs.stubs s.names s.threads c.self.invariant.counted c.args.d.0 a.entry _ c.remove.new.self
          (remove s.names.names c.args.place) a.there
          (ap (λ (e : DomainEntry). e.quotas) same) (ap (λ (e : DomainEntry). e.steps_left) same) (ap (λ (e : DomainEntry). e.live) same) c.remove.ensures))
          (unbinds_own now c.self.invariant.sound c.args.place n item.1 c.args.d told));
    }

pub returns : goal.returns
returns c =
    λ n at.
    let s = c.self.inside in
    let now = state_of s.domains.items s.caps s.stubs.stubs s.names s.threads in
    let P : SharedState → Type 0 = λ x. IsLiveDomain x c.args.d in
    let a = live_at s.domains.items s.caps s.stubs.stubs s.names s.threads c.self.invariant.counted c.args.d (subst P (sym c.self.view_is) c.requires.live) in
    let T : SharedState → Type 0 = λ x. slice_get x.names c.args.place ≡ Some n in
    let there = subst T (sym c.self.view_is) at in
    let told = ap (λ (b : DomainId). b.0 == c.args.d.0) (sym (c.binder.ensures n there)) ∙ sym c.is_same.ensures ∙ c.if-not-is_same.false in
    let same = c.index_mut-entry.ensures.value ∙ get_or_from_slice_get s.domains.items c.args.d.0 a.entry c.index_mut-entry.result.now a.there in
    let Q : SharedState → Type 0 = λ x. UnbindsFor now c.args.d n.text (Ok tt) x in
    rw (← c.self.view_is)
    (subst Q
    (sym (names_are s.domains.items s.caps s.stubs.stubs s.names s.threads c.self.invariant.counted c.args.d.0 a.entry _ c.remove.new.self
    (remove s.names.names c.args.place) a.there
    (ap (λ (e : DomainEntry). e.quotas) same) (ap (λ (e : DomainEntry). e.steps_left) same) (ap (λ (e : DomainEntry). e.live) same) c.remove.ensures))
    (unbinds_own now c.self.invariant.sound c.args.place n there c.args.d told))
