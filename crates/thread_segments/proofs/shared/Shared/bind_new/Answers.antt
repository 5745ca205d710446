-- One more name, which is counted of the domain.
use Rattle.std.proofs.Common.{◌≡◌, ◌∙◌, ◌+◌, ◌<◌, ◌^◌, ◌++◌, ◌∷◌, [], None, Ok, ap, arith, refl, rules, subst, sym}
use Rattle.std.proofs.lemmas.Option.{get_or_from_slice_get}
use Rattle.jk_model_heaps.specs.Capabilities.{IsGivenOut}
use Rattle.jk_model_sharing.specs.BoundNames.{BoundName, bound_as}
use Rattle.jk_model_sharing.specs.SharedStates.{SharedState, caps_of}
use Rattle.thread_segments.specs.declared.domains.DomainEntry.{DomainEntry}
use Rattle.thread_segments.specs.Answers.{BindsFor}
use Rattle.thread_segments.specs.Asked.{IsLiveDomain}
use Rattle.thread_segments.specs.DomainEntries.{domain_with, state_of}
use Rattle.thread_segments.proofs.CountsAreKept.{recounted, recounts_paid}
use Rattle.thread_segments.proofs.NamesAreCounted.{named_new, room_for_name}
use Rattle.thread_segments.proofs.NamesOfStates.{binds_new, binds_none}
use Rattle.thread_segments.proofs.SoundNames.{sound_bound}
use Rattle.thread_segments.proofs.StatesByPart.{live_at, lives_of, low_of, names_are}
use Rattle.thread_segments.proofs.SegmentRoom.{room_entry}
use Rattle.thread_segments.proofs.shared.Shared.bind_new.Goals as goal

pub index-entry-requires : goal.index-entry-requires
index-entry-requires c =
    let s = c.self.inside in
    let P : SharedState → Type 0 = λ x. IsLiveDomain x c.args.d in
    let a = live_at s.domains.items s.caps s.stubs.stubs s.names s.threads c.self.invariant.counted c.args.d (subst P (sym c.self.view_is) c.requires.live) in
    omega (arith, low_of s.domains.items s.caps s.stubs.stubs s.names s.threads c.self.invariant.counted c.args.d a, s.domains.ok.0)

pub returns-then-entry : goal.returns-then-entry
returns-then-entry c =
    let s = c.self.inside in
    let now = state_of s.domains.items s.caps s.stubs.stubs s.names s.threads in
    let P : SharedState → Type 0 = λ x. IsLiveDomain x c.args.d in
    let a = live_at s.domains.items s.caps s.stubs.stubs s.names s.threads c.self.invariant.counted c.args.d (subst P (sym c.self.view_is) c.requires.live) in
    let N : SharedState → Type 0 = λ x. bound_as x.names c.args.name.now ≡ None in
    let read = c.index-entry.ensures ∙ get_or_from_slice_get s.domains.items c.args.d.0 a.entry c.index-entry.result.now a.there in
    let asked : BoundName = record { text = c.args.name.now; cap = c.args.k; binder = c.args.d } in
    let names = ap (λ (e : DomainEntry). e.names) read in
    let quota = ap (λ (e : DomainEntry). e.quotas.names) read in
    rw (← c.self.view_is)
    (binds_none now asked (domain_with c.args.d.0 a.entry a.range) a.is c.requires.short (subst N (sym c.self.view_is) c.requires.new)
    (omega (arith, c.self.invariant.named.bound c.args.d.0 a.entry a.there, names, quota, c.if-entry.true)))

pub add-requires-clause-room : goal.add-requires-clause-room
add-requires-clause-room c =
    let s = c.self.inside in
    let P : SharedState → Type 0 = λ x. IsLiveDomain x c.args.d in
    let a = live_at s.domains.items s.caps s.stubs.stubs s.names s.threads c.self.invariant.counted c.args.d (subst P (sym c.self.view_is) c.requires.live) in
    let read = c.index-entry.ensures ∙ get_or_from_slice_get s.domains.items c.args.d.0 a.entry c.index-entry.result.now a.there in
    let names = ap (λ (e : DomainEntry). e.names) read in
    let quota = ap (λ (e : DomainEntry). e.quotas.names) read in
    room_for_name s.domains.items s.names c.args.d.0 a.entry c.self.invariant.named a.there
    (lives_of s.domains.items s.caps s.stubs.stubs s.names s.threads c.self.invariant.counted c.args.d a (subst P (sym c.self.view_is) c.requires.live))
    (omega (arith, names, quota, c.if-entry.false))

pub index_mut-entry-requires : goal.index_mut-entry-requires
index_mut-entry-requires c =
    let s = c.self.inside in
    let P : SharedState → Type 0 = λ x. IsLiveDomain x c.args.d in
    let a = live_at s.domains.items s.caps s.stubs.stubs s.names s.threads c.self.invariant.counted c.args.d (subst P (sym c.self.view_is) c.requires.live) in
    omega (arith, low_of s.domains.items s.caps s.stubs.stubs s.names s.threads c.self.invariant.counted c.args.d a, s.domains.ok.0)

pub overflow_add-entry : goal.overflow_add-entry
overflow_add-entry c =
    let s = c.self.inside in
    let P : SharedState → Type 0 = λ x. IsLiveDomain x c.args.d in
    let a = live_at s.domains.items s.caps s.stubs.stubs s.names s.threads c.self.invariant.counted c.args.d (subst P (sym c.self.view_is) c.requires.live) in
    let read = c.index-entry.ensures ∙ get_or_from_slice_get s.domains.items c.args.d.0 a.entry c.index-entry.result.now a.there in
    let same = c.index_mut-entry.ensures.value ∙ get_or_from_slice_get s.domains.items c.args.d.0 a.entry c.index_mut-entry.result.now a.there in
    let names = ap (λ (e : DomainEntry). e.names) read in
    let quota = ap (λ (e : DomainEntry). e.quotas.names) read in
    let now = ap (λ (e : DomainEntry). e.names) same in
    let small = c.self.invariant.named.small c.args.d.0 a.entry a.there in
    let fits : c.index_mut-entry.result.now.names + 1 < 2 ^ 32 = omega (arith, names, quota, now, small, c.if-entry.false) in
    search rules

pub invariant_of-self : goal.invariant_of-self
invariant_of-self c =
    let s = c.self.inside in
    let now = state_of s.domains.items s.caps s.stubs.stubs s.names s.threads in
    let P : SharedState → Type 0 = λ x. IsLiveDomain x c.args.d in
    let a = live_at s.domains.items s.caps s.stubs.stubs s.names s.threads c.self.invariant.counted c.args.d (subst P (sym c.self.view_is) c.requires.live) in
    let N : SharedState → Type 0 = λ x. bound_as x.names c.args.name.now ≡ None in
    let G : SharedState → Type 0 = λ x. IsGivenOut (caps_of x) c.args.k in
    let read = c.index-entry.ensures ∙ get_or_from_slice_get s.domains.items c.args.d.0 a.entry c.index-entry.result.now a.there in
    let same = c.index_mut-entry.ensures.value ∙ get_or_from_slice_get s.domains.items c.args.d.0 a.entry c.index_mut-entry.result.now a.there in
    let asked : BoundName = record { text = c.args.name.now; cap = c.args.k; binder = c.args.d } in
    let names = ap (λ (e : DomainEntry). e.names) read in
    let quota = ap (λ (e : DomainEntry). e.quotas.names) read in
    let few : a.entry.names < a.entry.quotas.names = omega (arith, names, quota, c.if-entry.false) in
    let Q : SharedState → Type 0 = λ x. BindsFor now asked (Ok tt) x in
    record {
      counted =
          recounted s.domains.items s.caps s.threads s.threads c.args.d.0 a.entry _ c.self.invariant.counted
          (recounts_paid s.domains.items s.caps s.threads c.args.d.0 a.entry _ c.self.invariant.counted a.there
          (ap (λ (e : DomainEntry). e.quotas) same) (ap (λ (e : DomainEntry). e.threads) same) (ap (λ (e : DomainEntry). e.live) same));
      named =
          named_new s.domains.items s.names c.add.new.self c.args.d.0 a.entry _ asked c.self.invariant.named a.there
          (lives_of s.domains.items s.caps s.stubs.stubs s.names s.threads c.self.invariant.counted c.args.d a
          (subst P (sym c.self.view_is) c.requires.live)) few
          (ap (λ (e : DomainEntry). record e { names = e.names + 1 }) same) refl c.add.ensures;
      segments =
          room_entry s.domains.items s.threads s.threads c.args.d.0 a.entry _ c.self.invariant.segments a.there (ap (λ (e : DomainEntry). e.quotas) same)
          (ap (λ (e : DomainEntry). e.live) same) refl refl;
      sound =
          sound_bound now c.self.invariant.sound asked (Ok tt) _ (subst P (sym c.self.view_is) c.requires.live)
          (subst G (sym c.self.view_is) c.requires.given)
          (subst Q
          (sym (names_are s.domains.items s.caps s.stubs.stubs s.names s.threads c.self.invariant.counted c.args.d.0 a.entry _ c.add.new.self
          (s.names.names ++ asked ∷ []) a.there
          (ap (λ (e : DomainEntry). e.quotas) same) (ap (λ (e : DomainEntry). e.steps_left) same) (ap (λ (e : DomainEntry). e.live) same) c.add.ensures))
          (binds_new now asked (domain_with c.args.d.0 a.entry a.range) a.is c.requires.short (subst N (sym c.self.view_is) c.requires.new)
          (omega (arith, c.self.invariant.named.bound c.args.d.0 a.entry a.there, few))));
    }

pub returns : goal.returns
returns c =
    let s = c.self.inside in
    let now = state_of s.domains.items s.caps s.stubs.stubs s.names s.threads in
    let P : SharedState → Type 0 = λ x. IsLiveDomain x c.args.d in
    let a = live_at s.domains.items s.caps s.stubs.stubs s.names s.threads c.self.invariant.counted c.args.d (subst P (sym c.self.view_is) c.requires.live) in
    let N : SharedState → Type 0 = λ x. bound_as x.names c.args.name.now ≡ None in
    let read = c.index-entry.ensures ∙ get_or_from_slice_get s.domains.items c.args.d.0 a.entry c.index-entry.result.now a.there in
    let same = c.index_mut-entry.ensures.value ∙ get_or_from_slice_get s.domains.items c.args.d.0 a.entry c.index_mut-entry.result.now a.there in
    let asked : BoundName = record { text = c.args.name.now; cap = c.args.k; binder = c.args.d } in
    let names = ap (λ (e : DomainEntry). e.names) read in
    let quota = ap (λ (e : DomainEntry). e.quotas.names) read in
    let few : a.entry.names < a.entry.quotas.names = omega (arith, names, quota, c.if-entry.false) in
    let Q : SharedState → Type 0 = λ x. BindsFor now asked (Ok tt) x in
    rw (← c.self.view_is)
    (subst Q
    (sym (names_are s.domains.items s.caps s.stubs.stubs s.names s.threads c.self.invariant.counted c.args.d.0 a.entry _ c.add.new.self
    (s.names.names ++ asked ∷ []) a.there
    (ap (λ (e : DomainEntry). e.quotas) same) (ap (λ (e : DomainEntry). e.steps_left) same) (ap (λ (e : DomainEntry). e.live) same) c.add.ensures))
    (binds_new now asked (domain_with c.args.d.0 a.entry a.range) a.is c.requires.short (subst N (sym c.self.view_is) c.requires.new)
    (omega (arith, c.self.invariant.named.bound c.args.d.0 a.entry a.there, few))))
