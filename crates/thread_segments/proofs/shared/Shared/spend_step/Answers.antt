-- The budget alone is changed, of one domain.
use Rattle.std.proofs.Common.{◌∙◌, ◌-◌, ℕ, option_map, ap, arith, subst, sym, refl}
use Rattle.std.proofs.lemmas.Option.{get_or_from_slice_get}
use Rattle.jk_model_sharing.specs.SharedStates.{SharedState}
use Rattle.thread_segments.specs.declared.domains.DomainEntry.{DomainEntry}
use Rattle.thread_segments.specs.Asked.{IsLiveDomain, MaySpend}
use Rattle.thread_segments.specs.DomainEntries.{state_of}
use Rattle.thread_segments.specs.SoundStates.{AreSound}
use Rattle.thread_segments.proofs.CountsAreKept.{recounted, recounts_paid}
use Rattle.thread_segments.proofs.SoundDomains.{sound_spent}
use Rattle.thread_segments.proofs.StatesByPart.{live_at, low_of, may_spend, spent_is}
use Rattle.thread_segments.proofs.NamesAreCounted.{named_same}
use Rattle.thread_segments.proofs.SegmentRoom.{room_entry}
use Rattle.thread_segments.proofs.shared.Shared.spend_step.Goals as goal

pub index_mut-entry-requires : goal.index_mut-entry-requires
index_mut-entry-requires c =
    let s = c.self.inside in
    let P : SharedState → Type 0 = λ x. IsLiveDomain x c.args.d in
    let a = live_at s.domains.items s.caps s.stubs.stubs s.names s.threads c.self.invariant.counted c.args.d (subst P (sym c.self.view_is) c.requires.live) in
    omega (arith, low_of s.domains.items s.caps s.stubs.stubs s.names s.threads c.self.invariant.counted c.args.d a, s.domains.ok.0)

pub one_less-entry-requires : goal.one_less-entry-requires
one_less-entry-requires c =
    let s = c.self.inside in
    let P : SharedState → Type 0 = λ x. IsLiveDomain x c.args.d in
    let Q : SharedState → Type 0 = λ x. MaySpend x c.args.d in
    let a = live_at s.domains.items s.caps s.stubs.stubs s.names s.threads c.self.invariant.counted c.args.d (subst P (sym c.self.view_is) c.requires.live) in
    let read = c.index_mut-entry.ensures.value ∙ get_or_from_slice_get s.domains.items c.args.d.0 a.entry c.index_mut-entry.result.now a.there in
    let may = may_spend s.domains.items s.caps s.stubs.stubs s.names s.threads c.self.invariant.counted c.args.d a
    (subst Q (sym c.self.view_is) c.requires.budget) in
    λ none. may (sym (ap (λ (e : DomainEntry). e.steps_left) read) ∙ none)

pub invariant_of-self : goal.invariant_of-self
invariant_of-self c =
    let s = c.self.inside in
    let P : SharedState → Type 0 = λ x. IsLiveDomain x c.args.d in
    let a = live_at s.domains.items s.caps s.stubs.stubs s.names s.threads c.self.invariant.counted c.args.d (subst P (sym c.self.view_is) c.requires.live) in
    let read = c.index_mut-entry.ensures.value ∙ get_or_from_slice_get s.domains.items c.args.d.0 a.entry c.index_mut-entry.result.now a.there in
    let V : SharedState → Type 0 = λ x. AreSound x in
    let now = state_of s.domains.items s.caps s.stubs.stubs s.names s.threads in
    record {
      counted =
          recounted s.domains.items s.caps s.threads s.threads c.args.d.0 a.entry _ c.self.invariant.counted
          (recounts_paid s.domains.items s.caps s.threads c.args.d.0 a.entry _ c.self.invariant.counted a.there
          (ap (λ (e : DomainEntry). e.quotas) read) (ap (λ (e : DomainEntry). e.threads) read) (ap (λ (e : DomainEntry). e.live) read));
      named =
          named_same s.domains.items s.names c.args.d.0 a.entry _ c.self.invariant.named a.there (ap (λ (e : DomainEntry). e.quotas) read)
          (ap (λ (e : DomainEntry). e.names) read) (ap (λ (e : DomainEntry). e.live) read);
      segments =
          room_entry s.domains.items s.threads s.threads c.args.d.0 a.entry _ c.self.invariant.segments a.there (ap (λ (e : DomainEntry). e.quotas) read)
          (ap (λ (e : DomainEntry). e.live) read) refl refl;
      sound =
          subst V
          (sym (spent_is s.domains.items s.caps s.stubs.stubs s.names s.threads c.self.invariant.counted c.args.d a _ (ap (λ (e : DomainEntry). e.quotas) read)
          (c.one_less-entry.ensures ∙ ap (λ (e : DomainEntry). option_map (λ (n : ℕ). n - 1) e.steps_left) read) (ap (λ (e : DomainEntry). e.live) read)))
          (sound_spent now c.args.d c.self.invariant.sound);
    }

pub returns : goal.returns
returns c =
    let s = c.self.inside in
    let P : SharedState → Type 0 = λ x. IsLiveDomain x c.args.d in
    let a = live_at s.domains.items s.caps s.stubs.stubs s.names s.threads c.self.invariant.counted c.args.d (subst P (sym c.self.view_is) c.requires.live) in
    let read = c.index_mut-entry.ensures.value ∙ get_or_from_slice_get s.domains.items c.args.d.0 a.entry c.index_mut-entry.result.now a.there in
    rw (← c.self.view_is)
    (spent_is s.domains.items s.caps s.stubs.stubs s.names s.threads c.self.invariant.counted c.args.d a _ (ap (λ (e : DomainEntry). e.quotas) read)
    (c.one_less-entry.ensures ∙ ap (λ (e : DomainEntry). option_map (λ (n : ℕ). n - 1) e.steps_left) read) (ap (λ (e : DomainEntry). e.live) read))
