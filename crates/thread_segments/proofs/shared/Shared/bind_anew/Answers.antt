-- The name at the place alone is changed.
use Rattle.std.proofs.Common.{◌≡◌, ◌∙◌, ◌<◌, Some, Ok, ap, length, refl, set, slice_get, subst, sym}
use Rattle.std.specs.Prelude.{◌==◌}
use Rattle.jk_model.specs.declared.identifiers.DomainId.{DomainId}
use Rattle.jk_model_heaps.specs.Capabilities.{IsGivenOut}
use Rattle.jk_model_sharing.specs.BoundNames.{BoundName}
use Rattle.jk_model_sharing.specs.SharedStates.{SharedState, caps_of, domain_numbered}
use Rattle.list_lemmas.proofs.ItemsByPlace.{item_there}
use Rattle.thread_segments.specs.Answers.{BindsFor}
use Rattle.thread_segments.specs.DomainEntries.{state_of}
use Rattle.thread_segments.proofs.NamesAreCounted.{named_anew}
use Rattle.thread_segments.proofs.NamesOfStates.{binds_anew, binds_not}
use Rattle.thread_segments.proofs.SoundNames.{sound_bound}
use Rattle.thread_segments.proofs.StatesByPart.{names_alone}
use Rattle.thread_segments.proofs.shared.Shared.bind_anew.Goals as goal

pub returns-then-not-is_same : goal.returns-then-not-is_same
returns-then-not-is_same c =
    λ n at.
    let s = c.self.inside in
    let now = state_of s.domains.items s.caps s.stubs.stubs s.names s.threads in
    let e = c.requires.live.0 in
    let L : SharedState → Type 0 = λ x. domain_numbered x c.args.d ≡ Some e in
    let is = subst L (sym c.self.view_is) c.requires.live.1 in
    let T : SharedState → Type 0 = λ x. slice_get x.names c.args.place ≡ Some n in
    let there = subst T (sym c.self.view_is) at in
    let told = ap (λ (b : DomainId). b.0 == c.args.d.0) (sym (c.binder.ensures n there)) ∙ sym c.is_same.ensures ∙ c.if-not-is_same.true in
    rw (← c.self.view_is) (binds_not now c.self.invariant.sound c.args.place n there c.args.d c.args.k e is told)

pub invariant_of-self : goal.invariant_of-self
invariant_of-self c =
    let s = c.self.inside in
    let now = state_of s.domains.items s.caps s.stubs.stubs s.names s.threads in
    let e = c.requires.live.0 in
    let L : SharedState → Type 0 = λ x. domain_numbered x c.args.d ≡ Some e in
    let is = subst L (sym c.self.view_is) c.requires.live.1 in
    let W : SharedState → Type 0 = λ x. c.args.place < length x.names in
    let G : SharedState → Type 0 = λ x. IsGivenOut (caps_of x) c.args.k in
    let item = item_there s.names.names c.args.place (subst W (sym c.self.view_is) c.requires.bound) in
    let n = item.0 in
    let told = ap (λ (b : DomainId). b.0 == c.args.d.0) (sym (c.binder.ensures n item.1)) ∙ sym c.is_same.ensures ∙ c.if-not-is_same.false in
    let becomes = c.set_cap.ensures n item.1 in
    let asked : BoundName = record { text = n.text; cap = c.args.k; binder = c.args.d } in
    let Q : SharedState → Type 0 = λ x. BindsFor now asked (Ok tt) x in
    record {
      counted = c.self.invariant.counted;
      named = named_anew s.domains.items s.names c.set_cap.new.self c.args.place n (record n { cap = c.args.k }) c.self.invariant.named item.1 refl becomes;
      segments = c.self.invariant.segments;
      sound =
          sound_bound now c.self.invariant.sound asked (Ok tt) (state_of s.domains.items s.caps s.stubs.stubs c.set_cap.new.self s.threads)
          (e, is, c.requires.live.2) (subst G (sym c.self.view_is) c.requires.given)
          (subst Q (sym (names_alone s.domains.items s.caps s.stubs.stubs s.names s.threads c.self.invariant.counted c.set_cap.new.self
          (set s.names.names c.args.place (record n { cap = c.args.k })) becomes))
          (binds_anew now c.self.invariant.sound c.args.place n item.1 c.args.d c.args.k e is told));
    }

pub returns : goal.returns
returns c =
    λ n at.
    let s = c.self.inside in
    let now = state_of s.domains.items s.caps s.stubs.stubs s.names s.threads in
    let e = c.requires.live.0 in
    let L : SharedState → Type 0 = λ x. domain_numbered x c.args.d ≡ Some e in
    let is = subst L (sym c.self.view_is) c.requires.live.1 in
    let T : SharedState → Type 0 = λ x. slice_get x.names c.args.place ≡ Some n in
    let there = subst T (sym c.self.view_is) at in
    let told = ap (λ (b : DomainId). b.0 == c.args.d.0) (sym (c.binder.ensures n there)) ∙ sym c.is_same.ensures ∙ c.if-not-is_same.false in
    let becomes = c.set_cap.ensures n there in
    let asked : BoundName = record { text = n.text; cap = c.args.k; binder = c.args.d } in
    let Q : SharedState → Type 0 = λ x. BindsFor now asked (Ok tt) x in
    rw (← c.self.view_is)
    (subst Q (sym (names_alone s.domains.items s.caps s.stubs.stubs s.names s.threads c.self.invariant.counted c.set_cap.new.self
    (set s.names.names c.args.place (record n { cap = c.args.k })) becomes))
    (binds_anew now c.self.invariant.sound c.args.place n there c.args.d c.args.k e is told))
