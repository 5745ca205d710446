-- The domain's range alone is changed.
use Rattle.std.proofs.Common.{◌≡◌, ◌∙◌, Ok, Some, List, map, subst, sym}
use Rattle.jk_model_heaps.specs.Capabilities.{CapRange, IsGivenOut}
use Rattle.jk_model_sharing.specs.SharedStates.{SharedState, caps_of, domain_numbered}
use Rattle.thread_segments.specs.ClassedRanges.{revoked_in}
use Rattle.thread_segments.specs.DomainEntries.{state_of}
use Rattle.thread_segments.proofs.CountsAreKept.{counts_ranges}
use Rattle.thread_segments.proofs.RevokedInRange.{revoked_in-owner}
use Rattle.thread_segments.proofs.SoundCapabilities.{sound_revoked}
use Rattle.thread_segments.proofs.StatesByPart.{caps_are, revokes_none, revokes_own}
use Rattle.thread_segments.proofs.shared.Shared.revoke.Goals as goal

pub revoke-requires : goal.revoke-requires
revoke-requires c =
    let s = c.self.inside in
    let P : SharedState → Type 0 = λ x. IsGivenOut (caps_of x) c.args.k in
    let given = subst P (sym c.self.view_is) c.requires.given in
    subst (λ (rs : List CapRange). IsGivenOut rs c.args.k) (caps_are s.domains.items s.caps s.stubs.stubs s.names s.threads c.self.invariant.counted) given

pub invariant_of-self : goal.invariant_of-self
invariant_of-self c =
    let s = c.self.inside in
    let now = state_of s.domains.items s.caps s.stubs.stubs s.names s.threads in
    let e = c.requires.live.0 in
    let P : SharedState → Type 0 = λ x. domain_numbered x c.args.d ≡ Some e in
    let is = subst P (sym c.self.view_is) c.requires.live.1 in
    let told = sym (c.owns.ensures e c.requires.live.1) ∙ c.if-not-owns.false in
    rw c.revoke.ensures
    (record {
      counted = counts_ranges (revoked_in c.args.k) (revoked_in-owner c.args.k) s.domains.items s.caps s.threads c.self.invariant.counted;
      named = c.self.invariant.named;
      segments = c.self.invariant.segments;
      sound =
          sound_revoked now (state_of s.domains.items (map (revoked_in c.args.k) s.caps) s.stubs.stubs s.names s.threads) c.args.d c.args.k (Ok tt)
          (e, is, c.requires.live.2)
          (revokes_own s.domains.items s.caps s.stubs.stubs s.names s.threads c.self.invariant.counted c.args.k c.args.d e c.self.invariant.sound is told)
          c.self.invariant.sound;
    })

pub returns-then-not-owns : goal.returns-then-not-owns
returns-then-not-owns c =
    let s = c.self.inside in
    let e = c.requires.live.0 in
    let P : SharedState → Type 0 = λ x. domain_numbered x c.args.d ≡ Some e in
    let is = subst P (sym c.self.view_is) c.requires.live.1 in
    let told = sym (c.owns.ensures e c.requires.live.1) ∙ c.if-not-owns.true in
    rw (← c.self.view_is)
    (revokes_none s.domains.items s.caps s.stubs.stubs s.names s.threads c.self.invariant.counted c.args.k c.args.d e c.self.invariant.sound is told)

pub returns : goal.returns
returns c =
    let s = c.self.inside in
    let e = c.requires.live.0 in
    let P : SharedState → Type 0 = λ x. domain_numbered x c.args.d ≡ Some e in
    let is = subst P (sym c.self.view_is) c.requires.live.1 in
    let told = sym (c.owns.ensures e c.requires.live.1) ∙ c.if-not-owns.false in
    rw (← c.self.view_is, c.revoke.ensures)
    (revokes_own s.domains.items s.caps s.stubs.stubs s.names s.threads c.self.invariant.counted c.args.k c.args.d e c.self.invariant.sound is told)
