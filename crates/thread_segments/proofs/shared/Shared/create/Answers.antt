-- The domain's range alone is changed.
use Rattle.std.proofs.Common.{is_some, ap, subst, sym}
use Rattle.jk_model_sharing.specs.SharedStates.{SharedState}
use Rattle.thread_segments.specs.Answers.{no_stub}
use Rattle.thread_segments.specs.Asked.{IsLiveDomain}
use Rattle.thread_segments.specs.DomainEntries.{state_of}
use Rattle.thread_segments.proofs.CountsAreKept.{counts_created}
use Rattle.thread_segments.proofs.SoundCapabilities.{sound_created}
use Rattle.thread_segments.proofs.StatesByPart.{create_is, live_at, range_found}
use Rattle.thread_segments.proofs.shared.Shared.create.Goals as goal

pub create-requires : goal.create-requires
create-requires c =
    let s = c.self.inside in
    let P : SharedState → Type 0 = λ x. IsLiveDomain x c.args.d in
    let a = live_at s.domains.items s.caps s.stubs.stubs s.names s.threads c.self.invariant.counted c.args.d (subst P (sym c.self.view_is) c.requires) in
    ap is_some (range_found s.domains.items s.caps s.stubs.stubs s.names s.threads c.self.invariant.counted c.args.d a)

pub invariant_of-self : goal.invariant_of-self
invariant_of-self c =
    let s = c.self.inside in
    let P : SharedState → Type 0 = λ x. IsLiveDomain x c.args.d in
    let a = live_at s.domains.items s.caps s.stubs.stubs s.names s.threads c.self.invariant.counted c.args.d (subst P (sym c.self.view_is) c.requires) in
    let now = state_of s.domains.items s.caps s.stubs.stubs s.names s.threads in
    let creates =
    create_is s.domains.items s.caps s.stubs.stubs s.names s.threads c.self.invariant.counted c.args.d a c.args.class c.args.target c.create.result
    c.create.new.self (c.create.ensures a.range (range_found s.domains.items s.caps s.stubs.stubs s.names s.threads c.self.invariant.counted c.args.d a)) _
    (sym c.in-Some.ensures) in
    record {
      counted =
          counts_created s.domains.items s.caps s.threads c.args.class c.args.target a.range c.create.result c.create.new.self c.self.invariant.counted
          (c.create.ensures a.range (range_found s.domains.items s.caps s.stubs.stubs s.names s.threads c.self.invariant.counted c.args.d a));
      named = c.self.invariant.named;
      segments = c.self.invariant.segments;
      sound =
          sound_created now c.args.d c.args.class c.args.target c.create.result
          (state_of s.domains.items c.create.new.self s.stubs.stubs s.names s.threads) (subst P (sym c.self.view_is) c.requires) creates c.self.invariant.sound;
    }

pub returns-in-None : goal.returns-in-None
returns-in-None c = rw (← c.self.view_is) (no_stub (sym c.in-None.ensures))

pub returns-in-Some : goal.returns-in-Some
returns-in-Some c =
    let s = c.self.inside in
    let P : SharedState → Type 0 = λ x. IsLiveDomain x c.args.d in
    let a = live_at s.domains.items s.caps s.stubs.stubs s.names s.threads c.self.invariant.counted c.args.d (subst P (sym c.self.view_is) c.requires) in
    rw (← c.self.view_is)
    (create_is s.domains.items s.caps s.stubs.stubs s.names s.threads c.self.invariant.counted c.args.d a c.args.class c.args.target c.create.result
    c.create.new.self
    (c.create.ensures a.range (range_found s.domains.items s.caps s.stubs.stubs s.names s.threads c.self.invariant.counted c.args.d a)) _
    (sym c.in-Some.ensures))
