-- A segment more, where there is room for one.
use Rattle.thread_segments.proofs.StatesByPart.{live_at, low_of}
use Rattle.std.proofs.Common.{arith, ap, refl, subst, sym}
use Rattle.jk_model_sharing.specs.SharedStates.{SharedState}
use Rattle.thread_segments.specs.Asked.{HasRoomForSegment, IsLiveDomain, IsLiveThread, MayDrawSegment}
use Rattle.thread_segments.specs.DomainEntries.{state_of}
use Rattle.thread_segments.specs.SoundStates.{AreSound}
use Rattle.thread_stacks.specs.Stacks.{ThreadList}
use Rattle.thread_segments.proofs.SegmentRoom.{counts_pushed, room_for_segment}
use Rattle.thread_segments.proofs.SoundGrowth.{sound_pushed}
use Rattle.thread_segments.proofs.shared.Shared.push.Goals as goal

pub push-requires-clause-thread : goal.push-requires-clause-thread
push-requires-clause-thread c =
    let P : SharedState → Type 0 = λ x. IsLiveThread x c.args.t in
    subst P (sym c.self.view_is) c.requires.thread

pub push-requires-clause-room : goal.push-requires-clause-room
push-requires-clause-room c =
    let s = c.self.inside in
    let P : SharedState → Type 0 = λ x. IsLiveDomain x c.args.d in
    let R : SharedState → Type 0 = λ x. HasRoomForSegment x c.args.d in
    room_for_segment s.domains.items s.caps s.stubs.stubs s.names s.threads c.self.invariant.counted c.self.invariant.sound c.args.d
    (subst P (sym c.self.view_is) c.requires.live) (subst R (sym c.self.view_is) c.requires.room) c.self.invariant.segments

pub push-requires-clause-domain : goal.push-requires-clause-domain
push-requires-clause-domain c =
    let s = c.self.inside in
    let P : SharedState → Type 0 = λ x. IsLiveDomain x c.args.d in
    let a = live_at s.domains.items s.caps s.stubs.stubs s.names s.threads c.self.invariant.counted c.args.d (subst P (sym c.self.view_is) c.requires.live) in
    omega (arith, low_of s.domains.items s.caps s.stubs.stubs s.names s.threads c.self.invariant.counted c.args.d a, c.self.invariant.segments.homes)

pub push-requires-clause-segment : goal.push-requires-clause-segment
push-requires-clause-segment c =
    let U : SharedState → Type 0 = λ x. MayDrawSegment x in
    subst U (sym c.self.view_is) c.requires.number

pub invariant_of-self : goal.invariant_of-self
invariant_of-self c =
    let s = c.self.inside in
    let P : SharedState → Type 0 = λ x. IsLiveDomain x c.args.d in
    let Q : SharedState → Type 0 = λ x. IsLiveThread x c.args.t in
    let R : SharedState → Type 0 = λ x. HasRoomForSegment x c.args.d in
    let U : SharedState → Type 0 = λ x. MayDrawSegment x in
    let V : ThreadList → Type 0 = λ t. AreSound (state_of s.domains.items s.caps s.stubs.stubs s.names t) in
    let now = state_of s.domains.items s.caps s.stubs.stubs s.names s.threads in
    let is = c.push.ensures.pushed in
    record {
      counted =
          counts_pushed s.domains.items s.caps s.threads c.push.new.self c.args.t _ c.self.invariant.counted (ap (λ (t : ThreadList). t.threads) is)
          (ap (λ (t : ThreadList). t.most) is);
      named = c.self.invariant.named;
      segments =
          record {
            room = rw is c.self.invariant.segments.room;
            homes = rw is c.self.invariant.segments.homes;
            few = c.self.invariant.segments.few;
          };
      sound =
          subst V (sym is)
          (sound_pushed now c.args.t c.args.d (subst P (sym c.self.view_is) c.requires.live) (subst Q (sym c.self.view_is) c.requires.thread)
          (subst R (sym c.self.view_is) c.requires.room) (subst U (sym c.self.view_is) c.requires.number) c.self.invariant.sound);
    }

pub returns-clause-number : goal.returns-clause-number
returns-clause-number c = rw (← c.self.view_is) c.push.ensures.number

pub returns-clause-pushed : goal.returns-clause-pushed
returns-clause-pushed c = rw (← c.self.view_is, c.push.ensures.pushed) refl
