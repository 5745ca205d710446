-- The threads' flags alone are changed.
use Rattle.std.proofs.Common.{ap, refl, subst, sym, false}
use Rattle.jk_model_sharing.specs.Segments.{with_stop}
use Rattle.thread_segments.specs.DomainEntries.{state_of}
use Rattle.thread_segments.specs.SoundStates.{AreSound}
use Rattle.thread_stacks.specs.Stacks.{ThreadList}
use Rattle.thread_segments.proofs.CountsAreKept.{recounts_same}
use Rattle.thread_segments.proofs.SoundThreads.{sound_flags}
use Rattle.thread_segments.proofs.shared.Shared.clear_stop.Goals as goal

pub invariant_of-self : goal.invariant_of-self
invariant_of-self c =
    let s = c.self.inside in
    let P : ThreadList → Type 0 = λ t. AreSound (state_of s.domains.items s.caps s.stubs.stubs s.names t) in
    let now = state_of s.domains.items s.caps s.stubs.stubs s.names s.threads in
    record {
      counted =
          recounts_same s.domains.items s.caps s.threads c.set_flag.new.self _ c.self.invariant.counted
          (ap (λ (t : ThreadList). t.threads) c.set_flag.ensures) (ap (λ (t : ThreadList). t.most) c.set_flag.ensures);
      named = c.self.invariant.named;
      segments =
          record {
            room = rw c.set_flag.ensures c.self.invariant.segments.room;
            homes = rw c.set_flag.ensures c.self.invariant.segments.homes;
            few = c.self.invariant.segments.few;
          };
      sound = subst P (sym c.set_flag.ensures) (sound_flags now c.self.invariant.sound c.args.s (with_stop false) (λ x. (refl, refl)));
    }

pub returns : goal.returns
returns c = rw (← c.self.view_is, c.set_flag.ensures) refl
