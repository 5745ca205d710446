-- Nothing is counted yet.
use Rattle.std.proofs.Common.{◌≡◌, ap, arith, refl, subst, sym}
use Rattle.jk_model_sharing.specs.SharedStates.{SharedState, first_state}
use Rattle.thread_segments.specs.DomainEntries.{state_of}
use Rattle.thread_segments.specs.NameEntries.{NameList}
use Rattle.thread_segments.specs.SoundStates.{AreSound}
use Rattle.thread_stacks.specs.Stacks.{ThreadList}
use Rattle.thread_segments.proofs.CountsAreKept.{counts_none}
use Rattle.thread_segments.proofs.SoundGrowth.{sound_first}
use Rattle.thread_segments.proofs.NamesAreCounted.{named_none}
use Rattle.thread_segments.proofs.shared.Shared.new.Goals as goal

pub invariant_of-result : goal.invariant_of-result
invariant_of-result c =
    let V : SharedState → Type 0 = λ x. AreSound x in
    let first : state_of c.new-domains.result.items c.new-caps.result c.new-stubs.result.stubs c.new-names.result c.new-threads.result ≡ first_state =
    rw (c.new-domains.ensures.items, c.new-stubs.ensures, c.new-names.ensures, c.new-threads.ensures) refl in
    record {
      counted =
          counts_none c.new-domains.result.items c.new-caps.result c.new-threads.result c.new-domains.ensures.items c.new-caps.ensures
          (ap (λ (t : ThreadList). t.threads) c.new-threads.ensures);
      named =
          named_none c.new-domains.result.items c.new-names.result c.new-domains.ensures.items (ap (λ (n : NameList). n.names) c.new-names.ensures);
      segments =
          record {
            room = rw c.new-domains.ensures.items (omega arith);
            homes = rw c.new-domains.ensures.items (omega arith);
            few = rw c.new-domains.ensures.items (omega arith);
          };
      sound = subst V (sym first) sound_first;
    }

pub returns : goal.returns
returns c = rw (c.new-domains.ensures.items, c.new-stubs.ensures, c.new-names.ensures, c.new-threads.ensures) refl
