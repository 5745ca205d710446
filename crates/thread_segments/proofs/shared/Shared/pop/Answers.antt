-- Where the thread has ended, it is counted no longer where it was started.
use Rattle.std.proofs.Common.{◌≡◌, ◌∙◌, ◌+◌, ◌-◌, List, Option, Some, length, ap, arith, refl, subst, sym}
use Rattle.jk_model.specs.declared.identifiers.DomainId.{DomainId}
use Rattle.jk_model_sharing.specs.Segments.{SharedThread, count_started_in}
use Rattle.jk_model_sharing.specs.SharedStates.{SharedState}
use Rattle.thread_segments.specs.declared.domains.DomainEntry.{DomainEntry}
use Rattle.thread_segments.specs.Asked.{IsLiveThread}
use Rattle.thread_segments.specs.DomainEntries.{state_of}
use Rattle.thread_segments.specs.SoundStates.{AreSound}
use Rattle.thread_stacks.specs.StackAnswers.{count_ended, count_ended_in}
use Rattle.thread_stacks.specs.Stacks.{ThreadList}
use Rattle.thread_segments.proofs.CountsAreKept.{below_with_stack, home_of, recounted, recounts_ended, some_started}
use Rattle.thread_segments.proofs.SegmentRoom.{counts_moved, room_entry}
use Rattle.thread_segments.proofs.SoundThreads.{sound_popped}
use Rattle.thread_segments.proofs.StatesByPart.{popped_is}
use Rattle.thread_segments.proofs.NamesAreCounted.{named_same}
use Rattle.thread_segments.proofs.ThreadsTakenOut.{outlived_few}
use Rattle.thread_segments.proofs.shared.Shared.pop.Goals as goal

-- how many live threads were started in a domain before
abbrev Counted : ThreadList → ThreadList → Option DomainId → Type 0
Counted old new ended = (d : DomainId) → count_started_in new.threads d + count_ended_in ended d ≡ count_started_in old.threads d

-- ---- The thread goes on.

pub invariant_of-self : goal.invariant_of-self
invariant_of-self c =
    let s = c.self.inside in
    let is = c.pop.ensures.popped in
    let V : ThreadList → Type 0 = λ t. AreSound (state_of s.domains.items s.caps s.stubs.stubs s.names t) in
    let now = state_of s.domains.items s.caps s.stubs.stubs s.names s.threads in
    let threads = ap (λ (t : ThreadList). t.threads) is in
    let counted = subst (Counted s.threads c.pop.new.self) c.in-None.is c.pop.ensures.counted in
    let fewer = subst (λ (o : Option DomainId). length c.pop.new.self.threads + count_ended o ≡ length s.threads.threads) c.in-None.is c.pop.ensures.fewer in
    record {
      counted =
          counts_moved s.domains.items s.caps s.threads c.pop.new.self c.self.invariant.counted
          (rw threads (below_with_stack c.args.t _ (length s.domains.items) s.threads.threads c.self.invariant.counted.homes))
          (λ d. omega (arith, counted d)) (omega (arith, fewer)) (ap (λ (t : ThreadList). t.most) is);
      named = c.self.invariant.named;
      segments =
          record {
            room = rw is c.self.invariant.segments.room;
            homes = rw is c.self.invariant.segments.homes;
            few = c.self.invariant.segments.few;
          };
      sound = subst V (sym is) (sound_popped now c.self.invariant.sound c.args.t);
    }

pub returns-in-None : goal.returns-in-None
returns-in-None c = rw (← c.self.view_is, c.pop.ensures.popped) refl

-- ---- The thread has ended.

pub count_end-room-requires-clause-there : goal.count_end-room-requires-clause-there
count_end-room-requires-clause-there c =
    let s = c.self.inside in
    let P : SharedState → Type 0 = λ x. IsLiveThread x c.args.t in
    let live = subst P (sym c.self.view_is) c.requires in
    let home = c.pop.ensures.started live.0 c.in-Some.started live.1 c.in-Some.is in
    omega (arith, home_of _ s.threads.threads c.args.t live.0 c.self.invariant.counted.homes live.1, ap (λ d. d.0) home)

pub count_end-room-requires-clause-some : goal.count_end-room-requires-clause-some
count_end-room-requires-clause-some c =
    λ e at.
    let s = c.self.inside in
    let counted = subst (Counted s.threads c.pop.new.self) c.in-Some.is c.pop.ensures.counted in
    some_started s.domains.items s.caps s.threads c.pop.new.self c.in-Some.started.0 e c.self.invariant.counted at counted

pub release_threads-requires : goal.release_threads-requires
release_threads-requires c =
    let s = c.self.inside in
    let fewer = subst (λ (o : Option DomainId). length c.pop.new.self.threads + count_ended o ≡ length s.threads.threads) c.in-Some.is c.pop.ensures.fewer in
    let ends = c.count_end-room.ensures in
    omega (
      arith,
      c.self.invariant.counted.room,
      fewer,
      ends.leaves,
      outlived_few ends.entry,
      ap (λ (t : ThreadList). t.most) c.pop.ensures.popped,
    )

pub invariant_of-self-2 : goal.invariant_of-self-2
invariant_of-self-2 c =
    let s = c.self.inside in
    let ends = c.count_end-room.ensures in
    let room = c.count_end-room.result in
    let last = c.release_threads.new.self in
    let e = ends.entry in
    let less : DomainEntry = record e { threads = e.threads - 1 } in
    let counted = subst (Counted s.threads c.pop.new.self) c.in-Some.is c.pop.ensures.counted in
    let fewer = subst (λ (o : Option DomainId). length c.pop.new.self.threads + count_ended o ≡ length s.threads.threads) c.in-Some.is c.pop.ensures.fewer in
    let some = some_started s.domains.items s.caps s.threads c.pop.new.self c.in-Some.started.0 e c.self.invariant.counted ends.there counted in
    let same = ap (λ (t : ThreadList). t.threads) c.release_threads.ensures in
    let is = c.release_threads.ensures ∙ ap (λ (t : ThreadList). let x : ThreadList = record t { most = t.most - room } in x) c.pop.ensures.popped in
    let threads = ap (λ (t : ThreadList). t.threads) is in
    let V : SharedState → Type 0 = λ x. AreSound x in
    let now = state_of s.domains.items s.caps s.stubs.stubs s.names s.threads in
    rw ends.becomes
    (record {
      counted =
          recounted s.domains.items s.caps s.threads last c.in-Some.started.0 e less c.self.invariant.counted
          (recounts_ended s.domains.items s.caps s.threads last c.in-Some.started.0 e less c.self.invariant.counted ends.there some refl
          (rw threads (below_with_stack c.args.t _ (length s.domains.items) s.threads.threads c.self.invariant.counted.homes))
          (λ d. ap (λ (xs : List SharedThread). count_started_in xs d + count_ended_in (Some c.in-Some.started) d) same ∙ counted d)
          (ap (λ (xs : List SharedThread). length xs + 1) same ∙ fewer)
          (omega (
            arith,
            ap (λ (t : ThreadList). t.most) is,
            c.self.invariant.counted.room,
            fewer,
            ends.leaves,
            outlived_few e,
          )));
      named = named_same s.domains.items s.names c.in-Some.started.0 e less c.self.invariant.named ends.there refl refl refl;
      segments =
          room_entry s.domains.items s.threads last c.in-Some.started.0 e less c.self.invariant.segments ends.there refl refl
          (ap (λ (t : ThreadList). t.most_segments) is) (ap (λ (t : ThreadList). t.domains) is);
      sound =
          subst V
          (sym (popped_is s.domains.items s.caps s.stubs.stubs s.names s.threads c.self.invariant.counted c.args.t c.in-Some.started.0 _ e less
          last ends.there refl refl refl is))
          (sound_popped now c.self.invariant.sound c.args.t);
    })

pub returns : goal.returns
returns c =
    let s = c.self.inside in
    let ends = c.count_end-room.ensures in
    let room = c.count_end-room.result in
    let e = ends.entry in
    let less : DomainEntry = record e { threads = e.threads - 1 } in
    let is = c.release_threads.ensures ∙ ap (λ (t : ThreadList). let x : ThreadList = record t { most = t.most - room } in x) c.pop.ensures.popped in
    rw (← c.self.view_is, ends.becomes)
    (popped_is s.domains.items s.caps s.stubs.stubs s.names s.threads c.self.invariant.counted c.args.t c.in-Some.started.0 _ e less
    c.release_threads.new.self ends.there refl refl refl is)
