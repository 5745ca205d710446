-- One more thread is counted where it was started.
use Rattle.std.proofs.Common.{◌∙◌, ◌+◌, ◌<◌, ◌^◌, Some, IsTrue, ap, arith, refl, rules, subst, sym}
use Rattle.std.proofs.lemmas.Option.{get_or_from_slice_get}
use Rattle.jk_model_sharing.specs.SharedStates.{MayBegin, SharedState}
use Rattle.thread_segments.specs.Answers.{Begins, begins, refused}
use Rattle.thread_segments.specs.declared.domains.DomainEntry.{DomainEntry}
use Rattle.thread_segments.specs.Asked.{HasRoomForSegment, IsLiveDomain, MayDrawSegment, MayDrawThread}
use Rattle.thread_segments.specs.DomainEntries.{state_of}
use Rattle.thread_segments.specs.SoundStates.{AreSound}
use Rattle.thread_stacks.specs.Stacks.{ThreadList}
use Rattle.thread_segments.proofs.CountsAreKept.{recounted, recounts_begun, room_for_one, few_started}
use Rattle.thread_segments.proofs.StatesByPart.{begun_is, live_at, lives_of, low_of, started_few}
use Rattle.thread_segments.proofs.SoundGrowth.{sound_begun}
use Rattle.thread_segments.proofs.NamesAreCounted.{named_same}
use Rattle.thread_segments.proofs.SegmentRoom.{room_entry, room_for_segment}
use Rattle.thread_segments.proofs.shared.Shared.begin.Goals as goal

pub returns-then-not-may_begin : goal.returns-then-not-may_begin
returns-then-not-may_begin c = refused (λ may. let told : IsTrue c.may_begin.result = c.may_begin.ensures.1 may in absurd cc)

pub begin-t-requires-clause-room : goal.begin-t-requires-clause-room
begin-t-requires-clause-room c =
    let s = c.self.inside in
    let P : SharedState → Type 0 = λ x. IsLiveDomain x c.args.d in
    let a = live_at s.domains.items s.caps s.stubs.stubs s.names s.threads c.self.invariant.counted c.args.d (subst P (sym c.self.view_is) c.requires.live) in
    let Q : SharedState → Type 0 = λ x. MayBegin x c.args.d in
    let few =
    started_few s.domains.items s.caps s.stubs.stubs s.names s.threads c.self.invariant.counted c.args.d a (subst Q (sym c.self.view_is) (c.may_begin.ensures.0
    (search rules))) in
    room_for_one s.domains.items s.caps s.threads c.args.d.0 a.entry c.self.invariant.counted a.there
    (lives_of s.domains.items s.caps s.stubs.stubs s.names s.threads c.self.invariant.counted c.args.d a (subst P (sym c.self.view_is) c.requires.live)) few

pub begin-t-requires-clause-segment_room : goal.begin-t-requires-clause-segment_room
begin-t-requires-clause-segment_room c =
    let s = c.self.inside in
    let P : SharedState → Type 0 = λ x. IsLiveDomain x c.args.d in
    let R : SharedState → Type 0 = λ x. HasRoomForSegment x c.args.d in
    room_for_segment s.domains.items s.caps s.stubs.stubs s.names s.threads c.self.invariant.counted c.self.invariant.sound c.args.d
    (subst P (sym c.self.view_is) c.requires.live) (subst R (sym c.self.view_is) c.requires.room) c.self.invariant.segments

pub begin-t-requires-clause-domain : goal.begin-t-requires-clause-domain
begin-t-requires-clause-domain c =
    let s = c.self.inside in
    let P : SharedState → Type 0 = λ x. IsLiveDomain x c.args.d in
    let a = live_at s.domains.items s.caps s.stubs.stubs s.names s.threads c.self.invariant.counted c.args.d (subst P (sym c.self.view_is) c.requires.live) in
    omega (arith, low_of s.domains.items s.caps s.stubs.stubs s.names s.threads c.self.invariant.counted c.args.d a, c.self.invariant.segments.homes)

pub index_mut-entry-requires : goal.index_mut-entry-requires
index_mut-entry-requires c =
    let s = c.self.inside in
    let P : SharedState → Type 0 = λ x. IsLiveDomain x c.args.d in
    let a = live_at s.domains.items s.caps s.stubs.stubs s.names s.threads c.self.invariant.counted c.args.d (subst P (sym c.self.view_is) c.requires.live) in
    omega (arith, low_of s.domains.items s.caps s.stubs.stubs s.names s.threads c.self.invariant.counted c.args.d a, s.domains.ok.0)

pub overflow_add-entry : goal.overflow_add-entry
overflow_add-entry c =
    let s = c.self.inside in
    let P : SharedState → Type 0 = λ x. IsLiveDomain x c.args.d in
    let a = live_at s.domains.items s.caps s.stubs.stubs s.names s.threads c.self.invariant.counted c.args.d (subst P (sym c.self.view_is) c.requires.live) in
    let Q : SharedState → Type 0 = λ x. MayBegin x c.args.d in
    let few =
    started_few s.domains.items s.caps s.stubs.stubs s.names s.threads c.self.invariant.counted c.args.d a (subst Q (sym c.self.view_is) (c.may_begin.ensures.0
    (search rules))) in
    let read = c.index_mut-entry.ensures.value ∙ get_or_from_slice_get s.domains.items c.args.d.0 a.entry c.index_mut-entry.result.now a.there in
    let small = few_started s.domains.items s.caps s.threads c.args.d.0 a.entry c.self.invariant.counted a.there few in
    let same = ap (λ (e : DomainEntry). e.threads) read in
    let fits : c.index_mut-entry.result.now.threads + 1 < 2 ^ 32 = omega (arith, small, same) in
    search rules

pub invariant_of-self : goal.invariant_of-self
invariant_of-self c =
    let s = c.self.inside in
    let P : SharedState → Type 0 = λ x. IsLiveDomain x c.args.d in
    let a = live_at s.domains.items s.caps s.stubs.stubs s.names s.threads c.self.invariant.counted c.args.d (subst P (sym c.self.view_is) c.requires.live) in
    let Q : SharedState → Type 0 = λ x. MayBegin x c.args.d in
    let few =
    started_few s.domains.items s.caps s.stubs.stubs s.names s.threads c.self.invariant.counted c.args.d a (subst Q (sym c.self.view_is) (c.may_begin.ensures.0
    (search rules))) in
    let read = c.index_mut-entry.ensures.value ∙ get_or_from_slice_get s.domains.items c.args.d.0 a.entry c.index_mut-entry.result.now a.there in
    let R : SharedState → Type 0 = λ x. HasRoomForSegment x c.args.d in
    let T : SharedState → Type 0 = λ x. MayDrawThread x in
    let U : SharedState → Type 0 = λ x. MayDrawSegment x in
    let V : SharedState → Type 0 = λ x. AreSound x in
    let now = state_of s.domains.items s.caps s.stubs.stubs s.names s.threads in
    record {
      counted =
          recounted s.domains.items s.caps s.threads c.begin-t.new.self c.args.d.0 a.entry _ c.self.invariant.counted
          (recounts_begun s.domains.items s.caps s.threads c.begin-t.new.self c.args.d.0 a.entry _ _ c.self.invariant.counted a.there
          (lives_of s.domains.items s.caps s.stubs.stubs s.names s.threads c.self.invariant.counted c.args.d a
          (subst P (sym c.self.view_is) c.requires.live)) few
          (ap (λ (e : DomainEntry). record e { threads = e.threads + 1 }) read) refl
          (ap (λ (t : ThreadList). t.threads) c.begin-t.ensures.begun) (ap (λ (t : ThreadList). t.most) c.begin-t.ensures.begun));
      named =
          named_same s.domains.items s.names c.args.d.0 a.entry _ c.self.invariant.named a.there (ap (λ (e : DomainEntry). e.quotas) read)
          (ap (λ (e : DomainEntry). e.names) read) (ap (λ (e : DomainEntry). e.live) read);
      segments =
          room_entry s.domains.items s.threads c.begin-t.new.self c.args.d.0 a.entry _ c.self.invariant.segments a.there
          (ap (λ (e : DomainEntry). e.quotas) read) (ap (λ (e : DomainEntry). e.live) read)
          (ap (λ (t : ThreadList). t.most_segments) c.begin-t.ensures.begun) (ap (λ (t : ThreadList). t.domains) c.begin-t.ensures.begun);
      sound =
          subst V
          (sym (begun_is s.domains.items s.caps s.stubs.stubs s.names s.threads c.self.invariant.counted c.args.d a _ c.begin-t.new.self
          (ap (λ (e : DomainEntry). e.quotas) read) (ap (λ (e : DomainEntry). e.steps_left) read) (ap (λ (e : DomainEntry). e.live) read)
          c.begin-t.ensures.begun))
          (sound_begun now c.args.d (subst P (sym c.self.view_is) c.requires.live) (subst R (sym c.self.view_is) c.requires.room)
          (subst T (sym c.self.view_is) c.requires.thread) (subst U (sym c.self.view_is) c.requires.segment)
          (subst Q (sym c.self.view_is) (c.may_begin.ensures.0 (search rules))) c.self.invariant.sound);
    }

pub returns : goal.returns
returns c =
    let s = c.self.inside in
    let P : SharedState → Type 0 = λ x. IsLiveDomain x c.args.d in
    let a = live_at s.domains.items s.caps s.stubs.stubs s.names s.threads c.self.invariant.counted c.args.d (subst P (sym c.self.view_is) c.requires.live) in
    let Q : SharedState → Type 0 = λ x. MayBegin x c.args.d in
    let read = c.index_mut-entry.ensures.value ∙ get_or_from_slice_get s.domains.items c.args.d.0 a.entry c.index_mut-entry.result.now a.there in
    rw (← c.self.view_is, c.begin-t.ensures.number)
    (subst (λ (x : SharedState). Begins (state_of s.domains.items s.caps s.stubs.stubs s.names s.threads) c.args.d
    (Some (record { 0 = s.threads.next_thread })) x)
    (sym (begun_is s.domains.items s.caps s.stubs.stubs s.names s.threads c.self.invariant.counted c.args.d a _ c.begin-t.new.self
    (ap (λ (e : DomainEntry). e.quotas) read) (ap (λ (e : DomainEntry). e.steps_left) read) (ap (λ (e : DomainEntry). e.live) read) c.begin-t.ensures.begun))
    (begins (subst Q (sym c.self.view_is) (c.may_begin.ensures.0 (search rules)))))
