-- The domain isn't live any more, and nothing of it is left but its range of capabilities, which are revoked.
use Rattle.std.proofs.Common.{◌+◌, ◌-◌, ◌≤◌, ◌∙◌, arith, ap, length, refl, subst, sym}
use Rattle.jk_model_sharing.specs.SharedStates.{SharedState}
use Rattle.thread_segments.specs.Asked.{IsLiveDomain}
use Rattle.thread_segments.specs.NameEntries.{NameList}
use Rattle.thread_segments.proofs.DomainsEnded.{as_long}
use Rattle.thread_segments.proofs.EndOfDomain.{drops, few_started, kept, name_room, segment_room, thread_room}
use Rattle.thread_segments.proofs.StatesByPart.{live_at, low_of, range_found}
use Rattle.thread_stacks.specs.StackAnswers.{segments_in}
use Rattle.thread_stacks.specs.Stacks.{ThreadList}
use Rattle.thread_segments.proofs.shared.Shared.drop_domain.Goals as goal

pub take_out_all-requires-clause-home : goal.take_out_all-requires-clause-home
take_out_all-requires-clause-home g c =
    let s = c.self.inside in
    let P : SharedState → Type 0 = λ x. IsLiveDomain x c.args.d in
    let a = live_at s.domains.items s.caps s.stubs.stubs s.names s.threads c.self.invariant.counted c.args.d (subst P (sym c.self.view_is) c.requires.live) in
    omega (arith, low_of s.domains.items s.caps s.stubs.stubs s.names s.threads c.self.invariant.counted c.args.d a, c.self.invariant.segments.homes)

pub revoke_all-requires : goal.revoke_all-requires
revoke_all-requires g c =
    let s = c.self.inside in
    let P : SharedState → Type 0 = λ x. IsLiveDomain x c.args.d in
    let a = live_at s.domains.items s.caps s.stubs.stubs s.names s.threads c.self.invariant.counted c.args.d (subst P (sym c.self.view_is) c.requires.live) in
    rw (range_found s.domains.items s.caps s.stubs.stubs s.names s.threads c.self.invariant.counted c.args.d a) refl

pub end_entry-room-requires-clause-there : goal.end_entry-room-requires-clause-there
end_entry-room-requires-clause-there g c =
    let s = c.self.inside in
    let P : SharedState → Type 0 = λ x. IsLiveDomain x c.args.d in
    let a = live_at s.domains.items s.caps s.stubs.stubs s.names s.threads c.self.invariant.counted c.args.d (subst P (sym c.self.view_is) c.requires.live) in
    omega (
      arith,
      low_of s.domains.items s.caps s.stubs.stubs s.names s.threads c.self.invariant.counted c.args.d a,
      as_long s.domains.items c.take_out_all.new.domains.items c.take_out_all.ensures.recounted.alike,
    )

pub end_entry-room-requires-clause-within : goal.end_entry-room-requires-clause-within
end_entry-room-requires-clause-within g c =
    let s = c.self.inside in
    let P : SharedState → Type 0 = λ x. IsLiveDomain x c.args.d in
    few_started s.domains.items c.take_out_all.new.domains.items s.caps s.stubs.stubs s.names s.threads c.take_out_all.new.threads c.self.invariant
    c.args.d (subst P (sym c.self.view_is) c.requires.live) c.take_out_all.ensures.left c.take_out_all.ensures.recounted

pub release_threads-requires : goal.release_threads-requires
release_threads-requires g c =
    let s = c.self.inside in
    let P : SharedState → Type 0 = λ x. IsLiveDomain x c.args.d in
    thread_room s.domains.items c.take_out_all.new.domains.items s.caps s.stubs.stubs s.names s.threads c.take_out_all.new.threads c.self.invariant
    c.args.d (subst P (sym c.self.view_is) c.requires.live) c.take_out_all.ensures.left c.take_out_all.ensures.recounted
    c.end_entry-room.new.domains.items c.end_entry-room.result c.end_entry-room.ensures

pub release_segments-requires : goal.release_segments-requires
release_segments-requires g c =
    let s = c.self.inside in
    let P : SharedState → Type 0 = λ x. IsLiveDomain x c.args.d in
    let Q : ThreadList → Type 0 = λ x. length (segments_in x.threads) + c.end_entry-room.result.segments ≤ x.most_segments in
    subst Q (sym c.release_threads.ensures)
    (segment_room s.domains.items c.take_out_all.new.domains.items s.caps s.stubs.stubs s.names s.threads c.take_out_all.new.threads c.self.invariant
    c.args.d (subst P (sym c.self.view_is) c.requires.live) c.take_out_all.ensures.left c.take_out_all.ensures.recounted
    c.end_entry-room.new.domains.items c.end_entry-room.result c.end_entry-room.ensures)

pub release-requires : goal.release-requires
release-requires g c =
    let s = c.self.inside in
    let P : SharedState → Type 0 = λ x. IsLiveDomain x c.args.d in
    name_room s.domains.items c.take_out_all.new.domains.items s.caps s.stubs.stubs s.names s.threads c.take_out_all.new.threads c.self.invariant
    c.args.d (subst P (sym c.self.view_is) c.requires.live) c.take_out_all.ensures.left c.take_out_all.ensures.recounted
    c.end_entry-room.new.domains.items c.end_entry-room.result c.end_entry-room.ensures c.remove_all.new.self c.remove_all.ensures

pub invariant_of-self : goal.invariant_of-self
invariant_of-self g c =
    let s = c.self.inside in
    let P : SharedState → Type 0 = λ x. IsLiveDomain x c.args.d in
    let room = c.end_entry-room.result in
    let threads =
    c.release_segments.ensures
    ∙ ap (λ (x : ThreadList). let y : ThreadList = record x { most_segments = x.most_segments - room.segments } in y) c.release_threads.ensures in
    let names = c.release.ensures ∙ ap (λ (x : NameList). let y : NameList = record x { most = x.most - room.names } in y) c.remove_all.ensures in
    rw c.revoke_all.ensures
    (kept s.domains.items c.take_out_all.new.domains.items s.caps s.stubs.stubs s.names s.threads c.take_out_all.new.threads c.self.invariant
    c.args.d (subst P (sym c.self.view_is) c.requires.live) c.take_out_all.ensures.left c.take_out_all.ensures.recounted
    c.end_entry-room.new.domains.items room c.end_entry-room.ensures c.release_segments.new.self c.release.new.self threads names)

pub returns-clause-dropped : goal.returns-clause-dropped
returns-clause-dropped g c =
    let s = c.self.inside in
    let P : SharedState → Type 0 = λ x. IsLiveDomain x c.args.d in
    let room = c.end_entry-room.result in
    let threads =
    c.release_segments.ensures
    ∙ ap (λ (x : ThreadList). let y : ThreadList = record x { most_segments = x.most_segments - room.segments } in y) c.release_threads.ensures in
    let names = c.release.ensures ∙ ap (λ (x : NameList). let y : NameList = record x { most = x.most - room.names } in y) c.remove_all.ensures in
    rw (← c.self.view_is, c.revoke_all.ensures)
    (drops s.domains.items c.take_out_all.new.domains.items s.caps s.stubs.stubs s.names s.threads c.take_out_all.new.threads c.self.invariant
    c.args.d (subst P (sym c.self.view_is) c.requires.live) c.take_out_all.ensures.left c.take_out_all.ensures.recounted
    c.end_entry-room.new.domains.items room c.end_entry-room.ensures c.release_segments.new.self c.release.new.self (
      ap (λ (x : ThreadList). x.threads) threads,
      ap (λ (x : ThreadList). x.next_thread) threads,
      ap (λ (x : ThreadList). x.next_segment) threads,
    ) (ap (λ (x : NameList). x.names) names))
