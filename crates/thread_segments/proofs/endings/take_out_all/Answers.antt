-- A thread that ends is counted no longer in the domain in which it was started.
use Rattle.std.proofs.Common.{Option, ap, arith, length, refl, subst}
use Rattle.jk_model.specs.declared.identifiers.DomainId.{DomainId}
use Rattle.thread_segments.proofs.ThreadsTakenOut.{home_there, none_ended, one_ended, room_to_leave, was_started}
use Rattle.thread_stacks.specs.StackAnswers.{segments_in}
use Rattle.thread_stacks.specs.StackChanges.{TakesOut}
use Rattle.thread_stacks.specs.Stacks.{ThreadList}
use Rattle.thread_segments.proofs.endings.take_out_all.Goals as goal

pub count_end-room-requires-clause-there : goal.count_end-room-requires-clause-there
count_end-room-requires-clause-there c =
    let now = c.loop-taken.domains.items in
    let old = c.loop-taken.threads in
    let counts = c.loop-taken.invariant.recounts.counts c.requires.counted.0 c.requires.counted.1 in
    let P : Option DomainId → Type 0 = λ o. TakesOut old c.take_out.new.self c.args.d o in
    let taken = subst P c.in-Some-ended.is (c.in-Some.ensures.taken c.in-Some.taken refl) in
    home_there c.args.d c.in-Some-ended.home now c.requires.counted.0 old c.take_out.new.self counts taken

pub count_end-room-requires-clause-some : goal.count_end-room-requires-clause-some
count_end-room-requires-clause-some c =
    λ e at.
    let now = c.loop-taken.domains.items in
    let old = c.loop-taken.threads in
    let counts = c.loop-taken.invariant.recounts.counts c.requires.counted.0 c.requires.counted.1 in
    let P : Option DomainId → Type 0 = λ o. TakesOut old c.take_out.new.self c.args.d o in
    let taken = subst P c.in-Some-ended.is (c.in-Some.ensures.taken c.in-Some.taken refl) in
    was_started c.args.d c.in-Some-ended.home now c.requires.counted.0 old c.take_out.new.self e counts taken at

pub release_threads-requires : goal.release_threads-requires
release_threads-requires c =
    let now = c.loop-taken.domains.items in
    let old = c.loop-taken.threads in
    let counts = c.loop-taken.invariant.recounts.counts c.requires.counted.0 c.requires.counted.1 in
    let P : Option DomainId → Type 0 = λ o. TakesOut old c.take_out.new.self c.args.d o in
    let taken = subst P c.in-Some-ended.is (c.in-Some.ensures.taken c.in-Some.taken refl) in
    let ends = c.count_end-room.ensures in
    omega (
      arith,
      room_to_leave c.args.d c.in-Some-ended.home now c.requires.counted.0 old c.take_out.new.self ends.entry counts taken,
      ends.leaves,
    )

pub loop-taken-smaller-in-Some-ended : goal.loop-taken-smaller-in-Some-ended
loop-taken-smaller-in-Some-ended c =
    omega (
      arith,
      (c.in-Some.ensures.taken c.in-Some.taken refl).fewer_segments,
      ap (λ (x : ThreadList). length (segments_in x.threads)) c.release_threads.ensures,
    )

pub loop-taken-preserved-in-Some-ended : goal.loop-taken-preserved-in-Some-ended
loop-taken-preserved-in-Some-ended c =
    let old = c.loop-taken.threads in
    let P : Option DomainId → Type 0 = λ o. TakesOut old c.take_out.new.self c.args.d o in
    let taken = subst P c.in-Some-ended.is (c.in-Some.ensures.taken c.in-Some.taken refl) in
    one_ended c.args.d c.in-Some-ended.home c.args.domains.now.items c.loop-taken.domains.items c.count_end-room.new.domains.items
    c.args.threads.now old c.take_out.new.self c.release_threads.new.self c.count_end-room.result c.loop-taken.invariant taken
    c.count_end-room.ensures c.release_threads.ensures

pub loop-taken-smaller : goal.loop-taken-smaller
loop-taken-smaller c = (c.in-Some.ensures.taken c.in-Some.taken refl).fewer_segments

pub loop-taken-preserved : goal.loop-taken-preserved
loop-taken-preserved c =
    let now = c.loop-taken.domains.items in
    let old = c.loop-taken.threads in
    let P : Option DomainId → Type 0 = λ o. TakesOut old c.take_out.new.self c.args.d o in
    let taken = subst P c.in_default-ended.is (c.in-Some.ensures.taken c.in-Some.taken refl) in
    none_ended c.args.d c.args.domains.now.items now c.args.threads.now old c.take_out.new.self c.loop-taken.invariant taken
