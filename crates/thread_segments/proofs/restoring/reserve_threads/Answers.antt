-- Room is made for one more domain.
use Rattle.std.proofs.Common.{◌≡◌, List, add-one, arith, subst, take_all}
use Rattle.std.proofs.lemmas.Option.{slice_get-get_or}
use Rattle.thread_segments.specs.declared.parts.DomainPart.{DomainPart}
use Rattle.thread_segments.specs.RestoredParts.{with_thread_room}
use Rattle.thread_segments.proofs.RoomAsked.{more_thread_room, no_thread_room}
use Rattle.thread_segments.proofs.restoring.reserve_threads.Goals as goal

pub loop-domain-init : goal.loop-domain-init
loop-domain-init c = no_thread_room c.args.threads.now

pub loop-domain-preserved : goal.loop-domain-preserved
loop-domain-preserved c =
    let k = c.loop-domain.domain-index in
    let at = slice_get-get_or c.args.domains.now k _ c.loop-domain-test.true in
    rw (add-one k)
    (more_thread_room c.args.domains.now k _ at c.args.threads.now c.loop-domain.threads c.reserve.new.self _ _ c.loop-domain.invariant
    c.asked.ensures c.asked-in-loop-domain.ensures c.in_ok-reserve.ensures.ok)

pub returns : goal.returns
returns c =
    let P : List DomainPart → Type 0 = λ ds. c.loop-domain.threads ≡ with_thread_room ds c.args.threads.now in
    subst P (take_all c.loop-domain.domain-index c.args.domains.now (omega (arith, c.loop-domain-test.false))) c.loop-domain.invariant
