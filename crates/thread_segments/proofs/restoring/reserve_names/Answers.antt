-- Room is made for one more domain.
use Rattle.std.proofs.Common.{◌≡◌, List, add-one, arith, subst, take_all}
use Rattle.std.proofs.lemmas.Option.{slice_get-get_or}
use Rattle.thread_segments.specs.declared.parts.DomainPart.{DomainPart}
use Rattle.thread_segments.specs.RestoredParts.{with_name_room}
use Rattle.thread_segments.proofs.RoomAsked.{more_name_room, no_name_room}
use Rattle.thread_segments.proofs.restoring.reserve_names.Goals as goal

pub loop-domain-init : goal.loop-domain-init
loop-domain-init c = no_name_room c.args.names.now

pub loop-domain-preserved : goal.loop-domain-preserved
loop-domain-preserved c =
    let k = c.loop-domain.domain-index in
    let at = slice_get-get_or c.args.domains.now k _ c.loop-domain-test.true in
    rw (add-one k)
    (more_name_room c.args.domains.now k _ at c.args.names.now c.loop-domain.names c.reserve.new.self _ c.loop-domain.invariant c.asked.ensures
    c.in_ok-reserve.ensures.ok)

pub returns : goal.returns
returns c =
    let P : List DomainPart → Type 0 = λ ds. c.loop-domain.names ≡ with_name_room ds c.args.names.now in
    subst P (take_all c.loop-domain.domain-index c.args.domains.now (omega (arith, c.loop-domain-test.false))) c.loop-domain.invariant
