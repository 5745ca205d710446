-- A level more has seen nothing.
use Rattle.std.proofs.Common.{[], length, get_or, subst, arith}
use Rattle.std.proofs.lemmas.List.{map-append}
use Rattle.std.proofs.lemmas.Option.{slice_get-get_or}
use Rattle.type_verifier.specs.Climbs.{AllUnseen}
use Rattle.type_verifier.specs.Covers.{nodes_of}
use Rattle.type_verifier.proofs.NodesUnseen.{UnseenTo-push}
use Rattle.type_verifier.proofs.handing.unseen.Goals as goal

pub loop-level-preserved : goal.loop-level-preserved
loop-level-preserved c =
    let tree = c.args.task.now.tree in
    let at = slice_get-get_or tree c.loop-level.level [] (omega arith) in
    let row = c.in_ok-unseen_row.field-0.items in
    let none : AllUnseen (length (get_or tree c.loop-level.level [])) row =
    subst (λ n. AllUnseen n row) (c.width.ensures _ at) c.in_ok-unseen_row.ensures in
    rw c.in_ok-push.ensures.items
    (rw map-append (UnseenTo-push tree (nodes_of c.loop-level.nodes) c.loop-level.level _ row c.loop-level.invariant at none))
