-- What a store changed is handed on, and the rest fits already.
use Rattle.std.proofs.Common.{◌≡◌, ◌+◌, ◌-◌, sym, IsTrue, nat_abs, of_z, to_z, w32, arith}
use Rattle.std.proofs.lemmas.Int.{ints}
use Rattle.std.proofs.lemmas.Result.{IfOk-weaker}
use Rattle.type_verifier.specs.Progress.{notes_of}
use Rattle.type_verifier.specs.Covers.{AreHanded, LeafFits, nodes_of}
use Rattle.type_verifier.specs.Tasks.{scope_in}
use Rattle.type_verifier.proofs.MovesCompose.{Moves-refl}
use Rattle.type_verifier.proofs.WalksGoOn.{FitOutside-clipped}
use Rattle.type_verifier.proofs.storing.hand_on_stored.Goals as goal

pub returns-then-not-is_store-clause-moves : goal.returns-then-not-is_store-clause-moves
returns-then-not-is_store-clause-moves c = λ _.
    Moves-refl c.args.task.now c.args.progress.now.frames.items (notes_of c.args.progress.now) c.requires.ready.kept

pub hand_on-requires-clause-outside : goal.hand_on-requires-clause-outside
hand_on-requires-clause-outside c = λ seen there.
    let classes = c.args.task.now.view.table.now in
    let stored = c.requires.stored (sym c.if-not-is_store.ensures) in
    let is = stored.1 in
    let local : nat_abs (to_z w32 (of_z w32 c.args.i.now.a)) ≡ stored.0 = omega (arith, ints) in
    rw (c.saturating_sub.ensures, c.min.ensures, c.len.ensures, c.as_slice.ensures, local)
    (FitOutside-clipped classes (stored.0 - 1) (stored.0 + 2) c.args.frame.now.locals seen.locals (stored.2 seen there))

pub hand_on-requires-clause-below : goal.hand_on-requires-clause-below
hand_on-requires-clause-below c = λ typing types.
    rw c.as_slice.ensures (c.requires.below (sym c.if-not-is_store.ensures) typing types)

pub returns-clause-leaf : goal.returns-clause-leaf
returns-clause-leaf c =
    IfOk-weaker c.hand_on.result
    (λ yes. IsTrue yes → LeafFits (scope_in c.args.task.now) (nodes_of c.hand_on.new.nodes) c.args.leader c.as_slice.result.now c.args.frame.now.fresh)
    _ (λ yes told good store. rw (← c.as_slice.ensures) (told good)) c.hand_on.ensures.leaf

pub returns-clause-handed : goal.returns-clause-handed
returns-clause-handed c =
    IfOk-weaker c.hand_on.result
    (λ yes. IsTrue yes → AreHanded (scope_in c.args.task.now) c.hand_on.new.progress.frames.items c.args.leader c.as_slice.result.now c.args.frame.now.fresh)
    _ (λ yes told good store. rw (← c.as_slice.ensures) (told good)) c.hand_on.ensures.handed
