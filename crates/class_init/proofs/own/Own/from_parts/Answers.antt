-- A state that knows the texts gets the parts.
use Rattle.std.proofs.Common.{◌≡◌, ap}
use Rattle.class_init.specs.KeptStates.{KeptState}
use Rattle.class_init.specs.Parts.{FitsAll}
use Rattle.class_init.proofs.RestoredState.{AreKnown, parts_fit, restored_has_parts, restored_has_rooms, restored_is_state, texts_of_parts_differ}
use Rattle.class_init.proofs.own.Own.from_parts.Goals as goal

pub restore_all-requires : goal.restore_all-requires
restore_all-requires c =
    let s = c.requires.state in
    let classes : c.own.inside.classes ≡ c.in_ok-own.own.state.classes = ap (λ (o : KeptState). o.state.classes) c.own.view_is in
    let fit : FitsAll c.args.parts.classes c.in_ok-own.own.state.classes =
    parts_fit c.args.t.now c.args.names.now c.in_ok-own.own.state s.0 c.args.parts c.in_ok-own.ensures.state s.1 s.2 in
    rw (c.as_slice-2.ensures, classes) fit

pub restore_all-requires-2-clause-known : goal.restore_all-requires-2-clause-known
restore_all-requires-2-clause-known c =
    let texts : c.own.inside.literals.texts ≡ c.in_ok-own.own.rooms = ap (λ (o : KeptState). o.rooms) c.own.view_is in
    let known : AreKnown c.in_ok-own.own.rooms c.args.parts = rw c.as_slice.ensures at c.in_ok-own.ensures.known in
    rw (c.as_slice-3.ensures, texts) known

pub restore_all-requires-2-clause-differ : goal.restore_all-requires-2-clause-differ
restore_all-requires-2-clause-differ c =
    let s = c.requires.state in
    rw c.as_slice-3.ensures (texts_of_parts_differ s.0 c.args.parts s.1.literals_differ s.2)

pub returns-clause-state : goal.returns-clause-state
returns-clause-state c =
    let s = c.requires.state in
    let classes : c.own.inside.classes ≡ c.in_ok-own.own.state.classes = ap (λ (o : KeptState). o.state.classes) c.own.view_is in
    rw (c.restore_all.ensures, c.restore_all-2.ensures, c.as_slice-2.ensures, c.as_slice-3.ensures, classes)
    (restored_is_state c.args.t.now c.args.names.now c.in_ok-own.own.state s.0 c.args.parts c.in_ok-own.ensures.state s.1 s.2)

pub returns-clause-rooms : goal.returns-clause-rooms
returns-clause-rooms c =
    let classes : c.own.inside.classes ≡ c.in_ok-own.own.state.classes = ap (λ (o : KeptState). o.state.classes) c.own.view_is in
    let texts : c.own.inside.literals.texts ≡ c.in_ok-own.own.rooms = ap (λ (o : KeptState). o.rooms) c.own.view_is in
    let known : AreKnown c.in_ok-own.own.rooms c.args.parts = rw c.as_slice.ensures at c.in_ok-own.ensures.known in
    rw (c.restore_all.ensures, c.restore_all-2.ensures, c.as_slice-2.ensures, c.as_slice-3.ensures, classes, texts)
    (restored_has_rooms c.args.t.now c.args.names.now c.in_ok-own.own c.args.parts c.in_ok-own.ensures.rooms known)

pub returns-clause-parts : goal.returns-clause-parts
returns-clause-parts c =
    let s = c.requires.state in
    let classes : c.own.inside.classes ≡ c.in_ok-own.own.state.classes = ap (λ (o : KeptState). o.state.classes) c.own.view_is in
    rw (c.restore_all.ensures, c.as_slice-2.ensures, c.restore_all-2.ensures, c.as_slice-3.ensures, classes)
    (restored_has_parts c.args.t.now c.args.names.now c.in_ok-own.own.state s.0 c.args.parts c.in_ok-own.ensures.state s.1 s.2)
