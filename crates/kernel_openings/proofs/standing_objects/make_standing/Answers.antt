-- Each object fits, and is made behind those before it.
use Rattle.std.proofs.Common.{◌≡◌, ◌+◌, ℕ, get_or, slice_set, ap, subst, sym, ◌∙◌, arith}
use Rattle.jk_model_classes.specs.Classes.{HasClass}
use Rattle.jk_model_domains.specs.Objects.{PRINT_STREAM}
use Rattle.class_init.specs.KeptStates.{KeptState}
use Rattle.kernel_openings.specs.StandingObjects.{opening_classes}
use Rattle.kernel_openings.proofs.StandingSoFar.{StandingSoFar, all_standing, class_there, got_class, got_place, room_left, standing_put, stream_fits, stream_made}
use Rattle.kernel_openings.proofs.standing_objects.make_standing.Goals as goal

pub make_plain-requires-clause-room : goal.make_plain-requires-clause-room
make_plain-requires-clause-room g c =
    let fits = stream_fits c.args.t.now c.requires.classes in
    let room = c.requires.room in
    omega (arith, fits, room)

pub loop-s-init : goal.loop-s-init
loop-s-init g c =
    subst
    (λ (k : KeptState).
    StandingSoFar (g.H.ObjectStore.content c.args.heap.now) (g.H.ObjectStore.content c.make_plain.new.heap) c.args.t.now c.args.d c.args.own.now k 0)
    (sym c.set_out.ensures)
    (stream_made (g.H.ObjectStore.content c.args.heap.now) (g.H.ObjectStore.content c.make_plain.new.heap) c.args.t.now c.args.d c.args.own.now
    c.make_plain.result c.requires.standing c.make_plain.ensures)

pub make_plain-requires-in-loop-s-clause-there : goal.make_plain-requires-in-loop-s-clause-there
make_plain-requires-in-loop-s-clause-there g c =
    let is : c.standing_class.result ≡ get_or opening_classes (c.loop-s.s-index + 1) PRINT_STREAM =
    c.standing_class.ensures ∙ got_class c.loop-s.s-index c.loop-s-test.true in
    subst (HasClass c.args.t.now) (sym is) (class_there c.args.t.now c.requires.classes c.loop-s.s-index c.loop-s-test.true)

pub make_plain-requires-in-loop-s-clause-room : goal.make_plain-requires-in-loop-s-clause-room
make_plain-requires-in-loop-s-clause-room g c =
    room_left (g.H.ObjectStore.content c.args.heap.now) (g.H.ObjectStore.content c.loop-s.heap) c.args.t.now c.args.d c.args.own.now c.loop-s.own
    c.loop-s.s-index c.loop-s-test.true c.loop-s.invariant c.requires.classes c.requires.room c.standing_class.result
    (c.standing_class.ensures ∙ got_class c.loop-s.s-index c.loop-s-test.true)

pub loop-s-preserved : goal.loop-s-preserved
loop-s-preserved g c =
    let place = got_place c.loop-s.s-index c.loop-s-test.true in
    standing_put (g.H.ObjectStore.content c.args.heap.now) (g.H.ObjectStore.content c.loop-s.heap) c.args.t.now c.args.d c.args.own.now c.loop-s.own
    c.loop-s.s-index c.loop-s-test.true c.loop-s.invariant (g.H.ObjectStore.content c.make_plain-in-loop-s.new.heap) c.make_plain-in-loop-s.result
    c.standing_class.result (c.standing_class.ensures ∙ got_class c.loop-s.s-index c.loop-s-test.true) c.make_plain-in-loop-s.ensures
    c.set_standing.new.self
    (c.set_standing.ensures
    ∙ ap (λ (n : ℕ). let k : KeptState = record c.loop-s.own {
      state = record c.loop-s.own.state { standing = slice_set c.loop-s.own.state.standing n c.make_plain-in-loop-s.result };
    } in k) place)

pub returns : goal.returns
returns g c =
    let end : c.loop-s.s-index ≡ 8 = omega (arith, c.loop-s-test.false, c.loop-s.auto.s-index-end) in
    all_standing (g.H.ObjectStore.content c.args.heap.now) (g.H.ObjectStore.content c.loop-s.heap) c.args.t.now c.args.d c.args.own.now c.loop-s.own
    c.loop-s.s-index end (g.met.H.ObjectStore.holds c.loop-s.heap) c.loop-s.invariant
