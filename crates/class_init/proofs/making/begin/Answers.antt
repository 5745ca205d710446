-- One name after the other brings its class.
use Rattle.std.proofs.Common.{◌≡◌, ◌<◌, Some, length, refl, arith}
use Rattle.std.proofs.lemmas.Option.{slice_get_read}
use Rattle.list_lemmas.proofs.FoundItems.{no_entry}
use Rattle.jk_model_classes.specs.Classes.{HasClass, record_of}
use Rattle.jk_model_classes.specs.Worlds.{NamedClass}
use Rattle.class_init.proofs.BegunInTurn.{begun_more, begun_none, name_at, name_is_named}
use Rattle.class_init.proofs.making.begin.Goals as goal
use Rattle.class_init.proofs.making.begin.Goals.{in-Some+in-Some-class+in_ok-add_class, in-Some+in_default-class, in_default}

pub loop-i-init : goal.loop-i-init
loop-i-init c = rw (c.new.ensures, c.new-2.ensures) (begun_none c.args.t.now c.args.names.now)

pub loop-i-preserved : goal.loop-i-preserved
loop-i-preserved c =
    elim c.match-class_at.branch [
      | in-Some+in-Some-class+in_ok-add_class w ↦
          let t = c.args.t.now in
          let r = w.in-Some-class.class.now in
          let at = name_at c.args.names.now c.loop-i.i w.in-Some.c w.in-Some.ensures in
          let low : HasClass t w.in-Some.c = rw at.means at (c.requires.there at.entry.class (name_is_named c.args.names.now c.loop-i.i at.entry at.there)) in
          let is : record_of t w.in-Some.c ≡ Some r = slice_get_read t (length t) w.in-Some.c.0 r refl low w.in-Some-class.ensures.1 in
          rw w.begun-is
          (begun_more t c.args.names.now c.loop-i.i c.loop-i.begun.classes w.add_class.new.begun.classes c.loop-i.begun.texts w.add_class.new.begun.texts
          at.entry r c.loop-i.invariant at.there (rw at.means is) (rw at.means w.in_ok-add_class.ensures.part) w.in_ok-add_class.ensures.texts)
      | in-Some+in_default-class w ↦
          let at = name_at c.args.names.now c.loop-i.i w.in-Some.c w.in-Some.ensures in
          let low : HasClass c.args.t.now w.in-Some.c =
          rw at.means at (c.requires.there at.entry.class (name_is_named c.args.names.now c.loop-i.i at.entry at.there)) in
          let some = w.in_default-class.ensures.2 low in
          absurd (cc)
      | in_default w ↦
          let low : c.loop-i.i < length c.args.names.now = omega (arith, c.loop-i-test.true, c.len-i-end.ensures) in
          absurd (no_entry (λ (e : NamedClass). e.class) c.args.names.now c.loop-i.i w.in_default.ensures low)
    ]

pub returns : goal.returns
returns c =
    let whole : c.loop-i.i ≡ length c.args.names.now = omega (arith, c.loop-i.auto.i-end, c.loop-i-test.false, c.len-i-end.ensures) in
    rw whole at c.loop-i.invariant
