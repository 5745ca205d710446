-- One class more, or an array that is left out.
use Rattle.std.proofs.Common.{arith}
use Rattle.std.proofs.Math.ListN.{get_or}
use Rattle.std.proofs.lemmas.Option.{slice_get-get_or}
use Rattle.jk_model.specs.ClassFile.{IsClassEntry, NamesEntry}
use Rattle.jk_model.proofs.EachItem.{all_at}
use Rattle.class_linker.proofs.ThrownInTurn.{thrown_more, thrown_all}
use Rattle.class_linker.proofs.thrown.classes_of.Goals as goal

pub loop-i-init : goal.loop-i-init
loop-i-init c = λ s named. c.new-thrown.ensures

pub class_of_entry-class-requires-clause-class : goal.class_of_entry-class-requires-clause-class
class_of_entry-class-requires-clause-class c =
    all_at (NamesEntry IsClassEntry c.args.scope.now.file.now.pool) c.args.indices.now c.loop-i.i-index (get_or c.args.indices.now c.loop-i.i-index 0)
    c.requires.classes
    (slice_get-get_or c.args.indices.now c.loop-i.i-index 0 c.loop-i-test.true)

pub loop-i-preserved : goal.loop-i-preserved
loop-i-preserved c =
    thrown_more c.args.scope.now.names.now c.args.scope.now.file.now c.args.indices.now c.loop-i.i-index 0 c.class_of_entry-class.result c.loop-i.thrown _
    c.loop-i-test.true c.class_of_entry-class.ensures c.loop-i.invariant c.in_ok-add_some.ensures

pub returns : goal.returns
returns c =
    thrown_all c.args.scope.now.names.now c.args.scope.now.file.now c.args.indices.now c.loop-i.i-index c.loop-i.thrown (omega arith) c.loop-i.invariant
