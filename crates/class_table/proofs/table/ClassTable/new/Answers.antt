-- Each record is put after those before it.
use Rattle.std.proofs.Common.{length, ap, arith}
use Rattle.std.proofs.lemmas.List.{length_push}
use Rattle.class_table.proofs.SystemClassesInTurn.{system-more}
use Rattle.class_table.proofs.table.ClassTable.new.Goals as goal

pub loop-n-preserved : goal.loop-n-preserved
loop-n-preserved c =
    record {
      many = omega (arith, ap length c.in_ok-add.ensures.ok, length_push c.loop-n.table c.in_ok-class.class, c.loop-n.invariant.many);
      each =
          system-more c.loop-n.table c.add.new.self c.loop-n.n c.in_ok-class.class c.loop-n.invariant.many c.loop-n.invariant.each
          c.in_ok-add.ensures.ok c.in_ok-class.ensures.record_is;
    }
