-- invokevirtual selects at the class of its receiver.
use Rattle.std.proofs.Common.{◌≢◌, rules}
use Rattle.jk_model.specs.declared.values.Value.TheVariants as Held
use Rattle.call_ops.specs.CodeTargets.{target_of}
use Rattle.call_ops.proofs.TargetsByReceiver.{virtual_comes}
use Rattle.call_ops.proofs.targets.target_at.Goals as goal

pub returns-in-182 : goal.returns-in-182
returns-in-182 g c =
    let some : c.args.receiver ≢ Held.Null = search rules in
    virtual_comes c.args.t.now ((g.H.ObjectStore.content c.args.heap.now).heap c.args.d) c.args.at.now.instr.now.op c.args.at.now.code.class
    c.args.named c.args.method.now c.args.receiver (target_of c.args.named c.selected.result) c.in-182.is some
    (c.run_class.result, c.run_class.ensures, c.selected.ensures)
