-- The name and the type are those of the entry.
use denote.Ref.{Bor}
use Rattle.jk_model.specs.declared.descriptors.MethodType.{MethodType}
use Rattle.class_linker.specs.TextsSaid.{SaysMethod}
use Rattle.class_linker.proofs.TextsAreSaid.{pair_by}
use Rattle.class_linker.proofs.linking.method_pair.Goals as goal

pub returns-in-Some : goal.returns-in-Some
returns-in-Some c =
    pair_by (λ (k : Bor MethodType). k.now) (SaysMethod c.args.l.now.pool.now) c.args.l.now.pool.now c.args.i c.in-Some.pair.0 c.in-Some.pair.1
    c.method_by.result c.in-Some.ensures c.method_by.ensures

pub returns-in-None : goal.returns-in-None
returns-in-None c = λ name kind (n, d, at, text, says). c.in-None.ensures (n, d) at
