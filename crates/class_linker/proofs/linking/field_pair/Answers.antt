-- The name and the type are those of the entry.
use Rattle.jk_model_classes.specs.declared.records.TypeRef.{TypeRef}
use Rattle.class_linker.specs.TextsSaid.{SaysField}
use Rattle.class_linker.proofs.TextsAreSaid.{pair_by}
use Rattle.class_linker.proofs.linking.field_pair.Goals as goal

pub returns-in-Some : goal.returns-in-Some
returns-in-Some c =
    pair_by (λ (k : TypeRef). k) (SaysField c.args.l.now.names.now c.args.l.now.pool.now) c.args.l.now.pool.now c.args.i c.in-Some.pair.0 c.in-Some.pair.1
    c.field_by.result c.in-Some.ensures c.field_by.ensures

pub returns-in-None : goal.returns-in-None
returns-in-None c = λ name kind (n, d, at, text, says). c.in-None.ensures (n, d) at
