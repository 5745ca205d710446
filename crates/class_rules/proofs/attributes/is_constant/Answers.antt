-- A constant is known by the shape of the field's type.
use Rattle.class_rules.proofs.ConstantsByFacts.{no_descriptor, no_kind, no_index, constant_known}
use Rattle.class_rules.proofs.attributes.is_constant.Goals as goal

pub returns-in_default : goal.returns-in_default
returns-in_default c = no_descriptor c.args.pool.now.entries.now c.args.field.now c.args.body.now c.in_default.ensures

pub returns-in_default-constant_kind : goal.returns-in_default-constant_kind
returns-in_default-constant_kind c =
    no_kind c.args.pool.now.entries.now c.args.field.now c.args.body.now c.in-Some.descriptor c.in-Some.ensures c.in_default-constant_kind.ensures

pub returns-in-None : goal.returns-in-None
returns-in-None c = no_index c.args.pool.now.entries.now c.args.field.now c.args.body.now c.in-None.ensures

pub returns-in-Some-index_of : goal.returns-in-Some-index_of
returns-in-Some-index_of c =
    constant_known c.names_constant.result c.args.pool.now.entries.now c.args.field.now c.args.body.now c.in-Some.descriptor
    c.in-Some-constant_kind.kind c.in-Some-index_of.i c.in-Some.ensures c.in-Some-constant_kind.ensures c.in-Some-index_of.ensures
    c.names_constant.ensures
