-- The entry is a reference to a method.
use Rattle.std.proofs.Common.{sym, subst}
use Rattle.jk_model.specs.declared.class_file.PoolEntry.{PoolEntry}
use Rattle.link_rules.specs.MissingMembers.{IsMissingBy}
use Rattle.link_rules.proofs.missing_members.is_missing.Goals as goal

pub returns-in-MethodRef : goal.returns-in-MethodRef
returns-in-MethodRef c =
    subst (λ (e : PoolEntry). IsMissingBy c.args.t.now e c.args.link.now c.names_interface.result) (sym c.in-MethodRef.is) c.names_interface.ensures

pub returns-in-InterfaceMethodRef : goal.returns-in-InterfaceMethodRef
returns-in-InterfaceMethodRef c =
    subst (λ (e : PoolEntry). IsMissingBy c.args.t.now e c.args.link.now c.names_no_interface.result) (sym c.in-InterfaceMethodRef.is)
    c.names_no_interface.ensures
