-- The entry is a reference.
use Rattle.std.proofs.Common.{sym, subst}
use Rattle.std.specs.Prelude.{IfOk}
use Rattle.jk_model.specs.declared.class_file.PoolEntry.{PoolEntry}
use Rattle.class_linker.specs.LinkParts.{LeadsTo}
use Rattle.class_linker.proofs.links.link_of.Goals as goal

pub returns-in-FieldRef-clause-link : goal.returns-in-FieldRef-clause-link
returns-in-FieldRef-clause-link c =
    subst (λ (e : PoolEntry). IfOk c.field_link.result (λ link. LeadsTo c.args.l.now e link)) (sym c.in-FieldRef.is) c.field_link.ensures.link

pub returns-in-MethodRef-clause-link : goal.returns-in-MethodRef-clause-link
returns-in-MethodRef-clause-link c =
    subst (λ (e : PoolEntry). IfOk c.method_link.result (λ link. LeadsTo c.args.l.now e link)) (sym c.in-MethodRef.is) c.method_link.ensures.link

pub returns-in-InterfaceMethodRef-clause-link : goal.returns-in-InterfaceMethodRef-clause-link
returns-in-InterfaceMethodRef-clause-link c =
    subst (λ (e : PoolEntry). IfOk c.method_link-in-InterfaceMethodRef.result (λ link. LeadsTo c.args.l.now e link)) (sym c.in-InterfaceMethodRef.is)
    c.method_link-in-InterfaceMethodRef.ensures.link
