-- The member may not be accessed.
use Rattle.std.proofs.Common.{◌↔◌, IsTrue, sym, subst}
use Rattle.std.specs.Prelude.{not}
use Rattle.jk_model_classes.specs.declared.records.Link.{Link}
use Rattle.jk_model_classes.specs.declared.records.Member.TheVariants as Found
use Rattle.jk_model_classes.specs.Lookups.{MayAccess}
use Rattle.link_rules.specs.RefusedEntries.{RefusesLink}
use Rattle.link_rules.proofs.RefusedByLinks.{denied_by}
use Rattle.link_rules.proofs.refused_entries.is_refused.Goals as goal

pub returns-in-Field : goal.returns-in-Field
returns-in-Field c =
    subst (λ (l : Link). IsTrue (not c.may_access.result) ↔ RefusesLink c.args.t.now c.args.class l) (sym c.in-Field.is)
    (denied_by (MayAccess c.args.t.now c.args.class (Found.Field c.in-Field.m)) c.may_access.result c.may_access.ensures)

pub returns-in-Method : goal.returns-in-Method
returns-in-Method c =
    subst (λ (l : Link). IsTrue (not c.may_access-in-Method.result) ↔ RefusesLink c.args.t.now c.args.class l) (sym c.in-Method.is)
    (denied_by (MayAccess c.args.t.now c.args.class (Found.Method c.in-Method.m)) c.may_access-in-Method.result c.may_access-in-Method.ensures)
