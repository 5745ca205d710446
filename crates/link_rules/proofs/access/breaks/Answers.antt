-- The body has code.
use Rattle.std.proofs.Common.{◌↔◌, IsTrue, List, subst, sym}
use Rattle.jk_model.specs.declared.instructions.Instr.{Instr}
use Rattle.jk_model_classes.specs.declared.records.Body.{Body}
use Rattle.jk_model_classes.specs.Items.{HasItem}
use Rattle.link_rules.specs.LinkedInstrs.{BodyHas, BreaksAccess}
use Rattle.link_rules.proofs.access.breaks.Goals as goal

pub returns-in-Linked : goal.returns-in-Linked
returns-in-Linked c = λ s same own h.
    subst (λ (b : Body). IsTrue c.has_breaking.result ↔ BodyHas (BreaksAccess s c.args.c.now) b) (sym c.in-Linked.is)
    (subst (λ (w : List Instr). IsTrue c.has_breaking.result ↔ HasItem (BreaksAccess s c.args.c.now) w) c.as_slice.ensures
    (c.has_breaking.ensures s same own h))
