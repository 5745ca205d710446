-- The body has code.
use Rattle.std.proofs.Common.{◌↔◌, IsTrue, List, subst, sym}
use Rattle.jk_model.specs.declared.instructions.Instr.{Instr}
use Rattle.jk_model_classes.specs.declared.records.Body.{Body}
use Rattle.jk_model_classes.specs.Items.{HasItem}
use Rattle.link_rules.specs.LinkedInstrs.{BodyHas, FindsWrong}
use Rattle.link_rules.proofs.members.has_wrong.Goals as goal

pub returns-in-Linked : goal.returns-in-Linked
returns-in-Linked c = λ s file same h.
    subst (λ (b : Body). IsTrue c.has_wrong_instr.result ↔ BodyHas (FindsWrong s file) b) (sym c.in-Linked.is)
    (subst (λ (w : List Instr). IsTrue c.has_wrong_instr.result ↔ HasItem (FindsWrong s file) w) c.as_slice.ensures
    (c.has_wrong_instr.ensures s file same h))
