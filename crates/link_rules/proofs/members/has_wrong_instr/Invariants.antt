-- No instruction so far finds a member of the wrong sort.
use Rattle.std.proofs.Common.{◌≡◌}
use Rattle.jk_model.specs.declared.class_file.ClassFile.{ClassFile}
use Rattle.jk_model_classes.specs.Items.{HasItemBefore}
use Rattle.jk_model_classes.specs.LinkRules.{LinkScope}
use Rattle.jk_model_folders.specs.LinkedClasses.{AreLinksFor}
use Rattle.link_rules.specs.LinkedInstrs.{FindsWrong}
use Rattle.link_rules.proofs.members.has_wrong_instr.Given as goal

abbrev pub invariant-loop-i : goal.invariant-loop-i
invariant-loop-i l =
    (s : LinkScope) (c : ClassFile) → s.classes ≡ l.t → AreLinksFor s c l.fn.links → HasItemBefore l.i (FindsWrong s c) l.instrs → ⊥
