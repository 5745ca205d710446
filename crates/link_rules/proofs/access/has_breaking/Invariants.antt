-- No instruction so far puts to a final field of another class, or makes what it may not.
use Rattle.std.proofs.Common.{◌≡◌}
use Rattle.jk_model_classes.specs.Items.{HasItemBefore}
use Rattle.jk_model_classes.specs.LinkRules.{LinkScope}
use Rattle.jk_model_folders.specs.LinkedClasses.{AreLinksFor}
use Rattle.link_rules.specs.LinkedInstrs.{BreaksAccess}
use Rattle.link_rules.proofs.access.has_breaking.Given as goal

abbrev pub invariant-loop-i : goal.invariant-loop-i
invariant-loop-i l =
    (s : LinkScope) → s.classes ≡ l.t → s.self ≡ l.class → AreLinksFor s l.fn.c l.fn.links → HasItemBefore l.i (BreaksAccess s l.fn.c) l.instrs → ⊥
