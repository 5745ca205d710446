-- What the line says by itself is what it reads as.
use Rattle.std.proofs.Common.{◌↔◌, IfOk, IsTrue, subst, sym}
use Rattle.list_lemmas.proofs.ItemsByPlace.{item_lent}
use Rattle.jk_model_classes.specs.Resolver.{Reading}
use Rattle.jk_model_classes.specs.ResolverRules.{IsBadReading}
use Rattle.jk_model_folders.specs.FolderRules.{class_paths}
use Rattle.resolver_rules.proofs.WhatLinesSay.{says_this}
use Rattle.resolver_rules.proofs.grammar.is_bad_line.Goals as goal

pub returns-in-Some : goal.returns-in-Some
returns-in-Some c =
    let at = item_lent c.in-Ok.said 0 c.in-Some.line c.in-Some.ensures in
    let this = says_this c.args.line.now c.in-Ok.said c.in-Some.line.now c.requires.one c.in-Ok.ensures.read at in
    subst (λ (r : Reading). IfOk c.is_share_of_none.result (λ bad. IsTrue bad ↔ IsBadReading (class_paths c.args.folder.now) r)) (sym this)
    c.is_share_of_none.ensures
