-- A line outside the grammar would break L6.
use Rattle.std.proofs.Common.{ap, Err}
use Rattle.jk_model_folders.specs.FolderRules.{class_paths}
use Rattle.resolver_rules.proofs.WhatLinesSay.{outside_breaks}
use Rattle.resolver_rules.proofs.grammar.good_lines.Goals as goal

pub unreachable-requires : goal.unreachable-requires
unreachable-requires c =
    let bad = c.in-Err-BadResolver.ensures.bad c.in-Err-BadResolver.field-0-0 (ap Err c.in-Err-BadResolver.field-0-is) in
    let none = rw c.in_default.is at c.in_ok-line.ensures in
    none c.in-Err-BadResolver.field-0-0 (outside_breaks (class_paths c.args.folder.now) c.args.folder.now.resolver c.in-Err-BadResolver.field-0-0
    (rw c.resolver.ensures.bytes at bad))
