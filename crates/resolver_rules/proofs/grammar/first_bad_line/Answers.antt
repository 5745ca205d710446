-- The lines in turn.
use Rattle.std.proofs.Common.{arith}
use Rattle.std.proofs.lemmas.Bool.{iff_false}
use Rattle.jk_model_folders.specs.FolderRules.{class_paths}
use Rattle.resolver_rules.proofs.LinesInTurn.{one_line}
use Rattle.resolver_rules.proofs.WhatLinesSay.{all_passed, breaks_here, none_passed, one_passed}
use Rattle.resolver_rules.proofs.grammar.first_bad_line.Goals as goal

pub loop-line-init : goal.loop-line-init
loop-line-init c = record {
  passed = rw c.resolver-rest.ensures.bytes (none_passed (class_paths c.args.folder.now) c.args.folder.now.resolver);
  few = omega (arith, c.resolver-rest.ensures.short);
}

pub returns-then-branch : goal.returns-then-branch
returns-then-branch c =
    breaks_here (class_paths c.args.folder.now) c.args.folder.now.resolver c.loop-line.rest.now c.in-Some.line.now c.in-Some.after.now c.loop-line.number
    c.loop-line.invariant.passed c.in-Some.ensures (c.in_ok-is_bad_line.ensures.0 c.if-branch.true)

pub loop-line-preserved : goal.loop-line-preserved
loop-line-preserved c = record {
  passed = one_passed (class_paths c.args.folder.now) c.args.folder.now.resolver c.loop-line.rest.now c.in-Some.line.now c.in-Some.after.now
      c.loop-line.number c.loop-line.invariant.passed c.in-Some.ensures (iff_false c.in_ok-is_bad_line.ensures c.if-branch.false);
  few = omega (arith, c.loop-line.invariant.few, c.in-Some.ensures.shorter);
}

pub returns : goal.returns
returns c =
    all_passed (class_paths c.args.folder.now) c.args.folder.now.resolver c.loop-line.rest.now c.loop-line.number c.loop-line.invariant.passed
    c.in_default.ensures

pub is_bad_line-requires-clause-one : goal.is_bad_line-requires-clause-one
is_bad_line-requires-clause-one c = one_line c.in-Some.line.now c.in-Some.ensures.plain
