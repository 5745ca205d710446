-- One text more is looked at.
use Rattle.std.proofs.Common.{◌<◌, ◌≤◌, List, Bool, length, ap, arith}
use Rattle.std.proofs.lemmas.Bool.{iff_false}
use Rattle.name_rules.specs.BadHierarchies.{folder_scope}
use Rattle.name_rules.proofs.BadParts.{no_interface_found, none_bad_more}
use Rattle.name_rules.proofs.MarksInTurn.{unmarked}
use Rattle.name_rules.proofs.hierarchies.has_bad_interface.Goals as goal
use Rattle.name_rules.proofs.hierarchies.has_bad_interface.Goals.{else-is_listed-via-then-is_listed+else-text_is_bad, else-is_listed-via-else-is_listed}

pub loop-n-preserved : goal.loop-n-preserved
loop-n-preserved c =
    let s = folder_scope c.args.x.now in
    let file = c.args.f.now.file in
    let n = c.loop-n.n in
    let known = c.in_ok-listed.ensures in
    let same = c.deref-is_listed-items.ensures.value in
    let below : n < length file.pool = omega (arith, c.loop-n-test.true, known.as_many, ap (λ (m : List Bool). length m) same) in
    none_bad_more s file n c.loop-n.invariant (λ listed bad.
    elim c.else-is_listed.branch [
      | else-is_listed-via-then-is_listed+else-text_is_bad w ↦ iff_false w.text_is_bad.ensures w.if-text_is_bad.false bad
      | else-is_listed-via-else-is_listed w ↦
          unmarked c.deref-is_listed-items.result.now c.in_ok-listed.listed.items n same w.if-is_listed.false ((known.at n below).1 listed)
    ])

pub returns : goal.returns
returns c =
    let s = folder_scope c.args.x.now in
    let file = c.args.f.now.file in
    let same = c.deref-is_listed-items.ensures.value in
    let all : length file.pool ≤ c.loop-n.n =
    omega (arith, c.loop-n-test.false, c.in_ok-listed.ensures.as_many, ap (λ (m : List Bool). length m) same) in
    (λ t. absurd cc, λ bad. absurd (no_interface_found s file c.loop-n.n all c.loop-n.invariant bad))
