-- The name is cut after its last `/`.
use Rattle.std.proofs.Common.{inl, inr, arith, ◌≡◌, get_or, ◌-◌, ◌⊎◌}
use Rattle.member_lookup.proofs.OnePackage.{cut-is_package}
use Rattle.member_lookup.proofs.packages.package_of.Goals as goal
use Rattle.member_lookup.proofs.packages.package_of.Goals.{then-loop-end-test+else-name-end-ne-SLASH, else-loop-end-test}

pub returns : goal.returns
returns c =
    let ends : (c.loop-end.end ≡ 0) ⊎ (get_or c.args.name.now (c.loop-end.end - 1) 0 ≡ 47) = elim c.loop-end-test.branch [
      | then-loop-end-test+else-name-end-ne-SLASH w ↦ inr w.if-name-end-ne-SLASH.false
      | else-loop-end-test w ↦ inl (omega arith)
    ] in
    cut-is_package c.args.name.now c.loop-end.end c.loop-end.invariant.0 c.loop-end.invariant.1 ends
