-- The name is cut after its last `/`.
use Rattle.std.proofs.Common.{inl, inr, arith, ◌≡◌, get_or, ◌-◌, ◌⊎◌, ap, ◌∙◌}
use Rattle.member_lookup.proofs.OnePackage.{cut-is_package, package-unique}
use Rattle.shared_values.specs.Fingerprints.{fingerprint_of}
use Rattle.link_rules.proofs.met_finals.number_of_package.Goals as goal
use Rattle.link_rules.proofs.met_finals.number_of_package.Goals.{then-loop-end-test+else-name-end-ne-SLASH, else-loop-end-test}

pub returns : goal.returns
returns c =
    let ends : (c.loop-end.end ≡ 0) ⊎ (get_or c.args.name.now (c.loop-end.end - 1) 0 ≡ 47) = elim c.loop-end-test.branch [
      | then-loop-end-test+else-name-end-ne-SLASH w ↦ inr w.if-name-end-ne-SLASH.false
      | else-loop-end-test w ↦ inl (omega arith)
    ] in
    λ prefix is.
    c.fingerprint.ensures
    ∙ ap fingerprint_of
    (package-unique c.args.name.now _ prefix (cut-is_package c.args.name.now c.loop-end.end c.loop-end.invariant.0 c.loop-end.invariant.1 ends) is)
