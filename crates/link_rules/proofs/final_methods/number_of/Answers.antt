-- The number is counted from the place.
use Rattle.std.proofs.Common.{◌≡◌, ◌+◌, ℕ, Some, None, arith, length, subst}
use Rattle.jk_model_classes.specs.LinkRules.{HasFinalOverridden}
use Rattle.link_rules.specs.LinkFaults.{IsLeastNumber}
use Rattle.link_rules.proofs.FinalsAbove.{least_final}
use Rattle.link_rules.proofs.final_methods.number_of.Goals as goal

pub returns-in-None : goal.returns-in-None
returns-in-None c =
    least_final c.args.t.now c.args.class c.args.r.now c.requires.class None (rw c.in-None.is at c.requires.first)

pub returns-in-Some : goal.returns-in-Some
returns-in-Some c = λ s e f.
    let i = c.in-Some.i in
    let h = least_final c.args.t.now c.args.class c.args.r.now c.requires.class (Some i) (rw c.in-Some.is at c.requires.first) s e f in
    let number : length c.args.r.now.fields + i + 1 ≡ c.len.result + i + 1 = omega (arith, c.len.ensures) in
    subst (λ (n : ℕ). IsLeastNumber (HasFinalOverridden s) (Some n)) number h
