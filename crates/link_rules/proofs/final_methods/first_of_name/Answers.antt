-- The search finds the first place.
use Rattle.std.proofs.Common.{ℕ, Some, None, sym, subst}
use Rattle.link_rules.specs.FinalMethods.{IsFirstPlace, IsNamedAs}
use Rattle.link_rules.proofs.FinalsOfAClass.{named_first}
use Rattle.link_rules.proofs.final_methods.first_of_name.Goals as goal

pub returns-in-Some : goal.returns-in-Some
returns-in-Some c =
    let first = named_first c.args.t.now c.args.class c.args.methods.now c.args.method.now (Some c.in-Some.i) c.requires
    (rw c.of_method.ensures at (rw c.in-Some.is at c.own_method.ensures)) in
    subst (λ (n : ℕ). IsFirstPlace (IsNamedAs c.args.method.now) c.args.methods.now (Some n)) (sym c.from.ensures) first

pub returns-in-None : goal.returns-in-None
returns-in-None c =
    named_first c.args.t.now c.args.class c.args.methods.now c.args.method.now None c.requires
    (rw c.of_method.ensures at (rw c.in-None.is at c.own_method.ensures))
