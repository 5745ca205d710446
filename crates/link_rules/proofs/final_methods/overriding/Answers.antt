-- A final method is overridden by those of its name and type.
use Rattle.std.proofs.Common.{◌≡◌, false, true, sym, ◌∙◌}
use Rattle.link_rules.proofs.FinalsOfAClass.{overriding_named, overriding_none, overriding_unmarked}
use Rattle.link_rules.proofs.final_methods.overriding.Goals as goal

pub returns-then-not-has : goal.returns-then-not-has
returns-then-not-has c =
    overriding_unmarked c.args.t.now c.args.class c.args.m c.args.method.now c.requires.method (sym c.has.ensures ∙ c.if-not-has.true) c.args.methods.now

pub returns-then-not-is_final_in : goal.returns-then-not-is_final_in
returns-then-not-is_final_in c =
    overriding_none c.args.t.now c.args.class c.args.m c.args.methods.now
    (λ final. let both : false ≡ true = rw c.if-not-is_final_in.true at (c.is_final_in.ensures.1 final) in cc)

pub returns : goal.returns
returns c =
    overriding_named c.args.t.now c.args.class c.args.m c.args.method.now c.requires.method (c.is_final_in.ensures.0 c.if-not-is_final_in.false)
    c.args.methods.now c.first_of_name.result c.first_of_name.ensures
