-- The next method of that name and type is one, or none before the one after it is.
use Rattle.std.proofs.Common.{◌≡◌, false, true, arith}
use Rattle.member_lookup.proofs.RunnersOfAClass.{place-fits}
use Rattle.link_rules.proofs.FinalsOfAClass.{first-final, no-final, none-before_first, none-before_next}
use Rattle.link_rules.proofs.final_methods.own_final.Goals as goal

pub loop-index-init : goal.loop-index-init
loop-index-init c = none-before_first c.args.t.now c.args.class c.args.method.now.name c.args.method.now.kind c.args.d

pub returns-then-is_final_in : goal.returns-then-is_final_in
returns-then-is_final_in c =
    first-final c.args.t.now c.args.class c.args.method.now.name c.args.method.now.kind c.args.d _ _ c.loop-index.invariant
    (rw c.of_method-key.ensures at (rw c.in-Some.is at c.own_method.ensures)) (c.is_final_in.ensures.0 c.if-is_final_in.true)

pub overflow_add-from : goal.overflow_add-from
overflow_add-from c =
    let found = rw c.in-Some.is at c.own_method.ensures in
    let fits = place-fits c.args.t.now c.ordered.ensures.members _ _ found.suits.1 in
    omega arith

pub loop-index-preserved : goal.loop-index-preserved
loop-index-preserved c =
    none-before_next c.args.t.now c.args.class c.args.method.now.name c.args.method.now.kind c.args.d _ _ c.loop-index.invariant
    (rw c.of_method-key.ensures at (rw c.in-Some.is at c.own_method.ensures))
    (λ final. let both : false ≡ true = rw c.if-is_final_in.false at (c.is_final_in.ensures.1 final) in cc)

pub loop-index-smaller : goal.loop-index-smaller
loop-index-smaller c =
    let found = rw c.in-Some.is at c.own_method.ensures in
    let fits = place-fits c.args.t.now c.ordered.ensures.members _ _ found.suits.1 in
    let after = found.not_before in
    omega arith

pub returns : goal.returns
returns c =
    no-final c.args.t.now c.args.class c.args.method.now.name c.args.method.now.kind c.args.d _ c.loop-index.invariant
    (rw c.of_method-key.ensures at (rw c.in_default.is at c.own_method.ensures))
