-- The class that is asked is the next one upwards.
use Rattle.std.proofs.Common.{◌≡◌, false, true, [], ◌∷◌, None, refl}
use Rattle.member_lookup.proofs.WalksUpwards.{height-falls}
use Rattle.link_rules.specs.FinalMethods.{IsInside, OverridesSo, OverridesWhere}
use Rattle.link_rules.proofs.FinalsAbove.{all-asked, next-above, none-asked, none_alone, not_alone, one-asked}
use Rattle.link_rules.proofs.final_methods.overrides_from.Goals as goal

pub loop-next-init : goal.loop-next-init
loop-next-init c =
    none-asked (IsInside c.args.first) c.args.t.now c.ordered.ensures.ordered c.args.class (c.args.method.now ∷ []) c.parent_of-next.result
    c.parent_of-next.ensures

pub returns-then-overrides_inside : goal.returns-then-overrides_inside
returns-then-overrides_inside c =
    let above = next-above (IsInside c.args.first) c.args.t.now c.ordered.ensures.ordered c.args.class (c.args.method.now ∷ []) c.loop-next.next
    c.in-Some.d None c.in-Some.is c.loop-next.invariant in (
      λ _. (c.in-Some.d, above.0, above.1, c.overrides_inside.ensures.0 c.if-overrides_inside.true),
      λ _. refl,
    )

pub loop-next-preserved : goal.loop-next-preserved
loop-next-preserved c =
    one-asked (IsInside c.args.first) c.args.t.now c.ordered.ensures.ordered c.args.class (c.args.method.now ∷ []) c.loop-next.next
    c.parent_of-next-in-Some.result c.in-Some.d None None None c.in-Some.is c.parent_of-next-in-Some.ensures c.loop-next.invariant
    (none_alone (OverridesSo (IsInside c.args.first) c.args.t.now c.args.class c.in-Some.d) c.args.method.now
    (λ over. let both : false ≡ true = rw c.if-overrides_inside.false at (c.overrides_inside.ensures.1 over) in cc)) refl

pub loop-next-smaller : goal.loop-next-smaller
loop-next-smaller c = height-falls c.args.t.now c.ordered.ensures.ordered _ _ _ c.in-Some.is c.parent_of-next-in-Some.ensures

pub returns : goal.returns
returns c =
    let none = not_alone (OverridesWhere (IsInside c.args.first) c.args.t.now c.args.class) c.args.method.now
    (all-asked (IsInside c.args.first) c.args.t.now c.ordered.ensures.ordered c.args.class (c.args.method.now ∷ []) c.loop-next.next None
    c.in_default.is c.loop-next.invariant) in
    (λ t. absurd cc, λ over. absurd (none over))
