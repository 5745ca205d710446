-- The least of the class, a field and a method with bad flags is the least spot.
use Rattle.std.proofs.Common.{rules}
use Rattle.jk_model_classes.specs.ClassFlags.{HasBadMethodFlags, HasBadFlags}
use Rattle.class_rules.proofs.FirstItems.{least_item}
use Rattle.class_rules.proofs.LeastSpots.{least_spot}
use Rattle.class_rules.proofs.RulesReadEach.{IsBadField, flags_read_each}
use Rattle.class_rules.proofs.flags.bad_flags.Goals as goal

pub returns : goal.returns
returns c =
    least_spot c.args.c.now _ _ _ _ (HasBadFlags c.args.c.now) _ _ _ (flags_read_each c.args.c.now)
    (record {
      class = search rules;
      field = least_item (IsBadField c.args.c.now) _ _ _ _ _ c.as_slice.ensures c.first_at.ensures.first (λ x b h. search rules);
      method = least_item (HasBadMethodFlags c.args.c.now) _ _ _ _ _ c.as_slice-2.ensures c.first_at-2.ensures.first (λ x b h. search rules);
      entry = λ h. h.3;
    })
    c.len.ensures c.number.ensures
