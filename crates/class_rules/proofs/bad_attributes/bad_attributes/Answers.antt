-- The least of the first places is the least spot.
use Rattle.jk_model_classes.specs.MemberAttributes.{HasBadAttribute}
use Rattle.class_rules.proofs.LeastSpots.{least_spot}
use Rattle.class_rules.proofs.AttributesReadEach.{attributes_read_each, own_attributes, own_fields, own_methods}
use Rattle.class_rules.proofs.bad_attributes.bad_attributes.Goals as goal

pub returns : goal.returns
returns c =
    least_spot c.args.c.now _ _ _ _ (HasBadAttribute c.args.c.now) _ _ _ (attributes_read_each c.args.c.now)
    (record {
      class = own_attributes c.has_unnamed.result c.of-pool.result.entries.now c.args.c.now.pool c.as_slice-2.result.now c.args.c.now.attributes
          c.of-pool.ensures.entries c.as_slice-2.ensures c.has_unnamed.ensures;
      field = own_fields c.of-pool.result.entries.now c.args.c.now.pool c.as_slice-3.result.now c.args.c.now.fields c.first_field.result
          c.of-pool.ensures.entries c.as_slice-3.ensures c.first_field.ensures.least;
      method = own_methods c.args.c.now c.as_slice.result.now c.in_ok-method.method c.as_slice.ensures c.in_ok-method.ensures.least;
      entry = λ h. h.3;
    })
    c.len.ensures c.number.ensures
