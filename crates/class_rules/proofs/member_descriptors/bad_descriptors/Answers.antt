-- The least of a field, a method and an entry with a bad descriptor is the least spot.
use Rattle.std.proofs.Common.{rules}
use Rattle.jk_model_classes.specs.MemberDescriptors.{HasBadDescriptor}
use Rattle.class_rules.specs.Entries.{IsBadReference}
use Rattle.class_rules.proofs.Decisions.{never_true}
use Rattle.class_rules.proofs.FirstItems.{least_item}
use Rattle.class_rules.proofs.KnownTexts.{of_entries}
use Rattle.class_rules.proofs.LeastSpots.{least_spot}
use Rattle.class_rules.proofs.RulesReadEach.{LacksFieldType, LacksMethodType, descriptors_read_each}
use Rattle.class_rules.proofs.member_descriptors.bad_descriptors.Goals as goal

pub returns : goal.returns
returns c =
    let entries = c.of-pool.result.entries.now in
    let pool = c.args.c.now.pool in
    let same = c.of-pool.ensures.entries in
    least_spot c.args.c.now _ _ _ _ (HasBadDescriptor c.args.c.now) _ _ _ (descriptors_read_each c.args.c.now)
    (record {
      class = never_true;
      field =
          least_item (LacksFieldType pool) _ _ _ _ _ c.as_slice.ensures c.first_at.ensures.first
          (λ x b h. of_entries (λ p. LacksFieldType p x.now) entries pool b same (search rules));
      method = least_item (LacksMethodType c.args.c.now) _ _ _ _ _ c.as_slice-2.ensures c.first_at-2.ensures.first (λ x b h. search rules);
      entry =
          least_item (IsBadReference pool) _ _ _ _ _ c.as_slice-3.ensures c.first_at-3.ensures.first
          (λ x b h. of_entries (λ p. IsBadReference p x.now) entries pool b same (search rules));
    })
    c.len.ensures c.number.ensures
