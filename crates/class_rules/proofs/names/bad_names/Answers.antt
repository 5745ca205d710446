-- The least of the class, a field, a method and an entry that is badly named is the least spot.
use Rattle.std.proofs.Common.{rules}
use Rattle.jk_model_classes.specs.ClassNames.{HasBadName}
use Rattle.class_rules.specs.Entries.{IsBadlyNamed}
use Rattle.class_rules.proofs.FirstItems.{least_item}
use Rattle.class_rules.proofs.KnownTexts.{of_entries}
use Rattle.class_rules.proofs.LeastSpots.{least_spot}
use Rattle.class_rules.proofs.RulesReadEach.{LacksName, LacksMethodName, names_read_each}
use Rattle.class_rules.proofs.names.bad_names.Goals as goal

pub returns : goal.returns
returns c =
    let entries = c.of-pool.result.entries.now in
    let pool = c.args.c.now.pool in
    let same = c.of-pool.ensures.entries in
    least_spot c.args.c.now _ _ _ _ (HasBadName c.args.c.now) _ _ _ (names_read_each c.args.c.now)
    (record {
      class = c.has_bad_header.ensures;
      field =
          least_item (LacksName pool) _ _ _ _ _ c.as_slice.ensures c.first_at.ensures.first
          (λ x b h. of_entries (λ p. LacksName p x.now) entries pool b same (search rules));
      method =
          least_item (LacksMethodName pool) _ _ _ _ _ c.as_slice-2.ensures c.first_at-2.ensures.first
          (λ x b h. of_entries (λ p. LacksMethodName p x.now) entries pool b same (search rules));
      entry =
          least_item (IsBadlyNamed pool) _ _ _ _ _ c.as_slice-3.ensures c.first_at-3.ensures.first
          (λ x b h. of_entries (λ p. IsBadlyNamed p x.now) entries pool b same (search rules));
    })
    c.len.ensures c.number.ensures
