-- So many numbers are left.
use Rattle.std.proofs.Common.{arith}
use Rattle.kernel_openings.proofs.joining.may_join.Goals as goal

pub returns-then-domain_count-ge-MOST_DOMAINS-clause-full : goal.returns-then-domain_count-ge-MOST_DOMAINS-clause-full
returns-then-domain_count-ge-MOST_DOMAINS-clause-full c =
    let few = c.is_sound.ensures.ranges.few in (
      λ lacks. omega (arith, lacks, few, c.numbers_left.ensures, c.if-quotas-numbers_left.false),
      omega (arith, c.domain_count.ensures.count, c.if-domain_count-ge-MOST_DOMAINS.true),
    )

pub returns-clause-ok : goal.returns-clause-ok
returns-clause-ok c =
    let few = c.is_sound.ensures.ranges.few in (
      λ lacks. omega (arith, lacks, few, c.numbers_left.ensures, c.if-quotas-numbers_left.false),
      omega (arith, c.domain_count.ensures.count, c.if-domain_count-ge-MOST_DOMAINS.false),
    )
