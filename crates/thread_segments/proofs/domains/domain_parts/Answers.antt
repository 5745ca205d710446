-- One domain after the other.
use Rattle.std.proofs.Common.{arith, false, get_or, None}
use Rattle.std.proofs.lemmas.Option.{slice_get-get_or}
use Rattle.thread_segments.specs.declared.domains.DomainEntry.{DomainEntry}
use Rattle.thread_segments.proofs.PartsOfDomains.{all_listed, few_numbers, listing_begins, listing_goes_on}
use Rattle.thread_segments.proofs.domains.domain_parts.Goals as goal

pub loop-entry-init : goal.loop-entry-init
loop-entry-init c = listing_begins c.args.domains.now c.new-parts.result c.new-parts.ensures

pub overflow_add-first : goal.overflow_add-first
overflow_add-first c =
    let k = c.loop-entry.entry-index in
    let other : DomainEntry = record {
      live = false;
      quotas = record { heap = 0; chunks = 0; caps = 0; threads = 0; names = 0; steps = None };
      steps_left = None;
      threads = 0;
      names = 0;
    } in
    let at = slice_get-get_or c.args.domains.now k other c.loop-entry-test.true in
    omega (
      arith,
      few_numbers c.args.domains.now k c.loop-entry.first c.loop-entry.parts c.loop-entry.invariant (get_or c.args.domains.now k other) at c.requires,
    )

pub loop-entry-preserved : goal.loop-entry-preserved
loop-entry-preserved c =
    let k = c.loop-entry.entry-index in
    let at = slice_get-get_or c.args.domains.now k _ c.loop-entry-test.true in
    listing_goes_on c.args.domains.now k c.loop-entry.first c.loop-entry.parts c.loop-entry.invariant _ c.push.new.self at c.in_ok-push.ensures.ok

pub returns : goal.returns
returns c =
    all_listed c.args.domains.now c.loop-entry.entry-index c.loop-entry.first c.loop-entry.parts c.loop-entry.invariant c.loop-entry-test.false
