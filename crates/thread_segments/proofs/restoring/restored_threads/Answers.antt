-- The threads are live ones, and there are so many domains as were told.
use Rattle.std.proofs.Common.{◌≡◌, ◌∙◌, List, ap, arith, length, subst, sum_by, sym}
use Rattle.thread_segments.specs.declared.parts.DomainPart.{DomainPart}
use Rattle.thread_segments.specs.RestoredParts.{chunks_asked, threads_asked}
use Rattle.thread_segments.proofs.RestoredState.{live_parts}
use Rattle.thread_stacks.specs.declared.parts.ThreadPart.{ThreadPart}
use Rattle.thread_stacks.specs.LiveStacks.{AreLiveParts}
use Rattle.thread_stacks.specs.Stacks.{ThreadList}
use Rattle.thread_segments.proofs.restoring.restored_threads.Goals as goal

pub restore-requires-clause-none : goal.restore-requires-clause-none
restore-requires-clause-none c =
    ap (λ (t : ThreadList). t.threads) c.in_ok-reserve_threads.ensures ∙ ap (λ (t : ThreadList). t.threads) c.new-threads.ensures

pub restore-requires-clause-parts : goal.restore-requires-clause-parts
restore-requires-clause-parts c =
    let parts = c.args.parts.now in
    let domains : c.reserve_threads.new.threads.domains ≡ length parts.domains =
    omega (
      arith,
      ap (λ (t : ThreadList). t.domains) c.in_ok-reserve_threads.ensures,
      ap (λ (t : ThreadList). t.domains) c.new-threads.ensures,
      ap (λ (ps : List DomainPart). length ps) c.as_slice.ensures,
    ) in
    subst (λ (ts : List ThreadPart). AreLiveParts ts c.reserve_threads.new.threads.domains parts.next_thread parts.next_segment) (sym c.as_slice-2.ensures)
    (live_parts c.requires.0 parts c.requires.1 c.reserve_threads.new.threads.domains domains)

pub returns : goal.returns
returns c =
    let r = c.in_ok-restore.ensures in
    let first = c.in_ok-reserve_threads.ensures in
    record {
      threads = sym c.as_slice-2.ensures ∙ r.threads;
      next_thread = r.next_thread;
      next_segment = r.next_segment;
      most =
          omega (
            arith,
            r.most,
            ap (λ (t : ThreadList). t.most) first,
            ap (λ (t : ThreadList). t.most) c.new-threads.ensures,
            ap (λ (ps : List DomainPart). sum_by threads_asked ps) c.as_slice.ensures,
            ap (λ (ps : List ThreadPart). length ps) c.as_slice-2.ensures,
          );
      most_segments =
          omega (
            arith,
            r.most_segments,
            ap (λ (t : ThreadList). t.most_segments) first,
            ap (λ (t : ThreadList). t.most_segments) c.new-threads.ensures,
            ap (λ (ps : List DomainPart). sum_by chunks_asked ps) c.as_slice.ensures,
          );
      domains =
          omega (
            arith,
            r.domains,
            ap (λ (t : ThreadList). t.domains) first,
            ap (λ (t : ThreadList). t.domains) c.new-threads.ensures,
            ap (λ (ps : List DomainPart). length ps) c.as_slice.ensures,
          );
    }
