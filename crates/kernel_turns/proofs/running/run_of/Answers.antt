-- The segment of a number is that of its thread.
use Rattle.std.proofs.Common.{◌≡◌, Some, None, option_map, sym, ap, ◌∙◌}
use Rattle.std.proofs.lemmas.Option.{same_Some}
use Rattle.thread_segments.specs.Answers.{info_of}
use Rattle.thread_stacks.specs.declared.segments.SegmentInfo.{SegmentInfo}
use Rattle.kernel_turns.proofs.RunningFound.{running_found}
use Rattle.kernel_turns.proofs.running.run_of.Goals as goal

pub unreachable-requires : goal.unreachable-requires
unreachable-requires c =
    let found = running_found c.args.shared.now.threads c.requires c.args.thread c.in_ok-segment.segment
    (sym c.top.ensures ∙ c.in_ok-segment.was) in
    let never : None ≡ Some (info_of (record { thread = found.3.0; segment = found.0 })) =
    sym c.in_default.is ∙ c.segment.ensures ∙ ap (option_map info_of) found.3.1 in
    cc

pub returns-clause-some : goal.returns-clause-some
returns-clause-some c =
    let found = running_found c.args.shared.now.threads c.requires c.args.thread c.in_ok-segment.segment
    (sym c.top.ensures ∙ c.in_ok-segment.was) in
    let info : c.in-Some.info ≡ info_of (record { thread = found.3.0; segment = found.0 }) =
    same_Some c.in-Some.info (info_of (record { thread = found.3.0; segment = found.0 }))
    (sym c.in-Some.is ∙ c.segment.ensures ∙ ap (option_map info_of) found.3.1) in
    record {
      segment = found.0;
      is_top = found.1;
      runs_there = λ i. record { thread = c.args.thread; domain = (info i).domain; segment = sym found.2 i };
      suspended = ap (λ (x : SegmentInfo). x.suspended) info;
      stop = ap (λ (x : SegmentInfo). x.stop) info;
      revoked = ap (λ (x : SegmentInfo). x.revoked) info;
      orphan = ap (λ (x : SegmentInfo). x.orphan) info;
    }
