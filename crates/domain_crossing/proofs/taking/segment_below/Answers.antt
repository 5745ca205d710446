-- By the numbers of segments.
use Rattle.std.proofs.Common.{◌≡◌, Some, None, option_map, sym, ap, ◌∙◌}
use Rattle.std.proofs.lemmas.Option.{same_Some}
use Rattle.jk_model.specs.declared.identifiers.SegmentNo.{SegmentNo}
use Rattle.jk_model_sharing.specs.Segments.{SharedSegment, segment_below, segment_numbered, top_of}
use Rattle.thread_segments.specs.Answers.{info_of, number_of}
use Rattle.domain_crossing.specs.TakenSegments.{told_of}
use Rattle.domain_crossing.proofs.SegmentsFound.{ToldBelow, none_below, one_top, told_below, top_numbered}
use Rattle.domain_crossing.proofs.taking.segment_below.Goals as goal

pub below-requires : goal.below-requires
below-requires c =
    let threads = c.args.shared.now.threads in
    let top = c.requires.top.0 in (
      record { thread = top.thread; segment = top.segment },
      ap (segment_numbered threads) (sym c.requires.top.1) ∙ top_numbered threads c.requires.apart c.args.t top,
    )

pub returns-in_err-segment : goal.returns-in_err-segment
returns-in_err-segment c = λ top.
    let threads = c.args.shared.now.threads in
    let number : top.segment.number ≡ c.args.segment =
    ap (λ (s : SharedSegment). s.number) (one_top threads c.args.t top c.requires.top.0) ∙ c.requires.top.1 in
    let none : top_of top.lower ≡ None =
    none_below threads c.requires.apart c.args.t top
    (ap (λ (n : SegmentNo). option_map number_of (segment_below threads n)) number ∙ sym c.below.ensures ∙ c.in_err-segment.was) in
    c.from_residual.ensures ∙ ap (option_map told_of) (sym none)

pub unreachable-requires : goal.unreachable-requires
unreachable-requires c =
    let threads = c.args.shared.now.threads in
    let top = c.requires.top.0 in
    let found : ToldBelow threads c.args.t top c.in_ok-segment.segment =
    told_below threads c.requires.apart c.args.t top c.in_ok-segment.segment
    (ap (λ (n : SegmentNo). option_map number_of (segment_below threads n)) c.requires.top.1 ∙ sym c.below.ensures ∙ c.in_ok-segment.was) in
    let never : None ≡ Some (info_of (record { thread = top.thread; segment = found.segment })) =
    sym c.in-None.is ∙ c.segment.ensures ∙ ap (option_map info_of) found.is_numbered in
    cc

pub returns : goal.returns
returns c = λ top.
    let threads = c.args.shared.now.threads in
    let number : top.segment.number ≡ c.args.segment =
    ap (λ (s : SharedSegment). s.number) (one_top threads c.args.t top c.requires.top.0) ∙ c.requires.top.1 in
    let found : ToldBelow threads c.args.t top c.in_ok-segment.segment =
    told_below threads c.requires.apart c.args.t top c.in_ok-segment.segment
    (ap (λ (n : SegmentNo). option_map number_of (segment_below threads n)) number ∙ sym c.below.ensures ∙ c.in_ok-segment.was) in
    let info : c.in-Some.info ≡ info_of (record { thread = top.thread; segment = found.segment }) =
    same_Some c.in-Some.info (info_of (record { thread = top.thread; segment = found.segment }))
    (sym c.in-Some.is ∙ c.segment.ensures ∙ ap (option_map info_of) found.is_numbered) in
    (λ i. Some (record { segment = sym found.number i; domain = (info i).domain })) ∙ ap (option_map told_of) (sym found.is_below)
