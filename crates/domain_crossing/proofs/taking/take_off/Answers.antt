-- By the numbers of segments.
use Rattle.std.proofs.Common.{◌≡◌, Some, None, option_map, sym, ap, subst, ◌∙◌}
use Rattle.std.proofs.lemmas.Option.{same_Some}
use Rattle.jk_model.specs.declared.identifiers.SegmentNo.{SegmentNo}
use Rattle.jk_model_sharing.specs.Segments.{segment_numbered}
use Rattle.frame_store.specs.FrameContents.{Ends, IsThere}
use Rattle.thread_segments.specs.Answers.{info_of, number_of}
use Rattle.thread_stacks.specs.declared.segments.SegmentInfo.{SegmentInfo}
use Rattle.domain_crossing.proofs.SegmentsFound.{number_is, on_top, top_numbered}
use Rattle.domain_crossing.proofs.taking.take_off.Goals as goal

pub unreachable-requires : goal.unreachable-requires
unreachable-requires g c =
    let threads = c.args.shared.now.threads in
    let top = c.requires.top.0 in
    let never : None ≡ Some top.segment.number =
    sym c.in_default.is ∙ c.top.ensures ∙ ap (option_map number_of) (on_top threads c.requires.apart c.args.t top) in
    cc

pub unreachable-requires-in_default-segment : goal.unreachable-requires-in_default-segment
unreachable-requires-in_default-segment g c =
    let threads = c.args.shared.now.threads in
    let top = c.requires.top.0 in
    let number = number_is threads c.requires.apart c.args.t top c.in-Some.segment (sym c.top.ensures ∙ c.in-Some.is) in
    let never : None ≡ Some (info_of (record { thread = top.thread; segment = top.segment })) =
    sym c.in_default-segment.is ∙ c.segment.ensures
    ∙ ap (λ (n : SegmentNo). option_map info_of (segment_numbered threads n)) (sym number)
    ∙ ap (option_map info_of) (top_numbered threads c.requires.apart c.args.t top) in
    cc

pub segment_below-below-requires-clause-top : goal.segment_below-below-requires-clause-top
segment_below-below-requires-clause-top g c =
    let top = c.requires.top.0 in
    (top, number_is c.args.shared.now.threads c.requires.apart c.args.t top c.in-Some.segment (sym c.top.ensures ∙ c.in-Some.is))

pub end-requires : goal.end-requires
end-requires g c =
    let top = c.requires.top.0 in
    subst (λ (n : SegmentNo). IsThere (g.F.SegmentFrames.content c.args.frames.now) n)
    (number_is c.args.shared.now.threads c.requires.apart c.args.t top c.in-Some.segment (sym c.top.ensures ∙ c.in-Some.is)) c.requires.top.1

pub returns-clause-told : goal.returns-clause-told
returns-clause-told g c = λ top.
    let threads = c.args.shared.now.threads in
    let number = number_is threads c.requires.apart c.args.t top c.in-Some.segment (sym c.top.ensures ∙ c.in-Some.is) in
    let info : c.in-Some-segment.info ≡ info_of (record { thread = top.thread; segment = top.segment }) =
    same_Some c.in-Some-segment.info (info_of (record { thread = top.thread; segment = top.segment }))
    (sym c.in-Some-segment.is ∙ c.segment.ensures
    ∙ ap (λ (n : SegmentNo). option_map info_of (segment_numbered threads n)) (sym number)
    ∙ ap (option_map info_of) (top_numbered threads c.requires.apart c.args.t top)) in
    record {
      domain = ap (λ (x : SegmentInfo). x.domain) info;
      orphan = ap (λ (x : SegmentInfo). x.orphan) info;
      below = c.segment_below-below.ensures top;
    }

pub returns-clause-frames : goal.returns-clause-frames
returns-clause-frames g c = λ top.
    subst (λ (n : SegmentNo). Ends (g.F.SegmentFrames.content c.args.frames.now) (g.F.SegmentFrames.content c.end.new.self) n)
    (sym (number_is c.args.shared.now.threads c.requires.apart c.args.t top c.in-Some.segment (sym c.top.ensures ∙ c.in-Some.is))) c.end.ensures
