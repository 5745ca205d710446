-- By the numbers of segments.
use Rattle.std.proofs.Common.{◌≡◌, List, Some, None, option_map, sym, ap, subst, ◌∙◌}
use Rattle.std.proofs.lemmas.Option.{same_Some}
use Rattle.jk_model.specs.declared.identifiers.SegmentNo.{SegmentNo}
use Rattle.jk_model_classes.specs.declared.records.ClassRecord.{ClassRecord}
use Rattle.jk_model_classes.specs.Lookups.{MethodIs}
use Rattle.jk_model_sharing.specs.Segments.{segment_numbered}
use Rattle.thread_segments.specs.Answers.{info_of, number_of}
use Rattle.thread_stacks.specs.declared.segments.SegmentInfo.{SegmentInfo}
use Rattle.domain_crossing.proofs.SegmentsFound.{number_is, on_top, top_numbered}
use Rattle.domain_crossing.proofs.entering.caller_of.Goals as goal

pub unreachable-requires : goal.unreachable-requires
unreachable-requires c =
    let threads = c.args.shared.now.threads in
    let top = c.requires.top in
    let never : None ≡ Some top.segment.number =
    sym c.in_default.is ∙ c.top.ensures ∙ ap (option_map number_of) (on_top threads c.requires.apart c.args.t top) in
    cc

pub unreachable-requires-in_default-segment : goal.unreachable-requires-in_default-segment
unreachable-requires-in_default-segment c =
    let threads = c.args.shared.now.threads in
    let top = c.requires.top in
    let number = number_is threads c.requires.apart c.args.t top c.in-Some.segment (sym c.top.ensures ∙ c.in-Some.is) in
    let never : None ≡ Some (info_of (record { thread = top.thread; segment = top.segment })) =
    sym c.in_default-segment.is ∙ c.segment.ensures
    ∙ ap (λ (n : SegmentNo). option_map info_of (segment_numbered threads n)) (sym number)
    ∙ ap (option_map info_of) (top_numbered threads c.requires.apart c.args.t top) in
    cc

pub unreachable-requires-in_default-method_record : goal.unreachable-requires-in_default-method_record
unreachable-requires-in_default-method_record c =
    c.in_default-method_record.ensures.none c.requires.method.0
    (subst (λ (cs : List ClassRecord). MethodIs cs c.args.method c.requires.method.0) (sym c.classes.ensures) c.requires.method.1)

pub returns-clause-segment : goal.returns-clause-segment
returns-clause-segment c = λ top.
    sym (number_is c.args.shared.now.threads c.requires.apart c.args.t top c.in-Some.segment (sym c.top.ensures ∙ c.in-Some.is))

pub returns-clause-domain : goal.returns-clause-domain
returns-clause-domain c = λ top.
    let threads = c.args.shared.now.threads in
    let number = number_is threads c.requires.apart c.args.t top c.in-Some.segment (sym c.top.ensures ∙ c.in-Some.is) in
    let info : c.in-Some-segment.info ≡ info_of (record { thread = top.thread; segment = top.segment }) =
    same_Some c.in-Some-segment.info (info_of (record { thread = top.thread; segment = top.segment }))
    (sym c.in-Some-segment.is ∙ c.segment.ensures
    ∙ ap (λ (n : SegmentNo). option_map info_of (segment_numbered threads n)) (sym number)
    ∙ ap (option_map info_of) (top_numbered threads c.requires.apart c.args.t top)) in
    ap (λ (x : SegmentInfo). x.domain) info
