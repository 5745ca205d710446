-- The thread may begin, and its one segment is on top.
use Rattle.std.proofs.Common.{◌≡◌, Some, ap, sym, ◌∙◌}
use Rattle.std.proofs.lemmas.Option.{none-some}
use Rattle.jk_model.specs.declared.identifiers.SegmentNo.{SegmentNo}
use Rattle.jk_model.specs.declared.identifiers.ThreadNo.{ThreadNo}
use Rattle.kernel_openings.proofs.ThreadsThatBegin.{not_refused, state_is, thread_is, top_is}
use Rattle.kernel_openings.proofs.first_segments.begin_thread.Goals as goal

pub unreachable-requires : goal.unreachable-requires
unreachable-requires c =
    not_refused c.args.shared.now c.begin.new.self c.args.d c.begin.result c.requires.may c.begin.ensures c.in_default.is

pub returns : goal.returns
returns c =
    let old = c.args.shared.now in
    let top = top_is old c.begin.new.self c.args.d c.requires.may c.is_sound.ensures c.in-Some.thread c.in-Some.ensures in
    let same : Some c.in-Some-top.segment ≡ Some (record { 0 = old.next_segment }) = sym c.in-Some-top.is ∙ c.top.ensures ∙ top in
    let segment : c.in-Some-top.segment ≡ record { 0 = old.next_segment } = cc in
    record {
      begun = state_is old c.begin.new.self c.args.d c.requires.may c.is_sound.ensures c.in-Some.thread c.in-Some.ensures;
      thread =
          ap (λ (t : ThreadNo). t.0)
          (thread_is old c.begin.new.self c.args.d c.requires.may c.is_sound.ensures c.in-Some.thread c.in-Some.ensures);
      segment = ap (λ (s : SegmentNo). s.0) segment;
    }

pub unreachable-requires-in_default-top : goal.unreachable-requires-in_default-top
unreachable-requires-in_default-top c =
    let old = c.args.shared.now in
    let top = top_is old c.begin.new.self c.args.d c.requires.may c.is_sound.ensures c.in-Some.thread c.in-Some.ensures in
    none-some (let n : SegmentNo = record { 0 = old.next_segment } in n) (sym c.in_default-top.is ∙ c.top.ensures ∙ top)
