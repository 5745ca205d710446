-- The call begins as its meaning asks, and what is done is what comes of it.
use Rattle.std.proofs.Common.{◌≡◌, ◌∙◌, [], Some, take, sym, subst, refl, rules}
use Rattle.jk_model.proofs.CountsNeverFall.{NeverFalls-refl}
use Rattle.jk_model_system_rows.specs.Meanings.{meaning_of}
use Rattle.step_contents.specs.StandingFrames.{place_of}
use Rattle.system_calls.specs.GivenOnTop.{HasGiven, TakesOff}
use Rattle.system_calls.proofs.CallsBegin.{as_read, comes_so, end_comes, has_given, line_comes, may_answer, place_fits, room_if, some_meaning}
use Rattle.system_calls.proofs.LinesSaid.{err_printed, none_printed, ok_printed}
use Rattle.system_calls.proofs.calls.call.Goals as goal

pub unreachable-requires : goal.unreachable-requires
unreachable-requires g c =
    some_meaning (g.H.ObjectStore.content c.args.heap.now) (g.F.SegmentFrames.content c.args.frames.now) c.args.shared.now
    (record { world = c.args.w; domain = c.args.d; segment = c.args.s }) (place_of c.args.at.now) c.args.m
    c.requires (sym c.meaning.ensures ∙ c.in_default.is)

pub read_given-values-requires-clause-given : goal.read_given-values-requires-clause-given
read_given-values-requires-clause-given g c =
    subst (HasGiven (g.F.SegmentFrames.content c.args.frames.now) c.args.s) (sym c.count_given-count.ensures)
    (has_given (g.H.ObjectStore.content c.args.heap.now) (g.F.SegmentFrames.content c.args.frames.now) c.args.shared.now
    (record { world = c.args.w; domain = c.args.d; segment = c.args.s }) (place_of c.args.at.now) c.args.m
    c.requires c.in-Some.meaning (sym c.meaning.ensures ∙ c.in-Some.is))

pub print_line-line-requires-clause-given : goal.print_line-line-requires-clause-given
print_line-line-requires-clause-given g c =
    let same : c.from.result ≡ c.count_given-count.result = search rules in
    let means : meaning_of c.args.m ≡ Some c.in-Some.meaning = sym c.meaning.ensures ∙ c.in-Some.is in
    let read = as_read (g.H.ObjectStore.content c.args.heap.now) (g.F.SegmentFrames.content c.args.frames.now) c.args.shared.now
    (record { world = c.args.w; domain = c.args.d; segment = c.args.s }) (place_of c.args.at.now) c.args.m
    c.in-Some.meaning c.read_given-values.result c.count_given-count.result c.from.result same c.count_given-count.ensures
    c.read_given-values.ensures.given c.read_given-values.ensures.many in
    (may_answer (g.H.ObjectStore.content c.args.heap.now) (g.F.SegmentFrames.content c.args.frames.now) c.args.shared.now
    (record { world = c.args.w; domain = c.args.d; segment = c.args.s }) (place_of c.args.at.now) c.args.m
    c.requires c.in-Some.meaning means (take c.from.result c.read_given-values.result) read.0 read.1).given_for

pub overflow_add-result : goal.overflow_add-result
overflow_add-result g c =
    record {
      fits = place_fits (g.H.ObjectStore.content c.args.heap.now) (g.F.SegmentFrames.content c.args.frames.now) c.args.shared.now
          (record { world = c.args.w; domain = c.args.d; segment = c.args.s }) (place_of c.args.at.now) c.args.m c.requires;
    }

pub answer-answer-requires : goal.answer-answer-requires
answer-answer-requires g c =
    let same : c.from.result ≡ c.count_given-count.result = search rules in
    let means : meaning_of c.args.m ≡ Some c.in-Some.meaning = sym c.meaning.ensures ∙ c.in-Some.is in
    let read = as_read (g.H.ObjectStore.content c.args.heap.now) (g.F.SegmentFrames.content c.args.frames.now) c.args.shared.now
    (record { world = c.args.w; domain = c.args.d; segment = c.args.s }) (place_of c.args.at.now) c.args.m
    c.in-Some.meaning c.read_given-values.result c.count_given-count.result c.from.result same c.count_given-count.ensures
    c.read_given-values.ensures.given c.read_given-values.ensures.many in
    record {
      may =
          may_answer (g.H.ObjectStore.content c.args.heap.now) (g.F.SegmentFrames.content c.args.frames.now) c.args.shared.now
          (record { world = c.args.w; domain = c.args.d; segment = c.args.s }) (place_of c.args.at.now) c.args.m
          c.requires c.in-Some.meaning means (take c.from.result c.read_given-values.result) read.0 read.1;
      answered = (search rules, search rules);
    }

pub finish-requires : goal.finish-requires
finish-requires g c =
    let same : c.from.result ≡ c.count_given-count.result = search rules in
    let means : meaning_of c.args.m ≡ Some c.in-Some.meaning = sym c.meaning.ensures ∙ c.in-Some.is in
    let read = as_read (g.H.ObjectStore.content c.args.heap.now) (g.F.SegmentFrames.content c.args.frames.now) c.args.shared.now
    (record { world = c.args.w; domain = c.args.d; segment = c.args.s }) (place_of c.args.at.now) c.args.m
    c.in-Some.meaning c.read_given-values.result c.count_given-count.result c.from.result same c.count_given-count.ensures
    c.read_given-values.ensures.given c.read_given-values.ensures.many in
    record {
      given =
          subst (HasGiven (g.F.SegmentFrames.content c.args.frames.now) c.args.s) (sym c.count_given-count.ensures)
          (has_given (g.H.ObjectStore.content c.args.heap.now) (g.F.SegmentFrames.content c.args.frames.now) c.args.shared.now
          (record { world = c.args.w; domain = c.args.d; segment = c.args.s }) (place_of c.args.at.now) c.args.m
          c.requires c.in-Some.meaning means);
      room =
          room_if (g.H.ObjectStore.content c.args.heap.now) (g.F.SegmentFrames.content c.args.frames.now) c.args.shared.now
          (record { world = c.args.w; domain = c.args.d; segment = c.args.s }) (place_of c.args.at.now) c.args.m
          c.requires c.in-Some.meaning means (take c.from.result c.read_given-values.result) read.0 read.1
          (g.met.F.FrameStore.holds c.args.frames.now) (g.H.ObjectStore.content c.answer-answer.new.heap) c.answer-answer.new.shared
          c.answer-answer.result c.count_given-count.result c.count_given-count.ensures c.answer-answer.ensures;
      next = place_fits (g.H.ObjectStore.content c.args.heap.now) (g.F.SegmentFrames.content c.args.frames.now) c.args.shared.now
          (record { world = c.args.w; domain = c.args.d; segment = c.args.s }) (place_of c.args.at.now) c.args.m c.requires;
    }

pub returns-in-Ok-clause-ok : goal.returns-in-Ok-clause-ok
returns-in-Ok-clause-ok g c = λ own.
    let same : c.from.result ≡ c.count_given-count.result = search rules in
    let means : meaning_of c.args.m ≡ Some c.in-Some.meaning = sym c.meaning.ensures ∙ c.in-Some.is in
    let read = as_read (g.H.ObjectStore.content c.args.heap.now) (g.F.SegmentFrames.content c.args.frames.now) c.args.shared.now
    (record { world = c.args.w; domain = c.args.d; segment = c.args.s }) (place_of c.args.at.now) c.args.m
    c.in-Some.meaning c.read_given-values.result c.count_given-count.result c.from.result same c.count_given-count.ensures
    c.read_given-values.ensures.given c.read_given-values.ensures.many in
    let said = c.print_line-line.ensures.said in
    line_comes (g.H.ObjectStore.content c.args.heap.now) (g.F.SegmentFrames.content c.args.frames.now) c.args.shared.now
    (record { world = c.args.w; domain = c.args.d; segment = c.args.s }) (place_of c.args.at.now) c.args.m
    c.in-Some.meaning means (take c.from.result c.read_given-values.result) read.0 read.1 own
    (g.F.SegmentFrames.content c.drop_given.new.frames) said.0 _
    (subst (TakesOff (g.F.SegmentFrames.content c.args.frames.now) (g.F.SegmentFrames.content c.drop_given.new.frames) c.args.s) c.count_given-count.ensures
    c.drop_given.ensures) said.1
    (λ names is. ok_printed _ _ _ _ _ _ c.print_line-line.result c.in-Ok.field-0 _ c.in-Ok.is (said.2 names is))

pub returns-in-Err-clause-err : goal.returns-in-Err-clause-err
returns-in-Err-clause-err g c = λ own.
    let same : c.from.result ≡ c.count_given-count.result = search rules in
    let means : meaning_of c.args.m ≡ Some c.in-Some.meaning = sym c.meaning.ensures ∙ c.in-Some.is in
    let read = as_read (g.H.ObjectStore.content c.args.heap.now) (g.F.SegmentFrames.content c.args.frames.now) c.args.shared.now
    (record { world = c.args.w; domain = c.args.d; segment = c.args.s }) (place_of c.args.at.now) c.args.m
    c.in-Some.meaning c.read_given-values.result c.count_given-count.result c.from.result same c.count_given-count.ensures
    c.read_given-values.ensures.given c.read_given-values.ensures.many in
    let said = c.print_line-line.ensures.said in
    line_comes (g.H.ObjectStore.content c.args.heap.now) (g.F.SegmentFrames.content c.args.frames.now) c.args.shared.now
    (record { world = c.args.w; domain = c.args.d; segment = c.args.s }) (place_of c.args.at.now) c.args.m
    c.in-Some.meaning means (take c.from.result c.read_given-values.result) read.0 read.1 own
    (g.F.SegmentFrames.content c.drop_given.new.frames) said.0 _
    (subst (TakesOff (g.F.SegmentFrames.content c.args.frames.now) (g.F.SegmentFrames.content c.drop_given.new.frames) c.args.s) c.count_given-count.ensures
    c.drop_given.ensures) said.1
    (λ names is. err_printed _ _ _ _ _ _ c.print_line-line.result c.in-Err.failed _ c.in-Err.is (said.2 names is))

pub returns-in_default-meaning : goal.returns-in_default-meaning
returns-in_default-meaning g c =
    let same : c.from.result ≡ c.count_given-count.result = search rules in
    let means : meaning_of c.args.m ≡ Some c.in-Some.meaning = sym c.meaning.ensures ∙ c.in-Some.is in
    let read = as_read (g.H.ObjectStore.content c.args.heap.now) (g.F.SegmentFrames.content c.args.frames.now) c.args.shared.now
    (record { world = c.args.w; domain = c.args.d; segment = c.args.s }) (place_of c.args.at.now) c.args.m
    c.in-Some.meaning c.read_given-values.result c.count_given-count.result c.from.result same c.count_given-count.ensures
    c.read_given-values.ensures.given c.read_given-values.ensures.many in
    record {
      ok = λ own.
          comes_so (g.H.ObjectStore.content c.args.heap.now) (g.F.SegmentFrames.content c.args.frames.now) c.args.shared.now
          (record { world = c.args.w; domain = c.args.d; segment = c.args.s }) (place_of c.args.at.now) c.args.m
          c.in-Some.meaning means (take c.from.result c.read_given-values.result) read.0 read.1 own
          (g.H.ObjectStore.content c.answer-answer.new.heap) (g.F.SegmentFrames.content c.finish.new.frames) c.answer-answer.new.shared
          c.answer-answer.result c.finish.result c.count_given-count.result _ c.finish.ensures.after c.count_given-count.ensures
          c.finish.ensures.frames c.answer-answer.ensures
          (none_printed [] [] (g.S.Sink.bytes c.args.out.now) (g.S.Sink.pieces c.args.out.now) (g.S.Sink.faults c.args.out.now)
          (g.met.S.Sink.faults_fit c.args.out.now));
      err = tt;
      cause = tt;
      calm = refl;
      faults = NeverFalls-refl (g.S.Sink.faults c.args.out.now) (g.met.S.Sink.faults_fit c.args.out.now);
    }

pub returns-in-TerminatesDomain-clause-ok : goal.returns-in-TerminatesDomain-clause-ok
returns-in-TerminatesDomain-clause-ok g c = λ own.
    let same : c.from.result ≡ c.count_given-count.result = search rules in
    let means : meaning_of c.args.m ≡ Some c.in-Some.meaning = sym c.meaning.ensures ∙ c.in-Some.is in
    let read = as_read (g.H.ObjectStore.content c.args.heap.now) (g.F.SegmentFrames.content c.args.frames.now) c.args.shared.now
    (record { world = c.args.w; domain = c.args.d; segment = c.args.s }) (place_of c.args.at.now) c.args.m
    c.in-Some.meaning c.read_given-values.result c.count_given-count.result c.from.result same c.count_given-count.ensures
    c.read_given-values.ensures.given c.read_given-values.ensures.many in
    end_comes (g.H.ObjectStore.content c.args.heap.now) (g.F.SegmentFrames.content c.args.frames.now) c.args.shared.now
    (record { world = c.args.w; domain = c.args.d; segment = c.args.s }) (place_of c.args.at.now) c.args.m
    c.in-Some.meaning means (take c.from.result c.read_given-values.result) read.0 read.1 own _ c.in-TerminatesDomain.is
    (none_printed [] [] (g.S.Sink.bytes c.args.out.now) (g.S.Sink.pieces c.args.out.now) (g.S.Sink.faults c.args.out.now)
    (g.met.S.Sink.faults_fit c.args.out.now))
