-- What was found tells the answer; where all may be copied and fits it is, and else both queues are forgotten.
use Rattle.std.proofs.Common.{ℕ, Option, IsSome, refl, sym, subst}
use Rattle.graph_copy.specs.Discovered.{walk_of}
use Rattle.graph_copy.proofs.AnswersFound.{all_found, all_undone, answers, first_queue, second_is_queue, second_queue, told_before}
use Rattle.graph_copy.proofs.copying.copy.Goals as goal

pub free-requires : goal.free-requires
free-requires g c =
    subst (λ (o : Option ℕ). IsSome o) (sym (c.discover-found.ensures.found.marks.domains.quota c.args.to)) c.requires.may.admitted.1

pub copy_all-requires : goal.copy_all-requires
copy_all-requires g c =
    let told = told_before (g.H.ObjectStore.content c.args.store.now) (g.H.ObjectStore.content c.discover-found.new.store) c.args.from c.args.to
    c.discover-found.result.refused c.discover-found.result.sum c.free.result c.answer_of-answer.result c.discover-found.ensures.found.marks
    c.free.ensures c.answer_of-answer.ensures in (
      g.H.ObjectStore.content c.args.store.now,
      all_found (g.H.ObjectStore.content c.args.store.now) (g.H.ObjectStore.content c.discover-found.new.store) c.args.w.now c.args.from c.args.to
          c.args.values.now c.discover-found.result c.answer_of-answer.result c.requires.may c.discover-found.ensures told c.in-Copied.is,
    )

pub forget-requires : goal.forget-requires
forget-requires g c =
    first_queue (g.H.ObjectStore.content c.args.store.now) (g.H.ObjectStore.content c.discover-found.new.store)
    (walk_of c.args.w.now c.args.from c.args.to c.args.values.now) c.discover-found.result.todo c.discover-found.result.done
    c.discover-found.result.sum c.discover-found.ensures.found

pub forget-requires-2 : goal.forget-requires-2
forget-requires-2 g c =
    second_queue (g.H.ObjectStore.content c.args.store.now) (g.H.ObjectStore.content c.discover-found.new.store)
    (g.H.ObjectStore.content c.forget.new.store)
    (walk_of c.args.w.now c.args.from c.args.to c.args.values.now) c.discover-found.result.todo c.discover-found.result.done
    c.discover-found.result.sum c.discover-found.ensures.found
    (c.forget.ensures c.discover-found.ensures.found.first c.discover-found.ensures.found.met.todo_queue c.discover-found.ensures.found.is_first)

pub returns-in-Copied : goal.returns-in-Copied
returns-in-Copied g c =
    let told = told_before (g.H.ObjectStore.content c.args.store.now) (g.H.ObjectStore.content c.discover-found.new.store) c.args.from c.args.to
    c.discover-found.result.refused c.discover-found.result.sum c.free.result c.answer_of-answer.result c.discover-found.ensures.found.marks
    c.free.ensures c.answer_of-answer.ensures in
    record {
      answer =
          answers (g.H.ObjectStore.content c.args.store.now) (g.H.ObjectStore.content c.discover-found.new.store) c.args.w.now c.args.from c.args.to
          c.args.values.now c.discover-found.result c.answer_of-answer.result c.discover-found.ensures told;
      copied = λ copied. c.copy_all.ensures (g.H.ObjectStore.content c.args.store.now)
          (all_found (g.H.ObjectStore.content c.args.store.now) (g.H.ObjectStore.content c.discover-found.new.store) c.args.w.now c.args.from c.args.to
          c.args.values.now c.discover-found.result c.answer_of-answer.result c.requires.may c.discover-found.ensures told copied);
      as_before = λ other. absurd (other c.in-Copied.is);
    }

pub returns : goal.returns
returns g c =
    let first = c.forget.ensures c.discover-found.ensures.found.first c.discover-found.ensures.found.met.todo_queue
    c.discover-found.ensures.found.is_first in
    let second = c.forget-2.ensures c.discover-found.ensures.found.second
    (second_is_queue (g.H.ObjectStore.content c.args.store.now) (g.H.ObjectStore.content c.discover-found.new.store)
    (g.H.ObjectStore.content c.forget.new.store)
    (walk_of c.args.w.now c.args.from c.args.to c.args.values.now) c.discover-found.result.todo c.discover-found.result.done
    c.discover-found.result.sum c.discover-found.ensures.found first)
    c.discover-found.ensures.found.is_second in
    let same = all_undone (g.H.ObjectStore.content c.args.store.now) (g.H.ObjectStore.content c.discover-found.new.store)
    (g.H.ObjectStore.content c.forget.new.store) (g.H.ObjectStore.content c.forget-2.new.store)
    (walk_of c.args.w.now c.args.from c.args.to c.args.values.now) c.discover-found.result.todo c.discover-found.result.done
    c.discover-found.result.sum c.discover-found.ensures.found first second c.requires.may.calm in
    let told = told_before (g.H.ObjectStore.content c.args.store.now) (g.H.ObjectStore.content c.discover-found.new.store) c.args.from c.args.to
    c.discover-found.result.refused c.discover-found.result.sum c.free.result c.answer_of-answer.result c.discover-found.ensures.found.marks
    c.free.ensures c.answer_of-answer.ensures in
    record {
      answer =
          answers (g.H.ObjectStore.content c.args.store.now) (g.H.ObjectStore.content c.discover-found.new.store) c.args.w.now c.args.from c.args.to
          c.args.values.now c.discover-found.result c.answer_of-answer.result c.discover-found.ensures told;
      copied = λ copied. absurd (c.in_default.not-Copied copied);
      as_before = λ other. (same, refl);
    }
