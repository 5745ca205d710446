-- Both queues are forgotten, and what was found tells the answer.
use Rattle.std.proofs.Common.{ℕ, Option, IsSome, sym, ◌∙◌, subst}
use Rattle.graph_copy.specs.AnswersTold.{IsTold}
use Rattle.graph_copy.specs.Discovered.{walk_of}
use Rattle.graph_copy.proofs.AnswersFound.{all_undone, answers, as_many_left, first_queue, second_is_queue, second_queue}
use Rattle.graph_copy.proofs.copying.would_copy.Goals as goal

pub forget-requires : goal.forget-requires
forget-requires g c =
    first_queue (g.H.ObjectStore.content c.args.store.now) (g.H.ObjectStore.content c.discover-found.new.store)
    (walk_of c.args.w.now c.args.from c.args.to c.args.values.now) c.discover-found.result.todo c.discover-found.result.done
    c.discover-found.result.sum c.discover-found.ensures.found

pub forget-requires-2 : goal.forget-requires-2
forget-requires-2 g c =
    second_queue (g.H.ObjectStore.content c.args.store.now) (g.H.ObjectStore.content c.discover-found.new.store) (g.H.ObjectStore.content c.forget.new.store)
    (walk_of c.args.w.now c.args.from c.args.to c.args.values.now) c.discover-found.result.todo c.discover-found.result.done
    c.discover-found.result.sum c.discover-found.ensures.found
    (c.forget.ensures c.discover-found.ensures.found.first c.discover-found.ensures.found.met.todo_queue c.discover-found.ensures.found.is_first)

pub free-requires : goal.free-requires
free-requires g c =
    let same = all_undone (g.H.ObjectStore.content c.args.store.now) (g.H.ObjectStore.content c.discover-found.new.store)
    (g.H.ObjectStore.content c.forget.new.store)
    (g.H.ObjectStore.content c.forget-2.new.store)
    (walk_of c.args.w.now c.args.from c.args.to c.args.values.now) c.discover-found.result.todo c.discover-found.result.done
    c.discover-found.result.sum c.discover-found.ensures.found
    (c.forget.ensures c.discover-found.ensures.found.first c.discover-found.ensures.found.met.todo_queue c.discover-found.ensures.found.is_first)
    (c.forget-2.ensures c.discover-found.ensures.found.second
    (second_is_queue (g.H.ObjectStore.content c.args.store.now) (g.H.ObjectStore.content c.discover-found.new.store)
    (g.H.ObjectStore.content c.forget.new.store)
    (walk_of c.args.w.now c.args.from c.args.to c.args.values.now) c.discover-found.result.todo c.discover-found.result.done c.discover-found.result.sum
    c.discover-found.ensures.found
    (c.forget.ensures c.discover-found.ensures.found.first c.discover-found.ensures.found.met.todo_queue c.discover-found.ensures.found.is_first))
    c.discover-found.ensures.found.is_second)
    c.requires.may.calm in
    subst (λ (o : Option ℕ). IsSome o) (sym (same.domains.quota c.args.to)) c.requires.may.admitted.1

pub returns : goal.returns
returns g c =
    let same = all_undone (g.H.ObjectStore.content c.args.store.now) (g.H.ObjectStore.content c.discover-found.new.store)
    (g.H.ObjectStore.content c.forget.new.store)
    (g.H.ObjectStore.content c.forget-2.new.store)
    (walk_of c.args.w.now c.args.from c.args.to c.args.values.now) c.discover-found.result.todo c.discover-found.result.done
    c.discover-found.result.sum c.discover-found.ensures.found
    (c.forget.ensures c.discover-found.ensures.found.first c.discover-found.ensures.found.met.todo_queue c.discover-found.ensures.found.is_first)
    (c.forget-2.ensures c.discover-found.ensures.found.second
    (second_is_queue (g.H.ObjectStore.content c.args.store.now) (g.H.ObjectStore.content c.discover-found.new.store)
    (g.H.ObjectStore.content c.forget.new.store)
    (walk_of c.args.w.now c.args.from c.args.to c.args.values.now) c.discover-found.result.todo c.discover-found.result.done c.discover-found.result.sum
    c.discover-found.ensures.found
    (c.forget.ensures c.discover-found.ensures.found.first c.discover-found.ensures.found.met.todo_queue c.discover-found.ensures.found.is_first))
    c.discover-found.ensures.found.is_second)
    c.requires.may.calm in
    record {
      answer =
          answers (g.H.ObjectStore.content c.args.store.now) (g.H.ObjectStore.content c.discover-found.new.store) c.args.w.now c.args.from c.args.to
          c.args.values.now c.discover-found.result c.answer_of.result c.discover-found.ensures
          (subst (λ (n : ℕ). IsTold c.discover-found.result.refused c.discover-found.result.sum n c.answer_of.result)
          (c.free.ensures ∙ as_many_left (g.H.ObjectStore.content c.args.store.now)
          (g.H.ObjectStore.content c.forget-2.new.store) c.args.to same) c.answer_of.ensures);
      same = same;
    }
