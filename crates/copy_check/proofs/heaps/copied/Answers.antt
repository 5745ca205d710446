-- What is asked of a copy is so, and stays so after `would_copy`.
use Rattle.std.proofs.Common.{List, sym, subst}
use Rattle.jk_model_domains.specs.Objects.{NamedObject}
use Rattle.graph_copy.specs.AskedOfCopies.{MayBeGiven}
use Rattle.copy_check.proofs.ReadyStill.{may_copy, ready_after, ready_same}
use Rattle.copy_check.proofs.heaps.copied.Goals as goal

pub would_copy-expected-requires : goal.would_copy-expected-requires
would_copy-expected-requires g c = record {
  may = may_copy (g.H.ObjectStore.content c.args.store.now) c.args.w.now c.args.between.0 c.args.between.1 c.args.values.now c.requires.domains.0
      c.requires.domains.1 c.requires.world c.requires.ready c.check_given.ensures;
}

pub copy-answer-requires : goal.copy-answer-requires
copy-answer-requires g c =
    let ready = ready_same (g.H.ObjectStore.content c.args.store.now) (g.H.ObjectStore.content c.would_copy-expected.new.store) c.args.w.now.classes
    c.requires.ready c.would_copy-expected.ensures.same in
    record {
      may = may_copy (g.H.ObjectStore.content c.would_copy-expected.new.store) c.args.w.now c.args.between.0 c.args.between.1 c.args.values.now
          c.requires.domains.0 c.requires.domains.1 c.requires.world ready
          (λ i v at. subst (λ (h : List NamedObject). MayBeGiven h v) (sym (c.would_copy-expected.ensures.same.heap c.args.between.0))
          (c.check_given.ensures i v at));
    }

pub returns : goal.returns
returns g c =
    let ready = ready_same (g.H.ObjectStore.content c.args.store.now) (g.H.ObjectStore.content c.would_copy-expected.new.store) c.args.w.now.classes
    c.requires.ready c.would_copy-expected.ensures.same in
    ready_after (g.H.ObjectStore.content c.would_copy-expected.new.store) (g.H.ObjectStore.content c.copy-answer.new.store) c.args.w.now.classes
    c.args.between.0 c.args.between.1 c.args.values.now c.copy-answer.new.values c.copy-answer.result c.requires.domains.0 c.requires.domains.1 ready
    c.copy-answer.ensures.copied c.copy-answer.ensures.as_before
