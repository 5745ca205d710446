-- Each object that is walked over is the next one that is reached.
use Rattle.std.proofs.Common.{◌≡◌, ℕ, ◌+◌, ◌<◌, ◌^◌, List, Option, Some, inl, inr, sym, ap, ◌∙◌, subst, arith}
use Rattle.jk_model_classes.specs.declared.records.ClassRecord.{ClassRecord}
use Rattle.jk_model_domains.specs.Objects.{Object}
use Rattle.jk_model_graphs.specs.Followed.{followed}
use Rattle.object_store.specs.HeapContents.{HasShapeClasses, IsLive, shape_words}
use Rattle.jk_model_heaps.specs.declared.shapes.Shape.{Shape}
use Rattle.graph_copy.specs.AskedOfCopies.{table_of}
use Rattle.graph_copy.specs.Discovered.{walk_of}
use Rattle.graph_copy.specs.FoundSoFar.{FoundSoFar}
use Rattle.graph_copy.specs.Judged.{MayPass}
use Rattle.graph_copy.specs.Kinds.{IsKnown}
use Rattle.graph_copy.specs.Places.{IsWalked}
use Rattle.graph_copy.specs.Visited.{Visits}
use Rattle.graph_copy.proofs.PlacesWalked.{few_places}
use Rattle.graph_copy.proofs.ReachFound.{given_found}
use Rattle.graph_copy.proofs.WalksGoOn.{fewer_words_left, next_found, next_is_walked, next_name, next_refused, none_met, sum_fits}
use Rattle.graph_copy.proofs.discovery.discover.Goals as goal

pub meet_given-todo-requires-clause-queue : goal.meet_given-todo-requires-clause-queue
meet_given-todo-requires-clause-queue g c = none_met (g.H.ObjectStore.content c.args.store.now) c.args.from c.requires.calm

pub loop-todo-init : goal.loop-todo-init
loop-todo-init g c = record {
  found = given_found (g.H.ObjectStore.content c.args.store.now) (g.H.ObjectStore.content c.meet_given-todo.new.store)
      (walk_of c.args.w.now c.args.from c.args.to c.args.values.now) c.meet_given-todo.result c.requires.calm c.meet_given-todo.ensures;
  known = λ k is. absurd cc;
  judged = λ k is. absurd cc;
}

pub shape-shape-requires : goal.shape-shape-requires
shape-shape-requires g c =
    let s = subst (λ (o : Option ℕ). FoundSoFar (g.H.ObjectStore.content c.args.store.now) (g.H.ObjectStore.content c.loop-todo.store)
    (walk_of c.args.w.now c.args.from c.args.to c.args.values.now) o c.loop-todo.done c.loop-todo.sum) c.in-Some.is c.loop-todo.invariant.found in
    next_name (g.H.ObjectStore.content c.args.store.now) (g.H.ObjectStore.content c.loop-todo.store)
    (walk_of c.args.w.now c.args.from c.args.to c.args.values.now) c.in-Some.a c.loop-todo.done c.loop-todo.sum s

pub returns-then-not-passes : goal.returns-then-not-passes
returns-then-not-passes g c =
    let s = subst (λ (o : Option ℕ). FoundSoFar (g.H.ObjectStore.content c.args.store.now) (g.H.ObjectStore.content c.loop-todo.store)
    (walk_of c.args.w.now c.args.from c.args.to c.args.values.now) o c.loop-todo.done c.loop-todo.sum) c.in-Some.is c.loop-todo.invariant.found in
    next_refused (g.H.ObjectStore.content c.args.store.now) (g.H.ObjectStore.content c.loop-todo.store)
    (walk_of c.args.w.now c.args.from c.args.to c.args.values.now) c.in-Some.a c.loop-todo.done c.loop-todo.sum c.shape-shape.result
    c.passes.result s c.shape-shape.ensures c.passes.ensures c.if-not-passes.true

pub kind_of-kind-requires-clause-few : goal.kind_of-kind-requires-clause-few
kind_of-kind-requires-clause-few g c =
    let s = subst (λ (o : Option ℕ). FoundSoFar (g.H.ObjectStore.content c.args.store.now) (g.H.ObjectStore.content c.loop-todo.store)
    (walk_of c.args.w.now c.args.from c.args.to c.args.values.now) o c.loop-todo.done c.loop-todo.sum) c.in-Some.is c.loop-todo.invariant.found in
    few_places (g.H.ObjectStore.content c.loop-todo.store) c.classes-t.result.now c.args.from c.in-Some.a c.shape-shape.result
    (g.met.H.ObjectStore.holds c.loop-todo.store)
    (subst (λ (cs : List ClassRecord). IsWalked (g.H.ObjectStore.content c.loop-todo.store) cs c.args.from c.in-Some.a c.shape-shape.result)
    (sym c.classes-t.ensures)
    (next_is_walked (g.H.ObjectStore.content c.args.store.now) (g.H.ObjectStore.content c.loop-todo.store) c.args.w.now c.args.from c.args.to
    c.args.values.now c.in-Some.a c.loop-todo.done c.loop-todo.sum c.shape-shape.result c.requires s c.shape-shape.ensures))

pub kind_of-kind-requires-clause-known : goal.kind_of-kind-requires-clause-known
kind_of-kind-requires-clause-known g c =
    subst (λ (cs : List ClassRecord). IsKnown cs c.loop-todo.last) (sym c.classes-t.ensures) c.loop-todo.invariant.known

pub visit-todo-requires-clause-walked : goal.visit-todo-requires-clause-walked
visit-todo-requires-clause-walked g c =
    let s = subst (λ (o : Option ℕ). FoundSoFar (g.H.ObjectStore.content c.args.store.now) (g.H.ObjectStore.content c.loop-todo.store)
    (walk_of c.args.w.now c.args.from c.args.to c.args.values.now) o c.loop-todo.done c.loop-todo.sum) c.in-Some.is c.loop-todo.invariant.found in
    subst (λ (cs : List ClassRecord). IsWalked (g.H.ObjectStore.content c.loop-todo.store) cs c.args.from c.in-Some.a c.shape-shape.result)
    (sym c.classes-t.ensures)
    (next_is_walked (g.H.ObjectStore.content c.args.store.now) (g.H.ObjectStore.content c.loop-todo.store) c.args.w.now c.args.from c.args.to
    c.args.values.now c.in-Some.a c.loop-todo.done c.loop-todo.sum c.shape-shape.result c.requires s c.shape-shape.ensures)

pub kind_of-kind-requires-clause-classes : goal.kind_of-kind-requires-clause-classes
kind_of-kind-requires-clause-classes g c =
    let s = subst (λ (o : Option ℕ). FoundSoFar (g.H.ObjectStore.content c.args.store.now) (g.H.ObjectStore.content c.loop-todo.store)
    (walk_of c.args.w.now c.args.from c.args.to c.args.values.now) o c.loop-todo.done c.loop-todo.sum) c.in-Some.is c.loop-todo.invariant.found in
    subst (λ (cs : List ClassRecord). HasShapeClasses cs c.shape-shape.result) (sym c.classes-t.ensures)
    (next_is_walked (g.H.ObjectStore.content c.args.store.now) (g.H.ObjectStore.content c.loop-todo.store) c.args.w.now c.args.from c.args.to
    c.args.values.now c.in-Some.a c.loop-todo.done c.loop-todo.sum c.shape-shape.result c.requires s c.shape-shape.ensures).has_classes

pub loop-todo-preserved : goal.loop-todo-preserved
loop-todo-preserved g c =
    let s = subst (λ (o : Option ℕ). FoundSoFar (g.H.ObjectStore.content c.args.store.now) (g.H.ObjectStore.content c.loop-todo.store)
    (walk_of c.args.w.now c.args.from c.args.to c.args.values.now) o c.loop-todo.done c.loop-todo.sum) c.in-Some.is c.loop-todo.invariant.found in
    let costs : c.kind_of-kind.result.words ≡ shape_words c.args.w.now.classes c.shape-shape.result =
    c.kind_of-kind.ensures.kind.words ∙ ap (λ (cs : List ClassRecord). shape_words cs c.shape-shape.result) c.classes-t.ensures in
    let visits : (object : Object) → IsLive (g.H.ObjectStore.content c.loop-todo.store) c.args.from c.in-Some.a object
    → Visits (g.H.ObjectStore.content c.loop-todo.store) (g.H.ObjectStore.content c.visit-todo.new.store) c.args.from c.in-Some.a
    (followed c.args.w.now.classes object) c.loop-todo.done c.visit-todo.result =
    λ object live. subst (λ (cs : List ClassRecord). Visits (g.H.ObjectStore.content c.loop-todo.store) (g.H.ObjectStore.content c.visit-todo.new.store)
    c.args.from c.in-Some.a (followed cs object) c.loop-todo.done c.visit-todo.result) c.classes-t.ensures (c.visit-todo.ensures object live) in
    record {
      found = next_found (g.H.ObjectStore.content c.args.store.now) (g.H.ObjectStore.content c.loop-todo.store) (g.H.ObjectStore.content c.visit-todo.new.store)
          (walk_of c.args.w.now c.args.from c.args.to c.args.values.now) c.in-Some.a c.loop-todo.done c.visit-todo.result c.loop-todo.sum
          c.kind_of-kind.result.words c.shape-shape.result c.passes.result s c.shape-shape.ensures c.passes.ensures c.if-not-passes.false visits costs;
      known = subst (λ (cs : List ClassRecord). IsKnown cs c.kind_of-kind.new.last) c.classes-t.ensures c.kind_of-kind.ensures.known;
      judged = λ k is. elim (c.kind_of-kind.ensures.learnt k is) [
        | inl was ↦ c.loop-todo.invariant.judged k was
        | inr of ↦ subst (λ (p : Shape). MayPass c.args.w.now.classes (table_of c.args.w.now c.args.from) (table_of c.args.w.now c.args.to) p) of
            (c.passes.ensures.0 c.if-not-passes.false)
      ];
    }

pub overflow_add-sum : goal.overflow_add-sum
overflow_add-sum g c =
    let s = subst (λ (o : Option ℕ). FoundSoFar (g.H.ObjectStore.content c.args.store.now) (g.H.ObjectStore.content c.loop-todo.store)
    (walk_of c.args.w.now c.args.from c.args.to c.args.values.now) o c.loop-todo.done c.loop-todo.sum) c.in-Some.is c.loop-todo.invariant.found in
    let costs : c.kind_of-kind.result.words ≡ shape_words c.args.w.now.classes c.shape-shape.result =
    c.kind_of-kind.ensures.kind.words ∙ ap (λ (cs : List ClassRecord). shape_words cs c.shape-shape.result) c.classes-t.ensures in
    let visits : (object : Object) → IsLive (g.H.ObjectStore.content c.loop-todo.store) c.args.from c.in-Some.a object
    → Visits (g.H.ObjectStore.content c.loop-todo.store) (g.H.ObjectStore.content c.visit-todo.new.store) c.args.from c.in-Some.a
    (followed c.args.w.now.classes object) c.loop-todo.done c.visit-todo.result =
    λ object live. subst (λ (cs : List ClassRecord). Visits (g.H.ObjectStore.content c.loop-todo.store) (g.H.ObjectStore.content c.visit-todo.new.store)
    c.args.from c.in-Some.a (followed cs object) c.loop-todo.done c.visit-todo.result) c.classes-t.ensures (c.visit-todo.ensures object live) in
    let next =
    next_found (g.H.ObjectStore.content c.args.store.now) (g.H.ObjectStore.content c.loop-todo.store) (g.H.ObjectStore.content c.visit-todo.new.store)
    (walk_of c.args.w.now c.args.from c.args.to c.args.values.now) c.in-Some.a c.loop-todo.done c.visit-todo.result c.loop-todo.sum
    c.kind_of-kind.result.words c.shape-shape.result c.passes.result s c.shape-shape.ensures c.passes.ensures c.if-not-passes.false visits costs in
    let fits : c.loop-todo.sum + c.kind_of-kind.result.words < 2 ^ 64 =
    sum_fits (g.H.ObjectStore.content c.args.store.now) (g.H.ObjectStore.content c.visit-todo.new.store)
    (walk_of c.args.w.now c.args.from c.args.to c.args.values.now) c.visit-todo.result (Some c.in-Some.a)
    (c.loop-todo.sum + c.kind_of-kind.result.words) (g.met.H.ObjectStore.holds c.args.store.now) next in
    omega (arith, fits)

pub loop-todo-smaller : goal.loop-todo-smaller
loop-todo-smaller g c =
    let s = subst (λ (o : Option ℕ). FoundSoFar (g.H.ObjectStore.content c.args.store.now) (g.H.ObjectStore.content c.loop-todo.store)
    (walk_of c.args.w.now c.args.from c.args.to c.args.values.now) o c.loop-todo.done c.loop-todo.sum) c.in-Some.is c.loop-todo.invariant.found in
    let costs : c.kind_of-kind.result.words ≡ shape_words c.args.w.now.classes c.shape-shape.result =
    c.kind_of-kind.ensures.kind.words ∙ ap (λ (cs : List ClassRecord). shape_words cs c.shape-shape.result) c.classes-t.ensures in
    let visits : (object : Object) → IsLive (g.H.ObjectStore.content c.loop-todo.store) c.args.from c.in-Some.a object
    → Visits (g.H.ObjectStore.content c.loop-todo.store) (g.H.ObjectStore.content c.visit-todo.new.store) c.args.from c.in-Some.a
    (followed c.args.w.now.classes object) c.loop-todo.done c.visit-todo.result =
    λ object live. subst (λ (cs : List ClassRecord). Visits (g.H.ObjectStore.content c.loop-todo.store) (g.H.ObjectStore.content c.visit-todo.new.store)
    c.args.from c.in-Some.a (followed cs object) c.loop-todo.done c.visit-todo.result) c.classes-t.ensures (c.visit-todo.ensures object live) in
    let next =
    next_found (g.H.ObjectStore.content c.args.store.now) (g.H.ObjectStore.content c.loop-todo.store) (g.H.ObjectStore.content c.visit-todo.new.store)
    (walk_of c.args.w.now c.args.from c.args.to c.args.values.now) c.in-Some.a c.loop-todo.done c.visit-todo.result c.loop-todo.sum
    c.kind_of-kind.result.words c.shape-shape.result c.passes.result s c.shape-shape.ensures c.passes.ensures c.if-not-passes.false visits costs in
    fewer_words_left (g.H.ObjectStore.content c.args.store.now) (g.H.ObjectStore.content c.loop-todo.store) (g.H.ObjectStore.content c.visit-todo.new.store)
    (walk_of c.args.w.now c.args.from c.args.to c.args.values.now) c.in-Some.a c.loop-todo.done c.visit-todo.result c.loop-todo.sum
    c.kind_of-kind.result.words c.shape-shape.result s next c.shape-shape.ensures costs
