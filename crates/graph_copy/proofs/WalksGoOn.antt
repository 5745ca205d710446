-- While an object is left, it has a name, may be walked over, and its words fit; one step more is found then.
use Rattle.std.proofs.Common.{◌≡◌, ℕ, ◌+◌, ◌-◌, ◌^◌, ◌<◌, Bool, true, false, IsTrue, ◌↔◌, List, [], Contains, Option, Some, None, refl, sym, ap, ◌∙◌, subst, arith}
use Rattle.jk_model.specs.declared.identifiers.DomainId.{DomainId}
use Rattle.jk_model.specs.declared.values.Value.{Value}
use Rattle.jk_model_classes.specs.declared.records.ClassRecord.{ClassRecord}
use Rattle.jk_model_classes.specs.Worlds.{NamedClass, WorldRecord}
use Rattle.jk_model_domains.specs.Objects.{NamedObject, Object, Array, Plain, Task, Text, object_named, object_words}
use Rattle.jk_model_graphs.specs.Copiable.{IsCopiable}
use Rattle.jk_model_graphs.specs.Followed.{followed}
use Rattle.jk_model_heaps.specs.declared.shapes.Shape.{Shape}
use Rattle.jk_model_heaps.specs.Heaps.{heap_words, shape_of}
use Rattle.list_lemmas.proofs.ItemsOfLists.{Contains-here}
use Rattle.object_store.specs.HeapContents.{HasShapeClasses, HeapContent, IsHeapContent, IsLive, IsName, shape_words}
use Rattle.graph_copy.specs.AskedOfCopies.{MayCopy}
use Rattle.graph_copy.specs.Discovered.{Discovers, walk_of}
use Rattle.graph_copy.specs.FoundSoFar.{FoundSoFar, Walk}
use Rattle.graph_copy.specs.Judged.{MayPass}
use Rattle.graph_copy.specs.MetObjects.{HasMet}
use Rattle.graph_copy.specs.Places.{IsWalked}
use Rattle.graph_copy.specs.Visited.{Visits}
use Rattle.graph_copy.proofs.QueuesForgotten.{has_head, name_stays}
use Rattle.graph_copy.proofs.ReachFound.{nothing_met, one_found, sum_within}
use Rattle.graph_copy.proofs.WordsFound.{few_words, some_words, words_of_shape}

pub none_met : (c : HeapContent) (d : DomainId) → ((a : ℕ) → c.mark d a ≡ 0) → HasMet c d None
none_met c d calm = record { todo = []; done = []; met = nothing_met c d calm; is_head = refl }

pub next_name : (c now : HeapContent) (x : Walk) (a : ℕ) (ended : Option ℕ) (sum : ℕ) → FoundSoFar c now x (Some a) ended sum → IsName now x.from a
next_name c now x a ended sum s =
    let h = has_head a s.first s.is_first in
    s.met.todo_queue.named a (subst (λ (xs : List ℕ). Contains xs a) (sym h.is) (Contains-here a h.rest))

pub next_was_there : (c now : HeapContent) (x : Walk) (a : ℕ) (ended : Option ℕ) (sum : ℕ) → FoundSoFar c now x (Some a) ended sum → (object : Object)
    → IsLive now x.from a object → IsLive c x.from a object
next_was_there c now x a ended sum s object live = sym (ap (λ (l : List NamedObject). object_named l a) (s.marks.heap x.from)) ∙ live

-- ---- What may pass may be copied.

pub passes : (classes : List ClassRecord) (from to : List NamedClass) (object : Object) → MayPass classes from to (shape_of object)
    → IsCopiable classes from to object
passes classes from to (Plain c values) may = may
passes classes from to (Array t items) may = may
passes classes from to (Text units) may = may
passes classes from to (Task s) may = may

pub must_pass : (classes : List ClassRecord) (from to : List NamedClass) (object : Object) → IsCopiable classes from to object
    → MayPass classes from to (shape_of object)
must_pass classes from to (Plain c values) may = may
must_pass classes from to (Array t items) may = may
must_pass classes from to (Text units) may = may
must_pass classes from to (Task s) may = may

pub next_refused : (c now : HeapContent) (x : Walk) (a : ℕ) (ended : Option ℕ) (sum : ℕ) (shape : Shape) (told : Bool)
    → FoundSoFar c now x (Some a) ended sum → ((object : Object) → IsLive now x.from a object → shape ≡ shape_of object)
    → (IsTrue told ↔ MayPass x.classes x.from_table x.to_table shape) → told ≡ false
    → Discovers c now x (record { done = ended; todo = Some a; sum = sum; refused = Some a })
next_refused c now x a ended sum shape told s is tells isnt =
    let name = next_name c now x a ended sum s in
    record {
      found = s;
      refused = (
        refl,
        (
          name.0,
          next_was_there c now x a ended sum s name.0 name.1,
          λ copiable.
              let truth : told ≡ true = tells.1 (subst (λ (p : Shape). MayPass x.classes x.from_table x.to_table p) (sym (is name.0 name.1))
              (must_pass x.classes x.from_table x.to_table name.0 copiable)) in
              absurd cc,
        ),
      );
    }

-- ---- The next object may be walked over.

pub next_is_walked : (c now : HeapContent) (w : WorldRecord) (from to : DomainId) (values : List Value) (a : ℕ) (ended : Option ℕ) (sum : ℕ)
    (shape : Shape) → MayCopy c w from to values → FoundSoFar c now (walk_of w from to values) (Some a) ended sum
    → ((object : Object) → IsLive now from a object → shape ≡ shape_of object) → IsWalked now w.classes from a shape
next_is_walked c now w from to values a ended sum shape may s is =
    let name = next_name c now (walk_of w from to values) a ended sum s in
    let there = next_was_there c now (walk_of w from to values) a ended sum s name.0 name.1 in
    record {
      object = name.0;
      live = name.1;
      is = is name.0 name.1;
      laid_out = may.heap.laid_out a name.0 there;
      has_classes = subst (λ (p : Shape). HasShapeClasses w.classes p) (sym (is name.0 name.1)) (may.heap.has_classes a name.0 there);
      named = λ b follows. name_stays c now from b (s.marks.heap from) (may.heap.closed a b (name.0, there, follows));
    }

-- ---- One step more.

pub next_found : (c now new : HeapContent) (x : Walk) (a : ℕ) (ended result : Option ℕ) (sum words : ℕ) (shape : Shape) (told : Bool)
    → FoundSoFar c now x (Some a) ended sum → ((object : Object) → IsLive now x.from a object → shape ≡ shape_of object)
    → (IsTrue told ↔ MayPass x.classes x.from_table x.to_table shape) → told ≡ true
    → ((object : Object) → IsLive now x.from a object → Visits now new x.from a (followed x.classes object) ended result)
    → words ≡ shape_words x.classes shape → FoundSoFar c new x result (Some a) (sum + words)
next_found c now new x a ended result sum words shape told s is tells truth visits costs =
    let name = next_name c now x a ended sum s in
    let may : MayPass x.classes x.from_table x.to_table (shape_of name.0) =
    subst (λ (p : Shape). MayPass x.classes x.from_table x.to_table p) (is name.0 name.1) (tells.0 truth) in
    let cost : words ≡ object_words x.classes name.0 =
    costs ∙ ap (shape_words x.classes) (is name.0 name.1) ∙ words_of_shape x.classes name.0 in
    subst (λ (n : ℕ). FoundSoFar c new x result (Some a) (sum + n)) (sym cost)
    (one_found c now new x a name.0 ended result sum s (next_was_there c now x a ended sum s name.0 name.1)
    (passes x.classes x.from_table x.to_table name.0 may) (visits name.0 name.1))

pub sum_fits : (c now : HeapContent) (x : Walk) (todo ended : Option ℕ) (sum : ℕ) → IsHeapContent c → FoundSoFar c now x todo ended sum → sum < 2 ^ 64
sum_fits c now x todo ended sum holds s =
    omega (
      arith,
      s.is_sum,
      few_words c x.classes x.from s.second holds s.met.done_queue.distinct
          (λ a there. name_stays now c x.from a (sym (s.marks.heap x.from)) (s.met.done_queue.named a there)),
    )

pub fewer_words_left : (c now new : HeapContent) (x : Walk) (a : ℕ) (ended result : Option ℕ) (sum words : ℕ) (shape : Shape)
    → FoundSoFar c now x (Some a) ended sum → FoundSoFar c new x result (Some a) (sum + words)
    → ((object : Object) → IsLive now x.from a object → shape ≡ shape_of object) → words ≡ shape_words x.classes shape
    → heap_words x.classes (c.heap x.from) - (sum + words) < heap_words x.classes (c.heap x.from) - sum
fewer_words_left c now new x a ended result sum words shape s n is costs =
    let name = next_name c now x a ended sum s in
    let cost : words ≡ object_words x.classes name.0 =
    costs ∙ ap (shape_words x.classes) (is name.0 name.1) ∙ words_of_shape x.classes name.0 in
    omega (arith, cost, some_words x.classes name.0, sum_within c new x result (Some a) (sum + words) n)
