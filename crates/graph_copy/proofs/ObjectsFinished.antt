-- The first object of those that are still to be walked over becomes the first of those that are done.
use Rattle.std.proofs.Common.{◌≡◌, ◌≢◌, ℕ, ◌^◌, ◌<◌, List, ◌∷◌, Contains, Option, Some, sym, ◌∙◌, subst, inl, inr, arith}
use Rattle.std.specs.Prelude.{MatchOption, ⊤}
use Rattle.jk_model.specs.declared.identifiers.DomainId.{DomainId}
use Rattle.object_store.specs.HeapContents.{HeapContent, IsHeapContent, IsName, Marks}
use Rattle.heap_laws.proofs.DistinctNumbers.{one_more}
use Rattle.list_lemmas.proofs.ItemsOfLists.{Contains-cases, Contains-here, Contains-there}
use Rattle.graph_copy.specs.Finished.{Finishes, HasQueues, IsFinished}
use Rattle.graph_copy.specs.MetObjects.{AreMet}
use Rattle.graph_copy.specs.Queues.{IsLinked, IsNext, head_of, link_to}
use Rattle.graph_copy.proofs.QueuesForgotten.{has_head, link_is_some, linked_beside, name_stays, next_is, no_marks_change, one_mark_changes, rest_differs, rest_distinct, small_head}

-- the first object's name
pub first_is_name : (c : HeapContent) (d : DomainId) (a : ℕ) (second : Option ℕ) → HasQueues c d (Some a) second → IsName c d a
first_is_name c d a second q =
    let h = has_head a q.todo q.is_first in
    q.met.todo_queue.named a (subst (λ (xs : List ℕ). Contains xs a) (sym h.is) (Contains-here a h.rest))

pub first_is_marked : (c : HeapContent) (d : DomainId) (a : ℕ) (second : Option ℕ) → HasQueues c d (Some a) second → 0 < c.mark d a
first_is_marked c d a second q =
    let h = has_head a q.todo q.is_first in
    let linked : IsLinked (c.mark d) (a ∷ h.rest) = subst (λ (xs : List ℕ). IsLinked (c.mark d) xs) h.is q.met.todo_queue.linked in
    omega (arith, linked.0, link_is_some (head_of h.rest))

pub second_is_small : (c : HeapContent) (d : DomainId) (first second : Option ℕ) → IsHeapContent c → HasQueues c d first second
    → MatchOption second ⊤ (λ (a : ℕ). a < 2 ^ 30)
second_is_small c d first second holds q =
    subst (λ (h : Option ℕ). MatchOption h ⊤ (λ (a : ℕ). a < 2 ^ 30)) (sym q.is_second)
    (small_head q.done (λ a there. let name = q.met.done_queue.named a there in holds.small d a name.0 name.1))

finished_at : (old new : HeapContent) (d : DomainId) (a : ℕ) (rest done : List ℕ) → AreMet old d (a ∷ rest) done
    → Marks old new d a (link_to (head_of done)) → AreMet new d rest (a ∷ done)
finished_at old new d a rest done met marks =
    let first : (b : ℕ) → Contains rest b → b ≢ a = rest_differs a rest met.todo_queue.distinct in
    let not_done : Contains done a → ⊥ = λ there. met.apart a (Contains-here a rest) there in
    let second : (b : ℕ) → Contains done b → b ≢ a = λ b there same. not_done (subst (λ (n : ℕ). Contains done n) same there) in
    record {
      todo_queue = record {
        linked = linked_beside (old.mark d) (new.mark d) rest (λ b there. marks.others b (first b there)) met.todo_queue.linked.1;
        distinct = rest_distinct a rest met.todo_queue.distinct;
        named = λ b there. name_stays old new d b (marks.heap d) (met.todo_queue.named b (Contains-there b a rest there));
      };
      done_queue = record {
        linked = (marks.mark, linked_beside (old.mark d) (new.mark d) done (λ b there. marks.others b (second b there)) met.done_queue.linked);
        distinct = one_more a done not_done met.done_queue.distinct;
        named = λ b there. elim (Contains-cases b a done there) [
          | inl same ↦
              subst (λ (n : ℕ). IsName new d n) same (name_stays old new d a (marks.heap d) (met.todo_queue.named a (Contains-here a rest)))
          | inr later ↦ name_stays old new d b (marks.heap d) (met.done_queue.named b later)
        ];
      };
      apart = λ b there now. elim (Contains-cases b a done now) [
        | inl same ↦ first b there (sym same)
        | inr later ↦ met.apart b (Contains-there b a rest there) later
      ];
      others = λ b not_first not_second.
          let other : b ≢ a = λ same. not_second (subst (λ (n : ℕ). Contains (a ∷ done) n) (sym same) (Contains-here a done)) in
          marks.others b other
          ∙ met.others b
          (λ there. elim (Contains-cases b a rest there) [ inl same ↦ other (sym same) | inr later ↦ not_first later ])
          (λ there. not_second (Contains-there b a done there));
    }

finished_from : (old new : HeapContent) (d : DomainId) (a : ℕ) (second result : Option ℕ) (todo done : List ℕ) → IsHeapContent old
    → IsNext (old.mark d a) result → Marks old new d a (link_to second) → AreMet old d todo done → Some a ≡ head_of todo → second ≡ head_of done
    → IsFinished new d a todo done result
finished_from old new d a second result todo done holds leads marks met is_first is_second =
    let h = has_head a todo is_first in
    let was : AreMet old d (a ∷ h.rest) done = subst (λ (xs : List ℕ). AreMet old d xs done) h.is met in
    record {
      rest = h.rest;
      was = h.is;
      is_head = next_is (old.mark d a) (head_of h.rest) result was.todo_queue.linked.0
          (small_head h.rest (λ b there. let name = was.todo_queue.named b (Contains-there b a h.rest there) in holds.small d b name.0 name.1)) leads;
      met = finished_at old new d a h.rest done was (subst (λ (o : Option ℕ). Marks old new d a (link_to o)) is_second marks);
    }

pub finishes : (old new : HeapContent) (d : DomainId) (a : ℕ) (second result : Option ℕ) → IsHeapContent old → IsNext (old.mark d a) result
    → Marks old new d a (link_to second) → Finishes old new d a second result
finishes old new d a second result holds leads marks = record {
  marks = one_mark_changes old old new d a (link_to second) (no_marks_change old d) marks;
  finished = λ todo done met is_first is_second.
      finished_from old new d a second result todo done holds leads marks met is_first is_second;
}
