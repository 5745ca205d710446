-- An object that is done, and whose values are met, is visited.
use Rattle.std.proofs.Common.{ℕ, List, ◌∷◌, Contains, Option, Some, sym, subst, inl, inr}
use Rattle.jk_model.specs.declared.identifiers.DomainId.{DomainId}
use Rattle.jk_model.specs.declared.values.Value.{Value}
use Rattle.object_store.specs.HeapContents.{HeapContent}
use Rattle.list_lemmas.proofs.ItemsOfLists.{Contains-cases, Contains-here, Contains-there}
use Rattle.graph_copy.specs.Finished.{Finishes, HasQueues, IsFinished}
use Rattle.graph_copy.specs.MetObjects.{HasMet, Meets}
use Rattle.graph_copy.specs.Visited.{IsVisited, Visits}
use Rattle.graph_copy.proofs.ObjectsMet.{both_change}

-- the queues once the object is done
pub queues_after : (old now : HeapContent) (d : DomainId) (a : ℕ) (second middle : Option ℕ) → HasQueues old d (Some a) second
    → Finishes old now d a second middle → HasMet now d middle
queues_after old now d a second middle q f =
    let e = f.finished q.todo q.done q.met q.is_first q.is_second in
    record { todo = e.rest; done = a ∷ q.done; met = e.met; is_head = e.is_head }

visited_from : (now new : HeapContent) (d : DomainId) (a : ℕ) (values : List Value) (middle result : Option ℕ) (todo done : List ℕ)
    → IsFinished now d a todo done middle → Meets now new d values middle result → IsVisited new d a values todo done result
visited_from now new d a values middle result todo done f meets =
    let g = meets.grows f.rest (a ∷ done) f.met f.is_head in
    record {
      grown = g.grown;
      is_head = g.is_head;
      met = g.met;
      kept = λ b there. elim (Contains-cases b a f.rest (subst (λ (xs : List ℕ). Contains xs b) f.was there)) [
        | inl same ↦ inr (subst (λ (n : ℕ). Contains (a ∷ done) n) same (Contains-here a done))
        | inr later ↦ inl (g.kept b later)
      ];
      all = g.all;
      only = λ b there. elim (g.only b there) [
        | inl was ↦ inl (subst (λ (xs : List ℕ). Contains xs b) (sym f.was) (Contains-there b a f.rest was))
        | inr named ↦ inr named
      ];
    }

pub visits : (old now new : HeapContent) (d : DomainId) (a : ℕ) (values : List Value) (second middle result : Option ℕ)
    → Finishes old now d a second middle → Meets now new d values middle result → Visits old new d a values second result
visits old now new d a values second middle result f meets = record {
  marks = both_change old now new d f.marks meets.marks;
  visited = λ todo done met is_first is_second.
      visited_from now new d a values middle result todo done (f.finished todo done met is_first is_second) meets;
}
