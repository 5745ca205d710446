-- Once both queues are forgotten all is as before, and what was found gives the answer.
use Rattle.std.proofs.Common.{◌≡◌, ℕ, ◌-◌, List, Contains, Option, Some, None, sym, ap, ◌∙◌, subst, inl, inr, arith}
use Rattle.std.specs.Prelude.{MatchOption}
use Rattle.std.specs.Option.{option_map_or}
use Rattle.jk_model.specs.declared.identifiers.DomainId.{DomainId}
use Rattle.jk_model.specs.declared.values.Value.{Value}
use Rattle.jk_model_classes.specs.Worlds.{WorldRecord}
use Rattle.jk_model_domains.specs.Objects.{Object}
use Rattle.jk_model_graphs.specs.Copiable.{IsCopiable}
use Rattle.jk_model_graphs.specs.Reach.{ReachCosts}
use Rattle.heap_laws.proofs.ReachIsListed.{is_listed}
use Rattle.list_lemmas.proofs.TestsAndOrders.{same_or_not}
use Rattle.list_lemmas.proofs.ItemsOfLists.{Contains-here}
use Rattle.object_store.specs.HeapContents.{HeapContent, IsLive, IsSame, words_left}
use Rattle.graph_copy.specs.declared.answers.CopyAnswer.{CopyAnswer}
use Rattle.graph_copy.specs.declared.answers.CopyAnswer.TheVariants.{Copied, NoRoom, NotCopiable}
use Rattle.graph_copy.specs.declared.discovery.Found.{Found}
use Rattle.graph_copy.specs.AnswersTold.{IsTold}
use Rattle.graph_copy.specs.AskedOfCopies.{MayCopy}
use Rattle.graph_copy.specs.CopiedAll.{IsAllFound}
use Rattle.graph_copy.specs.CopyAnswers.{CopyAnswers, MayAllPass, graph_in}
use Rattle.graph_copy.specs.Discovered.{Discovers, walk_of}
use Rattle.graph_copy.specs.FoundSoFar.{FoundSoFar, Walk}
use Rattle.graph_copy.specs.Queues.{ChangesMarks, Forgets, HasQueue, IsQueue}
use Rattle.graph_copy.proofs.ObjectsMet.{both_change, queue_stays}
use Rattle.graph_copy.proofs.QueuesForgotten.{has_head}
use Rattle.graph_copy.proofs.ReachFound.{cost_found, reach_found}

pub first_queue : (c now : HeapContent) (x : Walk) (todo ended : Option ℕ) (sum : ℕ) → FoundSoFar c now x todo ended sum → HasQueue now x.from todo
first_queue c now x todo ended sum s = record { names = s.first; is_queue = s.met.todo_queue; is_head = s.is_first }

pub second_is_queue : (c now new : HeapContent) (x : Walk) (todo ended : Option ℕ) (sum : ℕ) (s : FoundSoFar c now x todo ended sum)
    → Forgets now new x.from s.first → IsQueue new x.from s.second
second_is_queue c now new x todo ended sum s f =
    queue_stays now new x.from s.second (f.marks.heap x.from) (λ a there. f.others a (λ first. s.met.apart a first there)) s.met.done_queue

pub second_queue : (c now new : HeapContent) (x : Walk) (todo ended : Option ℕ) (sum : ℕ) (s : FoundSoFar c now x todo ended sum)
    → Forgets now new x.from s.first → HasQueue new x.from ended
second_queue c now new x todo ended sum s f =
    record { names = s.second; is_queue = second_is_queue c now new x todo ended sum s f; is_head = s.is_second }

mark_undone : (c now new last : HeapContent) (x : Walk) (todo ended : Option ℕ) (sum : ℕ) (s : FoundSoFar c now x todo ended sum)
    → Forgets now new x.from s.first → Forgets new last x.from s.second → (a : ℕ) → last.mark x.from a ≡ 0
mark_undone c now new last x todo ended sum s f g a = elim (is_listed s.second a) [
  | inl second ↦ g.cleared a second
  | inr not_second ↦ g.others a not_second ∙ (elim (is_listed s.first a) [
    | inl first ↦ f.cleared a first
    | inr not_first ↦ f.others a not_first ∙ s.met.others a not_first not_second
  ])
]

pub all_undone : (c now new last : HeapContent) (x : Walk) (todo ended : Option ℕ) (sum : ℕ) (s : FoundSoFar c now x todo ended sum)
    → Forgets now new x.from s.first → Forgets new last x.from s.second → ((a : ℕ) → c.mark x.from a ≡ 0) → IsSame c last
all_undone c now new last x todo ended sum s f g calm =
    let change = both_change c new last x.from (both_change c now new x.from s.marks f.marks) g.marks in
    record {
      domains = change.domains;
      used = change.used;
      heap = change.heap;
      mark = λ e a. elim (same_or_not e.0 x.from.0) [
        | inl same ↦
            let one : e ≡ x.from = λ i. record { 0 = same i } in
            ap (λ (d : DomainId). last.mark d a) one ∙ mark_undone c now new last x todo ended sum s f g a
            ∙ sym (ap (λ (d : DomainId). c.mark d a) one ∙ calm a)
        | inr other ↦ change.other_domains e a (λ same. other (ap (λ (d : DomainId). d.0) same))
      ];
    }

pub left_where_marked : (c now : HeapContent) (d e : DomainId) → ChangesMarks c now d → words_left now e ≡ words_left c e
left_where_marked c now d e marks =
    ap (λ (o : Option ℕ). option_map_or (λ (q : ℕ). q - now.used e) o 0) (marks.domains.quota e)
    ∙ ap (λ (u : ℕ). option_map_or (λ (q : ℕ). q - u) (c.quota e) 0) (marks.used e)

-- what is told where marks alone have changed holds of what was free before
pub told_before : (c now : HeapContent) (d e : DomainId) (refused : Option ℕ) (sum free : ℕ) (r : CopyAnswer) → ChangesMarks c now d
    → free ≡ words_left now e → IsTold refused sum free r → IsTold refused sum (words_left c e) r
told_before c now d e refused sum free r marks is told =
    subst (λ (n : ℕ). IsTold refused sum n r) (is ∙ left_where_marked c now d e marks) told

pub as_many_left : (c new : HeapContent) (d : DomainId) → IsSame c new → words_left new d ≡ words_left c d
as_many_left c new d same =
    ap (λ (o : Option ℕ). option_map_or (λ (q : ℕ). q - new.used d) o 0) (same.domains.quota d)
    ∙ ap (λ (u : ℕ). option_map_or (λ (q : ℕ). q - u) (c.quota d) 0) (same.used d)

-- ---- Answers.

abbrev Refusal : HeapContent → Walk → Option ℕ → Option ℕ → Type 0
Refusal c x todo refused = MatchOption refused (todo ≡ None) (λ a. (todo ≡ Some a)
    × ((object : Object) × IsLive c x.from a object × (IsCopiable x.classes x.from_table x.to_table object → ⊥)))

all_pass : (c now : HeapContent) (w : WorldRecord) (from to : DomainId) (values : List Value) (ended : Option ℕ) (sum : ℕ)
    → FoundSoFar c now (walk_of w from to values) None ended sum → MayAllPass c w from to values
all_pass c now w from to values ended sum s = λ a object reached live.
    s.copiable a object ((reach_found c now (walk_of w from to values) ended sum s).all a reached) live

pub answers : (c now : HeapContent) (w : WorldRecord) (from to : DomainId) (values : List Value) (f : Found) (r : CopyAnswer)
    → Discovers c now (walk_of w from to values) f → IsTold f.refused f.sum (words_left c to) r → CopyAnswers c w from to values r
answers c now w from to values f Copied d told =
    let none : f.todo ≡ None = subst (λ (o : Option ℕ). Refusal c (walk_of w from to values) f.todo o) told.0 d.refused in
    let s = subst (λ (o : Option ℕ). FoundSoFar c now (walk_of w from to values) o f.done f.sum) none d.found in
    (all_pass c now w from to values f.done f.sum s, (f.sum, cost_found c now (walk_of w from to values) f.done f.sum s, told.1))
answers c now w from to values f (NotCopiable a) d told =
    let refusal = subst (λ (o : Option ℕ). Refusal c (walk_of w from to values) f.todo o) told d.refused in
    let s = subst (λ (o : Option ℕ). FoundSoFar c now (walk_of w from to values) o f.done f.sum) refusal.0 d.found in
    let h = has_head a s.first s.is_first in
    (s.reached a (inl (subst (λ (xs : List ℕ). Contains xs a) (sym h.is) (Contains-here a h.rest))), refusal.1)
answers c now w from to values f (NoRoom n) d told =
    let none : f.todo ≡ None = subst (λ (o : Option ℕ). Refusal c (walk_of w from to values) f.todo o) told.0 d.refused in
    let s = subst (λ (o : Option ℕ). FoundSoFar c now (walk_of w from to values) o f.done f.sum) none d.found in (
      all_pass c now w from to values f.done f.sum s,
      subst (λ (m : ℕ). ReachCosts w.classes (graph_in c from values) m) (sym told.1)
          (cost_found c now (walk_of w from to values) f.done f.sum s),
      omega (arith, told.1, told.2),
    )

-- where all may be copied and fits, all is found
pub all_found : (c now : HeapContent) (w : WorldRecord) (from to : DomainId) (values : List Value) (f : Found) (r : CopyAnswer)
    → MayCopy c w from to values → Discovers c now (walk_of w from to values) f → IsTold f.refused f.sum (words_left c to) r → r ≡ Copied
    → IsAllFound c now w from to values f.done
all_found c now w from to values f r may d tells is =
    let told : IsTold f.refused f.sum (words_left c to) Copied =
    subst (λ (q : CopyAnswer). IsTold f.refused f.sum (words_left c to) q) is tells in
    let none : f.todo ≡ None = subst (λ (o : Option ℕ). Refusal c (walk_of w from to values) f.todo o) told.0 d.refused in
    record {
      may = may;
      sum = f.sum;
      found = subst (λ (o : Option ℕ). FoundSoFar c now (walk_of w from to values) o f.done f.sum) none d.found;
      fits = told.1;
    }
