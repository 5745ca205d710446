-- One value after the other: its object comes to the head of the queue, or has been met.
use Rattle.std.proofs.Common.{◌≡◌, ◌≢◌, ℕ, suc, ◌+◌, ◌^◌, ◌<◌, ◌⊎◌, List, [], ◌∷◌, ◌++◌, Contains, Option, Some, take, slice_get, sym, ap, ◌∙◌, subst, inl, inr, arith}
use Rattle.std.specs.Prelude.{MatchOption, ⊤}
use Rattle.std.proofs.lemmas.List.Elements.{Contains-append_cases, Contains-append_left, Contains-append_right}
use Rattle.jk_model.specs.declared.identifiers.DomainId.{DomainId}
use Rattle.jk_model.specs.declared.values.Value.{Value}
use Rattle.jk_model.specs.declared.values.Value.TheVariants as Held
use Rattle.object_store.specs.HeapContents.{HeapContent, IsHeapContent, IsName, IsSame, Marks}
use Rattle.heap_laws.proofs.DistinctNumbers.{one_more}
use Rattle.heap_laws.proofs.ReachIsListed.{is_listed}
use Rattle.list_lemmas.proofs.ItemsOfLists.{Contains-cases, Contains-here, Contains-none, Contains-there}
use Rattle.list_lemmas.proofs.LastItems.{take_next}
use Rattle.graph_copy.specs.MetObjects.{AreMet, AreNamed, Grows, HasMet, Meets, MeetsOne}
use Rattle.graph_copy.specs.Queues.{ChangesMarks, IsLinked, IsQueue, head_of, link_to}
use Rattle.graph_copy.proofs.QueuesForgotten.{link_is_some, linked_beside, name_stays, no_marks_change, one_mark_changes, small_head}

-- ---- Marks.

-- an object of a queue has a mark
pub queued_is_marked : (mark : ℕ → ℕ) (names : List ℕ) → IsLinked mark names → (a : ℕ) → Contains names a → mark a ≢ 0
queued_is_marked mark [] linked a there = absurd (Contains-none a there)
queued_is_marked mark (b ∷ names) linked a there = elim (Contains-cases a b names there) [
  | inl same ↦ λ none. let here : mark b ≡ 0 = ap mark same ∙ none in omega (arith, here, linked.0, link_is_some (head_of names))
  | inr later ↦ queued_is_marked mark names linked.1 a later
]

-- an object with a mark is on a queue
pub marked_is_queued : (c : HeapContent) (d : DomainId) (todo done : List ℕ) → AreMet c d todo done → (a : ℕ) → c.mark d a ≢ 0
    → Contains todo a ⊎ Contains done a
marked_is_queued c d todo done met a marked = elim (is_listed todo a) [
  | inl first ↦ inl first
  | inr not_first ↦ elim (is_listed done a) [ inl second ↦ inr second | inr neither ↦ absurd (marked (met.others a not_first neither)) ]
]

pub met_head_is_small : (c : HeapContent) (d : DomainId) (head : Option ℕ) → IsHeapContent c → HasMet c d head
    → MatchOption head ⊤ (λ (a : ℕ). a < 2 ^ 30)
met_head_is_small c d head holds m =
    subst (λ (h : Option ℕ). MatchOption h ⊤ (λ (a : ℕ). a < 2 ^ 30)) (sym m.is_head)
    (small_head m.todo (λ a there. let name = m.met.todo_queue.named a there in holds.small d a name.0 name.1))

-- ---- Contents that are the same.

pub queue_stays : (old new : HeapContent) (d : DomainId) (names : List ℕ) → new.heap d ≡ old.heap d
    → ((a : ℕ) → Contains names a → new.mark d a ≡ old.mark d a) → IsQueue old d names → IsQueue new d names
queue_stays old new d names heap mark q = record {
  linked = linked_beside (old.mark d) (new.mark d) names mark q.linked;
  distinct = q.distinct;
  named = λ a there. name_stays old new d a heap (q.named a there);
}

met_stays : (old new : HeapContent) (d : DomainId) (todo done : List ℕ) → IsSame old new → AreMet old d todo done → AreMet new d todo done
met_stays old new d todo done same met = record {
  todo_queue = queue_stays old new d todo (same.heap d) (λ a there. same.mark d a) met.todo_queue;
  done_queue = queue_stays old new d done (same.heap d) (λ a there. same.mark d a) met.done_queue;
  apart = met.apart;
  others = λ a first second. same.mark d a ∙ met.others a first second;
}

same_marks : (old new : HeapContent) (d : DomainId) → IsSame old new → ChangesMarks old new d
same_marks old new d same = record {
  domains = same.domains;
  used = same.used;
  heap = same.heap;
  other_domains = λ e b other. same.mark e b;
}

-- ---- A new object comes to the head.

pub met_at_head : (old new : HeapContent) (d : DomainId) (todo done : List ℕ) (b : ℕ) → AreMet old d todo done → IsName old d b
    → old.mark d b ≡ 0 → Marks old new d b (link_to (head_of todo)) → AreMet new d (b ∷ todo) done
met_at_head old new d todo done b met name unmarked marks =
    let new_first : Contains todo b → ⊥ = λ there. queued_is_marked (old.mark d) todo met.todo_queue.linked b there unmarked in
    let new_second : Contains done b → ⊥ = λ there. queued_is_marked (old.mark d) done met.done_queue.linked b there unmarked in
    let first_differs : (a : ℕ) → Contains todo a → a ≢ b = λ a there same. new_first (subst (λ (n : ℕ). Contains todo n) same there) in
    let second_differs : (a : ℕ) → Contains done a → a ≢ b = λ a there same. new_second (subst (λ (n : ℕ). Contains done n) same there) in
    record {
      todo_queue = record {
        linked = (marks.mark, linked_beside (old.mark d) (new.mark d) todo (λ a there. marks.others a (first_differs a there)) met.todo_queue.linked);
        distinct = one_more b todo new_first met.todo_queue.distinct;
        named = λ a there. elim (Contains-cases a b todo there) [
          | inl same ↦ subst (λ (n : ℕ). IsName new d n) same (name_stays old new d b (marks.heap d) name)
          | inr later ↦ name_stays old new d a (marks.heap d) (met.todo_queue.named a later)
        ];
      };
      done_queue = queue_stays old new d done (marks.heap d) (λ a there. marks.others a (second_differs a there)) met.done_queue;
      apart = λ a there second. elim (Contains-cases a b todo there) [
        | inl same ↦ new_second (subst (λ (n : ℕ). Contains done n) (sym same) second)
        | inr later ↦ met.apart a later second
      ];
      others = λ a first second.
          marks.others a (λ same. first (subst (λ (n : ℕ). Contains (b ∷ todo) n) (sym same) (Contains-here b todo)))
          ∙ met.others a (λ there. first (Contains-there a b todo there)) second;
    }

-- ---- No value, one value, and more.

pub meets_none : (c : HeapContent) (d : DomainId) (values : List Value) (head : Option ℕ) → ((b : ℕ) → Contains values (Held.Obj b) → ⊥)
    → Meets c c d values head head
meets_none c d values head none = record {
  marks = no_marks_change c d;
  grows = λ todo done met h. record {
    grown = todo;
    is_head = h;
    met = met;
    kept = λ a there. there;
    all = λ a named. absurd (none a named);
    only = λ a there. inl there;
  };
}

pub only_value : (v w : Value) → Contains (v ∷ []) w → v ≡ w
only_value v w there = elim (Contains-cases w v [] there) [ inl same ↦ same | inr later ↦ absurd (Contains-none w later) ]

only_object : (a b : ℕ) → Contains (Held.Obj b ∷ []) (Held.Obj a) → b ≡ a
only_object a b there = elim (Contains-cases (Held.Obj a) (Held.Obj b) [] there) [
  | inl same ↦ let e : Held.Obj b ≡ Held.Obj a = same in cc
  | inr later ↦ absurd (Contains-none (Held.Obj a) later)
]

was_met : (old new : HeapContent) (d : DomainId) (b : ℕ) (head result : Option ℕ) → old.mark d b ≢ 0 → IsSame old new → result ≡ head
    → Meets old new d (Held.Obj b ∷ []) head result
was_met old new d b head result marked same is = record {
  marks = same_marks old new d same;
  grows = λ todo done met h. record {
    grown = todo;
    is_head = is ∙ h;
    met = met_stays old new d todo done same met;
    kept = λ a there. there;
    all = λ a named.
        subst (λ (n : ℕ). Contains todo n ⊎ Contains done n) (only_object a b named) (marked_is_queued old d todo done met b marked);
    only = λ a there. inl there;
  };
}

is_met : (old new : HeapContent) (d : DomainId) (b : ℕ) (head result : Option ℕ) → IsName old d b → old.mark d b ≡ 0
    → Marks old new d b (link_to head) → result ≡ Some b → Meets old new d (Held.Obj b ∷ []) head result
is_met old new d b head result name unmarked marks is = record {
  marks = one_mark_changes old old new d b (link_to head) (no_marks_change old d) marks;
  grows = λ todo done met h. record {
    grown = b ∷ todo;
    is_head = is;
    met = met_at_head old new d todo done b met name unmarked (subst (λ (o : Option ℕ). Marks old new d b (link_to o)) h marks);
    kept = λ a there. Contains-there a b todo there;
    all = λ a named. inl (subst (λ (n : ℕ). Contains (b ∷ todo) n) (only_object a b named) (Contains-here b todo));
    only = λ a there. elim (Contains-cases a b todo there) [
      | inl same ↦ inr (subst (λ (n : ℕ). Contains (Held.Obj b ∷ []) (Held.Obj n)) same (Contains-here (Held.Obj b) []))
      | inr later ↦ inl later
    ];
  };
}

pub meets_one : (old new : HeapContent) (d : DomainId) (b : ℕ) (head result : Option ℕ) → IsName old d b → MeetsOne old new d b head result
    → Meets old new d (Held.Obj b ∷ []) head result
meets_one old new d b head result name meets = elim meets [
  | inl h ↦ was_met old new d b head result h.0 h.1 h.2
  | inr h ↦ is_met old new d b head result name h.0 h.1 h.2
]

pub both_change : (old now new : HeapContent) (d : DomainId) → ChangesMarks old now d → ChangesMarks now new d → ChangesMarks old new d
both_change old now new d before after = record {
  domains = record {
    pages = after.domains.pages ∙ before.domains.pages;
    took_all = after.domains.took_all ∙ before.domains.took_all;
    quota = λ e. after.domains.quota e ∙ before.domains.quota e;
    first_page = λ e. after.domains.first_page e ∙ before.domains.first_page e;
  };
  used = λ e. after.used e ∙ before.used e;
  heap = λ e. after.heap e ∙ before.heap e;
  other_domains = λ e b h. after.other_domains e b h ∙ before.other_domains e b h;
}

grows_both : (now new : HeapContent) (d : DomainId) (vs ws : List Value) (middle result : Option ℕ) (todo done : List ℕ)
    → Grows now d vs todo done middle → Meets now new d ws middle result → Grows new d (vs ++ ws) todo done result
grows_both now new d vs ws middle result todo done first second =
    let g = second.grows first.grown done first.met first.is_head in
    record {
      grown = g.grown;
      is_head = g.is_head;
      met = g.met;
      kept = λ a there. g.kept a (first.kept a there);
      all = λ a named. elim (Contains-append_cases vs ws (Held.Obj a) named) [
        | inl before ↦ elim (first.all a before) [ inl there ↦ inl (g.kept a there) | inr there ↦ inr there ]
        | inr after ↦ g.all a after
      ];
      only = λ a there. elim (g.only a there) [
        | inl before ↦ elim (first.only a before) [
          | inl was ↦ inl was
          | inr named ↦ inr (Contains-append_left vs ws (Held.Obj a) named)
        ]
        | inr named ↦ inr (Contains-append_right vs ws (Held.Obj a) named)
      ];
    }

pub meets_both : (old now new : HeapContent) (d : DomainId) (vs ws : List Value) (head middle result : Option ℕ)
    → Meets old now d vs head middle → Meets now new d ws middle result → Meets old new d (vs ++ ws) head result
meets_both old now new d vs ws head middle result first second = record {
  marks = both_change old now new d first.marks second.marks;
  grows = λ todo done met h. grows_both now new d vs ws middle result todo done (first.grows todo done met h) second;
}

-- the queues are there still
pub has_met_still : (old now : HeapContent) (d : DomainId) (values : List Value) (head result : Option ℕ) → Meets old now d values head result
    → HasMet old d head → HasMet now d result
has_met_still old now d values head result meets m =
    let g = meets.grows m.todo m.done m.met m.is_head in
    record { todo = g.grown; done = m.done; met = g.met; is_head = g.is_head }

-- ---- Values one by one.

pub one_more_value : (values : List Value) (i : ℕ) (v : Value) → slice_get values i ≡ Some v → take (i + 1) values ≡ take i values ++ v ∷ []
one_more_value values i v at = let more : i + 1 ≡ suc i = omega arith in ap (λ (k : ℕ). take k values) more ∙ take_next values i v at

pub one_is_named : (old now : HeapContent) (d : DomainId) (values : List Value) (v : Value) → now.heap d ≡ old.heap d → Contains values v
    → AreNamed old d values → AreNamed now d (v ∷ [])
one_is_named old now d values v heap there named = λ b is.
    name_stays old now d b heap (named b (subst (λ (w : Value). Contains values w) (only_value v (Held.Obj b) is) there))
