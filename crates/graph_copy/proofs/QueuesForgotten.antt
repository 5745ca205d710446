-- The objects of a queue lose their marks from the head on: what is left is a queue.
use Rattle.std.proofs.Common.{◌≡◌, ◌≢◌, ℕ, ◌^◌, ◌<◌, ◌⊎◌, List, [], ◌∷◌, Contains, Option, Some, None, nat_eq, refl, sym, ap, ◌∙◌, subst, inl, inr, arith}
use Rattle.std.specs.Prelude.{MatchOption, ⊤}
use Rattle.std.specs.List.{IsDistinct}
use Rattle.std.proofs.lemmas.Option.{same_Some}
use Rattle.jk_model.specs.declared.identifiers.DomainId.{DomainId}
use Rattle.jk_model_domains.specs.Objects.{NamedObject, object_named}
use Rattle.object_store.specs.HeapContents.{HeapContent, IsHeapContent, IsName, Marks}
use Rattle.heap_laws.proofs.DistinctNumbers.{differs}
use Rattle.list_lemmas.proofs.ItemsOfLists.{Contains-cases, Contains-here, Contains-none, Contains-there}
use Rattle.list_lemmas.proofs.TestsAndOrders.{same_or_not}
use Rattle.graph_copy.specs.Queues.{ChangesMarks, Forgets, IsLinked, IsNext, IsQueue, head_of, link_to}
use Rattle.graph_copy.proofs.MarkedObjects.{fewer_marked, marked_objects}

-- ---- Marks and names.

pub link_is_some : (next : Option ℕ) → 0 < link_to next
link_is_some None = omega arith
link_is_some (Some a) = omega arith

-- the head of a list of small names is small
pub small_head : (names : List ℕ) → ((a : ℕ) → Contains names a → a < 2 ^ 30) → MatchOption (head_of names) ⊤ (λ (a : ℕ). a < 2 ^ 30)
small_head [] small = tt
small_head (a ∷ names) small = small a (Contains-here a names)

pub next_is : (mark : ℕ) (head next : Option ℕ) → mark ≡ link_to head → MatchOption head ⊤ (λ (a : ℕ). a < 2 ^ 30) → IsNext mark next
    → next ≡ head
next_is mark None None is small leads = refl
next_is mark None (Some b) is small leads = absurd (leads.1 is)
next_is mark (Some a) None is small leads = absurd (omega (arith, is, small, leads))
next_is mark (Some a) (Some b) is small leads = ap (λ (n : ℕ). Some n) (omega (arith, is, leads.0))

-- ---- Queues.

pub record HasHead (a : ℕ) (names : List ℕ) : Type 0 where
  pub rest : List ℕ
  pub is : names ≡ a ∷ rest

pub has_head : (a : ℕ) (names : List ℕ) → Some a ≡ head_of names → HasHead a names
has_head a [] is = absurd cc
has_head a (b ∷ names) is = record { rest = names; is = ap (λ (n : ℕ). n ∷ names) (sym (same_Some a b is)) }

pub linked_beside : (old new : ℕ → ℕ) (names : List ℕ) → ((b : ℕ) → Contains names b → new b ≡ old b) → IsLinked old names → IsLinked new names
linked_beside old new [] same linked = tt
linked_beside old new (a ∷ names) same linked =
    (same a (Contains-here a names) ∙ linked.0, linked_beside old new names (λ b h. same b (Contains-there b a names h)) linked.1)

-- the names behind the first differ from it
pub rest_differs : (a : ℕ) (names : List ℕ) → IsDistinct nat_eq (a ∷ names) → (b : ℕ) → Contains names b → b ≢ a
unfolding IsDistinct
rest_differs a names distinct b h same = differs a b names distinct.0 h (sym same)

pub rest_distinct : (a : ℕ) (names : List ℕ) → IsDistinct nat_eq (a ∷ names) → IsDistinct nat_eq names
unfolding IsDistinct
rest_distinct a names distinct = distinct.1

-- ---- Changes of marks.

pub no_marks_change : (c : HeapContent) (d : DomainId) → ChangesMarks c c d
no_marks_change c d = record {
  domains = record { pages = refl; took_all = refl; quota = λ e. refl; first_page = λ e. refl };
  used = λ e. refl;
  heap = λ e. refl;
  other_domains = λ e b h. refl;
}

pub one_mark_changes : (old now new : HeapContent) (d : DomainId) (a m : ℕ) → ChangesMarks old now d → Marks now new d a m → ChangesMarks old new d
one_mark_changes old now new d a m before after = record {
  domains = record {
    pages = after.domains.pages ∙ before.domains.pages;
    took_all = after.domains.took_all ∙ before.domains.took_all;
    quota = λ e. after.domains.quota e ∙ before.domains.quota e;
    first_page = λ e. after.domains.first_page e ∙ before.domains.first_page e;
  };
  used = λ e. after.used e ∙ before.used e;
  heap = λ e. after.heap e ∙ before.heap e;
  other_domains = λ e b h. after.other_domains e b h ∙ before.other_domains e b h;
}

pub name_stays : (old new : HeapContent) (d : DomainId) (b : ℕ) → new.heap d ≡ old.heap d → IsName old d b → IsName new d b
name_stays old new d b same name = (name.0, ap (λ (heap : List NamedObject). object_named heap b) same ∙ name.1)

-- ---- So far.

pub record ForgotSoFar (old now : HeapContent) (d : DomainId) (next : Option ℕ) (names : List ℕ) : Type 0 where
  pub rest : List ℕ
  pub is_queue : IsQueue now d rest
  pub is_head : next ≡ head_of rest
  pub among : (a : ℕ) → Contains rest a → Contains names a
  pub marks : ChangesMarks old now d
  pub cleared : (a : ℕ) → Contains names a → (now.mark d a ≡ 0) ⊎ Contains rest a
  pub others : (a : ℕ) → (Contains names a → ⊥) → now.mark d a ≡ old.mark d a

pub none_forgotten : (c : HeapContent) (d : DomainId) (next : Option ℕ) (names : List ℕ) → IsQueue c d names → next ≡ head_of names
    → ForgotSoFar c c d next names
none_forgotten c d next names q h = record {
  rest = names;
  is_queue = q;
  is_head = h;
  among = λ a there. there;
  marks = no_marks_change c d;
  cleared = λ a there. inr there;
  others = λ a other. refl;
}

-- the next object has a name
pub next_is_name : (old now : HeapContent) (d : DomainId) (a : ℕ) (names : List ℕ) → ForgotSoFar old now d (Some a) names → IsName now d a
next_is_name old now d a names s =
    let h = has_head a s.rest s.is_head in
    s.is_queue.named a (subst (λ (xs : List ℕ). Contains xs a) (sym h.is) (Contains-here a h.rest))

-- and its mark is not 0
pub next_is_marked : (old now : HeapContent) (d : DomainId) (a : ℕ) (names : List ℕ) → ForgotSoFar old now d (Some a) names → 0 < now.mark d a
next_is_marked old now d a names s =
    let h = has_head a s.rest s.is_head in
    let linked : IsLinked (now.mark d) (a ∷ h.rest) = subst (λ (xs : List ℕ). IsLinked (now.mark d) xs) h.is s.is_queue.linked in
    omega (arith, linked.0, link_is_some (head_of h.rest))

one_forgotten_at : (old now new : HeapContent) (d : DomainId) (a : ℕ) (next : Option ℕ) (names rest : List ℕ) → IsHeapContent now
    → ForgotSoFar old now d (Some a) names → IsQueue now d (a ∷ rest) → ((b : ℕ) → Contains (a ∷ rest) b → Contains names b)
    → ((b : ℕ) → Contains names b → (now.mark d b ≡ 0) ⊎ Contains (a ∷ rest) b) → IsNext (now.mark d a) next → Marks now new d a 0
    → ForgotSoFar old new d next names
one_forgotten_at old now new d a next names rest holds s q among cleared leads marks = record {
  rest = rest;
  is_queue = record {
    linked = linked_beside (now.mark d) (new.mark d) rest (λ b h. marks.others b (rest_differs a rest q.distinct b h)) q.linked.1;
    distinct = rest_distinct a rest q.distinct;
    named = λ b h. name_stays now new d b (marks.heap d) (q.named b (Contains-there b a rest h));
  };
  is_head = next_is (now.mark d a) (head_of rest) next q.linked.0
      (small_head rest (λ b h. let name = q.named b (Contains-there b a rest h) in holds.small d b name.0 name.1)) leads;
  among = λ b h. among b (Contains-there b a rest h);
  marks = one_mark_changes old now new d a 0 s.marks marks;
  cleared = λ b h. elim (same_or_not b a) [
    | inl same ↦ inl (ap (new.mark d) same ∙ marks.mark)
    | inr other ↦ elim (cleared b h) [
      | inl zero_already ↦ inl (marks.others b other ∙ zero_already)
      | inr still ↦ elim (Contains-cases b a rest still) [ inl same ↦ absurd (other (sym same)) | inr later ↦ inr later ]
    ]
  ];
  others = λ b h. marks.others b (λ same. h (subst (λ (n : ℕ). Contains names n) (sym same) (among a (Contains-here a rest)))) ∙ s.others b h;
}

pub one_forgotten : (old now new : HeapContent) (d : DomainId) (a : ℕ) (next : Option ℕ) (names : List ℕ) → IsHeapContent now
    → ForgotSoFar old now d (Some a) names → IsNext (now.mark d a) next → Marks now new d a 0 → ForgotSoFar old new d next names
one_forgotten old now new d a next names holds s leads marks =
    let h = has_head a s.rest s.is_head in
    one_forgotten_at old now new d a next names h.rest holds s (subst (λ (xs : List ℕ). IsQueue now d xs) h.is s.is_queue)
    (subst (λ (xs : List ℕ). (b : ℕ) → Contains xs b → Contains names b) h.is s.among)
    (subst (λ (xs : List ℕ). (b : ℕ) → Contains names b → (now.mark d b ≡ 0) ⊎ Contains xs b) h.is s.cleared) leads marks

pub all_forgotten : (old now : HeapContent) (d : DomainId) (names : List ℕ) → ForgotSoFar old now d None names → Forgets old now d names
all_forgotten old now d names s = record {
  marks = s.marks;
  cleared = λ a there. elim (s.cleared a there) [ inl done ↦ done | inr left ↦ absurd (none_left s.rest s.is_head a left) ];
  others = s.others;
}
  where
    none_left : (rest : List ℕ) → None ≡ head_of rest → (a : ℕ) → Contains rest a → ⊥
    none_left [] is a there = Contains-none a there
    none_left (b ∷ rest) is a there = absurd cc

-- ---- The marked objects grow fewer.

pub left_to_forget : HeapContent → DomainId → ℕ
left_to_forget c d = marked_objects (c.mark d) (c.heap d)

pub fewer_left : (old now new : HeapContent) (d : DomainId) (a : ℕ) (names : List ℕ) → ForgotSoFar old now d (Some a) names → Marks now new d a 0
    → left_to_forget new d < left_to_forget now d
unfolding left_to_forget
fewer_left old now new d a names s marks =
    let name = next_is_name old now d a names s in
    let marked = next_is_marked old now d a names s in
    let fewer = fewer_marked (now.mark d) (new.mark d) a name.0 (now.heap d) (record { cleared = marks.mark; others = marks.others })
    (λ none. omega (arith, none, marked)) name.1 in
    subst (λ (heap : List NamedObject). marked_objects (new.mark d) heap < marked_objects (now.mark d) (now.heap d)) (sym (marks.heap d)) fewer
