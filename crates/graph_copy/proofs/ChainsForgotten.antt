-- The sources and copies of a chain lose their marks from the first pair on: what is left is a chain, of one pair fewer.
use Rattle.std.proofs.Common.{◌≡◌, ◌≢◌, ℕ, zero, suc, ◌+◌, ◌-◌, ◌^◌, ◌<◌, ◌≤◌, ◌⊎◌, ◌==◌, Bool, true, false, cond, List, [], ◌∷◌, length, Contains, Option, Some, None, nat_eq, refl, sym, ap, ◌∙◌, subst, inl, inr, arith}
use Rattle.std.specs.Prelude.{MatchOption, ⊤}
use Rattle.std.specs.List.{IsDistinct}
use Rattle.std.proofs.lemmas.Bool.{eqb-true}
use Rattle.std.proofs.lemmas.List.{length-map}
use Rattle.std.proofs.lemmas.Option.{same_Some}
use Rattle.jk_model.specs.declared.identifiers.DomainId.{DomainId}
use Rattle.heap_laws.proofs.MappedLists.{mapped, mapped_from}
use Rattle.list_lemmas.proofs.ItemsOfLists.{Contains-cases, Contains-here, Contains-none, Contains-there}
use Rattle.list_lemmas.proofs.TestsAndOrders.{same_or_not}
use Rattle.object_store.specs.HeapContents.{HeapContent, IsHeapContent, IsName, KeepsDomains, Marks}
use Rattle.object_store.proofs.ObjectsWritten.{both_keep}
use Rattle.graph_copy.specs.Chains.{AreInTurn, ForgetsPairs, IsChain, IsCopyIn, IsOutside, IsSourceIn, copies_of, first_source, sources_of}
use Rattle.graph_copy.specs.Queues.{IsNext, link_to}
use Rattle.graph_copy.proofs.QueuesForgotten.{link_is_some, name_stays, next_is, rest_differs, rest_distinct}
use Rattle.graph_copy.proofs.WordsFound.{few_names}

-- ---- Two marks that are set.

pub same_domain_or_not : (e d : DomainId) → (e ≡ d) ⊎ (e ≡ d → ⊥)
same_domain_or_not e d = elim (same_or_not e.0 d.0) [
  | inl same ↦ let one : e ≡ d = λ i. record { 0 = same i } in inl one
  | inr other ↦ inr (λ same. other (ap (λ (x : DomainId). x.0) same))
]

pub record MarksBoth (old new : HeapContent) (from to : DomainId) (a b m n : ℕ) : Type 0 where
  pub domains : KeepsDomains old new
  pub used : (e : DomainId) → new.used e ≡ old.used e
  pub heap : (e : DomainId) → new.heap e ≡ old.heap e
  pub source : new.mark from a ≡ m
  pub copy : new.mark to b ≡ n
  pub others : (e : DomainId) (x : ℕ) → (e ≡ from → x ≡ a → ⊥) → (e ≡ to → x ≡ b → ⊥) → new.mark e x ≡ old.mark e x

pub marked_elsewhere : (old new : HeapContent) (d : DomainId) (a m : ℕ) → Marks old new d a m → (e : DomainId) (x : ℕ)
    → (e ≡ d → x ≡ a → ⊥) → new.mark e x ≡ old.mark e x
marked_elsewhere old new d a m marks e x other = elim (same_domain_or_not e d) [
  | inl same ↦ ap (λ (f : DomainId). new.mark f x) same ∙ marks.others x (other same) ∙ sym (ap (λ (f : DomainId). old.mark f x) same)
  | inr differs ↦ marks.other_domains e x differs
]

pub both_marked : (old mid new : HeapContent) (from to : DomainId) (a b m n : ℕ) → (from ≡ to → a ≡ b → ⊥) → Marks old mid from a m
    → Marks mid new to b n → MarksBoth old new from to a b m n
both_marked old mid new from to a b m n apart first second = record {
  domains = both_keep old mid new first.domains second.domains;
  used = λ e. second.used e ∙ first.used e;
  heap = λ e. second.heap e ∙ first.heap e;
  source = marked_elsewhere mid new to b n second from a apart ∙ first.mark;
  copy = second.mark;
  others = λ e x not_source not_copy.
      marked_elsewhere mid new to b n second e x not_copy ∙ marked_elsewhere old mid from a m first e x not_source;
}

-- ---- The first pair of a chain.

pub record HasFirst (a : ℕ) (pairs : List (ℕ × ℕ)) : Type 0 where
  pub copy : ℕ
  pub rest : List (ℕ × ℕ)
  pub is : pairs ≡ (a, copy) ∷ rest

pub has_first : (a : ℕ) (pairs : List (ℕ × ℕ)) → Some a ≡ first_source pairs → HasFirst a pairs
has_first a [] is = absurd cc
has_first a (p ∷ pairs) is = record {
  copy = p.1;
  rest = pairs;
  is = ap (λ (n : ℕ). (n, p.1) ∷ pairs) (sym (same_Some a p.0 is));
}

-- the first pair, where its copy was read
pub record StandsFirst (a b : ℕ) (pairs : List (ℕ × ℕ)) : Type 0 where
  pub rest : List (ℕ × ℕ)
  pub is : pairs ≡ (a, b) ∷ rest

pub stands_first : (c : HeapContent) (from to : DomainId) (a b : ℕ) (pairs : List (ℕ × ℕ)) → IsChain c from to pairs → Some a ≡ first_source pairs
    → b ≡ c.mark from a - 1 → StandsFirst a b pairs
stands_first c from to a b pairs chain is read =
    let h = has_first a pairs is in
    let first : IsChain c from to ((a, h.copy) ∷ h.rest) = subst (λ (ps : List (ℕ × ℕ)). IsChain c from to ps) h.is chain in
    let same : h.copy ≡ b = omega (arith, read, first.linked.0) in
    record { rest = h.rest; is = h.is ∙ ap (λ (n : ℕ). (a, n) ∷ h.rest) same }

pub first_is_marked : (c : HeapContent) (from to : DomainId) (a : ℕ) (pairs : List (ℕ × ℕ)) → IsChain c from to pairs → Some a ≡ first_source pairs
    → 0 < c.mark from a
first_is_marked c from to a pairs chain is =
    let h = has_first a pairs is in
    let first : IsChain c from to ((a, h.copy) ∷ h.rest) = subst (λ (ps : List (ℕ × ℕ)). IsChain c from to ps) h.is chain in
    omega (arith, first.linked.0)

pub pair_in_front : (a b : ℕ) (pairs : List (ℕ × ℕ)) → StandsFirst a b pairs → Contains pairs (a, b)
pair_in_front a b pairs s = subst (λ (ps : List (ℕ × ℕ)). Contains ps (a, b)) (sym s.is) (Contains-here (a, b) s.rest)

pub first_is_name : (c : HeapContent) (from to : DomainId) (a : ℕ) (pairs : List (ℕ × ℕ)) → IsChain c from to pairs → Some a ≡ first_source pairs
    → IsName c from a
first_is_name c from to a pairs chain is =
    let h = has_first a pairs is in
    chain.sources a (h.copy, subst (λ (ps : List (ℕ × ℕ)). Contains ps (a, h.copy)) (sym h.is) (Contains-here (a, h.copy) h.rest))

pub next_copy_is_name : (c : HeapContent) (from to : DomainId) (a b : ℕ) (pairs : List (ℕ × ℕ)) → IsChain c from to pairs → Some a ≡ first_source pairs
    → b ≡ c.mark from a - 1 → IsName c to b
next_copy_is_name c from to a b pairs chain is read =
    chain.copies b (a, pair_in_front a b pairs (stands_first c from to a b pairs chain is read))

pub copy_is_marked : (c : HeapContent) (from to : DomainId) (a b : ℕ) (pairs : List (ℕ × ℕ)) → IsChain c from to pairs → StandsFirst a b pairs
    → 0 < c.mark to b
copy_is_marked c from to a b pairs chain s =
    let first : IsChain c from to ((a, b) ∷ s.rest) = subst (λ (ps : List (ℕ × ℕ)). IsChain c from to ps) s.is chain in
    omega (arith, first.linked.1, link_is_some (first_source s.rest))

pub small_first : (pairs : List (ℕ × ℕ)) → ((a : ℕ) → IsSourceIn pairs a → a < 2 ^ 30) → MatchOption (first_source pairs) ⊤ (λ (a : ℕ). a < 2 ^ 30)
small_first [] small = tt
small_first (p ∷ pairs) small = small p.0 (p.1, Contains-here p pairs)

pub sources_are_small : (c : HeapContent) (from to : DomainId) (pairs : List (ℕ × ℕ)) → IsHeapContent c → IsChain c from to pairs
    → (a : ℕ) → IsSourceIn pairs a → a < 2 ^ 30
sources_are_small c from to pairs holds chain a there = let name = chain.sources a there in holds.small from a name.0 name.1

pub copies_are_small : (c : HeapContent) (from to : DomainId) (pairs : List (ℕ × ℕ)) → IsHeapContent c → IsChain c from to pairs
    → (b : ℕ) → IsCopyIn pairs b → b < 2 ^ 30
copies_are_small c from to pairs holds chain b there = let name = chain.copies b there in holds.small to b name.0 name.1

-- what stands behind the first pair
pub behind_first : (c : HeapContent) (from to : DomainId) (a b : ℕ) (next : Option ℕ) (pairs : List (ℕ × ℕ)) → IsHeapContent c
    → IsChain c from to pairs → (s : StandsFirst a b pairs) → IsNext (c.mark to b) next → next ≡ first_source s.rest
behind_first c from to a b next pairs holds chain s leads =
    let first : IsChain c from to ((a, b) ∷ s.rest) = subst (λ (ps : List (ℕ × ℕ)). IsChain c from to ps) s.is chain in
    next_is (c.mark to b) (first_source s.rest) next first.linked.1
    (small_first s.rest (λ x there. sources_are_small c from to ((a, b) ∷ s.rest) holds first x
    (there.0, Contains-there (x, there.0) (a, b) s.rest there.1))) leads

-- ---- A chain without its first pair.

pub another_source : (p : ℕ × ℕ) (pairs : List (ℕ × ℕ)) → IsDistinct nat_eq (sources_of (p ∷ pairs)) → (a : ℕ) → IsSourceIn pairs a → a ≢ p.0
another_source p pairs distinct a there =
    rest_differs p.0 (sources_of pairs) distinct a (mapped (λ (q : ℕ × ℕ). q.0) pairs (a, there.0) there.1)

pub another_copy : (p : ℕ × ℕ) (pairs : List (ℕ × ℕ)) → IsDistinct nat_eq (copies_of (p ∷ pairs)) → (b : ℕ) → IsCopyIn pairs b → b ≢ p.1
another_copy p pairs distinct b there =
    rest_differs p.1 (copies_of pairs) distinct b (mapped (λ (q : ℕ × ℕ). q.1) pairs (there.0, b) there.1)

pub in_turn_beside : (sources copies new_sources new_copies : ℕ → ℕ) (pairs : List (ℕ × ℕ))
    → ((a : ℕ) → IsSourceIn pairs a → new_sources a ≡ sources a) → ((b : ℕ) → IsCopyIn pairs b → new_copies b ≡ copies b)
    → AreInTurn sources copies pairs → AreInTurn new_sources new_copies pairs
in_turn_beside sources copies new_sources new_copies [] same_sources same_copies turn = tt
in_turn_beside sources copies new_sources new_copies (p ∷ pairs) same_sources same_copies turn = (
  same_sources p.0 (p.1, Contains-here p pairs) ∙ turn.0,
  same_copies p.1 (p.0, Contains-here p pairs) ∙ turn.1,
  in_turn_beside sources copies new_sources new_copies pairs
      (λ a there. same_sources a (there.0, Contains-there (a, there.0) p pairs there.1))
      (λ b there. same_copies b (there.0, Contains-there (there.0, b) p pairs there.1)) turn.2,
)

source_later : (p : ℕ × ℕ) (pairs : List (ℕ × ℕ)) (a : ℕ) → IsSourceIn pairs a → IsSourceIn (p ∷ pairs) a
source_later p pairs a there = (there.0, Contains-there (a, there.0) p pairs there.1)

copy_later : (p : ℕ × ℕ) (pairs : List (ℕ × ℕ)) (b : ℕ) → IsCopyIn pairs b → IsCopyIn (p ∷ pairs) b
copy_later p pairs b there = (there.0, Contains-there (there.0, b) p pairs there.1)

pub rest_of_chain : (now new : HeapContent) (from to : DomainId) (a b m n : ℕ) (pairs : List (ℕ × ℕ)) → IsChain now from to ((a, b) ∷ pairs)
    → MarksBoth now new from to a b m n → IsChain new from to pairs
rest_of_chain now new from to a b m n pairs chain marks =
    let source : IsSourceIn ((a, b) ∷ pairs) a = (b, Contains-here (a, b) pairs) in
    let copy : IsCopyIn ((a, b) ∷ pairs) b = (a, Contains-here (a, b) pairs) in
    record {
      linked = in_turn_beside (now.mark from) (now.mark to) (new.mark from) (new.mark to) pairs
          (λ x there. marks.others from x (λ same is. another_source (a, b) pairs chain.sources_differ x there is)
          (λ same is. chain.apart same x (source_later (a, b) pairs x there)
          (subst (λ (n : ℕ). IsCopyIn ((a, b) ∷ pairs) n) (sym is) copy)))
          (λ y there. marks.others to y
          (λ same is. chain.apart (sym same) y (subst (λ (n : ℕ). IsSourceIn ((a, b) ∷ pairs) n) (sym is) source) (copy_later (a, b) pairs y there))
          (λ same is. another_copy (a, b) pairs chain.copies_differ y there is))
          chain.linked.2;
      sources_differ = rest_distinct a (sources_of pairs) chain.sources_differ;
      copies_differ = rest_distinct b (copies_of pairs) chain.copies_differ;
      sources = λ x there. name_stays now new from x (marks.heap from) (chain.sources x (source_later (a, b) pairs x there));
      copies = λ y there. name_stays now new to y (marks.heap to) (chain.copies y (copy_later (a, b) pairs y there));
      apart = λ same x first second. chain.apart same x (source_later (a, b) pairs x first) (copy_later (a, b) pairs x second);
    }

-- ---- So far.

pub record ForgotPairs (old now : HeapContent) (from to : DomainId) (next : Option ℕ) (pairs : List (ℕ × ℕ)) : Type 0 where
  pub rest : List (ℕ × ℕ)
  pub chain : IsChain now from to rest
  pub is_next : next ≡ first_source rest
  pub among : (a b : ℕ) → Contains rest (a, b) → Contains pairs (a, b)
  pub domains : KeepsDomains old now
  pub used : (e : DomainId) → now.used e ≡ old.used e
  pub heap : (e : DomainId) → now.heap e ≡ old.heap e
  pub cleared : (a b : ℕ) → Contains pairs (a, b) → Contains rest (a, b) ⊎ ((now.mark from a ≡ 0) × (now.mark to b ≡ 0))
  pub others : (e : DomainId) (x : ℕ) → IsOutside from to pairs e x → now.mark e x ≡ old.mark e x

pub no_pair_forgotten : (c : HeapContent) (from to : DomainId) (next : Option ℕ) (pairs : List (ℕ × ℕ)) → IsChain c from to pairs
    → next ≡ first_source pairs → ForgotPairs c c from to next pairs
no_pair_forgotten c from to next pairs chain is = record {
  rest = pairs;
  chain = chain;
  is_next = is;
  among = λ a b there. there;
  domains = record { pages = refl; took_all = refl; quota = λ e. refl; first_page = λ e. refl };
  used = λ e. refl;
  heap = λ e. refl;
  cleared = λ a b there. inl there;
  others = λ e x outside. refl;
}

-- a mark 0 stays 0 where two marks become 0
zero_stays : (now new : HeapContent) (from to : DomainId) (a b : ℕ) → MarksBoth now new from to a b 0 0 → (e : DomainId) (x : ℕ)
    → now.mark e x ≡ 0 → new.mark e x ≡ 0
zero_stays now new from to a b marks e x zero_already = elim (at_or_not from a) [
  | inl here ↦ ap (λ (d : DomainId). new.mark d x) here.0 ∙ ap (new.mark from) here.1 ∙ marks.source
  | inr not_source ↦ elim (at_or_not to b) [
    | inl here ↦ ap (λ (d : DomainId). new.mark d x) here.0 ∙ ap (new.mark to) here.1 ∙ marks.copy
    | inr not_copy ↦ marks.others e x not_source not_copy ∙ zero_already
  ]
]
  where
    at_or_not : (d : DomainId) (y : ℕ) → ((e ≡ d) × (x ≡ y)) ⊎ (e ≡ d → x ≡ y → ⊥)
    at_or_not d y = elim (same_domain_or_not e d) [
      | inl same ↦ elim (same_or_not x y) [ inl is ↦ inl (same, is) | inr other ↦ inr (λ one. other) ]
      | inr differs ↦ inr (λ same. absurd (differs same))
    ]

pair_forgotten_at : (old now new : HeapContent) (from to : DomainId) (a b : ℕ) (next : Option ℕ) (pairs rest : List (ℕ × ℕ))
    → ForgotPairs old now from to (Some a) pairs → IsChain now from to ((a, b) ∷ rest)
    → ((x y : ℕ) → Contains ((a, b) ∷ rest) (x, y) → Contains pairs (x, y))
    → ((x y : ℕ) → Contains pairs (x, y) → Contains ((a, b) ∷ rest) (x, y) ⊎ ((now.mark from x ≡ 0) × (now.mark to y ≡ 0)))
    → next ≡ first_source rest → MarksBoth now new from to a b 0 0 → ForgotPairs old new from to next pairs
pair_forgotten_at old now new from to a b next pairs rest s chain among cleared is marks =
    let here = among a b (Contains-here (a, b) rest) in
    record {
      rest = rest;
      chain = rest_of_chain now new from to a b 0 0 rest chain marks;
      is_next = is;
      among = λ x y there. among x y (Contains-there (x, y) (a, b) rest there);
      domains = both_keep old now new s.domains marks.domains;
      used = λ e. marks.used e ∙ s.used e;
      heap = λ e. marks.heap e ∙ s.heap e;
      cleared = λ x y there. elim (cleared x y there) [
        | inl still ↦ elim (Contains-cases (x, y) (a, b) rest still) [
          | inl same ↦ inr (
            ap (λ (p : ℕ × ℕ). new.mark from p.0) (sym same) ∙ marks.source,
            ap (λ (p : ℕ × ℕ). new.mark to p.1) (sym same) ∙ marks.copy,
          )
          | inr later ↦ inl later
        ]
        | inr zeros ↦ inr (
          zero_stays now new from to a b marks from x zeros.0,
          zero_stays now new from to a b marks to y zeros.1,
        )
      ];
      others = λ e x outside.
          marks.others e x (λ same is. outside.0 same (b, subst (λ (n : ℕ). Contains pairs (n, b)) (sym is) here))
          (λ same is. outside.1 same (a, subst (λ (n : ℕ). Contains pairs (a, n)) (sym is) here))
          ∙ s.others e x outside;
    }

pub one_pair_forgotten : (old now new : HeapContent) (from to : DomainId) (a b : ℕ) (next : Option ℕ) (pairs : List (ℕ × ℕ)) → IsHeapContent now
    → ForgotPairs old now from to (Some a) pairs → b ≡ now.mark from a - 1 → IsNext (now.mark to b) next → MarksBoth now new from to a b 0 0
    → ForgotPairs old new from to next pairs
one_pair_forgotten old now new from to a b next pairs holds s read leads marks =
    let f = stands_first now from to a b s.rest s.chain s.is_next read in
    pair_forgotten_at old now new from to a b next pairs f.rest s (subst (λ (ps : List (ℕ × ℕ)). IsChain now from to ps) f.is s.chain)
    (subst (λ (ps : List (ℕ × ℕ)). (x y : ℕ) → Contains ps (x, y) → Contains pairs (x, y)) f.is s.among)
    (subst (λ (ps : List (ℕ × ℕ)). (x y : ℕ) → Contains pairs (x, y) → Contains ps (x, y) ⊎ ((now.mark from x ≡ 0) × (now.mark to y ≡ 0))) f.is
    s.cleared)
    (behind_first now from to a b next s.rest holds s.chain f leads) marks

-- no source is its own copy
pub first_apart : (c : HeapContent) (from to : DomainId) (a b : ℕ) (pairs : List (ℕ × ℕ)) → IsChain c from to pairs → Contains pairs (a, b)
    → from ≡ to → a ≡ b → ⊥
first_apart c from to a b pairs chain there same is =
    chain.apart same a (b, there) (a, subst (λ (n : ℕ). Contains pairs (a, n)) (sym is) there)

pub all_pairs_forgotten : (old now : HeapContent) (from to : DomainId) (pairs : List (ℕ × ℕ)) → ForgotPairs old now from to None pairs
    → ForgetsPairs old now from to pairs
all_pairs_forgotten old now from to pairs s =
    let zeros : (a b : ℕ) → Contains pairs (a, b) → (now.mark from a ≡ 0) × (now.mark to b ≡ 0) =
    λ a b there. elim (s.cleared a b there) [ inl left ↦ absurd (none_left s.rest s.is_next (a, b) left) | inr done ↦ done ] in
    record {
      domains = s.domains;
      used = s.used;
      heap = s.heap;
      sources = λ a there. (zeros a there.0 there.1).0;
      copies = λ b there. (zeros there.0 b there.1).1;
      others = s.others;
    }
  where
    none_left : (rest : List (ℕ × ℕ)) → None ≡ first_source rest → (p : ℕ × ℕ) → Contains rest p → ⊥
    none_left [] is p there = Contains-none p there
    none_left (q ∷ rest) is p there = absurd cc

-- ---- How many pairs are left of a chain, by the marks.

next_by : ℕ → Option ℕ
next_by mark = cond (mark == 4294967295) None (Some (mark - 1))

next_by_link : (o : Option ℕ) → MatchOption o ⊤ (λ (a : ℕ). a < 2 ^ 30) → next_by (link_to o) ≡ o
unfolding next_by
next_by_link None small = refl
next_by_link (Some a) small = by (a + 1 == 4294967295) refl
  where
    by : (t : Bool) → (a + 1 == 4294967295) ≡ t → cond t None (Some (a + 1 - 1)) ≡ Some a
    by true is = absurd (omega (arith, eqb-true (a + 1) 4294967295 is, small))
    by false is = ap (λ (n : ℕ). Some n) (omega arith)

turns : ℕ → (ℕ → ℕ) → (ℕ → ℕ) → Option ℕ → ℕ
turns zero sources copies next = 0
turns (suc n) sources copies None = 0
turns (suc n) sources copies (Some a) = suc (turns n sources copies (next_by (copies (sources a - 1))))

turns_are : (n : ℕ) (sources copies : ℕ → ℕ) (pairs : List (ℕ × ℕ)) → AreInTurn sources copies pairs → ((a : ℕ) → IsSourceIn pairs a → a < 2 ^ 30)
    → length pairs ≤ n → turns n sources copies (first_source pairs) ≡ length pairs
unfolding turns
turns_are zero sources copies [] turn small few = refl
turns_are zero sources copies (p ∷ pairs) turn small few = absurd (omega (arith, few))
turns_are (suc n) sources copies [] turn small few = refl
turns_are (suc n) sources copies (p ∷ pairs) turn small few =
    let copy : sources p.0 - 1 ≡ p.1 = omega (arith, turn.0) in
    let later : (a : ℕ) → IsSourceIn pairs a → a < 2 ^ 30 = λ a there. small a (source_later p pairs a there) in
    let next : next_by (copies (sources p.0 - 1)) ≡ first_source pairs =
    ap (λ (k : ℕ). next_by (copies k)) copy ∙ ap next_by turn.1 ∙ next_by_link (first_source pairs) (small_first pairs later) in
    ap suc (ap (turns n sources copies) next ∙ turns_are n sources copies pairs turn.2 later (omega (arith, few)))

pub turns_left : HeapContent → DomainId → DomainId → Option ℕ → ℕ
turns_left c from to next = turns (2 ^ 30) (c.mark from) (c.mark to) next

pub turns_of_chain : (c : HeapContent) (from to : DomainId) (pairs : List (ℕ × ℕ)) → IsHeapContent c → IsChain c from to pairs
    → turns_left c from to (first_source pairs) ≡ length pairs
unfolding turns_left
turns_of_chain c from to pairs holds chain =
    let small = sources_are_small c from to pairs holds chain in
    let few = few_names (2 ^ 30) (sources_of pairs) chain.sources_differ
    (λ a there. let p = mapped_from (λ (q : ℕ × ℕ). q.0) pairs a there in
    small a (p.0.1, subst (λ (n : ℕ). Contains pairs (n, p.0.1)) p.2 p.1)) in
    turns_are (2 ^ 30) (c.mark from) (c.mark to) pairs chain.linked small
    (omega (arith, few, length-map pairs (λ (q : ℕ × ℕ). q.0)))

pub fewer_turns : (now new : HeapContent) (from to : DomainId) (a b : ℕ) (next : Option ℕ) (pairs rest : List (ℕ × ℕ)) → IsHeapContent now
    → IsHeapContent new → IsChain now from to pairs → pairs ≡ (a, b) ∷ rest → IsChain new from to rest → next ≡ first_source rest
    → turns_left new from to next < turns_left now from to (Some a)
fewer_turns now new from to a b next pairs rest holds holds_new chain is left is_next =
    let was : turns_left now from to (first_source ((a, b) ∷ rest)) ≡ length ((a, b) ∷ rest) =
    turns_of_chain now from to ((a, b) ∷ rest) holds (subst (λ (ps : List (ℕ × ℕ)). IsChain now from to ps) is chain) in
    let be : turns_left new from to next ≡ length rest =
    ap (turns_left new from to) is_next ∙ turns_of_chain new from to rest holds_new left in
    omega (arith, was, be)

-- where a pair loses its marks
pub fewer_turns_left : (now new : HeapContent) (from to : DomainId) (a b m n : ℕ) (next : Option ℕ) (pairs : List (ℕ × ℕ)) → IsHeapContent now
    → IsHeapContent new → IsChain now from to pairs → StandsFirst a b pairs → IsNext (now.mark to b) next → MarksBoth now new from to a b m n
    → turns_left new from to next < turns_left now from to (Some a)
fewer_turns_left now new from to a b m n next pairs holds holds_new chain s leads marks =
    fewer_turns now new from to a b next pairs s.rest holds holds_new chain s.is
    (rest_of_chain now new from to a b m n s.rest (subst (λ (ps : List (ℕ × ℕ)). IsChain now from to ps) s.is chain) marks)
    (behind_first now from to a b next pairs holds chain s leads)
