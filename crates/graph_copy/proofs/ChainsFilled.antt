-- The copies of a chain are filled one after the other, from the first pair on, and nothing but copies changes.
use Rattle.std.proofs.Common.{◌≡◌, ◌≢◌, ℕ, ◌-◌, ◌^◌, ◌<◌, ◌≤◌, ◌⊎◌, ◌==◌, Bool, true, false, cond, List, [], ◌∷◌, ◌++◌, Contains, Option, Some, None, nat_eq, refl, sym, ap, ◌∙◌, subst, inl, inr}
use Rattle.std.specs.List.{IsDistinct}
use Rattle.std.proofs.lemmas.List.{map-append}
use Rattle.jk_model.specs.declared.identifiers.DomainId.{DomainId}
use Rattle.jk_model_classes.specs.declared.records.ClassRecord.{ClassRecord}
use Rattle.jk_model_domains.specs.Objects.{NamedObject, Object, object_named}
use Rattle.jk_model_heaps.specs.Heaps.{named, with_object}
use Rattle.jk_model_heaps.proofs.NamesInHeaps.{by_first}
use Rattle.list_lemmas.proofs.ItemsOfLists.{Contains-cases, Contains-here, Contains-none, Contains-there}
use Rattle.list_lemmas.proofs.TestsAndOrders.{same_or_not}
use Rattle.object_store.specs.HeapContents.{HeapBecomes, HeapContent, IsHeapContent, IsLive, IsName, WritesObject}
use Rattle.object_store.proofs.ObjectsByName.{named_beside, named_in_place}
use Rattle.object_store.proofs.ObjectsWritten.{both_keep, live_after}
use Rattle.heap_laws.proofs.ObjectsAfterChanges.{name_kept}
use Rattle.graph_copy.specs.Chains.{AreInTurn, IsChain, IsCopyIn, copies_of, first_source, sources_of}
use Rattle.graph_copy.specs.Filled.{Fills, HasImage, HasParts, MayFill, MayFillOne, copied_object}
use Rattle.graph_copy.specs.Laid.{empty_copy, names_of}
use Rattle.graph_copy.specs.Queues.{IsNext}
use Rattle.graph_copy.proofs.ChainsForgotten.{another_copy, behind_first, copy_is_marked, fewer_turns, pair_in_front, same_domain_or_not, stands_first, turns_left}
use Rattle.graph_copy.proofs.QueuesForgotten.{rest_distinct}

-- ---- An object of the second part of a heap is written.

pub names_kept : (b : ℕ) (p : Object) (heap : List NamedObject) → names_of (with_object b p heap) ≡ names_of heap
names_kept b p [] = refl
names_kept b p (e ∷ heap) =
    let here = name_kept b p e (e.name == b) refl in
    let later = names_kept b p heap in
    cc

stays_by : (b : ℕ) (p : Object) (e : NamedObject) (heap : List NamedObject) (t : Bool) → by_first t e heap b ≡ None
    → (object_named heap b ≡ None → with_object b p heap ≡ heap) → cond t (named b p) e ∷ with_object b p heap ≡ e ∷ heap
stays_by b p e heap true lacks later = absurd cc
stays_by b p e heap false lacks later = ap (λ (es : List NamedObject). e ∷ es) (later lacks)

pub lacking_stays : (b : ℕ) (p : Object) (heap : List NamedObject) → object_named heap b ≡ None → with_object b p heap ≡ heap
lacking_stays b p [] lacks = refl
lacking_stays b p (e ∷ heap) lacks = stays_by b p e heap (e.name == b) lacks (lacking_stays b p heap)

pub part_written : (b : ℕ) (p : Object) (before made : List NamedObject) → object_named before b ≡ None
    → with_object b p (before ++ made) ≡ before ++ with_object b p made
part_written b p before made lacks =
    map-append (λ (e : NamedObject). cond (e.name == b) (named b p) e) before made
    ∙ ap (λ (h : List NamedObject). h ++ with_object b p made) (lacking_stays b p before lacks)

-- ---- So far.

pub record FilledSoFar (old now : HeapContent) (classes : List ClassRecord) (from to : DomainId) (next : Option ℕ) (pairs : List (ℕ × ℕ)) : Type 0 where
  pub rest : List (ℕ × ℕ)
  pub chain : IsChain now from to rest
  pub is_next : next ≡ first_source rest
  pub among : (a b : ℕ) → Contains rest (a, b) → Contains pairs (a, b)
  pub becomes : HeapBecomes old now to (now.heap to) (old.used to)
  pub filled : (a b : ℕ) (object : Object) → Contains pairs (a, b) → IsLive old from a object
      → Contains rest (a, b) ⊎ IsLive now to b (copied_object classes (old.mark from) object)
  pub unfilled : (a b : ℕ) (object : Object) → Contains rest (a, b) → IsLive old to b object → IsLive now to b object
  pub names : (e : DomainId) (x : ℕ) → IsName old e x → IsName now e x
  pub others : (b : ℕ) → (IsCopyIn pairs b → ⊥) → object_named (now.heap to) b ≡ object_named (old.heap to) b
  pub parts : (before made : List NamedObject) → old.heap to ≡ before ++ made → ((b : ℕ) → IsCopyIn pairs b → object_named before b ≡ None)
      → HasParts before made (now.heap to)

pub nothing_filled_yet : (c : HeapContent) (classes : List ClassRecord) (from to : DomainId) (next : Option ℕ) (pairs : List (ℕ × ℕ))
    → IsChain c from to pairs → next ≡ first_source pairs → FilledSoFar c c classes from to next pairs
nothing_filled_yet c classes from to next pairs chain is = record {
  rest = pairs;
  chain = chain;
  is_next = is;
  among = λ a b there. there;
  becomes = record {
    domains = record { pages = refl; took_all = refl; quota = λ e. refl; first_page = λ e. refl };
    becomes = refl;
    others = λ e differs. refl;
    uses = refl;
    other_uses = λ e differs. refl;
    mark = λ e x. refl;
  };
  filled = λ a b object there live. inl there;
  unfilled = λ a b object there live. live;
  names = λ e x name. name;
  others = λ b other. refl;
  parts = λ before made is fresh. record { new = made; becomes = is; names = refl };
}

-- ---- One copy after the other.

-- a copy has one source
pub only_source : (pairs : List (ℕ × ℕ)) → IsDistinct nat_eq (copies_of pairs) → (a b c : ℕ) → Contains pairs (a, c) → Contains pairs (b, c) → a ≡ b
only_source [] distinct a b c first second = absurd (Contains-none (a, c) first)
only_source (p ∷ pairs) distinct a b c first second = elim (Contains-cases (a, c) p pairs first) [
  | inl one ↦ elim (Contains-cases (b, c) p pairs second) [
    | inl two ↦ sym (ap (λ (q : ℕ × ℕ). q.0) one) ∙ ap (λ (q : ℕ × ℕ). q.0) two
    | inr later ↦ absurd (another_copy p pairs distinct c (b, later) (sym (ap (λ (q : ℕ × ℕ). q.1) one)))
  ]
  | inr later ↦ elim (Contains-cases (b, c) p pairs second) [
    | inl two ↦ absurd (another_copy p pairs distinct c (a, later) (sym (ap (λ (q : ℕ × ℕ). q.1) two)))
    | inr also ↦ only_source pairs (rest_distinct p.1 (copies_of pairs) distinct) a b c later also
  ]
]

-- a source is where it was
pub source_still : (old now : HeapContent) (classes : List ClassRecord) (from to : DomainId) (next : Option ℕ) (pairs : List (ℕ × ℕ)) (a b : ℕ)
    (object : Object) → IsChain old from to pairs → FilledSoFar old now classes from to next pairs → Contains pairs (a, b) → IsLive old from a object
    → IsLive now from a object
source_still old now classes from to next pairs a b object chain s there live = elim (same_domain_or_not from to) [
  | inl same ↦
      ap (λ (d : DomainId). object_named (now.heap d) a) same ∙ s.others a (chain.apart same a (b, there))
      ∙ ap (λ (d : DomainId). object_named (old.heap d) a) (sym same) ∙ live
  | inr differs ↦ ap (λ (h : List NamedObject). object_named h a) (s.becomes.others from differs) ∙ live
]

-- names of either heap stay
pub name_so_far : (now new : HeapContent) (to e : DomainId) (b x : ℕ) (p was : Object) → IsLive now to b was → WritesObject now new to b p
    → IsName now e x → IsName new e x
name_so_far now new to e b x p was live writes name = elim (same_domain_or_not e to) [
  | inl same ↦
      let there : IsName now to x = subst (λ (d : DomainId). IsName now d x) same name in
      subst (λ (d : DomainId). IsName new d x) (sym same) (elim (same_or_not x b) [
        | inl is ↦ (
          p,
          ap (λ (h : List NamedObject). object_named h x) writes.becomes ∙ ap (object_named (with_object b p (now.heap to))) is
              ∙ named_in_place b p was (now.heap to) live,
        )
        | inr other ↦ (
          there.0,
          ap (λ (h : List NamedObject). object_named h x) writes.becomes ∙ named_beside b x p (now.heap to) other ∙ there.1,
        )
      ])
  | inr differs ↦ (name.0, ap (λ (h : List NamedObject). object_named h x) (writes.others e differs) ∙ name.1)
]

module _ (old now new : HeapContent) (classes : List ClassRecord) (from to : DomainId) (a b : ℕ) (source : Object) (pairs rest : List (ℕ × ℕ))
    (chain : IsChain old from to pairs) (s : FilledSoFar old now classes from to (Some a) pairs) (is : s.rest ≡ (a, b) ∷ rest)
    (live : IsLive old from a source) (empty : IsLive now to b (empty_copy classes source))
    (writes : WritesObject now new to b (copied_object classes (old.mark from) source)) where
  here : Contains s.rest (a, b)
  here = subst (λ (ps : List (ℕ × ℕ)). Contains ps (a, b)) (sym is) (Contains-here (a, b) rest)

  listed : Contains pairs (a, b)
  listed = s.among a b here

  rest_listed : (x y : ℕ) → Contains rest (x, y) → Contains s.rest (x, y)
  rest_listed x y there = subst (λ (ps : List (ℕ × ℕ)). Contains ps (x, y)) (sym is) (Contains-there (x, y) (a, b) rest there)

  whole : IsChain now from to ((a, b) ∷ rest)
  whole = subst (λ (ps : List (ℕ × ℕ)). IsChain now from to ps) is s.chain

  written : IsLive new to b (copied_object classes (old.mark from) source)
  written =
      ap (λ (h : List NamedObject). object_named h b) writes.becomes
      ∙ named_in_place b (copied_object classes (old.mark from) source) (empty_copy classes source) (now.heap to) empty

  beside : (y : ℕ) → y ≢ b → object_named (new.heap to) y ≡ object_named (now.heap to) y
  beside y other =
      ap (λ (h : List NamedObject). object_named h y) writes.becomes
      ∙ named_beside b y (copied_object classes (old.mark from) source) (now.heap to) other

  one_source : (x y : ℕ) → Contains pairs (x, y) → y ≡ b → x ≡ a
  one_source x y there same = only_source pairs chain.copies_differ x a b (subst (λ (n : ℕ). Contains pairs (x, n)) same there) listed

  rest_chain : IsChain new from to rest
  rest_chain = record {
    linked = turned_on rest whole.linked.2;
    sources_differ = rest_distinct a (sources_of rest) whole.sources_differ;
    copies_differ = rest_distinct b (copies_of rest) whole.copies_differ;
    sources = λ x there. name_so_far now new to from b x (copied_object classes (old.mark from) source) (empty_copy classes source) empty writes
        (whole.sources x (there.0, Contains-there (x, there.0) (a, b) rest there.1));
    copies = λ y there. name_so_far now new to to b y (copied_object classes (old.mark from) source) (empty_copy classes source) empty writes
        (whole.copies y (there.0, Contains-there (there.0, y) (a, b) rest there.1));
    apart = λ same x first second.
        whole.apart same x (first.0, Contains-there (x, first.0) (a, b) rest first.1) (second.0, Contains-there (second.0, x) (a, b) rest second.1);
  }
    where
      turned_on : (ps : List (ℕ × ℕ)) → AreInTurn (now.mark from) (now.mark to) ps → AreInTurn (new.mark from) (new.mark to) ps
      turned_on [] turn = tt
      turned_on (p ∷ ps) turn = (writes.mark from p.0 ∙ turn.0, writes.mark to p.1 ∙ turn.1, turned_on ps turn.2)

  parts_after : (before made : List NamedObject) → old.heap to ≡ before ++ made → ((y : ℕ) → IsCopyIn pairs y → object_named before y ≡ None)
      → HasParts before made (new.heap to)
  parts_after before made both fresh =
      let h = s.parts before made both fresh in
      let p = copied_object classes (old.mark from) source in
      record {
        new = with_object b p h.new;
        becomes = writes.becomes ∙ ap (with_object b p) h.becomes ∙ part_written b p before h.new (fresh b (a, listed));
        names = names_kept b p h.new ∙ h.names;
      }

  filled_at : (next : Option ℕ) → next ≡ first_source rest → FilledSoFar old new classes from to next pairs
  filled_at next is_next = record {
    rest = rest;
    chain = rest_chain;
    is_next = is_next;
    among = λ x y there. s.among x y (rest_listed x y there);
    becomes = record {
      domains = both_keep old now new s.becomes.domains writes.domains;
      becomes = refl;
      others = λ e differs. writes.others e differs ∙ s.becomes.others e differs;
      uses = writes.uses ∙ s.becomes.uses;
      other_uses = λ e differs. writes.other_uses e differs ∙ s.becomes.other_uses e differs;
      mark = λ e x. writes.mark e x ∙ s.becomes.mark e x;
    };
    filled = λ x y object there was. elim (same_or_not y b) [
      | inl same ↦
          let one : source ≡ object = one_object x object was (one_source x y there same) in
          inr (subst (λ (n : ℕ). IsLive new to n (copied_object classes (old.mark from) object)) (sym same)
          (subst (λ (o : Object). IsLive new to b (copied_object classes (old.mark from) o)) one written))
      | inr other ↦ elim (s.filled x y object there was) [
        | inl left ↦ elim (Contains-cases (x, y) (a, b) rest (subst (λ (ps : List (ℕ × ℕ)). Contains ps (x, y)) is left)) [
          | inl first ↦ absurd (other (ap (λ (p : ℕ × ℕ). p.1) (sym first)))
          | inr later ↦ inl later
        ]
        | inr done ↦ inr (beside y other ∙ done)
      ]
    ];
    unfilled = λ x y object there was.
        beside y (another_copy (a, b) rest whole.copies_differ y (x, there)) ∙ s.unfilled x y object (rest_listed x y there) was;
    names = λ e x name.
        name_so_far now new to e b x (copied_object classes (old.mark from) source) (empty_copy classes source) empty writes (s.names e x name);
    others = λ y other.
        beside y (λ same. other (a, subst (λ (n : ℕ). Contains pairs (a, n)) (sym same) listed)) ∙ s.others y other;
    parts = parts_after;
  }
    where
      one_object : (x : ℕ) (object : Object) → IsLive old from x object → x ≡ a → source ≡ object
      one_object x object was same =
          let both : Some source ≡ Some object = sym live ∙ ap (object_named (old.heap from)) (sym same) ∙ was in cc

-- ---- The next pair.

image_still : (old now : HeapContent) (classes : List ClassRecord) (from to : DomainId) (next : Option ℕ) (pairs : List (ℕ × ℕ)) (x : ℕ)
    → FilledSoFar old now classes from to next pairs → HasImage old from x → HasImage now from x
image_still old now classes from to next pairs x s image = record {
  is_name = s.names from x image.is_name;
  marked = subst (λ (m : ℕ). 0 < m) (sym (s.becomes.mark from x)) image.marked;
  small = subst (λ (m : ℕ). m ≤ 2 ^ 30) (sym (s.becomes.mark from x)) image.small;
}

pub fill_still : (old now : HeapContent) (classes : List ClassRecord) (from to : DomainId) (next : Option ℕ) (pairs : List (ℕ × ℕ)) (a b : ℕ)
    → IsChain old from to pairs → (s : FilledSoFar old now classes from to next pairs) → Contains s.rest (a, b) → MayFillOne old classes from to a b
    → MayFillOne now classes from to a b
fill_still old now classes from to next pairs a b chain s there may = record {
  object = may.object;
  live = source_still old now classes from to next pairs a b may.object chain s (s.among a b there) may.live;
  laid_out = may.laid_out;
  has_classes = may.has_classes;
  images = λ x led. image_still old now classes from to next pairs x s (may.images x led);
  empty = s.unfilled a b (empty_copy classes may.object) there may.empty;
  apart = may.apart;
}

pub may_fill_next : (old now : HeapContent) (classes : List ClassRecord) (from to : DomainId) (first : Option ℕ) (a b : ℕ)
    → (may : MayFill old classes from to first) → FilledSoFar old now classes from to (Some a) may.pairs → b ≡ now.mark from a - 1
    → MayFillOne now classes from to a b
may_fill_next old now classes from to first a b may s read =
    let f = stands_first now from to a b s.rest s.chain s.is_next read in
    let there = pair_in_front a b s.rest f in
    fill_still old now classes from to (Some a) may.pairs a b may.chain s there (may.each a b (s.among a b there))

-- the copy has a name and a mark still
pub copy_has_next : (old now new : HeapContent) (classes : List ClassRecord) (from to : DomainId) (first : Option ℕ) (a b : ℕ)
    → (may : MayFill old classes from to first) → FilledSoFar old now classes from to (Some a) may.pairs → b ≡ now.mark from a - 1
    → ((object : Object) → IsLive now from a object → WritesObject now new to b (copied_object classes (now.mark from) object))
    → IsName new to b × (0 < new.mark to b)
copy_has_next old now new classes from to first a b may s read writes =
    let f = stands_first now from to a b s.rest s.chain s.is_next read in
    let ready = may_fill_next old now classes from to first a b may s read in
    let wrote = writes ready.object ready.live in (
      (
        copied_object classes (now.mark from) ready.object,
        live_after now new to b (empty_copy classes ready.object) (copied_object classes (now.mark from) ready.object) ready.empty wrote,
      ),
      subst (λ (m : ℕ). 0 < m) (sym (wrote.mark to b)) (copy_is_marked now from to a b s.rest s.chain f),
    )

pub filled_next : (old now new : HeapContent) (classes : List ClassRecord) (from to : DomainId) (first : Option ℕ) (a b : ℕ) (next : Option ℕ)
    → IsHeapContent now → (may : MayFill old classes from to first) → FilledSoFar old now classes from to (Some a) may.pairs
    → b ≡ now.mark from a - 1
    → ((object : Object) → IsLive now from a object → WritesObject now new to b (copied_object classes (now.mark from) object))
    → IsNext (new.mark to b) next → (pairs : List (ℕ × ℕ)) → IsChain old from to pairs → FilledSoFar old now classes from to (Some a) pairs
    → FilledSoFar old new classes from to next pairs
filled_next old now new classes from to first a b next holds may so_far read writes leads pairs chain s =
    let f = stands_first now from to a b s.rest s.chain s.is_next read in
    let g = stands_first now from to a b so_far.rest so_far.chain so_far.is_next read in
    let one = may.each a b (so_far.among a b (pair_in_front a b so_far.rest g)) in
    let ready = may_fill_next old now classes from to first a b may so_far read in
    let live = source_still old now classes from to (Some a) pairs a b one.object chain s (s.among a b (pair_in_front a b s.rest f)) one.live in
    let marks : now.mark from ≡ old.mark from = λ i x. s.becomes.mark from x i in
    let wrote : WritesObject now new to b (copied_object classes (old.mark from) one.object) =
    subst (λ (mark : ℕ → ℕ). WritesObject now new to b (copied_object classes mark one.object)) marks (writes one.object live) in
    let empty : IsLive now to b (empty_copy classes one.object) =
    so_far.unfilled a b (empty_copy classes one.object) (pair_in_front a b so_far.rest g) one.empty in
    filled_at old now new classes from to a b one.object pairs f.rest chain s f.is one.live empty wrote next
    (behind_first now from to a b next s.rest holds s.chain f (subst (λ (m : ℕ). IsNext m next) (wrote.mark to b) leads))

pub fewer_to_fill : (old now new : HeapContent) (classes : List ClassRecord) (from to : DomainId) (first : Option ℕ) (a b : ℕ) (next : Option ℕ)
    → IsHeapContent now → IsHeapContent new → (may : MayFill old classes from to first) → FilledSoFar old now classes from to (Some a) may.pairs
    → b ≡ now.mark from a - 1
    → ((object : Object) → IsLive now from a object → WritesObject now new to b (copied_object classes (now.mark from) object))
    → IsNext (new.mark to b) next → turns_left new from to next < turns_left now from to (Some a)
fewer_to_fill old now new classes from to first a b next holds holds_new may s read writes leads =
    let f = stands_first now from to a b s.rest s.chain s.is_next read in
    let one = may.each a b (s.among a b (pair_in_front a b s.rest f)) in
    let live = source_still old now classes from to (Some a) may.pairs a b one.object may.chain s (s.among a b (pair_in_front a b s.rest f)) one.live in
    let marks : now.mark from ≡ old.mark from = λ i x. s.becomes.mark from x i in
    let wrote : WritesObject now new to b (copied_object classes (old.mark from) one.object) =
    subst (λ (mark : ℕ → ℕ). WritesObject now new to b (copied_object classes mark one.object)) marks (writes one.object live) in
    let empty : IsLive now to b (empty_copy classes one.object) =
    s.unfilled a b (empty_copy classes one.object) (pair_in_front a b s.rest f) one.empty in
    fewer_turns now new from to a b next s.rest f.rest holds holds_new s.chain f.is
    (rest_chain old now new classes from to a b one.object may.pairs f.rest may.chain s f.is one.live empty wrote)
    (behind_first now from to a b next s.rest holds s.chain f (subst (λ (m : ℕ). IsNext m next) (wrote.mark to b) leads))

pub all_copies_filled : (old now : HeapContent) (classes : List ClassRecord) (from to : DomainId) (pairs : List (ℕ × ℕ))
    → FilledSoFar old now classes from to None pairs → Fills old now classes from to pairs
all_copies_filled old now classes from to pairs s = record {
  becomes = s.becomes;
  filled = λ a b object there live. elim (s.filled a b object there live) [
    | inl left ↦ absurd (none_left s.rest s.is_next (a, b) left)
    | inr done ↦ done
  ];
  others = s.others;
  names = s.names;
  parts = s.parts;
}
  where
    none_left : (rest : List (ℕ × ℕ)) → None ≡ first_source rest → (p : ℕ × ℕ) → Contains rest p → ⊥
    none_left [] is p there = Contains-none p there
    none_left (q ∷ rest) is p there = absurd cc
