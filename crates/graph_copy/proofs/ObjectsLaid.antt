-- An empty copy is made of the first object of a queue: the rest is a queue still, and the two stand in front of a chain.
use Rattle.std.proofs.Common.{◌≡◌, ◌≢◌, ℕ, ◌+◌, ◌-◌, ◌^◌, ◌<◌, ◌≤◌, ◌⊎◌, false, true, List, [], ◌∷◌, ◌++◌, Contains, Option, Some, None, IsSome, sum_by, refl, sym, ap, ◌∙◌, subst, inl, inr, arith}
use Rattle.std.specs.Prelude.{MatchOption, ⊤}
use Rattle.std.specs.List.{IsDistinct}
use Rattle.std.specs.Option.{option_map_or}
use Rattle.std.proofs.lemmas.List.{map-append}
use Rattle.std.proofs.lemmas.List.Elements.{Contains-append_cases}
use Rattle.std.proofs.lemmas.List.Sums.{sum_by-cons}
use Rattle.std.proofs.lemmas.Option.{same_Some}
use Rattle.jk_model.specs.declared.identifiers.DomainId.{DomainId}
use Rattle.jk_model_classes.specs.declared.records.ClassRecord.{ClassRecord}
use Rattle.jk_model_domains.specs.Objects.{NamedObject, Object, object_named, object_words}
use Rattle.jk_model_graphs.specs.Reach.{words_named}
use Rattle.jk_model_heaps.specs.Heaps.{named, shape_of}
use Rattle.jk_model_heaps.proofs.NamesInHeaps.{behind, in_front}
use Rattle.heap_laws.proofs.DistinctNumbers.{one_more}
use Rattle.heap_laws.proofs.MappedLists.{mapped_from}
use Rattle.list_lemmas.proofs.ItemsOfLists.{Contains-cases, Contains-here, Contains-none, Contains-there}
use Rattle.object_store.specs.HeapContents.{HasShapeClasses, HeapContent, IsAdmitted, IsHeapContent, IsLive, IsName, MakesObject, words_left}
use Rattle.object_store.proofs.ObjectsByName.{named_at_end}
use Rattle.object_store.proofs.ObjectsWritten.{both_keep}
use Rattle.graph_copy.specs.Chains.{IsChain, IsCopyIn, IsOutside, IsSourceIn, copies_of, first_source, sources_of}
use Rattle.graph_copy.specs.Laid.{AreLaid, Lays, LaysOne, MayLay, MayLayOne, MayMakeLike, empty_copy, names_of}
use Rattle.graph_copy.specs.Queues.{IsLinked, IsNext, IsQueue, head_of, link_to}
use Rattle.graph_copy.proofs.ChainsForgotten.{MarksBoth, in_turn_beside, same_domain_or_not, small_first, sources_are_small}
use Rattle.graph_copy.proofs.QueuesForgotten.{has_head, link_is_some, linked_beside, next_is, rest_differs, rest_distinct, small_head}
use Rattle.graph_copy.proofs.ReachFound.{words_of_live}
use Rattle.graph_copy.proofs.WordsFound.{some_words, words_of_shape}

-- ---- Names that a heap has and names that it lacks.

-- what both parts lack
pub lacks_in_front : (heap more : List NamedObject) (b : ℕ) → object_named (heap ++ more) b ≡ None → object_named heap b ≡ None
lacks_in_front heap more b lacks = by (object_named heap b) refl
  where
    by : (o : Option Object) → object_named heap b ≡ o → object_named heap b ≡ None
    by None is = is
    by (Some object) is = let there = in_front heap more b object is in absurd cc

pub lacks_behind : (heap more : List NamedObject) (b : ℕ) → object_named (heap ++ more) b ≡ None → object_named more b ≡ None
lacks_behind heap more b lacks = sym (behind heap more b (lacks_in_front heap more b lacks)) ∙ lacks

-- a name of one domain is none that another one, if that is the same, lacks
pub is_not_fresh : (c : HeapContent) (d e : DomainId) (x b : ℕ) → IsName c d x → object_named (c.heap e) b ≡ None → d ≡ e → x ≡ b → ⊥
is_not_fresh c d e x b name fresh same is =
    let there : object_named (c.heap e) b ≡ Some name.0 =
    ap (λ (f : DomainId). object_named (c.heap f) b) (sym same) ∙ ap (object_named (c.heap d)) (sym is) ∙ name.1 in
    absurd cc

-- ---- One copy is made.

pub head_may_be_laid : (c : HeapContent) (classes : List ClassRecord) (from to : DomainId) (a : ℕ) (object : Object) → IsLive c from a object
    → HasShapeClasses classes (shape_of object) → IsAdmitted c to → object_words classes object ≤ words_left c to → MayMakeLike c classes from to a
head_may_be_laid c classes from to a object live has_classes admitted fits =
    record { object = object; live = live; has_classes = has_classes; admitted = admitted; fits = fits }

-- the source is another object than the new one
pub made_apart : (old new : HeapContent) (classes : List ClassRecord) (from to : DomainId) (a b : ℕ) (source object : Object)
    → IsLive old from a source → MakesObject old new classes to b object → from ≡ to → a ≡ b → ⊥
made_apart old new classes from to a b source object live made same is = is_not_fresh old from to a b (source, live) made.fresh same is

-- names stay where an object is made
pub live_where_made : (old new : HeapContent) (classes : List ClassRecord) (d e : DomainId) (b x : ℕ) (made object : Object)
    → MakesObject old new classes d b made → IsLive old e x object → IsLive new e x object
live_where_made old new classes d e b x made object makes live = elim (same_domain_or_not e d) [
  | inl same ↦
      ap (λ (f : DomainId). object_named (new.heap f) x) same ∙ ap (λ (h : List NamedObject). object_named h x) makes.becomes.becomes
      ∙ in_front (old.heap d) (named b made ∷ []) x object (ap (λ (f : DomainId). object_named (old.heap f) x) (sym same) ∙ live)
  | inr differs ↦ ap (λ (h : List NamedObject). object_named h x) (makes.becomes.others e differs) ∙ live
]

pub laid_one : (old mid new : HeapContent) (classes : List ClassRecord) (from to : DomainId) (a b : ℕ) (object : Object) (first : Option ℕ)
    → MakesObject old mid classes to b (empty_copy classes object) → MarksBoth mid new from to a b (b + 1) (link_to first)
    → LaysOne old new classes from to a object first
laid_one old mid new classes from to a b object first made marks = record {
  copy = b;
  fresh = made.fresh;
  domains = both_keep old mid new made.becomes.domains marks.domains;
  becomes = marks.heap to ∙ made.becomes.becomes;
  other_heaps = λ e differs. marks.heap e ∙ made.becomes.others e differs;
  uses = marks.used to ∙ made.becomes.uses ∙ ap (λ (n : ℕ). old.used to + n) (words_of_shape classes object);
  other_uses = λ e differs. marks.used e ∙ made.becomes.other_uses e differs;
  source_mark = marks.source;
  copy_mark = marks.copy;
  other_marks = λ e x not_source not_copy. marks.others e x not_source not_copy ∙ made.becomes.mark e x;
}

-- ---- So far.

pub record LaidSoFar (old now : HeapContent) (classes : List ClassRecord) (from to : DomainId) (next first : Option ℕ) (names : List ℕ) : Type 0 where
  pub rest : List ℕ
  pub pairs : List (ℕ × ℕ)
  pub made : List NamedObject
  pub queue : IsQueue now from rest
  pub is_next : next ≡ head_of rest
  pub is_first : first ≡ first_source pairs
  pub laid : AreLaid old now classes from to pairs made
  pub among : (a : ℕ) → Contains rest a → Contains names a
  pub all : (a : ℕ) → Contains names a → Contains rest a ⊎ IsSourceIn pairs a
  pub only : (a : ℕ) → IsSourceIn pairs a → Contains names a
  pub apart : (a : ℕ) → Contains rest a → IsSourceIn pairs a → ⊥
  pub were_there : (a : ℕ) → Contains rest a → IsName old from a
  pub uses : now.used to + sum_by (words_named classes (old.heap from)) rest ≡ old.used to + sum_by (words_named classes (old.heap from)) names

no_pair : (a b : ℕ) → Contains {X = ℕ × ℕ} [] (a, b) → ⊥
no_pair a b there = Contains-none (a, b) there

nothing_is_laid : (c : HeapContent) (classes : List ClassRecord) (from to : DomainId) → AreLaid c c classes from to [] []
unfolding IsDistinct
nothing_is_laid c classes from to = record {
  domains = record { pages = refl; took_all = refl; quota = λ e. refl; first_page = λ e. refl };
  becomes = sym (nothing_behind (c.heap to));
  other_heaps = λ e differs. refl;
  other_uses = λ e differs. refl;
  chain = record {
    linked = tt;
    sources_differ = tt;
    copies_differ = tt;
    sources = λ a there. absurd (no_pair a there.0 there.1);
    copies = λ b there. absurd (no_pair there.0 b there.1);
    apart = λ same a there. absurd (no_pair a there.0 there.1);
  };
  was_there = λ a there. absurd (no_pair a there.0 there.1);
  fresh = λ b there. absurd (no_pair there.0 b there.1);
  only_copies = λ b there. absurd (Contains-none b there);
  empty = λ a b object there. absurd (no_pair a b there);
  other_marks = λ e x outside. refl;
}
  where
    nothing_behind : (heap : List NamedObject) → heap ++ [] ≡ heap
    nothing_behind [] = refl
    nothing_behind (e ∷ heap) = ap (λ (es : List NamedObject). e ∷ es) (nothing_behind heap)

pub nothing_laid : (c : HeapContent) (classes : List ClassRecord) (from to : DomainId) (next : Option ℕ) (names : List ℕ) → IsQueue c from names
    → next ≡ head_of names → LaidSoFar c c classes from to next None names
nothing_laid c classes from to next names queue is = record {
  rest = names;
  pairs = [];
  made = [];
  queue = queue;
  is_next = is;
  is_first = refl;
  laid = nothing_is_laid c classes from to;
  among = λ a there. there;
  all = λ a there. inl there;
  only = λ a there. absurd (no_pair a there.0 there.1);
  apart = λ a there source. no_pair a source.0 source.1;
  were_there = λ a there. queue.named a there;
  uses = refl;
}

-- ---- There is room for what is left.

room_left : (q : Option ℕ) (u v s r : ℕ) → IsSome q → ((k : ℕ) → q ≡ Some k → u ≤ k) → v + r ≡ u + s → s ≤ option_map_or (λ (k : ℕ). k - u) q 0
    → r ≤ option_map_or (λ (k : ℕ). k - v) q 0
room_left None u v s r some within sum fits = let never : false ≡ true = some in absurd cc
room_left (Some k) u v s r some within sum fits = omega (arith, within k refl, sum, fits)

pub rest_fits : (old now : HeapContent) (classes : List ClassRecord) (from to : DomainId) (next first : Option ℕ) (names : List ℕ)
    → IsHeapContent old → IsAdmitted old to → sum_by (words_named classes (old.heap from)) names ≤ words_left old to
    → (s : LaidSoFar old now classes from to next first names) → sum_by (words_named classes (old.heap from)) s.rest ≤ words_left now to
rest_fits old now classes from to next first names holds admitted fits s =
    subst (λ (q : Option ℕ). sum_by (words_named classes (old.heap from)) s.rest ≤ option_map_or (λ (k : ℕ). k - now.used to) q 0)
    (sym (s.laid.domains.quota to))
    (room_left (old.quota to) (old.used to) (now.used to) (sum_by (words_named classes (old.heap from)) names)
    (sum_by (words_named classes (old.heap from)) s.rest) admitted (λ k is. (holds.within to k is).0) s.uses fits)

pub live_so_far : (old now : HeapContent) (classes : List ClassRecord) (from to e : DomainId) (x : ℕ) (object : Object) (pairs : List (ℕ × ℕ))
    (made : List NamedObject) → AreLaid old now classes from to pairs made → IsLive old e x object → IsLive now e x object
live_so_far old now classes from to e x object pairs made laid live = elim (same_domain_or_not e to) [
  | inl same ↦
      ap (λ (f : DomainId). object_named (now.heap f) x) same ∙ ap (λ (h : List NamedObject). object_named h x) laid.becomes
      ∙ in_front (old.heap to) made x object (ap (λ (f : DomainId). object_named (old.heap f) x) (sym same) ∙ live)
  | inr differs ↦ ap (λ (h : List NamedObject). object_named h x) (laid.other_heaps e differs) ∙ live
]

-- the next object, and what it was
pub next_to_lay : (old now : HeapContent) (classes : List ClassRecord) (from to : DomainId) (a : ℕ) (first : Option ℕ) (names : List ℕ)
    → LaidSoFar old now classes from to (Some a) first names → IsName old from a
next_to_lay old now classes from to a first names s =
    let h = has_head a s.rest s.is_next in
    s.were_there a (subst (λ (xs : List ℕ). Contains xs a) (sym h.is) (Contains-here a h.rest))

pub may_lay_next : (old now : HeapContent) (classes : List ClassRecord) (from to : DomainId) (a : ℕ) (head first : Option ℕ) → IsHeapContent old
    → IsHeapContent now → (may : MayLay old classes from to head) → LaidSoFar old now classes from to (Some a) first may.names
    → MayLayOne now classes from to a first
may_lay_next old now classes from to a head first holds holds_now may s =
    let h = has_head a s.rest s.is_next in
    let there : Contains s.rest a = subst (λ (xs : List ℕ). Contains xs a) (sym h.is) (Contains-here a h.rest) in
    let name = s.were_there a there in
    let fits = rest_fits old now classes from to (Some a) first may.names holds may.admitted may.fits s in
    let sum : sum_by (words_named classes (old.heap from)) s.rest ≡
    words_named classes (old.heap from) a + sum_by (words_named classes (old.heap from)) h.rest =
    ap (sum_by (words_named classes (old.heap from))) h.is ∙ sum_by-cons (words_named classes (old.heap from)) a h.rest in
    let linked : IsLinked (now.mark from) (a ∷ h.rest) = subst (λ (xs : List ℕ). IsLinked (now.mark from) xs) h.is s.queue.linked in
    record {
      like = record {
        object = name.0;
        live = live_so_far old now classes from to from a name.0 s.pairs s.made s.laid name.1;
        has_classes = may.has_classes a name.0 (s.among a there) name.1;
        admitted = subst (λ (q : Option ℕ). IsSome q) (sym (s.laid.domains.quota to)) may.admitted;
        fits = omega (arith, fits, sum, words_of_live classes (old.heap from) a name.0 name.1);
      };
      marked = omega (arith, linked.0, link_is_some (head_of h.rest));
      small = subst (λ (o : Option ℕ). MatchOption o ⊤ (λ (b : ℕ). b < 2 ^ 30)) (sym s.is_first)
          (small_first s.pairs (sources_are_small now from to s.pairs holds_now s.laid.chain));
    }

-- ---- One more is laid.

module _ (old now new : HeapContent) (classes : List ClassRecord) (from to : DomainId) (a : ℕ) (object : Object) (first : Option ℕ)
    (pairs : List (ℕ × ℕ)) (made : List NamedObject) (laid : AreLaid old now classes from to pairs made) (live : IsLive old from a object)
    (one : LaysOne now new classes from to a object first) where
  fresh_in_both : object_named (old.heap to ++ made) one.copy ≡ None
  fresh_in_both = ap (λ (h : List NamedObject). object_named h one.copy) (sym laid.becomes) ∙ one.fresh

  fresh_before : object_named (old.heap to) one.copy ≡ None
  fresh_before = lacks_in_front (old.heap to) made one.copy fresh_in_both

  fresh_among : object_named made one.copy ≡ None
  fresh_among = lacks_behind (old.heap to) made one.copy fresh_in_both

  live_longer : (e : DomainId) (x : ℕ) (o : Object) → IsLive now e x o → IsLive new e x o
  live_longer e x o was = elim (same_domain_or_not e to) [
    | inl same ↦
        ap (λ (f : DomainId). object_named (new.heap f) x) same ∙ ap (λ (h : List NamedObject). object_named h x) one.becomes
        ∙ in_front (now.heap to) (named one.copy (empty_copy classes object) ∷ []) x o
        (ap (λ (f : DomainId). object_named (now.heap f) x) (sym same) ∙ was)
    | inr differs ↦ ap (λ (h : List NamedObject). object_named h x) (one.other_heaps e differs) ∙ was
  ]

  name_longer : (e : DomainId) (x : ℕ) → IsName now e x → IsName new e x
  name_longer e x name = (name.0, live_longer e x name.0 name.1)

  source_cases : (x : ℕ) → IsSourceIn ((a, one.copy) ∷ pairs) x → (x ≡ a) ⊎ IsSourceIn pairs x
  source_cases x there = elim (Contains-cases (x, there.0) (a, one.copy) pairs there.1) [
    | inl same ↦ inl (ap (λ (p : ℕ × ℕ). p.0) (sym same))
    | inr later ↦ inr (there.0, later)
  ]

  copy_cases : (y : ℕ) → IsCopyIn ((a, one.copy) ∷ pairs) y → (y ≡ one.copy) ⊎ IsCopyIn pairs y
  copy_cases y there = elim (Contains-cases (there.0, y) (a, one.copy) pairs there.1) [
    | inl same ↦ inl (ap (λ (p : ℕ × ℕ). p.1) (sym same))
    | inr later ↦ inr (there.0, later)
  ]

  longer_was_there : (x : ℕ) → IsSourceIn ((a, one.copy) ∷ pairs) x → IsName old from x
  longer_was_there x there = elim (source_cases x there) [
    | inl same ↦ subst (λ (n : ℕ). IsName old from n) (sym same) (object, live)
    | inr later ↦ laid.was_there x later
  ]

  longer_fresh : (y : ℕ) → IsCopyIn ((a, one.copy) ∷ pairs) y → object_named (old.heap to) y ≡ None
  longer_fresh y there = elim (copy_cases y there) [
    | inl same ↦ ap (object_named (old.heap to)) same ∙ fresh_before
    | inr later ↦ laid.fresh y later
  ]

  source_mark_stays : (x : ℕ) → x ≢ a → IsName now from x → new.mark from x ≡ now.mark from x
  source_mark_stays x other name =
      one.other_marks from x (λ same. other) (λ same is. is_not_fresh now from to x one.copy name one.fresh same is)

  copy_mark_stays : (y : ℕ) → IsCopyIn pairs y → new.mark to y ≡ now.mark to y
  copy_mark_stays y there =
      one.other_marks to y
      (λ same is. is_not_fresh old from to a y (object, live) (laid.fresh y there) (sym same) (sym is))
      (λ same is. is_not_fresh now to to y one.copy (laid.chain.copies y there) one.fresh same is)

  longer_chain : first ≡ first_source pairs → (IsSourceIn pairs a → ⊥) → IsChain new from to ((a, one.copy) ∷ pairs)
  longer_chain is_first new_source = record {
    linked = (
      one.source_mark,
      one.copy_mark ∙ ap link_to is_first,
      in_turn_beside (now.mark from) (now.mark to) (new.mark from) (new.mark to) pairs
          (λ x there. source_mark_stays x (λ same. new_source (subst (λ (n : ℕ). IsSourceIn pairs n) same there)) (laid.chain.sources x there))
          copy_mark_stays laid.chain.linked,
    );
    sources_differ = one_more a (sources_of pairs)
        (λ there. let p = mapped_from (λ (q : ℕ × ℕ). q.0) pairs a there in
        new_source (p.0.1, subst (λ (n : ℕ). Contains pairs (n, p.0.1)) p.2 p.1))
        laid.chain.sources_differ;
    copies_differ = one_more one.copy (copies_of pairs)
        (λ there. let p = mapped_from (λ (q : ℕ × ℕ). q.1) pairs one.copy there in
        is_not_fresh now to to one.copy one.copy
        (laid.chain.copies one.copy (p.0.0, subst (λ (n : ℕ). Contains pairs (p.0.0, n)) p.2 p.1)) one.fresh refl refl)
        laid.chain.copies_differ;
    sources = λ x there. name_longer from x (elim (source_cases x there) [
      | inl same ↦ subst (λ (n : ℕ). IsName now from n) (sym same)
          (object, live_so_far old now classes from to from a object pairs made laid live)
      | inr later ↦ laid.chain.sources x later
    ]);
    copies = λ y there. elim (copy_cases y there) [
      | inl same ↦ subst (λ (n : ℕ). IsName new to n) (sym same) (
        empty_copy classes object,
        ap (λ (h : List NamedObject). object_named h one.copy) one.becomes
            ∙ named_at_end one.copy (empty_copy classes object) (now.heap to) one.fresh,
      )
      | inr later ↦ name_longer to y (laid.chain.copies y later)
    ];
    apart = λ same x source copy. is_not_fresh old from to x x (longer_was_there x source) (longer_fresh x copy) same refl;
  }

  longer_empty : (x y : ℕ) (o : Object) → Contains ((a, one.copy) ∷ pairs) (x, y) → IsLive old from x o
      → object_named (made ++ named one.copy (empty_copy classes object) ∷ []) y ≡ Some (empty_copy classes o)
  longer_empty x y o there was = elim (Contains-cases (x, y) (a, one.copy) pairs there) [
    | inl same ↦
        let first_is : a ≡ x = ap (λ (p : ℕ × ℕ). p.0) same in
        let is_object : object ≡ o = same_Some object o (sym live ∙ ap (object_named (old.heap from)) first_is ∙ was) in
        ap (object_named (made ++ named one.copy (empty_copy classes object) ∷ [])) (sym (ap (λ (p : ℕ × ℕ). p.1) same))
        ∙ named_at_end one.copy (empty_copy classes object) made fresh_among
        ∙ ap (λ (q : Object). Some (empty_copy classes q)) is_object
    | inr later ↦
        in_front made (named one.copy (empty_copy classes object) ∷ []) y (empty_copy classes o) (laid.empty x y o later was)
  ]

  longer_only : (y : ℕ) → Contains (names_of (made ++ named one.copy (empty_copy classes object) ∷ [])) y → IsCopyIn ((a, one.copy) ∷ pairs) y
  longer_only y there =
      let parts : Contains (names_of made ++ one.copy ∷ []) y =
      subst (λ (ns : List ℕ). Contains ns y)
      (map-append (λ (e : NamedObject). e.name) made (named one.copy (empty_copy classes object) ∷ [])) there in
      elim (Contains-append_cases (names_of made) (one.copy ∷ []) y parts) [
        | inl before ↦ let p = laid.only_copies y before in (p.0, Contains-there (p.0, y) (a, one.copy) pairs p.1)
        | inr last ↦ elim (Contains-cases y one.copy [] last) [
          | inl same ↦ (a, subst (λ (n : ℕ). Contains ((a, one.copy) ∷ pairs) (a, n)) same (Contains-here (a, one.copy) pairs))
          | inr never ↦ absurd (Contains-none y never)
        ]
      ]

  longer_marks : (e : DomainId) (x : ℕ) → IsOutside from to ((a, one.copy) ∷ pairs) e x → new.mark e x ≡ old.mark e x
  longer_marks e x outside =
      one.other_marks e x
      (λ same is. outside.0 same (one.copy, subst (λ (n : ℕ). Contains ((a, one.copy) ∷ pairs) (n, one.copy)) (sym is) (Contains-here (a, one.copy) pairs)))
      (λ same is. outside.1 same (a, subst (λ (n : ℕ). Contains ((a, one.copy) ∷ pairs) (a, n)) (sym is) (Contains-here (a, one.copy) pairs)))
      ∙ laid.other_marks e x (
        λ same there. outside.0 same (there.0, Contains-there (x, there.0) (a, one.copy) pairs there.1),
        λ same there. outside.1 same (there.0, Contains-there (there.0, x) (a, one.copy) pairs there.1),
      )

  longer_heap : new.heap to ≡ old.heap to ++ (made ++ named one.copy (empty_copy classes object) ∷ [])
  longer_heap =
      one.becomes ∙ ap (λ (h : List NamedObject). h ++ named one.copy (empty_copy classes object) ∷ []) laid.becomes
      ∙ append_assoc_here (old.heap to) made (named one.copy (empty_copy classes object) ∷ [])
    where
      append_assoc_here : (xs ys zs : List NamedObject) → (xs ++ ys) ++ zs ≡ xs ++ (ys ++ zs)
      append_assoc_here [] ys zs = refl
      append_assoc_here (x ∷ xs) ys zs = ap (λ (es : List NamedObject). x ∷ es) (append_assoc_here xs ys zs)

  longer_laid : first ≡ first_source pairs → (IsSourceIn pairs a → ⊥)
      → AreLaid old new classes from to ((a, one.copy) ∷ pairs) (made ++ named one.copy (empty_copy classes object) ∷ [])
  longer_laid is_first new_source = record {
    domains = both_keep old now new laid.domains one.domains;
    becomes = longer_heap;
    other_heaps = λ e differs. one.other_heaps e differs ∙ laid.other_heaps e differs;
    other_uses = λ e differs. one.other_uses e differs ∙ laid.other_uses e differs;
    chain = longer_chain is_first new_source;
    was_there = longer_was_there;
    fresh = longer_fresh;
    only_copies = longer_only;
    empty = longer_empty;
    other_marks = longer_marks;
  }

  rest_queue : (rest : List ℕ) → IsQueue now from (a ∷ rest) → IsQueue new from rest
  rest_queue rest queue = record {
    linked = linked_beside (now.mark from) (new.mark from) rest
        (λ x there. source_mark_stays x (rest_differs a rest queue.distinct x there) (queue.named x (Contains-there x a rest there)))
        queue.linked.1;
    distinct = rest_distinct a rest queue.distinct;
    named = λ x there. name_longer from x (queue.named x (Contains-there x a rest there));
  }

laid_at : (old now new : HeapContent) (classes : List ClassRecord) (from to : DomainId) (a : ℕ) (object : Object) (next first : Option ℕ)
    (names rest : List ℕ) → IsHeapContent now → (s : LaidSoFar old now classes from to (Some a) first names) → s.rest ≡ a ∷ rest
    → IsLive old from a object → IsNext (now.mark from a) next → LaysOne now new classes from to a object first
    → LaidSoFar old new classes from to next (Some a) names
laid_at old now new classes from to a object next first names rest holds s is live leads one =
    let queue : IsQueue now from (a ∷ rest) = subst (λ (xs : List ℕ). IsQueue now from xs) is s.queue in
    let still : (x : ℕ) → Contains rest x → Contains s.rest x =
    λ x there. subst (λ (xs : List ℕ). Contains xs x) (sym is) (Contains-there x a rest there) in
    let here : Contains s.rest a = subst (λ (xs : List ℕ). Contains xs a) (sym is) (Contains-here a rest) in
    record {
      rest = rest;
      pairs = (a, one.copy) ∷ s.pairs;
      made = s.made ++ named one.copy (empty_copy classes object) ∷ [];
      queue = rest_queue old now new classes from to a object first s.pairs s.made s.laid live one rest queue;
      is_next = next_is (now.mark from a) (head_of rest) next queue.linked.0
          (small_head rest (λ x there. let name = queue.named x (Contains-there x a rest there) in holds.small from x name.0 name.1)) leads;
      is_first = refl;
      laid = longer_laid old now new classes from to a object first s.pairs s.made s.laid live one s.is_first (s.apart a here);
      among = λ x there. s.among x (still x there);
      all = λ x there. elim (s.all x there) [
        | inl left ↦ elim (Contains-cases x a rest (subst (λ (xs : List ℕ). Contains xs x) is left)) [
          | inl same ↦
              inr (one.copy, subst (λ (n : ℕ). Contains ((a, one.copy) ∷ s.pairs) (n, one.copy)) same (Contains-here (a, one.copy) s.pairs))
          | inr later ↦ inl later
        ]
        | inr done ↦ inr (done.0, Contains-there (x, done.0) (a, one.copy) s.pairs done.1)
      ];
      only = λ x there. elim (source_cases old now new classes from to a object first s.pairs s.made s.laid live one x there) [
        | inl same ↦ subst (λ (n : ℕ). Contains names n) (sym same) (s.among a here)
        | inr later ↦ s.only x later
      ];
      apart = λ x there source. elim (source_cases old now new classes from to a object first s.pairs s.made s.laid live one x source) [
        | inl same ↦ rest_differs a rest queue.distinct x there same
        | inr later ↦ s.apart x (still x there) later
      ];
      were_there = λ x there. s.were_there x (still x there);
      uses = omega (
        arith,
        s.uses,
        one.uses,
        ap (sum_by (words_named classes (old.heap from))) is,
        sum_by-cons (words_named classes (old.heap from)) a rest,
        words_of_live classes (old.heap from) a object live,
      );
    }

pub one_laid : (old now new : HeapContent) (classes : List ClassRecord) (from to : DomainId) (a : ℕ) (next first : Option ℕ) (names : List ℕ)
    → IsHeapContent now → (s : LaidSoFar old now classes from to (Some a) first names) → IsNext (now.mark from a) next
    → ((object : Object) → IsLive now from a object → LaysOne now new classes from to a object first)
    → LaidSoFar old new classes from to next (Some a) names
one_laid old now new classes from to a next first names holds s leads one =
    let h = has_head a s.rest s.is_next in
    let name = next_to_lay old now classes from to a first names s in
    laid_at old now new classes from to a name.0 next first names h.rest holds s h.is name.1 leads
    (one name.0 (live_so_far old now classes from to from a name.0 s.pairs s.made s.laid name.1))

pub all_laid : (old now : HeapContent) (classes : List ClassRecord) (from to : DomainId) (first : Option ℕ) (names : List ℕ)
    → LaidSoFar old now classes from to None first names → Lays old now classes from to names first
all_laid old now classes from to first names s =
    let none : s.rest ≡ [] = none_by s.rest s.is_next in
    record {
      pairs = s.pairs;
      made = s.made;
      laid = s.laid;
      is_first = s.is_first;
      all = λ a there. elim (s.all a there) [
        | inl left ↦ absurd (Contains-none a (subst (λ (xs : List ℕ). Contains xs a) none left))
        | inr done ↦ done
      ];
      only = s.only;
      uses = omega (arith, s.uses, ap (sum_by (words_named classes (old.heap from))) none);
    }
  where
    none_by : (rest : List ℕ) → None ≡ head_of rest → rest ≡ []
    none_by [] is = refl
    none_by (b ∷ rest) is = absurd cc

-- ---- The words that are left grow fewer.

fewer_by : (q : Option ℕ) (u v w : ℕ) → 0 < w → w ≤ option_map_or (λ (k : ℕ). k - u) q 0 → v ≡ u + w
    → option_map_or (λ (k : ℕ). k - v) q 0 < option_map_or (λ (k : ℕ). k - u) q 0
fewer_by None u v w some fits is = absurd (omega (arith, some, fits))
fewer_by (Some k) u v w some fits is = omega (arith, some, fits, is)

pub fewer_left_to_lay : (now new : HeapContent) (classes : List ClassRecord) (from to : DomainId) (a : ℕ) (first : Option ℕ)
    → (may : MayLayOne now classes from to a first) → LaysOne now new classes from to a may.like.object first → words_left new to < words_left now to
fewer_left_to_lay now new classes from to a first may one =
    subst (λ (q : Option ℕ). option_map_or (λ (k : ℕ). k - new.used to) q 0 < words_left now to) (sym (one.domains.quota to))
    (fewer_by (now.quota to) (now.used to) (new.used to) (object_words classes may.like.object) (some_words classes may.like.object) may.like.fits
    one.uses)
