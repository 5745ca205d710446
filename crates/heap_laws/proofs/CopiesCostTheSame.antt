-- A copy costs what its source costs: each object costs what its copy costs, and both are counted once.
use Rattle.std.proofs.Common.{◌≡◌, ℕ, suc, ◌+◌, ◌*◌, ◌≤◌, ◌==◌, Bool, true, false, List, [], ◌∷◌, length, map, slice_get, Contains, sum_by, nat_eq, Option, Some, refl, sym, ap, subst, ◌∙◌, inl, inr, arith}
use Rattle.std.specs.List.{AllZip, IsDistinct}
use Rattle.std.specs.Option.{option_map_or}
use Rattle.std.proofs.lemmas.Bool.{eqb-false, eqb-true}
use Rattle.std.proofs.lemmas.List.Elements.{length_all_zip}
use Rattle.std.proofs.lemmas.List.Sums.{sum_by-append, sum_by-cons}
use Rattle.jk_model_classes.specs.declared.records.ClassRecord.{ClassRecord}
use Rattle.jk_model_classes.specs.declared.records.TypeRef.{TypeRef}
use Rattle.jk_model_classes.specs.Layouts.{HEADER_WORDS, cost_of, type_words}
use Rattle.jk_model_domains.specs.Objects.{NamedObject, Object, Array, Plain, Task, Text, object_words}
use Rattle.jk_model_graphs.specs.Copies.{ArePaired, Corresponds, IsCopied, IsCopy}
use Rattle.jk_model_graphs.specs.Reach.{Graph, IsReach, ReachCosts, words_named}
use Rattle.jk_model_heaps.specs.Heaps.{heap_words}
use Rattle.jk_model_heaps.proofs.NamesInHeaps.{by_first}
use Rattle.list_lemmas.proofs.ItemsOfLists.{Contains-cases, Contains-here, Contains-none, Contains-there, place_of}
use Rattle.jk_model_graphs.proofs.OneCost.{no_more as sum_no_more}
use Rattle.heap_laws.proofs.CostsWithinHeaps.{names_cost_at_most}
use Rattle.heap_laws.proofs.DistinctNumbers.{differs, one_more}
use Rattle.heap_laws.proofs.MappedLists.{mapped_from}

-- ---- One object and its copy.

copied_costs : (classes : List ClassRecord) (pairs : List (ℕ × ℕ)) (object copy : Object) → IsCopied classes pairs object copy
    → object_words classes object ≡ object_words classes copy
copied_costs classes pairs (Plain c values) (Plain d others) same = ap (cost_of classes) same.0
copied_costs classes pairs (Array t items) (Array u others) same =
    let as_many : length items ≡ length others = length_all_zip (Corresponds pairs) items others same.1 in
    ap (λ (k : TypeRef). HEADER_WORDS + type_words k * length items) same.0 ∙ ap (λ (n : ℕ). HEADER_WORDS + type_words u * n) as_many
copied_costs classes pairs (Text units) (Text others) same = ap (λ (xs : List ℕ). HEADER_WORDS + length xs) same
copied_costs classes pairs (Task s) (Task t) same = refl
copied_costs classes pairs (Plain c values) (Array u others) same = absurd same
copied_costs classes pairs (Plain c values) (Text others) same = absurd same
copied_costs classes pairs (Plain c values) (Task t) same = absurd same
copied_costs classes pairs (Array t items) (Plain d others) same = absurd same
copied_costs classes pairs (Array t items) (Text others) same = absurd same
copied_costs classes pairs (Array t items) (Task s) same = absurd same
copied_costs classes pairs (Text units) (Plain d others) same = absurd same
copied_costs classes pairs (Text units) (Array u others) same = absurd same
copied_costs classes pairs (Text units) (Task t) same = absurd same
copied_costs classes pairs (Task s) (Plain d others) same = absurd same
copied_costs classes pairs (Task s) (Array u others) same = absurd same
copied_costs classes pairs (Task s) (Text others) same = absurd same

paired_costs : (classes : List ClassRecord) (heap made : List NamedObject) (pairs : List (ℕ × ℕ)) (a b : ℕ) → ArePaired classes heap made pairs a b
    → words_named classes heap a ≡ words_named classes made b
paired_costs classes heap made pairs a b h =
    ap (λ (o : Option Object). option_map_or (object_words classes) o 0) h.is_object
    ∙ copied_costs classes pairs h.object h.copy h.same
    ∙ sym (ap (λ (o : Option Object). option_map_or (object_words classes) o 0) h.is_copy)

-- ---- Numbers that stand for others, one for each.

pub record Stands (R : ℕ → ℕ → Type 0) (xs : List ℕ) : Type 0 where
  pub others : List ℕ
  pub zipped : AllZip R xs others

pub chosen : (R : ℕ → ℕ → Type 0) (xs : List ℕ) → ((x : ℕ) → Contains xs x → (y : ℕ) × R x y) → Stands R xs
chosen R [] h = record { others = []; zipped = tt }
chosen R (x ∷ xs) h =
    let here = h x (Contains-here x xs) in
    let more = chosen R xs (λ a later. h a (Contains-there a x xs later)) in
    record { others = here.0 ∷ more.others; zipped = (here.1, more.zipped) }

-- each of those stands for one
stands_for : (R : ℕ → ℕ → Type 0) (xs ys : List ℕ) (y : ℕ) → AllZip R xs ys → Contains ys y → (x : ℕ) × Contains xs x × R x y
stands_for R [] [] y z h = absurd (Contains-none y h)
stands_for R [] (w ∷ ys) y z h = absurd z
stands_for R (x ∷ xs) [] y z h = absurd z
stands_for R (x ∷ xs) (w ∷ ys) y z h = elim (Contains-cases y w ys h) [
  | inl e ↦ (x, Contains-here x xs, subst (λ (v : ℕ). R x v) e z.0)
  | inr later ↦
      let more = stands_for R xs ys y z.1 later in
      (more.0, Contains-there more.0 x xs more.1, more.2)
]

stay_distinct : (R : ℕ → ℕ → Type 0) (xs ys : List ℕ) → ((a b c : ℕ) → R a c → R b c → a ≡ b) → AllZip R xs ys → IsDistinct nat_eq xs
    → IsDistinct nat_eq ys
unfolding IsDistinct
stay_distinct R [] [] one z d = tt
stay_distinct R [] (y ∷ ys) one z d = absurd z
stay_distinct R (x ∷ xs) [] one z d = absurd z
stay_distinct R (x ∷ xs) (y ∷ ys) one z d =
    one_more y ys
    (λ h.
    let from = stands_for R xs ys y z.1 h in
    differs x from.0 xs d.0 from.1 (one x from.0 y z.0 from.2))
    (stay_distinct R xs ys one z.1 d.1)

same_sums : (R : ℕ → ℕ → Type 0) (f g : ℕ → ℕ) (xs ys : List ℕ) → ((x y : ℕ) → R x y → f x ≡ g y) → AllZip R xs ys → sum_by f xs ≡ sum_by g ys
same_sums R f g [] [] h z = refl
same_sums R f g [] (y ∷ ys) h z = absurd z
same_sums R f g (x ∷ xs) [] h z = absurd z
same_sums R f g (x ∷ xs) (y ∷ ys) h z = omega (arith, sum_by-cons f x xs, sum_by-cons g y ys, h x y z.0, same_sums R f g xs ys h z.1)

-- ---- The names of what was made.

abbrev pub names_made : List NamedObject → List ℕ
names_made made = map (λ (e : NamedObject). e.name) made

abbrev Differ : List NamedObject → Type 0
Differ made = (i j : ℕ) (a b : NamedObject) → slice_get made i ≡ Some a → slice_get made j ≡ Some b → a.name ≡ b.name → i ≡ j

differ_later : (e : NamedObject) (made : List NamedObject) → Differ (e ∷ made) → Differ made
differ_later e made differ i j a b at_i at_j same = omega (arith, differ (suc i) (suc j) a b at_i at_j same)

not_again : (e : NamedObject) (made : List NamedObject) → Differ (e ∷ made) → Contains (names_made made) e.name → ⊥
not_again e made differ h =
    let from = mapped_from (λ (x : NamedObject). x.name) made e.name h in
    let place = place_of made from.0 from.1 in
    let e0 : 0 ≡ suc place.0 = differ 0 (suc place.0) e from.0 refl place.1 (sym from.2) in
    omega (arith, e0)

names_differ : (made : List NamedObject) → Differ made → IsDistinct nat_eq (names_made made)
unfolding IsDistinct
names_differ [] differ = tt
names_differ (e ∷ made) differ = one_more e.name (names_made made) (not_again e made differ) (names_differ made (differ_later e made differ))

-- a name other than the first is found behind it
behind_first : (t : Bool) (classes : List ClassRecord) (e : NamedObject) (made : List NamedObject) (a : ℕ) → e.name == a ≡ t → (e.name ≡ a → ⊥)
    → option_map_or (object_words classes) (by_first t e made a) 0 ≡ words_named classes made a
behind_first true classes e made a is ne = absurd (ne (eqb-true e.name a is))
behind_first false classes e made a is ne = refl

at_first : (t : Bool) (classes : List ClassRecord) (e : NamedObject) (made : List NamedObject) → e.name == e.name ≡ t
    → option_map_or (object_words classes) (by_first t e made e.name) 0 ≡ object_words classes e.object
at_first true classes e made is = refl
at_first false classes e made is = absurd (eqb-false e.name e.name is refl)

sum_behind : (classes : List ClassRecord) (e : NamedObject) (made : List NamedObject) (names : List ℕ) → ((a : ℕ) → Contains names a → e.name ≡ a → ⊥)
    → sum_by (words_named classes (e ∷ made)) names ≡ sum_by (words_named classes made) names
sum_behind classes e made [] h = refl
sum_behind classes e made (a ∷ names) h =
    omega (
      arith,
      sum_by-cons (words_named classes (e ∷ made)) a names,
      sum_by-cons (words_named classes made) a names,
      behind_first (e.name == a) classes e made a refl (h a (Contains-here a names)),
      sum_behind classes e made names (λ b later. h b (Contains-there b a names later)),
    )

made_costs : (classes : List ClassRecord) (made : List NamedObject) → IsDistinct nat_eq (names_made made)
    → heap_words classes made ≡ sum_by (words_named classes made) (names_made made)
unfolding IsDistinct
made_costs classes [] d = refl
made_costs classes (e ∷ made) d =
    omega (
      arith,
      sum_by-cons (λ (x : NamedObject). object_words classes x.object) e made,
      sum_by-cons (words_named classes (e ∷ made)) e.name (names_made made),
      at_first (e.name == e.name) classes e made refl,
      sum_behind classes e made (names_made made) (λ a h. differs e.name a (names_made made) d.0 h),
      made_costs classes made d.1,
    )

-- ---- Both ways.

module _ (classes : List ClassRecord) (source : Graph) (before : List NamedObject) (copy : Graph) (pairs : List (ℕ × ℕ)) where
  abbrev Pair : ℕ → ℕ → Type 0
  Pair a b = Contains pairs (a, b)

  at_most : (names : List ℕ) (h : IsCopy classes source before copy pairs) → IsReach classes source names
      → sum_by (words_named classes source.heap) names ≤ heap_words classes h.made
  at_most names h reach =
      let s = chosen Pair names (λ a there. h.all_reached a (reach.each a there)) in
      let d : IsDistinct nat_eq s.others = stay_distinct Pair names s.others h.one_to_one.one_source s.zipped reach.distinct in
      omega (
        arith,
        same_sums Pair (words_named classes source.heap) (words_named classes h.made) names s.others
            (λ a b p. paired_costs classes source.heap h.made pairs a b (h.each_made a b p)) s.zipped,
        names_cost_at_most classes h.made s.others d,
      )

  abbrev PairBack : ℕ → ℕ → Type 0
  PairBack b a = Contains pairs (a, b)

  no_more : (names : List ℕ) (h : IsCopy classes source before copy pairs) → IsReach classes source names
      → heap_words classes h.made ≤ sum_by (words_named classes source.heap) names
  no_more names h reach =
      let d : IsDistinct nat_eq (names_made h.made) = names_differ h.made h.differ in
      let s = chosen PairBack (names_made h.made) (λ b there.
      let from = mapped_from (λ (e : NamedObject). e.name) h.made b there in
      let pair = h.all_made from.0 from.1 in
      (pair.0, subst (λ (c : ℕ). Contains pairs (pair.0, c)) from.2 pair.1)) in
      let e : IsDistinct nat_eq s.others = stay_distinct PairBack (names_made h.made) s.others (λ a b c p q. h.one_to_one.one_copy c a b p q) s.zipped d in
      let among : (a : ℕ) → Contains s.others a → Contains names a =
      λ a there.
      let from = stands_for PairBack (names_made h.made) s.others a s.zipped there in
      reach.all a (h.each_reached a from.0 from.2) in
      omega (
        arith,
        made_costs classes h.made d,
        same_sums PairBack (words_named classes h.made) (words_named classes source.heap) (names_made h.made) s.others
            (λ b a p. sym (paired_costs classes source.heap h.made pairs a b (h.each_made a b p))) s.zipped,
        sum_no_more (words_named classes source.heap) s.others names e among,
      )

  pub copies_cost_their_reach : (n : ℕ) → IsCopy classes source before copy pairs → ReachCosts classes source n
      → heap_words classes copy.heap ≡ heap_words classes before + n
  copies_cost_their_reach n h (names, reach, is) =
      omega (
        arith,
        ap (heap_words classes) h.grown,
        sum_by-append (λ (e : NamedObject). object_words classes e.object) before h.made,
        at_most names h reach,
        no_more names h reach,
        is,
      )
