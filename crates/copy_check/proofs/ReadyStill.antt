-- The heaps of the tests are ready once they are opened, and stay so where an object is made, written or copied; and a copy may be asked.
use Rattle.std.proofs.Common.{◌≡◌, ◌≢◌, ℕ, suc, ◌<◌, ◌⊎◌, ◌==◌, Bool, true, false, pos, List, [], ◌∷◌, ◌++◌, length, slice_set, Option, Some, None, IsSome, slice_get, refl, sym, ap, ◌∙◌, subst, inl, inr, arith}
use Rattle.std.specs.List.{AllByRecursion, IsDistinct}
use Rattle.std.proofs.lemmas.Bool.{eqb-false}
use Rattle.std.proofs.lemmas.Option.{same_Some, slice_get_within}
use Rattle.jk_model.specs.declared.identifiers.DomainId.{DomainId}
use Rattle.jk_model.specs.declared.values.Value.{Value}
use Rattle.jk_model.specs.declared.values.Value.TheVariants as Held
use Rattle.jk_model_classes.specs.declared.records.ClassRecord.{ClassRecord}
use Rattle.jk_model_classes.specs.Worlds.{NamedClass, WorldRecord}
use Rattle.jk_model_domains.specs.Objects.{NamedObject, Object, Array, Plain, Task, Text, object_named}
use Rattle.jk_model_graphs.specs.Copies.{IsCopied}
use Rattle.jk_model_heaps.specs.declared.shapes.Shape.{Shape}
use Rattle.jk_model_heaps.specs.Heaps.{named, shape_of, with_object, zero_object}
use Rattle.jk_model_heaps.proofs.NamesInHeaps.{behind, by_first, in_front}
use Rattle.heap_laws.proofs.ObjectsAfterChanges.{found_stands}
use Rattle.list_lemmas.proofs.TestsAndOrders.{mapped_option, same_or_not}
use Rattle.object_store.specs.HeapContents.{Admits, AreOfKind, HasItem, HasNoObject, HasShapeClasses, HeapContent, IsAdmitted, IsLive, IsName, IsSame, IsSmall, IsWritten, MakesObject, TakesItem, WritesObject, item_of}
use Rattle.object_store.proofs.ObjectsByName.{named_beside, named_in_place}
use Rattle.graph_copy.specs.declared.answers.CopyAnswer.{CopyAnswer}
use Rattle.graph_copy.specs.declared.answers.CopyAnswer.TheVariants.{Copied, NoRoom, NotCopiable}
use Rattle.graph_copy.specs.AskedOfCopies.{AgreeOnNames, HasDomain, MayBeGiven, MayCopy, table_of}
use Rattle.graph_copy.specs.CopyAnswers.{Copies}
use Rattle.graph_copy.specs.Places.{place_count}
use Rattle.graph_copy.proofs.ChainsForgotten.{same_domain_or_not}
use Rattle.graph_copy.proofs.PlacesFilled.{item_at_place}
use Rattle.copy_check.specs.ReadyHeaps.{IsGood, IsOpen, IsReady, IsReadyWorld, IsUnit}
use Rattle.copy_check.proofs.GoodObjects.{IsPaired, followed_within, good_copy, good_new, good_still, good_written}

abbrev FIRST : DomainId
FIRST = record { 0 = 0 }

abbrev SECOND : DomainId
SECOND = record { 0 = 1 }

-- ---- Which domain it is.

first_or_second : (d : DomainId) → d.0 < 2 → (d ≡ FIRST) ⊎ (d ≡ SECOND)
first_or_second d few = elim (same_domain_or_not d FIRST) [
  | inl first ↦ inl first
  | inr other ↦ elim (same_domain_or_not d SECOND) [
    | inl second ↦ inr second
    | inr neither ↦
        let not_first : d.0 ≡ 0 → ⊥ = λ is. other (λ i. record { 0 = is i }) in
        let not_second : d.0 ≡ 1 → ⊥ = λ is. neither (λ i. record { 0 = is i }) in
        absurd (omega (arith, few, not_first, not_second))
  ]
]

-- ---- Heaps that change.

-- names stay, and each object was there or is good
grown_open : (old new : HeapContent) (classes : List ClassRecord) (d : DomainId) → IsOpen old classes d → new.quota d ≡ old.quota d
    → ((a : ℕ) → new.mark d a ≡ old.mark d a) → ((b : ℕ) → IsName old d b → IsName new d b)
    → ((a : ℕ) (object : Object) → IsLive new d a object → IsLive old d a object ⊎ IsGood new classes d object) → IsOpen new classes d
grown_open old new classes d open_before same_quota same_marks kept cases = record {
  admitted = subst (λ (q : Option ℕ). IsSome q) (sym same_quota) open_before.admitted;
  calm = λ a. same_marks a ∙ open_before.calm a;
  good = λ a object live. elim (cases a object live) [
    | inl was ↦ good_still old new classes d object kept (open_before.good a object was)
    | inr good ↦ good
  ];
}

same_open : (old new : HeapContent) (classes : List ClassRecord) (d : DomainId) → IsOpen old classes d → new.quota d ≡ old.quota d
    → ((a : ℕ) → new.mark d a ≡ old.mark d a) → new.heap d ≡ old.heap d → IsOpen new classes d
same_open old new classes d open_before same_quota same_marks same_heap =
    grown_open old new classes d open_before same_quota same_marks
    (λ b name. (name.0, ap (λ (h : List NamedObject). object_named h b) same_heap ∙ name.1))
    (λ a object live. inl (ap (λ (h : List NamedObject). object_named h a) (sym same_heap) ∙ live))

pub ready_same : (old new : HeapContent) (classes : List ClassRecord) → IsReady old classes → IsSame old new → IsReady new classes
ready_same old new classes ready same = record {
  each = λ d few. same_open old new classes d (ready.each d few) (same.domains.quota d) (same.mark d) (same.heap d);
}

-- ---- Heaps that are opened.

empty_open : (c : HeapContent) (classes : List ClassRecord) (d : DomainId) → IsAdmitted c d → HasNoObject c d → IsOpen c classes d
empty_open c classes d admitted empty = record {
  admitted = admitted;
  calm = empty.mark;
  good = λ a object live. absurd (none a object (ap (λ (h : List NamedObject). object_named h a) (sym empty.heap) ∙ live));
}
  where
    none : (a : ℕ) (object : Object) → object_named [] a ≡ Some object → ⊥
    none a object is = cc

admitted_then : (old new : HeapContent) (d : DomainId) (words : ℕ) → Admits old new d words → IsAdmitted new d
admitted_then old new d words admits = subst (λ (q : Option ℕ). IsSome q) (sym admits.quota) refl

pub opened : (c mid new : HeapContent) (classes : List ClassRecord) (a b : ℕ) → Admits c mid FIRST a → Admits mid new SECOND b → IsReady new classes
opened c mid new classes a b first second = record {
  each = λ d few. elim (first_or_second d few) [
    | inl is ↦ subst (λ (e : DomainId). IsOpen new classes e) (sym is)
        (same_open mid new classes FIRST
        (empty_open mid classes FIRST (admitted_then c mid FIRST a first) first.empty)
        (second.others.quota FIRST apart) (λ x. second.others.mark FIRST x apart) (second.others.heap FIRST apart))
    | inr is ↦ subst (λ (e : DomainId). IsOpen new classes e) (sym is)
        (empty_open new classes SECOND (admitted_then mid new SECOND b second) second.empty)
  ];
}
  where
    apart : FIRST ≡ SECOND → ⊥
    apart is = let numbers : 0 ≡ 1 = ap (λ (d : DomainId). d.0) is in omega (arith, numbers)

-- the second domain is none yet
pub second_is_new : (c mid : HeapContent) (a : ℕ) → ((d : DomainId) → c.quota d ≡ None) → Admits c mid FIRST a → mid.quota SECOND ≡ None
second_is_new c mid a none first = first.others.quota SECOND apart ∙ none SECOND
  where
    apart : SECOND ≡ FIRST → ⊥
    apart is = let numbers : 1 ≡ 0 = ap (λ (d : DomainId). d.0) is in omega (arith, numbers)

not_there : (o : Option ℕ) → o ≡ None → IsSome o → ⊥
not_there None is some = cc
not_there (Some x) is some = cc

-- where one domain at most is admitted, few are
few_but_one : (c : HeapContent) (a : DomainId) → ((d : DomainId) → d ≢ a → c.quota d ≡ None) → (domains : List DomainId)
    → IsDistinct (λ (d e : DomainId). d.0 == e.0) domains → AllByRecursion (IsAdmitted c) domains → length domains < 140000
unfolding IsDistinct
few_but_one c a none [] distinct all = omega arith
few_but_one c a none (d ∷ []) distinct all = omega arith
few_but_one c a none (d ∷ e ∷ ds) distinct all =
    let first = only d all.0 in
    let second = only e all.1.0 in
    absurd (eqb-false d.0 e.0 distinct.0.0 (first ∙ sym second))
  where
    only : (x : DomainId) → IsAdmitted c x → x.0 ≡ a.0
    only x admitted = elim (same_or_not x.0 a.0) [
      | inl same ↦ same
      | inr other ↦ absurd (not_there (c.quota x) (none x (λ same. other (ap (λ (y : DomainId). y.0) same))) admitted)
    ]

pub few_at_first : (c : HeapContent) → ((d : DomainId) → c.quota d ≡ None) → (domains : List DomainId)
    → IsDistinct (λ (d e : DomainId). d.0 == e.0) domains → AllByRecursion (IsAdmitted c) domains → length domains < 140000
few_at_first c none domains distinct all = few_but_one c FIRST (λ d other. none d) domains distinct all

pub few_then : (c mid : HeapContent) (a : ℕ) → ((d : DomainId) → c.quota d ≡ None) → Admits c mid FIRST a → (domains : List DomainId)
    → IsDistinct (λ (d e : DomainId). d.0 == e.0) domains → AllByRecursion (IsAdmitted mid) domains → length domains < 140000
few_then c mid a none first domains distinct all =
    few_but_one mid FIRST (λ d other. first.others.quota d other ∙ none d) domains distinct all

-- ---- An object is made.

last_by : (t : Bool) (a x : ℕ) (made o : Object) → by_first t (named a made) [] x ≡ Some o → made ≡ o
last_by true a x made o is = same_Some made o is
last_by false a x made o is = absurd cc

made_cases : (heap : List NamedObject) (a x : ℕ) (made o : Object) → object_named (heap ++ named a made ∷ []) x ≡ Some o
    → (object_named heap x ≡ Some o) ⊎ (made ≡ o)
made_cases heap a x made o is = by (object_named heap x) refl
  where
    by : (f : Option Object) → object_named heap x ≡ f → (object_named heap x ≡ Some o) ⊎ (made ≡ o)
    by None lacks = inr (last_by (a == x) a x made o (sym (behind heap (named a made ∷ []) x lacks) ∙ is))
    by (Some p) has = inl (has ∙ sym (in_front heap (named a made ∷ []) x p has) ∙ is)

made_open : (old new : HeapContent) (classes : List ClassRecord) (d : DomainId) (a : ℕ) (shape : Shape) → HasShapeClasses classes shape
    → MakesObject old new classes d a (zero_object classes shape) → IsOpen old classes d → IsOpen new classes d
made_open old new classes d a shape has made before =
    let heap_is = made.becomes.becomes in
    grown_open old new classes d before (made.becomes.domains.quota d) (made.becomes.mark d)
    (λ b name. (
      name.0,
      ap (λ (h : List NamedObject). object_named h b) heap_is
          ∙ in_front (old.heap d) (named a (zero_object classes shape) ∷ []) b name.0 name.1,
    ))
    (λ x object live. elim (made_cases (old.heap d) a x (zero_object classes shape) object
    (ap (λ (h : List NamedObject). object_named h x) (sym heap_is) ∙ live)) [
      | inl was ↦ inl was
      | inr is ↦ inr (subst (λ (o : Object). IsGood new classes d o) is (good_new new classes d shape has))
    ])

pub ready_made : (old new : HeapContent) (classes : List ClassRecord) (d : DomainId) (a : ℕ) (shape : Shape) → IsReady old classes
    → HasShapeClasses classes shape → MakesObject old new classes d a (zero_object classes shape) → IsReady new classes
ready_made old new classes d a shape ready has made = record {
  each = λ e few. elim (same_domain_or_not e d) [
    | inl same ↦ subst (λ (f : DomainId). IsOpen new classes f) (sym same)
        (made_open old new classes d a shape has made (subst (λ (f : DomainId). IsOpen old classes f) same (ready.each e few)))
    | inr differs ↦
        same_open old new classes e (ready.each e few) (made.becomes.domains.quota e) (made.becomes.mark e) (made.becomes.others e differs)
  ];
}

-- ---- An object is read and written.

pub has_item : (c : HeapContent) (classes : List ClassRecord) (d : DomainId) (a i : ℕ) (shape : Shape) → d.0 < 2 → IsReady c classes → IsName c d a
    → ((object : Object) → IsLive c d a object → shape ≡ shape_of object) → i < place_count classes shape → HasItem c classes d a i
has_item c classes d a i shape few ready name is within =
    let good = (ready.each d few).good a name.0 name.1 in
    let there : i < place_count classes (shape_of name.0) = subst (λ (s : Shape). i < place_count classes s) (is name.0 name.1) within in
    let item = item_at_place classes name.0 i good.laid_out there in
    record { object = name.0; live = name.1; laid_out = good.laid_out; value = item.0; stands = item.1 }

may_put : (object : Object) (i : ℕ) (before v : Value) → item_of object i ≡ Some before → AreOfKind before v → IsSmall v
    → ((units : List ℕ) → object ≡ Text units → IsUnit v) → (after : Object) × IsWritten object i v after
may_put (Plain c fields) i before v stands kind small unit = (
  Plain c (slice_set fields i v),
  (slice_set fields i v, record { before = before; stands = stands; kind = kind; small = small; becomes = refl }, refl),
)
may_put (Array t items) i before v stands kind small unit = (
  Array t (slice_set items i v),
  (slice_set items i v, record { before = before; stands = stands; kind = kind; small = small; becomes = refl }, refl),
)
may_put (Text units) i before (Held.Int (pos u)) stands kind small unit =
    let at = mapped_option (λ (n : ℕ). Held.Int (pos n)) (slice_get units i) before stands in
    (Text (slice_set units i u), (slice_get_within units i at.0 at.1, unit units refl, refl))
may_put (Text units) i before v stands kind small unit = absurd (unit units refl)
may_put (Task s) i before v stands kind small unit = absurd cc

pub takes_item : (c : HeapContent) (classes : List ClassRecord) (d : DomainId) (a i : ℕ) (before v : Value) → d.0 < 2 → IsReady c classes
    → IsName c d a → ((object : Object) → IsLive c d a object → item_of object i ≡ Some before) → AreOfKind before v → IsSmall v
    → ((units : List ℕ) → IsLive c d a (Text units) → IsUnit v) → TakesItem c classes d a i v
takes_item c classes d a i before v few ready name stands kind small unit =
    let put = may_put name.0 i before v (stands name.0 name.1) kind small
    (λ units is. unit units (name.1 ∙ ap (λ (o : Object). Some o) is)) in
    record {
      object = name.0;
      live = name.1;
      laid_out = ((ready.each d few).good a name.0 name.1).laid_out;
      new = put.0;
      written = put.1;
    }

known_name : (heap : List NamedObject) (v : Value) (b : ℕ) → MayBeGiven heap v → v ≡ Held.Obj b → (object : Object) × (object_named heap b ≡ Some object)
known_name heap v b known is = subst (λ (w : Value). MayBeGiven heap w) is known

written_open : (old new : HeapContent) (classes : List ClassRecord) (d : DomainId) (a i : ℕ) (object after : Object) (v : Value)
    → IsLive old d a object → IsWritten object i v after → MayBeGiven (old.heap d) v → WritesObject old new d a after → IsOpen old classes d
    → IsOpen new classes d
written_open old new classes d a i object after v live written known writes before =
    grown_open old new classes d before (writes.domains.quota d) (writes.mark d) kept cases
  where
    kept : (b : ℕ) → IsName old d b → IsName new d b
    kept b name = elim (same_or_not b a) [
      | inl is ↦ (
        after,
        ap (λ (h : List NamedObject). object_named h b) writes.becomes ∙ ap (object_named (with_object a after (old.heap d))) is
            ∙ named_in_place a after object (old.heap d) live,
      )
      | inr other ↦ (
        name.0,
        ap (λ (h : List NamedObject). object_named h b) writes.becomes ∙ named_beside a b after (old.heap d) other ∙ name.1,
      )
    ]

    good_after : IsGood new classes d after
    good_after =
        good_still old new classes d after kept
        (good_written old classes d object after i v (before.good a object live) written (λ b is. known_name (old.heap d) v b known is))

    cases : (x : ℕ) (o : Object) → IsLive new d x o → IsLive old d x o ⊎ IsGood new classes d o
    cases x o there = elim (same_or_not x a) [
      | inl is ↦
          let at : object_named (with_object a after (old.heap d)) a ≡ Some o =
          ap (object_named (with_object a after (old.heap d))) (sym is) ∙ ap (λ (h : List NamedObject). object_named h x) (sym writes.becomes) ∙ there in
          let same : after ≡ o = same_Some after o (sym (named_in_place a after object (old.heap d) live) ∙ at) in
          inr (subst (λ (p : Object). IsGood new classes d p) same good_after)
      | inr other ↦
          inl (sym (named_beside a x after (old.heap d) other) ∙ ap (λ (h : List NamedObject). object_named h x) (sym writes.becomes) ∙ there)
    ]

pub ready_written : (old new : HeapContent) (classes : List ClassRecord) (d : DomainId) (a i : ℕ) (v : Value) → d.0 < 2 → IsReady old classes
    → (t : TakesItem old classes d a i v) → MayBeGiven (old.heap d) v
    → ((object after : Object) → IsLive old d a object → IsWritten object i v after → WritesObject old new d a after) → IsReady new classes
ready_written old new classes d a i v few_d ready t known wrote =
    let writes = wrote t.object t.new t.live t.written in
    record {
      each = λ e few. elim (same_domain_or_not e d) [
        | inl same ↦ subst (λ (f : DomainId). IsOpen new classes f) (sym same)
            (written_open old new classes d a i t.object t.new v t.live t.written known writes (ready.each d few_d))
        | inr differs ↦ same_open old new classes e (ready.each e few) (writes.domains.quota e) (writes.mark e) (writes.others e differs)
      ];
    }

-- ---- A copy is made.

copied_open : (c new : HeapContent) (classes : List ClassRecord) (from to : DomainId) (values answers : List Value)
    → Copies c new classes from to values answers → IsOpen c classes from → IsOpen c classes to → IsOpen new classes to
copied_open c new classes from to values answers copies source before =
    grown_open c new classes to before (copies.becomes.domains.quota to) (copies.becomes.mark to) kept cases
  where
    made : List NamedObject
    made = copies.is_copy.made

    heap_is : new.heap to ≡ c.heap to ++ copies.is_copy.made
    heap_is = copies.is_copy.grown

    kept : (b : ℕ) → IsName c to b → IsName new to b
    kept b name = (
      name.0,
      ap (λ (h : List NamedObject). object_named h b) heap_is ∙ in_front (c.heap to) copies.is_copy.made b name.0 name.1,
    )

    paired_name : (b : ℕ) → IsPaired copies.pairs b → IsName new to b
    paired_name b paired =
        let p = copies.is_copy.each_made paired.0 b paired.1 in
        let fresh = copies.is_copy.fresh (named b p.copy) (found_stands b p.copy copies.is_copy.made p.is_copy) in
        (p.copy, ap (λ (h : List NamedObject). object_named h b) heap_is ∙ behind (c.heap to) copies.is_copy.made b fresh ∙ p.is_copy)

    made_good : (x : ℕ) (o : Object) → object_named copies.is_copy.made x ≡ Some o → IsGood new classes to o
    made_good x o there =
        let pair = copies.is_copy.all_made (named x o) (found_stands x o copies.is_copy.made there) in
        let p = copies.is_copy.each_made pair.0 x pair.1 in
        let same : p.copy ≡ o = same_Some p.copy o (sym p.is_copy ∙ there) in
        let good = source.good pair.0 p.object p.is_object in
        good_copy new classes to copies.pairs p.object o good.laid_out good.has_classes
        (subst (λ (q : Object). IsCopied classes copies.pairs p.object q) same p.same) paired_name

    cases : (x : ℕ) (o : Object) → IsLive new to x o → IsLive c to x o ⊎ IsGood new classes to o
    cases x o live = by (object_named (c.heap to) x) refl
      where
        both : object_named (c.heap to ++ copies.is_copy.made) x ≡ Some o
        both = ap (λ (h : List NamedObject). object_named h x) (sym heap_is) ∙ live

        by : (f : Option Object) → object_named (c.heap to) x ≡ f → IsLive c to x o ⊎ IsGood new classes to o
        by None lacks = inr (made_good x o (sym (behind (c.heap to) copies.is_copy.made x lacks) ∙ both))
        by (Some q) has = inl (has ∙ sym (in_front (c.heap to) copies.is_copy.made x q has) ∙ both)

ready_copied : (c new : HeapContent) (classes : List ClassRecord) (from to : DomainId) (values answers : List Value) → from.0 < 2 → to.0 < 2
    → IsReady c classes → Copies c new classes from to values answers → IsReady new classes
ready_copied c new classes from to values answers few_from few_to ready copies = record {
  each = λ e few. elim (same_domain_or_not e to) [
    | inl same ↦ subst (λ (f : DomainId). IsOpen new classes f) (sym same)
        (copied_open c new classes from to values answers copies (ready.each from few_from) (ready.each to few_to))
    | inr differs ↦ same_open c new classes e (ready.each e few) (copies.becomes.domains.quota e) (copies.becomes.mark e) (copies.becomes.others e differs)
  ];
}

-- whatever the answer is
pub ready_after : (c new : HeapContent) (classes : List ClassRecord) (from to : DomainId) (values answers : List Value) (r : CopyAnswer) → from.0 < 2
    → to.0 < 2 → IsReady c classes → (r ≡ Copied → Copies c new classes from to values answers)
    → (r ≢ Copied → IsSame c new × (answers ≡ values)) → IsReady new classes
ready_after c new classes from to values answers Copied few_from few_to ready copies same =
    ready_copied c new classes from to values answers few_from few_to ready (copies refl)
ready_after c new classes from to values answers (NotCopiable a) few_from few_to ready copies same =
    ready_same c new classes ready (same (λ is. cc)).0
ready_after c new classes from to values answers (NoRoom n) few_from few_to ready copies same =
    ready_same c new classes ready (same (λ is. cc)).0

-- ---- A copy may be asked.

all_given : (heap : List NamedObject) (values : List Value) → ((i : ℕ) (v : Value) → slice_get values i ≡ Some v → MayBeGiven heap v)
    → AllByRecursion (MayBeGiven heap) values
all_given heap [] each = tt
all_given heap (v ∷ values) each = (each 0 v refl, all_given heap values (λ i w at. each (suc i) w at))

pub may_copy : (c : HeapContent) (w : WorldRecord) (from to : DomainId) (values : List Value) → from.0 < 2 → to.0 < 2 → IsReadyWorld w
    → IsReady c w.classes → ((i : ℕ) (v : Value) → slice_get values i ≡ Some v → MayBeGiven (c.heap from) v) → MayCopy c w from to values
may_copy c w from to values few_from few_to world ready given =
    let source = ready.each from few_from in
    record {
      admitted = (source.admitted, (ready.each to few_to).admitted);
      domains = (world.has from few_from, world.has to few_to);
      names = world.agree from to few_from few_to;
      heap = record {
        laid_out = λ a object live. (source.good a object live).laid_out;
        has_classes = λ a object live. (source.good a object live).has_classes;
        closed = λ a b leads. (source.good a leads.0 leads.1).named b (followed_within w.classes leads.0 (Held.Obj b) leads.2);
      };
      given = all_given (c.heap from) values given;
      calm = source.calm;
    }

-- ---- Two domains that agree on names.

pub ready_world : (w : WorldRecord) (a b : List NamedClass) → HasDomain w FIRST → HasDomain w SECOND → a ≡ table_of w FIRST → b ≡ table_of w SECOND
    → AgreeOnNames a a → AgreeOnNames a b → AgreeOnNames b a → AgreeOnNames b b → IsReadyWorld w
ready_world w a b has_first has_second is_a is_b first both back second = record {
  has = λ d few. elim (first_or_second d few) [
    | inl is ↦ subst (λ (x : DomainId). HasDomain w x) (sym is) has_first
    | inr is ↦ subst (λ (x : DomainId). HasDomain w x) (sym is) has_second
  ];
  agree = λ d e few_d few_e. elim (first_or_second d few_d) [
    | inl is_d ↦ elim (first_or_second e few_e) [
      | inl is_e ↦ agree_by d e FIRST FIRST a a is_d is_e is_a is_a first
      | inr is_e ↦ agree_by d e FIRST SECOND a b is_d is_e is_a is_b both
    ]
    | inr is_d ↦ elim (first_or_second e few_e) [
      | inl is_e ↦ agree_by d e SECOND FIRST b a is_d is_e is_b is_a back
      | inr is_e ↦ agree_by d e SECOND SECOND b b is_d is_e is_b is_b second
    ]
  ];
}
  where
    agree_by : (d e x y : DomainId) (s t : List NamedClass) → d ≡ x → e ≡ y → s ≡ table_of w x → t ≡ table_of w y → AgreeOnNames s t
        → AgreeOnNames (table_of w d) (table_of w e)
    agree_by d e x y s t is_d is_e is_s is_t agree =
        let from : s ≡ table_of w d = is_s ∙ sym (ap (table_of w) is_d) in
        let to : t ≡ table_of w e = is_t ∙ sym (ap (table_of w) is_e) in
        subst (λ (u : List NamedClass). AgreeOnNames u (table_of w e)) from (subst (λ (u : List NamedClass). AgreeOnNames s u) to agree)
