-- A field has one place among those of a class and of all classes below it.
use Rattle.std.proofs.Common.{inl, inr, ◌≡◌, ◌⊎◌, ℕ, zero, suc, ◌+◌, ◌<◌, ◌≤◌, Bool, true, false, cond, List, [], ◌∷◌, ◌++◌, length, map, filter, flat_map, Contains, Option, Some, None, slice_get, get_or, option_map, refl, sym, ap, subst, ◌∙◌, arith}
use Rattle.std.specs.List.{enumerate_from}
use Rattle.std.specs.Option.{option_map_or}
use Rattle.std.proofs.lemmas.Option.{same_Some, slice_get-get_or}
use Rattle.std.proofs.lemmas.List.Quantifiers.{position-Some}
use Rattle.list_lemmas.proofs.ItemsByPlace.{comes_from, slice_get-longer}
use Rattle.list_lemmas.proofs.ItemsOfLists.{Contains-here}
use Rattle.jk_model.specs.declared.identifiers.ClassId.{ClassId}
use Rattle.jk_model.specs.declared.identifiers.MemberId.{MemberId}
use Rattle.jk_model_classes.specs.declared.records.ClassRecord.{ClassRecord}
use Rattle.jk_model_classes.specs.declared.records.FieldRecord.{FieldRecord}
use Rattle.jk_model_classes.specs.Classes.{AreOrdered, IsSubclass, parents_of, record_of}
use Rattle.jk_model_classes.specs.Layouts.{InstanceField, instance_fields, is_instance_field, own_fields, type_words}
use Rattle.class_table.proofs.HeightsAreEnough.{instance_fields-step}
use Rattle.class_table.proofs.LayoutsBegin.{instance_fields-parent, layouts-begin}
use Rattle.class_table.proofs.StandingAbove.{is-own_superclass, one-parent, parent-lower, superclasses-lower, superclasses-of_parent}
use Rattle.jk_model_heap_rows.specs.FieldRows.{field_place, is_field}
use Rattle.row_laws.proofs.FieldsByPlace.{is_member}
use Rattle.heap_ops.specs.HeapValues.{IsOwnPlace}

-- ---- Numbered items of which some are left out.

module _ {X : Type 0} (q : ℕ × X → Bool) where
  from_by : (n : ℕ) (x : X) (rest : List (ℕ × X)) (b : Bool) (k : ℕ) (p : ℕ × X) → slice_get (cond b ((n, x) ∷ rest) rest) k ≡ Some p
      → ((j : ℕ) → slice_get rest j ≡ Some p → n + 1 ≤ p.0) → n ≤ p.0
  from_by n x rest true zero p at more = let is : n ≡ p.0 = ap (λ (y : ℕ × X). y.0) (same_Some (n, x) p at) in omega arith
  from_by n x rest true (suc k) p at more = let low = more k at in omega (arith, low)
  from_by n x rest false k p at more = let low = more k at in omega (arith, low)

  from_first : (n : ℕ) (xs : List X) (k : ℕ) (p : ℕ × X) → slice_get (filter q (enumerate_from n xs)) k ≡ Some p → n ≤ p.0
  from_first n [] k p at = absurd cc
  from_first n (x ∷ xs) k p at = from_by n x (filter q (enumerate_from (n + 1) xs)) (q (n, x)) k p at (λ j. from_first (n + 1) xs j p)

  once_by : (n : ℕ) (x : X) (rest : List (ℕ × X)) (b : Bool) (j k : ℕ) (a e : ℕ × X) → slice_get (cond b ((n, x) ∷ rest) rest) j ≡ Some a
      → slice_get (cond b ((n, x) ∷ rest) rest) k ≡ Some e → a.0 ≡ e.0
      → ((i : ℕ) (y : ℕ × X) → slice_get rest i ≡ Some y → n + 1 ≤ y.0)
      → ((i l : ℕ) → slice_get rest i ≡ Some a → slice_get rest l ≡ Some e → i ≡ l) → j ≡ k
  once_by n x rest true zero zero a e at there same more later = refl
  once_by n x rest true zero (suc k) a e at there same more later =
      let is : n ≡ a.0 = ap (λ (y : ℕ × X). y.0) (same_Some (n, x) a at) in
      let low = more k e there in
      absurd (omega (arith, low))
  once_by n x rest true (suc j) zero a e at there same more later =
      let is : n ≡ e.0 = ap (λ (y : ℕ × X). y.0) (same_Some (n, x) e there) in
      let low = more j a at in
      absurd (omega (arith, low))
  once_by n x rest true (suc j) (suc k) a e at there same more later = ap suc (later j k at there)
  once_by n x rest false j k a e at there same more later = later j k at there

  numbered_once : (n : ℕ) (xs : List X) (j k : ℕ) (a e : ℕ × X) → slice_get (filter q (enumerate_from n xs)) j ≡ Some a
      → slice_get (filter q (enumerate_from n xs)) k ≡ Some e → a.0 ≡ e.0 → j ≡ k
  numbered_once n [] j k a e at there same = absurd cc
  numbered_once n (x ∷ xs) j k a e at there same =
      once_by n x (filter q (enumerate_from (n + 1) xs)) (q (n, x)) j k a e at there same (from_first (n + 1) xs)
      (λ i l p r. numbered_once (n + 1) xs i l a e p r same)

-- ---- A class's own fields.

abbrev own_field : ClassId → ℕ × FieldRecord → InstanceField
own_field c p = record { member = record { class = c; index = p.0 }; words = type_words p.1.kind }

own_by : (c : ClassId) (r : Option ClassRecord) (k : ℕ) (g : InstanceField)
    → slice_get (option_map_or (λ (e : ClassRecord). map (own_field c) (filter is_instance_field (enumerate_from 0 e.fields))) r []) k ≡ Some g
    → g.member.class ≡ c
own_by c None k g at = absurd cc
own_by c (Some e) k g at =
    let from = comes_from (own_field c) (filter is_instance_field (enumerate_from 0 e.fields)) k g at in
    sym (ap (λ (f : InstanceField). f.member.class) from.gives)

own_once_by : (c : ClassId) (r : Option ClassRecord) (j k : ℕ) (g f : InstanceField)
    → slice_get (option_map_or (λ (e : ClassRecord). map (own_field c) (filter is_instance_field (enumerate_from 0 e.fields))) r []) j ≡ Some g
    → slice_get (option_map_or (λ (e : ClassRecord). map (own_field c) (filter is_instance_field (enumerate_from 0 e.fields))) r []) k ≡ Some f
    → g.member ≡ f.member → j ≡ k
own_once_by c None j k g f at there same = absurd cc
own_once_by c (Some e) j k g f at there same =
    let xs = filter is_instance_field (enumerate_from 0 e.fields) in
    let first = comes_from (own_field c) xs j g at in
    let second = comes_from (own_field c) xs k f there in
    numbered_once is_instance_field 0 e.fields j k first.from second.from first.there second.there
    (ap (λ (x : InstanceField). x.member.index) first.gives ∙ ap (λ (m : MemberId). m.index) same
    ∙ sym (ap (λ (x : InstanceField). x.member.index) second.gives))

module _ (classes : List ClassRecord) (ordered : AreOrdered classes) where
  own_of : (c : ClassId) (k : ℕ) (g : InstanceField) → slice_get (own_fields classes c) k ≡ Some g → g.member.class ≡ c
  own_of c k g at = own_by c (record_of classes c) k g at

  own_once : (c : ClassId) (j k : ℕ) (g f : InstanceField) → slice_get (own_fields classes c) j ≡ Some g
      → slice_get (own_fields classes c) k ≡ Some f → g.member ≡ f.member → j ≡ k
  own_once c j k g f at there same = own_once_by c (record_of classes c) j k g f at there same

  -- the fields of the class above stand in front
  record Split (c : ClassId) : Type 0 where
    front : List InstanceField
    whole : instance_fields classes c ≡ front ++ own_fields classes c
    above : (k : ℕ) (g : InstanceField) → slice_get front k ≡ Some g
        → (p : ClassId) × (parents_of classes c ≡ p ∷ []) × (slice_get (instance_fields classes p) k ≡ Some g)

  split_of : (c : ClassId) → Split c
  split_of c = elim (one-parent classes c) [
    | inl none ↦ record {
      front = [];
      whole = instance_fields-step classes ordered c
          ∙ ap (λ (ps : List ClassId). flat_map (instance_fields classes) ps ++ own_fields classes c) none;
      above = λ k g at. absurd (nothing_there k g at);
    }
    | inr (p, only) ↦ record {
      front = instance_fields classes p;
      whole = instance_fields-parent classes ordered c p only;
      above = λ k g at. (p, only, at);
    }
  ]
    where
      nothing_there : (k : ℕ) (g : InstanceField) → slice_get [] k ≡ Some g → ⊥
      nothing_there k g at = cc

  parted : (front back : List InstanceField) (k : ℕ) (g : InstanceField) → slice_get (front ++ back) k ≡ Some g
      → (slice_get front k ≡ Some g) ⊎ ((j : ℕ) × (k ≡ length front + j) × (slice_get back j ≡ Some g))
  parted [] back k g at = inr (k, omega arith, at)
  parted (x ∷ front) back zero g at = inl at
  parted (x ∷ front) back (suc k) g at = elim (parted front back k g at) [
    | inl h ↦ inl h
    | inr h ↦ inr (h.0, omega (arith, h.1), h.2)
  ]

  -- where an instance field stands
  Stands : ClassId → ℕ → InstanceField → Type 0
  Stands c k g =
      ((p : ClassId) × (parents_of classes c ≡ p ∷ []) × (slice_get (instance_fields classes p) k ≡ Some g))
      ⊎ ((j : ℕ) × (k ≡ length (split_of c).front + j) × (slice_get (own_fields classes c) j ≡ Some g))

  stands : (c : ClassId) (k : ℕ) (g : InstanceField) → slice_get (instance_fields classes c) k ≡ Some g → Stands c k g
  unfolding Stands
  stands c k g at =
      let parts = split_of c in
      elim (parted parts.front (own_fields classes c) k g
      (subst (λ (fs : List InstanceField). slice_get fs k ≡ Some g) parts.whole at)) [
        | inl h ↦ inl (parts.above k g h)
        | inr h ↦ inr h
      ]

  below_member : (n : ℕ) (c : ClassId) → c.0 < n → (k : ℕ) (g : InstanceField) → slice_get (instance_fields classes c) k ≡ Some g
      → IsSubclass classes c g.member.class
  unfolding Stands
  below_member zero c low k g at = absurd (omega arith)
  below_member (suc n) c low k g at = elim (stands c k g at) [
    | inl (p, only, there) ↦
        (let lower = parent-lower classes ordered c p only in
        superclasses-of_parent classes ordered c p g.member.class
        (subst (λ (ps : List ClassId). Contains ps p) (sym only) (Contains-here p []))
        (below_member n p (omega (arith, lower)) k g there))
    | inr (j, is, there) ↦ subst (IsSubclass classes c) (sym (own_of c j g there)) (is-own_superclass classes ordered c)
  ]

  -- a field of a class above is none of the class's own
  apart : (c p : ClassId) (j k : ℕ) (g f : InstanceField) → parents_of classes c ≡ p ∷ [] → slice_get (instance_fields classes p) j ≡ Some g
      → slice_get (own_fields classes c) k ≡ Some f → g.member ≡ f.member → ⊥
  apart c p j k g f only at there same =
      let lower = parent-lower classes ordered c p only in
      let up = superclasses-lower classes ordered p g.member.class (below_member (p.0 + 1) p (omega arith) j g at) in
      let is : g.member.class.0 ≡ c.0 = ap (λ (m : MemberId). m.class.0) same ∙ ap (λ (d : ClassId). d.0) (own_of c k f there) in
      omega (arith, lower, up, is)

  one_place : (n : ℕ) (c : ClassId) → c.0 < n → (j k : ℕ) (g f : InstanceField) → slice_get (instance_fields classes c) j ≡ Some g
      → slice_get (instance_fields classes c) k ≡ Some f → g.member ≡ f.member → j ≡ k
  unfolding Stands
  one_place zero c low j k g f at there same = absurd (omega arith)
  one_place (suc n) c low j k g f at there same = elim (stands c j g at) [
    | inl (p, only, first) ↦ elim (stands c k f there) [
      | inl (q, too, second) ↦
          (let lower = parent-lower classes ordered c p only in
          let one : q ≡ p = one_item q p (sym too ∙ only) in
          one_place n p (omega (arith, lower)) j k g f first
          (subst (λ (d : ClassId). slice_get (instance_fields classes d) k ≡ Some f) one second) same)
      | inr (l, is, second) ↦ absurd (apart c p j l g f only first second same)
    ]
    | inr (i, is, first) ↦ elim (stands c k f there) [
      | inl (q, too, second) ↦ absurd (apart c q k i f g too second first (sym same))
      | inr (l, are, second) ↦ (let e = own_once c i l g f first second same in omega (arith, is, are, e))
    ]
  ]
    where
      one_item : (a b : ClassId) → a ∷ [] ≡ b ∷ [] → a ≡ b
      one_item a b e = cc

  -- the place that a class table tells is the place in each object that has the field
  pub place_is_own : (c : ClassId) (m : MemberId) (place own : ℕ) → field_place classes c m ≡ Some place → IsOwnPlace classes m own → place ≡ own
  place_is_own c m place own is tells =
      let fs = instance_fields classes c in
      let none : InstanceField = record { member = m; words = 0 } in
      let found = position-Some (is_field m) fs place none is in
      let first = slice_get-get_or fs place none found.0 in
      let member = is_member m (get_or fs place none) found.1 in
      let up : IsSubclass classes c m.class =
      subst (λ (n : MemberId). IsSubclass classes c n.class) member (below_member (c.0 + 1) c (omega arith) place (get_or fs place none) first) in
      let front = layouts-begin classes ordered c m.class up in
      let held = told own (slice_get (instance_fields classes m.class) own) refl tells in
      let second : slice_get fs own ≡ Some held.0 =
      ap (λ (gs : List InstanceField). slice_get gs own) front.1 ∙ slice_get-longer (instance_fields classes m.class) front.0 own held.0 held.1 in
      one_place (c.0 + 1) c (omega arith) place own (get_or fs place none) held.0 first second (member ∙ sym held.2)
    where
      told : (k : ℕ) (o : Option InstanceField) → slice_get (instance_fields classes m.class) k ≡ o
          → option_map (λ (f : InstanceField). f.member) o ≡ Some m
          → (g : InstanceField) × (slice_get (instance_fields classes m.class) k ≡ Some g) × (g.member ≡ m)
      told k None at e = absurd cc
      told k (Some g) at e = (g, at, same_Some g.member m e)
