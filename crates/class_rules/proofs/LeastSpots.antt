-- The least of the first places is the least spot, for a rule that reads one thing at a time.
use Rattle.std.proofs.Common.{◌≡◌, ℕ, ◌+◌, ◌<◌, inl, inr, ◌↔◌, refl, sym, ◌∙◌, ap, subst, arith, Bool, true, false, length, Option, Some, None}
use Rattle.std.specs.Prelude.{slice_get, IsTrue, if◌then◌else◌}
use Rattle.jk_model.specs.declared.class_file.ClassFile.{ClassFile}
use Rattle.jk_model.specs.declared.class_file.MemberInfo.{MemberInfo}
use Rattle.jk_model.specs.declared.class_file.PoolEntry.{PoolEntry}
use Rattle.jk_model_classes.specs.Items.{HasItem, HasItemBefore, Spot, Member, Entry, IsBefore}
use Rattle.jk_model_classes.proofs.OneFirstFault.{nothing_before_the_class as before_class}
use Rattle.std.proofs.lemmas.Option.{slice_get_within as item_within}
use Rattle.class_rules.specs.Answers.{IsLeastSpot}
use Rattle.class_rules.specs.declared.members.FirstPlaces.{FirstPlaces}
use Rattle.class_rules.specs.Walks.{IsLeastItem, BreaksAt, ReadsEach, AreFirstPlaces, member_or_entry, least_number}

-- two rules that are broken at the same spots have the same least spot
same_spot : (P Q : Spot → Type 0) (n : Option ℕ) → ((spot : Spot) → P spot → Q spot) → ((spot : Spot) → Q spot → P spot)
    → IsLeastSpot P n → IsLeastSpot Q n
same_spot P Q None to from least = λ spot h. least spot (from spot h)
same_spot P Q (Some n) to from (spot, broken, first, number) = (spot, to spot broken, λ other before h. first other before (from other h), number)

module _ (c : ClassFile) (A : Type 0) (P Q : MemberInfo → Type 0) (R : PoolEntry → Type 0) where
  -- what a member is refused by, where neither the class nor a field is refused
  of_method : (A → ⊥) → (HasItem P c.fields → ⊥) → (n : ℕ) → BreaksAt c A P Q R (Member n)
      → (i : ℕ) × (method : MemberInfo) × (n ≡ length c.fields + i + 1) × (slice_get c.methods i ≡ Some method) × Q method
  of_method fine none n (inl h) = absurd (fine h.1)
  of_method fine none n (inr (inl (field, (i, e, at), bad))) = absurd (none (i, field, at, bad))
  of_method fine none n (inr (inr (method, (i, e, at), bad))) = (i, method, e, at, bad)

  no_member : (A → ⊥) → (HasItem P c.fields → ⊥) → (HasItem Q c.methods → ⊥) → (n : ℕ) → BreaksAt c A P Q R (Member n) → ⊥
  no_member fine none never n h = let m = of_method fine none n h in never (m.0, m.1, m.3, m.4)

  before_field : (A → ⊥) → (i : ℕ) → i < length c.fields → (HasItemBefore i P c.fields → ⊥) → (other : Spot) → IsBefore other (Member (i + 1))
      → BreaksAt c A P Q R other → ⊥
  before_field fine i lt none (Member n) before (inl h) = fine h.1
  before_field fine i lt none (Member n) before (inr (inl (field, (j, e, at), bad))) = none (j, field, omega arith, at, bad)
  before_field fine i lt none (Member n) before (inr (inr (method, (j, e, at), bad))) = omega arith
  before_field fine i lt none (Entry j) before h = before

  before_method : (A → ⊥) → (HasItem P c.fields → ⊥) → (i : ℕ) → (HasItemBefore i Q c.methods → ⊥) → (other : Spot)
      → IsBefore other (Member (length c.fields + i + 1)) → BreaksAt c A P Q R other → ⊥
  before_method fine none i never (Member n) before h =
      let m = of_method fine none n h in
      never (m.0, m.1, omega (arith, m.2, before), m.3, m.4)
  before_method fine none i never (Entry j) before h = before

  before_entry : (A → ⊥) → (HasItem P c.fields → ⊥) → (HasItem Q c.methods → ⊥) → (i : ℕ) → (HasItemBefore i R c.pool → ⊥) → (other : Spot)
      → IsBefore other (Entry i) → BreaksAt c A P Q R other → ⊥
  before_entry fine none never i clear (Member n) before h = no_member fine none never n h
  before_entry fine none never i clear (Entry j) before (entry, at, bad) = clear (j, entry, before, at, bad)

  nowhere : (A → ⊥) → (HasItem P c.fields → ⊥) → (HasItem Q c.methods → ⊥) → (HasItem R c.pool → ⊥) → (spot : Spot) → BreaksAt c A P Q R spot → ⊥
  nowhere fine none never clear (Member n) h = no_member fine none never n h
  nowhere fine none never clear (Entry i) (entry, at, bad) = clear (i, entry, at, bad)

  unrefused : IsTrue false ↔ A → A → ⊥
  unrefused of_class a = let same : false ≡ true = of_class.1 a in cc

  of_places : (class : Bool) (field method entry : Option ℕ) → IsTrue class ↔ A → IsLeastItem P c.fields field → IsLeastItem Q c.methods method
      → IsLeastItem R c.pool entry → IsLeastSpot (BreaksAt c A P Q R) (if class then Some 0 else member_or_entry (length c.fields) field method entry)
  of_places true field method entry of_class fields methods entries =
      (Member 0, inl (refl, of_class.0 refl), λ other before h. before_class other before, refl)
  of_places false (Some i) method entry of_class ((field, at, bad), none) methods entries = (
    Member (i + 1),
    inr (inl (field, (i, refl, at), bad)),
    before_field (unrefused of_class) i (item_within c.fields i field at) none,
    refl,
  )
  of_places false None (Some i) entry of_class fields ((method, at, bad), none) entries = (
    Member (length c.fields + i + 1),
    inr (inr (method, (i, refl, at), bad)),
    before_method (unrefused of_class) fields i none,
    refl,
  )
  of_places false None None (Some i) of_class fields methods ((entry, at, bad), none) =
      (Entry i, (entry, at, bad), before_entry (unrefused of_class) fields methods i none, refl)
  of_places false None None None of_class fields methods entries = nowhere (unrefused of_class) fields methods entries

  -- Where each of the first places is the least of its list, their number is that of the least spot where the rule is broken.
  pub least_spot : (rule : Spot → Type 0) (places : FirstPlaces) (fields : ℕ) (n : Option ℕ) → ReadsEach c A P Q R rule
      → AreFirstPlaces c A P Q R places → fields ≡ length c.fields → n ≡ least_number fields places → IsLeastSpot rule n
  least_spot rule places fields n reads first all number =
      let least = of_places places.class places.field places.method places.entry first.class first.field first.method first.entry in
      let same : least_number (length c.fields) places ≡ n = ap (λ m. least_number m places) (sym all) ∙ sym number in
      subst (λ (m : Option ℕ). IsLeastSpot rule m) same (same_spot (BreaksAt c A P Q R) rule _ reads.broken reads.only least)
