-- Which member a name and a type find, and which method a call runs, is the same over two lists of records that agree below a
-- number but for links, for a class below that number.
use Rattle.std.proofs.Common.{◌≡◌, ℕ, suc, ◌<◌, List, Option, Some, None, Contains, refl, sym, subst, inl, inr, arith}
use Rattle.list_lemmas.proofs.ItemsOfLists.{Contains-at}
use Rattle.jk_model.specs.declared.descriptors.MethodType.{MethodType}
use Rattle.jk_model.specs.declared.identifiers.ClassId.{ClassId}
use Rattle.jk_model.specs.declared.identifiers.MemberId.{MemberId}
use Rattle.jk_model_classes.specs.declared.records.ClassRecord.{ClassRecord}
use Rattle.jk_model_classes.specs.declared.records.TypeRef.{TypeRef}
use Rattle.jk_model_classes.specs.Classes.{AreOrdered, field_walk, method_walk, superclasses}
use Rattle.jk_model_classes.specs.Lookups.{IsFieldOf, IsMethodOf, IsFirstOn, FindsOn, FindsField, FindsMethod, IsAbstract, IsUnlessAbstract, IsOverriddenIn, RunsFor, Selects}
use Rattle.class_growth.proofs.RecordsAgree.{AgreeAt, field-there, method-there, package-there, is_interface-there}
use Rattle.class_lemmas.proofs.LowerClassesDecide.{superclasses-agree, field_walk-agree}
use Rattle.class_growth.proofs.WalksAgree.{AgreeBelow, superclasses-below, field_walk-below, method_walk-below, method_walk-agree, without_links_agree}

-- ---- A walk on which two words for "such a member" say the same.

module _ (P Q : MemberId → Type 0) (walk : List ClassId) where
  module _ (forth : (m : MemberId) → Contains walk m.class → P m → Q m) (back : (m : MemberId) → Contains walk m.class → Q m → P m) where
    first-same : (m : MemberId) → IsFirstOn P walk m → IsFirstOn Q walk m
    first-same m first =
        let on : Contains walk m.class = Contains-at walk first.place m.class first.visited in
        record {
          member =
              record {
                suits = forth m on first.member.suits;
                first = λ i before q. first.member.first i before (back (record { class = m.class; index = i }) on q);
              };
          place = first.place;
          visited = first.visited;
          earlier = λ (k, c, before, at, (i, q)).
              first.earlier (k, c, before, at, (i, back (record { class = c; index = i }) (Contains-at walk k c at) q));
        }

    finds-same : (found : Option MemberId) → FindsOn P walk found → FindsOn Q walk found
    finds-same None nowhere = λ c on (i, q). nowhere c on (i, back (record { class = c; index = i }) on q)
    finds-same (Some m) first = first-same m first

-- ---- Fields and methods.

is_field-there : (a b : List ClassRecord) (name : List ℕ) (kind : TypeRef) (m : MemberId) → AgreeAt a b m.class → IsFieldOf a name kind m
    → IsFieldOf b name kind m
is_field-there a b name kind m agree (field, is, named, typed) = (field, field-there a b m agree field is, named, typed)

is_method-there : (a b : List ClassRecord) (name : List ℕ) (kind : MethodType) (m : MemberId) → AgreeAt a b m.class → IsMethodOf a name kind m
    → IsMethodOf b name kind m
is_method-there a b name kind m agree (method, is, named, typed) = (method, method-there a b m agree method is, named, typed)

module _ (n : ℕ) (a b : List ClassRecord) (ordered : AreOrdered a) (agree : AgreeBelow n a b) (c : ClassId) (below : c.0 < n) where
  on_fields : (m : MemberId) → Contains (field_walk a c) m.class → AgreeAt a b m.class
  on_fields m on = let low : m.class.0 < suc c.0 = field_walk-below a ordered c m.class on in agree m.class (omega arith)

  on_methods : (m : MemberId) → Contains (method_walk a c) m.class → AgreeAt a b m.class
  on_methods m on = let low : m.class.0 < suc c.0 = method_walk-below a ordered c m.class on in agree m.class (omega arith)

  pub finds_field-there : (name : List ℕ) (kind : TypeRef) (found : Option MemberId) → FindsField a c name kind found → FindsField b c name kind found
  finds_field-there name kind found h =
      subst (λ walk. FindsOn (IsFieldOf b name kind) walk found) (field_walk-agree n a b ordered (without_links_agree n a b agree) c below)
      (finds-same (IsFieldOf a name kind) (IsFieldOf b name kind) (field_walk a c)
      (λ m on. is_field-there a b name kind m (on_fields m on)) (λ m on. is_field-there b a name kind m (sym (on_fields m on))) found h)

  pub finds_field-back : (name : List ℕ) (kind : TypeRef) (found : Option MemberId) → FindsField b c name kind found → FindsField a c name kind found
  finds_field-back name kind found h =
      finds-same (IsFieldOf b name kind) (IsFieldOf a name kind) (field_walk a c)
      (λ m on. is_field-there b a name kind m (sym (on_fields m on))) (λ m on. is_field-there a b name kind m (on_fields m on)) found
      (subst (λ walk. FindsOn (IsFieldOf b name kind) walk found) (sym (field_walk-agree n a b ordered (without_links_agree n a b agree) c below)) h)

  pub finds_method-there : (name : List ℕ) (kind : MethodType) (found : Option MemberId) → FindsMethod a c name kind found
      → FindsMethod b c name kind found
  finds_method-there name kind found h =
      subst (λ walk. FindsOn (IsMethodOf b name kind) walk found) (method_walk-agree n a b ordered agree c below)
      (finds-same (IsMethodOf a name kind) (IsMethodOf b name kind) (method_walk a c)
      (λ m on. is_method-there a b name kind m (on_methods m on)) (λ m on. is_method-there b a name kind m (sym (on_methods m on))) found h)

  pub finds_method-back : (name : List ℕ) (kind : MethodType) (found : Option MemberId) → FindsMethod b c name kind found
      → FindsMethod a c name kind found
  finds_method-back name kind found h =
      finds-same (IsMethodOf b name kind) (IsMethodOf a name kind) (method_walk a c)
      (λ m on. is_method-there b a name kind m (sym (on_methods m on))) (λ m on. is_method-there a b name kind m (on_methods m on)) found
      (subst (λ walk. FindsOn (IsMethodOf b name kind) walk found) (sym (method_walk-agree n a b ordered agree c below)) h)

-- ---- The method that a call runs.

overridden-there : (a b : List ClassRecord) (m : MemberId) (flags : ℕ) (d : ClassId) → AgreeAt a b m.class → AgreeAt a b d
    → IsOverriddenIn a m flags d → IsOverriddenIn b m flags d
overridden-there a b m flags d at_m at_d (inl open_to_all) = inl open_to_all
overridden-there a b m flags d at_m at_d (inr (inl guarded)) = inr (inl guarded)
overridden-there a b m flags d at_m at_d (inr (inr (unmarked, one))) = inr (inr (unmarked, package-there a b d m.class at_d at_m one))

runs-there : (a b : List ClassRecord) (m other : MemberId) → AgreeAt a b m.class → AgreeAt a b other.class → RunsFor a m other → RunsFor b m other
runs-there a b m other at_m at_other runs =
    record {
      method = runs.method;
      m_is = method-there a b m at_m runs.method runs.m_is;
      other_method = runs.other_method;
      other_is = method-there a b other at_other runs.other_method runs.other_is;
      is_instance = runs.is_instance;
      suits = elim runs.suits [
        | inl same ↦ inl same
        | inr (named, typed, inl interface) ↦ inr (named, typed, inl (is_interface-there a b m.class at_m interface))
        | inr (named, typed, inr over) ↦ inr (named, typed, inr (overridden-there a b m runs.method.flags other.class at_m at_other over))
      ];
    }

abstract-there : (a b : List ClassRecord) (m : MemberId) → AgreeAt a b m.class → IsAbstract a m → IsAbstract b m
abstract-there a b m agree (method, is, flag) = (method, method-there a b m agree method is, flag)

unless_abstract-there : (a b : List ClassRecord) (found selected : Option MemberId)
    → ((m : MemberId) → found ≡ Some m → AgreeAt a b m.class) → IsUnlessAbstract a found selected → IsUnlessAbstract b found selected
unless_abstract-there a b None selected agree h = h
unless_abstract-there a b (Some m) selected agree (inl (is, none)) = inl (abstract-there a b m (agree m refl) is, none)
unless_abstract-there a b (Some m) selected agree (inr (not_so, some)) =
    inr ((λ is. not_so (abstract-there b a m (sym (agree m refl)) is)), some)

module _ (n : ℕ) (a b : List ClassRecord) (ordered : AreOrdered a) (agree : AgreeBelow n a b) (c : ClassId) (below : c.0 < n) where
  on_way_up : (d : ClassId) → Contains (superclasses a c) d → AgreeAt a b d
  on_way_up d on = let low : d.0 < suc c.0 = superclasses-below a ordered c d on in agree d (omega arith)

  found_on_way_up : (P : MemberId → Type 0) (found : Option MemberId) → FindsOn P (superclasses a c) found → (m : MemberId) → found ≡ Some m
      → AgreeAt a b m.class
  found_on_way_up P found h m e =
      let first : IsFirstOn P (superclasses a c) m = subst (FindsOn P (superclasses a c)) e h in
      on_way_up m.class (Contains-at (superclasses a c) first.place m.class first.visited)

  module _ (m : MemberId) (low : m.class.0 < n) (selected : Option MemberId) where
    pub selects-there : Selects a c m selected → Selects b c m selected
    selects-there (found, on, unless) = (
      found,
      subst (λ walk. FindsOn (RunsFor b m) walk found) (superclasses-agree n a b ordered (without_links_agree n a b agree) c below)
          (finds-same (RunsFor a m) (RunsFor b m) (superclasses a c)
          (λ other at. runs-there a b m other (agree m.class low) (on_way_up other.class at))
          (λ other at. runs-there b a m other (sym (agree m.class low)) (sym (on_way_up other.class at))) found on),
      unless_abstract-there a b found selected (found_on_way_up (RunsFor a m) found on) unless,
    )

    pub selects-back : Selects b c m selected → Selects a c m selected
    selects-back (found, on, unless) =
        let here : FindsOn (RunsFor b m) (superclasses a c) found
        = subst (λ walk. FindsOn (RunsFor b m) walk found) (sym (superclasses-agree n a b ordered (without_links_agree n a b agree) c below)) on in (
          found,
          finds-same (RunsFor b m) (RunsFor a m) (superclasses a c)
              (λ other at. runs-there b a m other (sym (agree m.class low)) (sym (on_way_up other.class at)))
              (λ other at. runs-there a b m other (agree m.class low) (on_way_up other.class at)) found here,
          unless_abstract-there b a found selected (λ d e. sym (found_on_way_up (RunsFor b m) found here d e)) unless,
        )
