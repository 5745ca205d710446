-- What is said of classes whatever their links are: members, packages, what stands above a class, and what is found there.
use Rattle.std.proofs.Common.{◌≡◌, ℕ, zero, suc, ◌+◌, ◌<◌, List, [], ◌∷◌, Option, Some, map, slice_get, set, sym, ap, subst, ◌∙◌, arith}
use Rattle.std.proofs.lemmas.Option.{slice_get-map, same_Some}
use Rattle.jk_model.specs.declared.descriptors.MethodType.{MethodType}
use Rattle.jk_model.specs.declared.identifiers.ClassId.{ClassId}
use Rattle.jk_model.specs.declared.identifiers.MemberId.{MemberId}
use Rattle.jk_model_classes.specs.declared.records.ClassRecord.{ClassRecord}
use Rattle.jk_model_classes.specs.declared.records.FieldRecord.{FieldRecord}
use Rattle.jk_model_classes.specs.declared.records.Link.{Link}
use Rattle.jk_model_classes.specs.declared.records.Member.{Member}
use Rattle.jk_model_classes.specs.declared.records.MethodRecord.{MethodRecord}
use Rattle.jk_model_classes.specs.declared.records.TypeRef.{TypeRef}
use Rattle.jk_model_classes.specs.Classes.{GetsLinks, AreOrdered, StandsAbove, superclasses, IsSubclass, IsInterface, with_interfaces, own_interfaces, Implements, field_walk, method_walk}
use Rattle.jk_model_classes.specs.Lookups.{FieldIs, MethodIs, FlagsAre, AreInOnePackage, FindsField, FindsMethod, Selects, class_of}
use Rattle.class_lemmas.proofs.LowerClassesDecide.{superclasses-agree, with_interfaces-agree, own_interfaces-agree, field_walk-agree}
use Rattle.class_lemmas.proofs.LowerClassesDecide as Lower
use Rattle.class_growth.specs.OtherLinks.{without_links, DifferInLinks}
use Rattle.class_growth.proofs.RecordsAgree.{AgreeAt, record-there, field-there, method-there, flags-there, package-there, is_interface-there}
use Rattle.class_growth.proofs.WalksAgree.{AgreeBelow, without_links_agree, method_walk-agree, subclass-there, implements-there}
use Rattle.class_growth.proofs.MembersFound.{finds_field-there, finds_method-there, selects-there}

-- ---- One class gets other links.

set_links : (classes : List ClassRecord) (k : ℕ) (r : ClassRecord) (links : List Link) → slice_get classes k ≡ Some r
    → map without_links classes ≡ map without_links (set classes k (record r { links = links }))
set_links [] k r links is = absurd cc
set_links (q ∷ classes) zero r links is =
    let same : q ≡ r = same_Some q r is in
    ap (λ (x : ClassRecord). without_links x ∷ map without_links classes) same
set_links (q ∷ classes) (suc k) r links is = ap (λ rest. without_links q ∷ rest) (set_links classes k r links is)

pub links-set : (old new : List ClassRecord) (c : ClassId) (links : List Link) → GetsLinks old c links new → DifferInLinks old new
links-set old new c links (r, is, e) = rw e (set_links old c.0 r links is)

-- ---- All classes agree.

module _ (old new : List ClassRecord) (links : DifferInLinks old new) where
  pub agree-everywhere : (c : ClassId) → AgreeAt old new c
  agree-everywhere c =
      sym (slice_get-map without_links old c.0) ∙ ap (λ xs. slice_get xs c.0) links ∙ slice_get-map without_links new c.0

  agree_below : (n : ℕ) → AgreeBelow n old new
  agree_below n c below = agree-everywhere c

  lower_agree : (n : ℕ) → Lower.AgreeBelow n old new
  lower_agree n = without_links_agree n old new (agree_below n)

  pub is_interface-linked : (c : ClassId) → IsInterface old c → IsInterface new c
  is_interface-linked c h = is_interface-there old new c (agree-everywhere c) h

  pub field-linked : (m : MemberId) (field : FieldRecord) → FieldIs old m field → FieldIs new m field
  field-linked m field h = field-there old new m (agree-everywhere m.class) field h

  pub method-linked : (m : MemberId) (method : MethodRecord) → MethodIs old m method → MethodIs new m method
  method-linked m method h = method-there old new m (agree-everywhere m.class) method h

  pub flags-linked : (member : Member) (flags : ℕ) → FlagsAre old member flags → FlagsAre new member flags
  flags-linked member flags h = flags-there old new member flags (agree-everywhere (class_of member)) h

  pub package-linked : (c d : ClassId) → AreInOnePackage old c d → AreInOnePackage new c d
  package-linked c d h = package-there old new c d (agree-everywhere c) (agree-everywhere d) h

  module _ (ordered : AreOrdered old) where
    module _ (c : ClassId) where
      low : c.0 < suc c.0
      low = omega arith

      pub superclasses-linked : superclasses new c ≡ superclasses old c
      superclasses-linked = sym (superclasses-agree (suc c.0) old new ordered (lower_agree (suc c.0)) c low)

      pub with_interfaces-linked : with_interfaces new c ≡ with_interfaces old c
      with_interfaces-linked = sym (with_interfaces-agree (suc c.0) old new ordered (lower_agree (suc c.0)) c low)

      pub own_interfaces-linked : own_interfaces new c ≡ own_interfaces old c
      own_interfaces-linked = sym (own_interfaces-agree (suc c.0) old new ordered (lower_agree (suc c.0)) c low)

      pub field_walk-linked : field_walk new c ≡ field_walk old c
      field_walk-linked = sym (field_walk-agree (suc c.0) old new ordered (lower_agree (suc c.0)) c low)

      pub method_walk-linked : method_walk new c ≡ method_walk old c
      method_walk-linked = sym (method_walk-agree (suc c.0) old new ordered (agree_below (suc c.0)) c low)

      pub subclass-linked : (d : ClassId) → IsSubclass old c d → IsSubclass new c d
      subclass-linked d h = subclass-there (suc c.0) old new ordered (agree_below (suc c.0)) c d low h

      pub implements-linked : (i : ClassId) → Implements old c i → Implements new c i
      implements-linked i h = implements-there (suc c.0) old new ordered (agree_below (suc c.0)) c i low h

      pub finds_field-linked : (name : List ℕ) (kind : TypeRef) (found : Option MemberId) → FindsField old c name kind found
          → FindsField new c name kind found
      finds_field-linked name kind found h = finds_field-there (suc c.0) old new ordered (agree_below (suc c.0)) c low name kind found h

      pub finds_method-linked : (name : List ℕ) (kind : MethodType) (found : Option MemberId) → FindsMethod old c name kind found
          → FindsMethod new c name kind found
      finds_method-linked name kind found h = finds_method-there (suc c.0) old new ordered (agree_below (suc c.0)) c low name kind found h

      pub selects-linked : (m : MemberId) (selected : Option MemberId) → Selects old c m selected → Selects new c m selected
      selects-linked m selected h =
          let n : ℕ = suc (c.0 + m.class.0) in
          selects-there n old new ordered (agree_below n) c (omega arith) m (omega arith) selected h

    pub ordered-linked : AreOrdered new
    ordered-linked c r is =
        let there = record-there new old c (sym (agree-everywhere c)) r is in
        subst (StandsAbove c.0) (sym there.2) (ordered c there.0 there.1)
