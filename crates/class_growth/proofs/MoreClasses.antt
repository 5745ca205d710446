-- What is said of classes, of their members and of what stands above them stays where more classes are put behind them, and of
-- a class that was there it was said before.
use Rattle.std.proofs.Common.{◌≡◌, ℕ, zero, suc, ◌+◌, List, [], ◌∷◌, ◌++◌, length, Option, Some, None, flat_map, Contains, refl, sym, subst, inl, inr, arith, length-append}
use Rattle.std.specs.Option.{option_map_or}
use Rattle.std.proofs.lemmas.Option.{slice_get_within}
use Rattle.list_lemmas.proofs.ItemsByPlace.{slice_get-front, slice_get-longer}
use Rattle.list_lemmas.proofs.ItemsOfLists.{Contains-here, Contains-there, Contains-cases, Contains-none, Contains-flat_map_from, Contains-flat_map}
use Rattle.jk_model.specs.declared.descriptors.MethodType.{MethodType}
use Rattle.jk_model.specs.declared.identifiers.ClassId.{ClassId}
use Rattle.jk_model.specs.declared.identifiers.MemberId.{MemberId}
use Rattle.jk_model_classes.specs.declared.records.ClassRecord.{ClassRecord}
use Rattle.jk_model_classes.specs.declared.records.FieldRecord.{FieldRecord}
use Rattle.jk_model_classes.specs.declared.records.MethodRecord.{MethodRecord}
use Rattle.jk_model_classes.specs.declared.records.Member.{Member}
use Rattle.jk_model_classes.specs.declared.records.Member.TheVariants.{Field, Method}
use Rattle.jk_model_classes.specs.declared.records.TypeRef.{TypeRef}
use Rattle.jk_model_classes.specs.Classes.{record_of, HasClass, parents_of, AreOrdered, superclasses_within, superclasses, IsSubclass, IsInterface, with_interfaces, own_interfaces, Implements, field_walk, method_walk}
use Rattle.jk_model_classes.specs.Lookups.{FieldIs, MethodIs, FlagsAre, AreInOnePackage, FindsField, FindsMethod, Selects, class_of}
use Rattle.class_lemmas.proofs.LowerClassesDecide.{superclasses-agree, with_interfaces-agree, own_interfaces-agree, field_walk-agree}
use Rattle.class_lemmas.proofs.LowerClassesDecide as Lower
use Rattle.class_growth.proofs.RecordsAgree.{agree-from_same, field-there, method-there, flags-there, package-there, is_interface-there}
use Rattle.class_growth.proofs.WalksAgree.{AgreeBelow, without_links_agree, method_walk-agree, subclass-back, implements-there, implements-back}
use Rattle.class_growth.proofs.MembersFound.{finds_field-there, finds_field-back, finds_method-there, finds_method-back, selects-there, selects-back}

pub agree-more : (classes more : List ClassRecord) → AgreeBelow (length classes) classes (classes ++ more)
agree-more classes more c below = agree-from_same classes (classes ++ more) c (sym (slice_get-front classes more c.0 below))

pub lower_agree-more : (classes more : List ClassRecord) → Lower.AgreeBelow (length classes) classes (classes ++ more)
lower_agree-more classes more = without_links_agree (length classes) classes (classes ++ more) (agree-more classes more)

pub ordered-before : (classes more : List ClassRecord) → AreOrdered (classes ++ more) → AreOrdered classes
ordered-before classes more ordered c r is = ordered c r (slice_get-longer classes more c.0 r is)

-- ---- One class, and its members.

pub record-kept : (classes more : List ClassRecord) (c : ClassId) → HasClass classes c → record_of (classes ++ more) c ≡ record_of classes c
record-kept classes more c there = slice_get-front classes more c.0 there

pub record-still : (classes more : List ClassRecord) (c : ClassId) (r : ClassRecord) → record_of classes c ≡ Some r → record_of (classes ++ more) c ≡ Some r
record-still classes more c r is = slice_get-longer classes more c.0 r is

pub has_class-still : (classes more : List ClassRecord) (c : ClassId) → HasClass classes c → HasClass (classes ++ more) c
has_class-still classes more c there = omega (arith, there, length-append classes more)

-- a number with a record is one of a class
pub has_class-by_record : (classes : List ClassRecord) (c : ClassId) (r : ClassRecord) → record_of classes c ≡ Some r → HasClass classes c
has_class-by_record classes c r is = slice_get_within classes c.0 r is

pub is_interface-still : (classes more : List ClassRecord) (c : ClassId) → IsInterface classes c → IsInterface (classes ++ more) c
is_interface-still classes more c h =
    is_interface-there classes (classes ++ more) c (agree-more classes more c (has_class-by_record classes c h.0 h.1)) h

pub is_interface-before : (classes more : List ClassRecord) (c : ClassId) → HasClass classes c → IsInterface (classes ++ more) c → IsInterface classes c
is_interface-before classes more c there h = is_interface-there (classes ++ more) classes c (sym (agree-more classes more c there)) h

pub field-still : (classes more : List ClassRecord) (m : MemberId) (field : FieldRecord) → FieldIs classes m field → FieldIs (classes ++ more) m field
field-still classes more m field h =
    field-there classes (classes ++ more) m (agree-more classes more m.class (has_class-by_record classes m.class h.0 h.1)) field h

pub field-before : (classes more : List ClassRecord) (m : MemberId) (field : FieldRecord) → HasClass classes m.class
    → FieldIs (classes ++ more) m field → FieldIs classes m field
field-before classes more m field there h = field-there (classes ++ more) classes m (sym (agree-more classes more m.class there)) field h

pub method-still : (classes more : List ClassRecord) (m : MemberId) (method : MethodRecord) → MethodIs classes m method
    → MethodIs (classes ++ more) m method
method-still classes more m method h =
    method-there classes (classes ++ more) m (agree-more classes more m.class (has_class-by_record classes m.class h.0 h.1)) method h

pub method-before : (classes more : List ClassRecord) (m : MemberId) (method : MethodRecord) → HasClass classes m.class
    → MethodIs (classes ++ more) m method → MethodIs classes m method
method-before classes more m method there h = method-there (classes ++ more) classes m (sym (agree-more classes more m.class there)) method h

pub flags-still : (classes more : List ClassRecord) (member : Member) (flags : ℕ) → FlagsAre classes member flags → FlagsAre (classes ++ more) member flags
flags-still classes more (Field m) flags (field, is, e) = (field, field-still classes more m field is, e)
flags-still classes more (Method m) flags (method, is, e) = (method, method-still classes more m method is, e)

pub flags-before : (classes more : List ClassRecord) (member : Member) (flags : ℕ) → HasClass classes (class_of member)
    → FlagsAre (classes ++ more) member flags → FlagsAre classes member flags
flags-before classes more member flags there h =
    flags-there (classes ++ more) classes member flags (sym (agree-more classes more (class_of member) there)) h

pub package-still : (classes more : List ClassRecord) (c d : ClassId) → AreInOnePackage classes c d → AreInOnePackage (classes ++ more) c d
package-still classes more c d one =
    package-there classes (classes ++ more) c d (agree-more classes more c (has_class-by_record classes c one.of_a one.a_is))
    (agree-more classes more d (has_class-by_record classes d one.of_b one.b_is)) one

pub package-before : (classes more : List ClassRecord) (c d : ClassId) → HasClass classes c → HasClass classes d
    → AreInOnePackage (classes ++ more) c d → AreInOnePackage classes c d
package-before classes more c d there_c there_d one =
    package-there (classes ++ more) classes c d (sym (agree-more classes more c there_c)) (sym (agree-more classes more d there_d)) one

-- ---- What is above a class stays above it, whether or not classes are in order.

module _ (classes more : List ClassRecord) where
  parents_by : (c p : ClassId) (o : Option ClassRecord) → record_of classes c ≡ o
      → Contains (option_map_or (λ (r : ClassRecord). option_map_or (λ q. q ∷ []) r.parent []) o []) p → Contains (parents_of (classes ++ more) c) p
  parents_by c p None is h = absurd (Contains-none p h)
  parents_by c p (Some r) is h = rw (record-still classes more c r is) h

  superclasses_within-still : (h : ℕ) (c d : ClassId) → Contains (superclasses_within h classes c) d
      → Contains (superclasses_within h (classes ++ more) c) d
  superclasses_within-still zero c d there = absurd (Contains-none d there)
  superclasses_within-still (suc h) c d there =
      let above : List ClassId = flat_map (superclasses_within h (classes ++ more)) (parents_of (classes ++ more) c) in
      elim (Contains-cases d c (flat_map (superclasses_within h classes) (parents_of classes c)) there) [
        | inl same ↦ subst (Contains (c ∷ above)) same (Contains-here c above)
        | inr higher ↦
            let from = Contains-flat_map_from (superclasses_within h classes) (parents_of classes c) d higher in
            Contains-there d c above
            (Contains-flat_map (superclasses_within h (classes ++ more)) (parents_of (classes ++ more) c) from.0 d
            (parents_by c from.0 (record_of classes c) refl from.1) (superclasses_within-still h from.0 d from.2))
      ]

  pub subclass-still : (c d : ClassId) → IsSubclass classes c d → IsSubclass (classes ++ more) c d
  subclass-still c d sub = superclasses_within-still (c.0 + 1) c d sub

-- ---- What is above a class of ordered classes.

module _ (classes more : List ClassRecord) (ordered : AreOrdered classes) (c : ClassId) (there : HasClass classes c) where
  pub superclasses-kept : superclasses (classes ++ more) c ≡ superclasses classes c
  superclasses-kept = sym (superclasses-agree (length classes) classes (classes ++ more) ordered (lower_agree-more classes more) c there)

  pub with_interfaces-kept : with_interfaces (classes ++ more) c ≡ with_interfaces classes c
  with_interfaces-kept = sym (with_interfaces-agree (length classes) classes (classes ++ more) ordered (lower_agree-more classes more) c there)

  pub own_interfaces-kept : own_interfaces (classes ++ more) c ≡ own_interfaces classes c
  own_interfaces-kept = sym (own_interfaces-agree (length classes) classes (classes ++ more) ordered (lower_agree-more classes more) c there)

  pub field_walk-kept : field_walk (classes ++ more) c ≡ field_walk classes c
  field_walk-kept = sym (field_walk-agree (length classes) classes (classes ++ more) ordered (lower_agree-more classes more) c there)

  pub method_walk-kept : method_walk (classes ++ more) c ≡ method_walk classes c
  method_walk-kept = sym (method_walk-agree (length classes) classes (classes ++ more) ordered (agree-more classes more) c there)

  pub subclass-before : (d : ClassId) → IsSubclass (classes ++ more) c d → IsSubclass classes c d
  subclass-before d sub = subclass-back (length classes) classes (classes ++ more) ordered (agree-more classes more) c d there sub

  pub implements-still : (i : ClassId) → Implements classes c i → Implements (classes ++ more) c i
  implements-still i h = implements-there (length classes) classes (classes ++ more) ordered (agree-more classes more) c i there h

  pub implements-before : (i : ClassId) → Implements (classes ++ more) c i → Implements classes c i
  implements-before i h = implements-back (length classes) classes (classes ++ more) ordered (agree-more classes more) c i there h

  pub finds_field-still : (name : List ℕ) (kind : TypeRef) (found : Option MemberId) → FindsField classes c name kind found
      → FindsField (classes ++ more) c name kind found
  finds_field-still name kind found h =
      finds_field-there (length classes) classes (classes ++ more) ordered (agree-more classes more) c there name kind found h

  pub finds_field-before : (name : List ℕ) (kind : TypeRef) (found : Option MemberId) → FindsField (classes ++ more) c name kind found
      → FindsField classes c name kind found
  finds_field-before name kind found h =
      finds_field-back (length classes) classes (classes ++ more) ordered (agree-more classes more) c there name kind found h

  pub finds_method-still : (name : List ℕ) (kind : MethodType) (found : Option MemberId) → FindsMethod classes c name kind found
      → FindsMethod (classes ++ more) c name kind found
  finds_method-still name kind found h =
      finds_method-there (length classes) classes (classes ++ more) ordered (agree-more classes more) c there name kind found h

  pub finds_method-before : (name : List ℕ) (kind : MethodType) (found : Option MemberId) → FindsMethod (classes ++ more) c name kind found
      → FindsMethod classes c name kind found
  finds_method-before name kind found h =
      finds_method-back (length classes) classes (classes ++ more) ordered (agree-more classes more) c there name kind found h

  pub selects-still : (m : MemberId) → HasClass classes m.class → (selected : Option MemberId) → Selects classes c m selected
      → Selects (classes ++ more) c m selected
  selects-still m low selected h =
      selects-there (length classes) classes (classes ++ more) ordered (agree-more classes more) c there m low selected h

  pub selects-before : (m : MemberId) → HasClass classes m.class → (selected : Option MemberId) → Selects (classes ++ more) c m selected
      → Selects classes c m selected
  selects-before m low selected h =
      selects-back (length classes) classes (classes ++ more) ordered (agree-more classes more) c there m low selected h
