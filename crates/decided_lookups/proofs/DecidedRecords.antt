-- What is asked of classes and members by their records: whether a class is an interface, is below another or implements one, is in
-- its package, and may access it; whether a member is a field or method of a name and type, and whether it runs for another one.
use Rattle.std.proofs.Common.{◌≡◌, ◌≢◌, ℕ, ◌⊎◌, inl, inr, IsTrue, List, [], ◌∷◌, ◌++◌, Option, Some, None, flat_map, refl, sym, ap, subst, ◌∙◌}
use Rattle.std.specs.Prelude.{⊤, not, slice_get}
use Rattle.std.specs.List.{AllByRecursion}
use Rattle.std.proofs.lemmas.Option.{none-some, same_Some}
use Rattle.jk_model.specs.Flags.{has, ABSTRACT, INTERFACE, PRIVATE, PROTECTED, PUBLIC, STATIC}
use Rattle.jk_model.specs.declared.descriptors.MethodType.{MethodType}
use Rattle.jk_model.specs.declared.identifiers.ClassId.{ClassId}
use Rattle.jk_model.specs.declared.identifiers.MemberId.{MemberId}
use Rattle.jk_model_classes.specs.declared.records.ClassRecord.{ClassRecord}
use Rattle.jk_model_classes.specs.declared.records.FieldRecord.{FieldRecord}
use Rattle.jk_model_classes.specs.declared.records.Member.{Member}
use Rattle.jk_model_classes.specs.declared.records.Member.TheVariants.{Field, Method}
use Rattle.jk_model_classes.specs.declared.records.MethodRecord.{MethodRecord}
use Rattle.jk_model_classes.specs.declared.records.TypeRef.{TypeRef}
use Rattle.jk_model_classes.specs.Classes.{record_of, superclasses, own_interfaces, Implements, IsInterface, IsSubclass}
use Rattle.jk_model_classes.specs.Lookups.{AllowsFrom, AreInOnePackage, FieldIs, IsAbstract, IsFieldOf, IsMethodOf, IsOverriddenIn, IsPackageOf, IsUnmarked, MayAccess, MayAccessClass, MethodIs, RunsFor}
use Rattle.class_lemmas.proofs.OneRecord.{one_method, one_field}
use Rattle.member_lookup.proofs.OnePackage.{package-unique}
use Rattle.decided_lookups.specs.Decisions.{IsDecided}
use Rattle.decided_lookups.proofs.DecidedParts.{both_decided, class_decided, contains_decided, domain_decided, either_decided, member_decided, number_decided, option_decided, same_decided, some_decided, text_decided, true_decided}
use Rattle.decided_lookups.proofs.DecidedTypes.{method_type_decided, type_ref_decided}

module _ (classes : List ClassRecord) where
  -- ---- Classes.

  pub interface_decided : (c : ClassId) → IsDecided (IsInterface classes c)
  interface_decided c =
      some_decided (record_of classes c) (λ (r : ClassRecord). IsTrue (has r.flags INTERFACE)) (λ r is. true_decided (has r.flags INTERFACE))

  pub subclass_decided : (a b : ClassId) → IsDecided (IsSubclass classes a b)
  subclass_decided a b = contains_decided class_decided (superclasses classes a) b

  pub implements_decided : (a i : ClassId) → IsDecided (Implements classes a i)
  implements_decided a i =
      both_decided (interface_decided i)
      (contains_decided class_decided (flat_map (λ c. c ∷ own_interfaces classes c) (superclasses classes a)) i)

-- ---- Packages.

abbrev HasPackage : List ℕ → Type 0
HasPackage name = (prefix : List ℕ) × IsPackageOf name prefix

-- one unit more in front of a name
package_more : (u : ℕ) (name : List ℕ) → HasPackage name → HasPackage (u ∷ name)
package_more u name (prefix, is) = elim is.ends [
  | inr (front, ended) ↦ (
    u ∷ prefix,
    record {
      simple = is.simple;
      joined = ap (λ (rest : List ℕ). u ∷ rest) is.joined;
      no_slash = is.no_slash;
      ends = inr (u ∷ front, ap (λ (rest : List ℕ). u ∷ rest) ended);
    },
  )
  | inl none ↦
      let whole : name ≡ is.simple = is.joined ∙ ap (λ (p : List ℕ). p ++ is.simple) none in
      elim (number_decided u 47) [
        | inl slash ↦ (
          u ∷ [],
          record {
            simple = name;
            joined = refl;
            no_slash = subst (AllByRecursion (λ v. v ≢ 47)) (sym whole) is.no_slash;
            ends = inr ([], ap (λ (v : ℕ). v ∷ []) slash);
          },
        )
        | inr other ↦ (
          [],
          record {
            simple = u ∷ name;
            joined = refl;
            no_slash = (other, subst (AllByRecursion (λ v. v ≢ 47)) (sym whole) is.no_slash);
            ends = inl refl;
          },
        )
      ]
]

package_there : (name : List ℕ) → HasPackage name
package_there [] = ([], record { simple = []; joined = refl; no_slash = tt; ends = inl refl })
package_there (u ∷ name) = package_more u name (package_there name)

module _ (classes : List ClassRecord) (a b : ClassId) where
  one_package : (ra rb : ClassRecord) → record_of classes a ≡ Some ra → record_of classes b ≡ Some rb → IsDecided (AreInOnePackage classes a b)
  one_package ra rb a_is b_is =
      let of_a = package_there ra.name in
      let of_b = package_there rb.name in
      same_decided {A = (of_a.0 ≡ of_b.0) × (ra.home ≡ rb.home)}
      (λ (same, home). record {
        of_a = ra;
        a_is = a_is;
        of_b = rb;
        b_is = b_is;
        prefix = of_a.0;
        a_in = of_a.1;
        b_in = subst (λ p. IsPackageOf rb.name p) (sym same) of_b.1;
        home = home;
      })
      (λ one.
      let same_a : one.of_a ≡ ra = same_Some one.of_a ra (sym one.a_is ∙ a_is) in
      let same_b : one.of_b ≡ rb = same_Some one.of_b rb (sym one.b_is ∙ b_is) in
      let a_in : IsPackageOf ra.name one.prefix = subst (λ (r : ClassRecord). IsPackageOf r.name one.prefix) same_a one.a_in in
      let b_in : IsPackageOf rb.name one.prefix = subst (λ (r : ClassRecord). IsPackageOf r.name one.prefix) same_b one.b_in in (
        package-unique ra.name of_a.0 one.prefix of_a.1 a_in ∙ package-unique rb.name one.prefix of_b.0 b_in of_b.1,
        ap (λ (r : ClassRecord). r.home) (sym same_a) ∙ one.home ∙ ap (λ (r : ClassRecord). r.home) same_b,
      ))
      (both_decided (text_decided of_a.0 of_b.0) (option_decided domain_decided ra.home rb.home))

  package_by : (oa ob : Option ClassRecord) → record_of classes a ≡ oa → record_of classes b ≡ ob → IsDecided (AreInOnePackage classes a b)
  package_by None ob a_is b_is = inr (λ one. none-some one.of_a (sym a_is ∙ one.a_is))
  package_by (Some ra) None a_is b_is = inr (λ one. none-some one.of_b (sym b_is ∙ one.b_is))
  package_by (Some ra) (Some rb) a_is b_is = one_package ra rb a_is b_is

  pub package_decided : IsDecided (AreInOnePackage classes a b)
  package_decided = package_by (record_of classes a) (record_of classes b) refl refl

module _ (classes : List ClassRecord) where
  -- ---- Members.

  -- a member has a record, or none
  pub field_or_none : (m : MemberId) → IsDecided ((field : FieldRecord) × FieldIs classes m field)
  field_or_none m =
      same_decided
      {A = (r : ClassRecord) × (record_of classes m.class ≡ Some r) × ((field : FieldRecord) × (slice_get r.fields m.index ≡ Some field) × ⊤)}
      (λ (r, is, (field, at, so)). (field, (r, is, at)))
      (λ (field, (r, is, at)). (r, is, (field, at, tt)))
      (some_decided (record_of classes m.class) (λ (r : ClassRecord). (field : FieldRecord) × (slice_get r.fields m.index ≡ Some field) × ⊤)
      (λ r is. some_decided (slice_get r.fields m.index) (λ field. ⊤) (λ field at. inl tt)))

  pub method_or_none : (m : MemberId) → IsDecided ((method : MethodRecord) × MethodIs classes m method)
  method_or_none m =
      same_decided
      {A = (r : ClassRecord) × (record_of classes m.class ≡ Some r) × ((method : MethodRecord) × (slice_get r.methods m.index ≡ Some method) × ⊤)}
      (λ (r, is, (method, at, so)). (method, (r, is, at)))
      (λ (method, (r, is, at)). (r, is, (method, at, tt)))
      (some_decided (record_of classes m.class) (λ (r : ClassRecord). (method : MethodRecord) × (slice_get r.methods m.index ≡ Some method) × ⊤)
      (λ r is. some_decided (slice_get r.methods m.index) (λ method. ⊤) (λ method at. inl tt)))

  -- what is said of the record of a member
  field_so : (m : MemberId) (P : FieldRecord → Type 0) → ((field : FieldRecord) → IsDecided (P field))
      → IsDecided ((field : FieldRecord) × FieldIs classes m field × P field)
  field_so m P decide = elim (field_or_none m) [
    | inl (field, is) ↦
        same_decided (λ holds. (field, is, holds)) (λ (g, is_too, holds). subst P (one_field classes m g field is_too is) holds) (decide field)
    | inr none ↦ inr (λ (g, is, holds). none (g, is))
  ]

  method_so : (m : MemberId) (P : MethodRecord → Type 0) → ((method : MethodRecord) → IsDecided (P method))
      → IsDecided ((method : MethodRecord) × MethodIs classes m method × P method)
  method_so m P decide = elim (method_or_none m) [
    | inl (method, is) ↦
        same_decided (λ holds. (method, is, holds)) (λ (g, is_too, holds). subst P (one_method classes m g method is_too is) holds) (decide method)
    | inr none ↦ inr (λ (g, is, holds). none (g, is))
  ]

  pub field_decided : (name : List ℕ) (kind : TypeRef) (m : MemberId) → IsDecided (IsFieldOf classes name kind m)
  field_decided name kind m =
      same_decided (λ (field, is, (named, kinds)). (field, is, named, kinds)) (λ (field, is, named, kinds). (field, is, (named, kinds)))
      (field_so m (λ (field : FieldRecord). (field.name ≡ name) × (field.kind ≡ kind))
      (λ field. both_decided (text_decided field.name name) (type_ref_decided field.kind kind)))

  pub method_decided : (name : List ℕ) (kind : MethodType) (m : MemberId) → IsDecided (IsMethodOf classes name kind m)
  method_decided name kind m =
      same_decided (λ (method, is, (named, kinds)). (method, is, named, kinds)) (λ (method, is, named, kinds). (method, is, (named, kinds)))
      (method_so m (λ (method : MethodRecord). (method.name ≡ name) × (method.kind ≡ kind))
      (λ method. both_decided (text_decided method.name name) (method_type_decided method.kind kind)))

  pub abstract_decided : (m : MemberId) → IsDecided (IsAbstract classes m)
  abstract_decided m = method_so m (λ (method : MethodRecord). IsTrue (has method.flags ABSTRACT)) (λ method. true_decided (has method.flags ABSTRACT))

  -- ---- Access.

  unmarked_decided : (flags : ℕ) → IsDecided (IsUnmarked flags)
  unmarked_decided flags =
      same_decided (λ (a, (b, c)). (a, b, c)) (λ (a, b, c). (a, (b, c)))
      (both_decided (true_decided (not (has flags PUBLIC)))
      (both_decided (true_decided (not (has flags PROTECTED))) (true_decided (not (has flags PRIVATE)))))

  allows_decided : (from c : ClassId) (flags : ℕ) → IsDecided (AllowsFrom classes from c flags)
  allows_decided from c flags =
      either_decided (true_decided (has flags PUBLIC))
      (either_decided
      (both_decided (true_decided (has flags PROTECTED))
      (either_decided (subclass_decided classes from c) (package_decided classes from c)))
      (either_decided (both_decided (unmarked_decided flags) (package_decided classes from c))
      (both_decided (true_decided (has flags PRIVATE)) (class_decided from c))))

  pub access_decided : (from : ClassId) (member : Member) → IsDecided (MayAccess classes from member)
  access_decided from (Field m) =
      same_decided
      (λ (field, is, allows). (field.flags, (field, is, refl), allows))
      (λ (flags, (field, is, e), allows). (field, is, subst (AllowsFrom classes from m.class) e allows))
      (field_so m (λ (field : FieldRecord). AllowsFrom classes from m.class field.flags) (λ field. allows_decided from m.class field.flags))
  access_decided from (Method m) =
      same_decided
      (λ (method, is, allows). (method.flags, (method, is, refl), allows))
      (λ (flags, (method, is, e), allows). (method, is, subst (AllowsFrom classes from m.class) e allows))
      (method_so m (λ (method : MethodRecord). AllowsFrom classes from m.class method.flags) (λ method. allows_decided from m.class method.flags))

  pub class_access_decided : (from c : ClassId) → IsDecided (MayAccessClass classes from c)
  class_access_decided from c =
      either_decided
      (some_decided (record_of classes c) (λ (r : ClassRecord). IsTrue (has r.flags PUBLIC)) (λ r is. true_decided (has r.flags PUBLIC)))
      (package_decided classes from c)

  -- ---- Overriding.

  pub overriding_decided : (m : MemberId) (flags : ℕ) (d : ClassId) → IsDecided (IsOverriddenIn classes m flags d)
  overriding_decided m flags d =
      either_decided (true_decided (has flags PUBLIC))
      (either_decided (true_decided (has flags PROTECTED)) (both_decided (unmarked_decided flags) (package_decided classes d m.class)))

  -- what is asked of the two methods besides
  abbrev Suits : MemberId → MemberId → MethodRecord → MethodRecord → Type 0
  Suits m other method other_method =
      (other ≡ m)
      ⊎ ((other_method.name ≡ method.name) × (other_method.kind ≡ method.kind)
      × (IsInterface classes m.class ⊎ IsOverriddenIn classes m method.flags other.class))

  suits_decided : (m other : MemberId) (method other_method : MethodRecord) → IsDecided (Suits m other method other_method)
  suits_decided m other method other_method =
      either_decided (member_decided other m)
      (same_decided (λ (named, (kinds, suits)). (named, kinds, suits)) (λ (named, kinds, suits). (named, (kinds, suits)))
      (both_decided (text_decided other_method.name method.name)
      (both_decided (method_type_decided other_method.kind method.kind)
      (either_decided (interface_decided classes m.class) (overriding_decided m method.flags other.class)))))

  pub runs_decided : (m other : MemberId) → IsDecided (RunsFor classes m other)
  runs_decided m other =
      same_decided
      {A = (method : MethodRecord) × MethodIs classes m method × ((other_method : MethodRecord) × MethodIs classes other other_method
      × ((IsTrue (not (has other_method.flags STATIC))) × Suits m other method other_method))}
      (λ (method, is, (other_method, is_other, (instance, suits))). record {
        method = method;
        m_is = is;
        other_method = other_method;
        other_is = is_other;
        is_instance = instance;
        suits = suits;
      })
      (λ runs. (runs.method, runs.m_is, (runs.other_method, runs.other_is, (runs.is_instance, runs.suits))))
      (method_so m
      (λ (method : MethodRecord). (other_method : MethodRecord) × MethodIs classes other other_method
      × ((IsTrue (not (has other_method.flags STATIC))) × Suits m other method other_method))
      (λ method. method_so other
      (λ (other_method : MethodRecord). (IsTrue (not (has other_method.flags STATIC))) × Suits m other method other_method)
      (λ other_method. both_decided (true_decided (not (has other_method.flags STATIC))) (suits_decided m other method other_method))))
