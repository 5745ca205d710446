-- What is read from an entry is what the definitions say of its class.
use Rattle.std.proofs.Common.{◌≡◌, ℕ, ◌↔◌, Bool, List, [], ◌∷◌, ◌++◌, flat_map, Contains, Option, Some, None, IsTrue, slice_get, refl, sym, ap, ◌∙◌, append-nil}
use Rattle.std.specs.Option.{option_map_or}
use Rattle.std.proofs.lemmas.Option.{none-some, same_Some, slice_get-map}
use Rattle.jk_model.specs.declared.identifiers.ClassId.{ClassId}
use Rattle.jk_model_classes.specs.declared.records.ClassRecord.{ClassRecord}
use Rattle.jk_model_classes.specs.declared.records.TypeRef.{TypeRef}
use Rattle.jk_model.specs.declared.descriptors.MethodType.{MethodType}
use Rattle.jk_model_classes.specs.Classes.{record_of, HasClass, IsInterface, AreOrdered, Implements, with_interfaces, field_walk}
use Rattle.jk_model_classes.specs.Lookups.{FindsFrom, IsFieldOf, IsMethodOf}
use Rattle.member_index.specs.Finding.{FindsFieldAt, FindsMethodAt, FieldSuits, MethodSuits, SuitsAt}
use Rattle.class_table.specs.declared.entry.Entry.{Entry}
use Rattle.class_table.specs.Entries.{IsTable, records}
use Rattle.class_table.proofs.EntriesAreRight.{record-at, length-records, entry-exists, entry-at}
use Rattle.class_table.proofs.FirstsByInsertion.{Contains-firsts, Contains-firsts_from}
use Rattle.class_table.proofs.HeightsAreEnough.{field_walk-step, with_interfaces-step}
use Rattle.list_lemmas.proofs.ItemsOfLists.{only_in}

-- ---- No class.

pub no_record : (entries : List Entry) (c : ClassId) → slice_get entries c.0 ≡ None → record_of (records entries) c ≡ None
no_record entries c none = rw (slice_get-map (λ (x : Entry). x.class) entries c.0, none) refl

-- what isn't a class has no class
pub no_class : (entries : List Entry) (c : ClassId) → slice_get entries c.0 ≡ None → HasClass (records entries) c → ⊥
no_class entries c none is =
    let known = entry-exists entries c (rw (length-records entries) at is) in
    none-some known.0 (sym none ∙ known.1)

alone-by : (o : Option ClassRecord) → o ≡ None
    → (option_map_or (λ (r : ClassRecord). option_map_or (λ p. p ∷ []) r.parent []) o [] ≡ []) × (option_map_or (λ (r : ClassRecord). r.interfaces) o [] ≡ [])
alone-by None e = (refl, refl)
alone-by (Some r) e = absurd cc

-- the walk of what isn't a class is that number alone
alone-walk : (classes : List ClassRecord) → AreOrdered classes → (c : ClassId) → record_of classes c ≡ None → field_walk classes c ≡ c ∷ []
alone-walk classes ordered c none =
    let alone = alone-by (record_of classes c) none in
    field_walk-step classes ordered c
    ∙ ap (λ parents. with_interfaces classes c ++ flat_map (field_walk classes) parents) alone.0
    ∙ append-nil (with_interfaces classes c)
    ∙ with_interfaces-step classes ordered c
    ∙ ap (λ interfaces. c ∷ flat_map (with_interfaces classes) interfaces) alone.1

-- ---- Interfaces.

pub implements-none : (entries : List Entry) → IsTable entries → (a i : ClassId) → slice_get entries a.0 ≡ None
    → Implements (records entries) a i → ⊥
implements-none entries table a i none (interface, above) =
    let unknown = no_record entries a none in
    let same : a ≡ i = only_in i a (field_walk (records entries) a) (alone-walk (records entries) table.ordered a unknown) above in
    none-some interface.0 (sym unknown ∙ ap (record_of (records entries)) same ∙ interface.1)

pub implements-some : (entries : List Entry) → IsTable entries → (a i : ClassId) (e : Entry) → slice_get entries a.0 ≡ Some e
    → (there : Bool) → IsInterface (records entries) i → IsTrue there ↔ Contains e.walk.classes i → IsTrue there ↔ Implements (records entries) a i
implements-some entries table a i e at there interface found =
    let walk = (entry-at entries a e at table).walk.whole in (
      (λ yes. (interface, Contains-firsts_from (field_walk (records entries) a) i (rw walk at (found.0 yes)))),
      (λ is. found.1 (rw walk (Contains-firsts (field_walk (records entries) a) i is.1))),
    )

-- ---- A class's own members.

module _ (entries : List Entry) (c : ClassId) (e : Entry) (at : slice_get entries c.0 ≡ Some e) where
  field-to : (name : List ℕ) (kind : TypeRef) (i : ℕ) → SuitsAt (FieldSuits (record { name = name; kind = kind })) e.class.fields i
      → IsFieldOf (records entries) name kind (record { class = c; index = i })
  field-to name kind i (f, is, suits) = (f, (e.class, record-at entries c e at, is), suits.0, suits.1)

  field-from : (name : List ℕ) (kind : TypeRef) (i : ℕ) → IsFieldOf (records entries) name kind (record { class = c; index = i })
      → SuitsAt (FieldSuits (record { name = name; kind = kind })) e.class.fields i
  field-from name kind i (f, (r, known, is), by_name, by_kind) =
      let one : r ≡ e.class = same_Some r e.class (sym known ∙ record-at entries c e at) in
      (f, rw (← one) is, (by_name, by_kind))

  pub own_field-found : (name : List ℕ) (kind : TypeRef) (from : ℕ) (found : Option ℕ)
      → FindsFieldAt e.class.fields (record { name = name; kind = kind }) from found → FindsFrom (IsFieldOf (records entries) name kind) c from found
  own_field-found name kind from None none = λ i order suits. none i order (field-from name kind i suits)
  own_field-found name kind from (Some i) first =
      record {
        suits = field-to name kind i first.suits;
        not_before = first.not_before;
        first = λ j order before suits. first.first j order before (field-from name kind j suits);
      }

  method-to : (name : List ℕ) (kind : MethodType) (i : ℕ) → SuitsAt (MethodSuits (record { name = name; kind = kind })) e.class.methods i
      → IsMethodOf (records entries) name kind (record { class = c; index = i })
  method-to name kind i (f, is, suits) = (f, (e.class, record-at entries c e at, is), suits.0, suits.1)

  method-from : (name : List ℕ) (kind : MethodType) (i : ℕ) → IsMethodOf (records entries) name kind (record { class = c; index = i })
      → SuitsAt (MethodSuits (record { name = name; kind = kind })) e.class.methods i
  method-from name kind i (f, (r, known, is), by_name, by_kind) =
      let one : r ≡ e.class = same_Some r e.class (sym known ∙ record-at entries c e at) in
      (f, rw (← one) is, (by_name, by_kind))

  pub own_method-found : (name : List ℕ) (kind : MethodType) (from : ℕ) (found : Option ℕ)
      → FindsMethodAt e.class.methods (record { name = name; kind = kind }) from found → FindsFrom (IsMethodOf (records entries) name kind) c from found
  own_method-found name kind from None none = λ i order suits. none i order (method-from name kind i suits)
  own_method-found name kind from (Some i) first =
      record {
        suits = method-to name kind i first.suits;
        not_before = first.not_before;
        first = λ j order before suits. first.first j order before (method-from name kind j suits);
      }

pub no_own_field : (entries : List Entry) (c : ClassId) → slice_get entries c.0 ≡ None → (name : List ℕ) (kind : TypeRef) (from : ℕ)
    → FindsFrom (IsFieldOf (records entries) name kind) c from None
no_own_field entries c none name kind from i order (f, (r, known, is), by_name, by_kind) = none-some r (sym (no_record entries c none) ∙ known)

pub no_own_method : (entries : List Entry) (c : ClassId) → slice_get entries c.0 ≡ None → (name : List ℕ) (kind : MethodType) (from : ℕ)
    → FindsFrom (IsMethodOf (records entries) name kind) c from None
no_own_method entries c none name kind from i order (f, (r, known, is), by_name, by_kind) = none-some r (sym (no_record entries c none) ∙ known)
