-- The system classes alone are sound and linked, and classes stay so where each name table is one that was there.
use Rattle.std.proofs.Common.{◌≡◌, ℕ, zero, suc, ◌+◌, Bool, true, ◌&&◌, List, [], ◌∷◌, length, map, take, Option, Some, None, slice_get, refl, sym, ap, subst, ◌∙◌, arith, nat_lt}
use Rattle.std.specs.Prelude.{option_map}
use Rattle.std.specs.List.{AllByRecursion, list_all}
use Rattle.std.proofs.lemmas.Bool.{and_parts, ltb-true}
use Rattle.std.proofs.lemmas.List.{take_all}
use Rattle.std.proofs.lemmas.Option.{slice_get_within, same_Some}
use Rattle.list_lemmas.proofs.ItemsOfLists.{Contains-none}
use Rattle.list_lemmas.proofs.ItemsByPlace.{item_there}
use Rattle.jk_model.specs.declared.identifiers.ClassId.{ClassId}
use Rattle.jk_model.specs.declared.identifiers.MemberId.{MemberId}
use Rattle.jk_model.specs.SystemTable.{SystemClass, SystemMethod, interface_numbers, method_number, parent_number, system_classes}
use Rattle.jk_model_classes.specs.declared.records.ClassRecord.{ClassRecord}
use Rattle.jk_model_classes.specs.declared.records.MethodRecord.{MethodRecord}
use Rattle.jk_model_classes.specs.Classes.{AreOrdered, IsBelow, ParentIsBelow, record_of}
use Rattle.jk_model_classes.specs.ClassNames.{BeginsArray}
use Rattle.jk_model_classes.specs.Lookups.{MethodIs}
use Rattle.jk_model_classes.specs.SystemRecords.{AreSystemRecords, IsSystemMethodAt, IsSystemRecord, system_meaning}
use Rattle.jk_model_classes.specs.Worlds.{NamedClass}
use Rattle.class_lemmas.proofs.CodeOfMethods.{system_has_none}
use Rattle.jk_model_typing.specs.Scopes.{CodeScope, IsScopeOf}
use Rattle.jk_model_sound_classes.specs.SoundClasses.{AreSoundClasses}
use Rattle.class_growth.proofs.SystemClassesClosed.{system-closed}
use Rattle.sound_folders.specs.LinkedWorlds.{AreLinked, HaveNamesOf}
use Rattle.sound_folders.proofs.NamesOfTables.{system_no_array}

-- ---- Each system class stands after its parent and its interfaces.

abbrev is_below : ℕ → Option ℕ → Bool
is_below n None = true
is_below n (Some m) = nat_lt m n

abbrev are_after : ℕ → List SystemClass → Bool
are_after n [] = true
are_after n (c ∷ cs) = is_below n (parent_number c) && (list_all (is_below n) (interface_numbers c) && are_after (suc n) cs)

all_after : are_after 0 system_classes ≡ true
all_after = refl

abbrev IsAfter : ℕ → SystemClass → Type 0
IsAfter n c = (is_below n (parent_number c) ≡ true) × (list_all (is_below n) (interface_numbers c) ≡ true)

after-at : (cs : List SystemClass) (k n : ℕ) (c : SystemClass) → are_after k cs ≡ true → slice_get cs n ≡ Some c → IsAfter (k + n) c
after-at [] k n c after e = absurd cc
after-at (d ∷ cs) k zero c after e =
    let parts = and_parts (is_below k (parent_number d)) (list_all (is_below k) (interface_numbers d) && are_after (suc k) cs) after in
    let number : k ≡ k + 0 = omega arith in
    let here : IsAfter k d = (parts.0, (and_parts (list_all (is_below k) (interface_numbers d)) (are_after (suc k) cs) parts.1).0) in
    subst (λ (m : ℕ). IsAfter m c) number (subst (λ (x : SystemClass). IsAfter k x) (same_Some d c e) here)
after-at (d ∷ cs) k (suc n) c after e =
    let parts = and_parts (is_below k (parent_number d)) (list_all (is_below k) (interface_numbers d) && are_after (suc k) cs) after in
    let number : suc k + n ≡ k + suc n = omega arith in
    let rest = (and_parts (list_all (is_below k) (interface_numbers d)) (are_after (suc k) cs) parts.1).1 in
    subst (λ (m : ℕ). IsAfter m c) number (after-at cs (suc k) n c rest e)

after : (n : ℕ) (c : SystemClass) → slice_get system_classes n ≡ Some c → IsAfter n c
after n c e = let number : 0 + n ≡ n = omega arith in subst (λ (m : ℕ). IsAfter m c) number (after-at system_classes 0 n c all_after e)

parent_by : (n : ℕ) (o : Option ClassId) (number : Option ℕ) → option_map (λ (c : ClassId). c.0) o ≡ number → is_below n number ≡ true
    → ParentIsBelow n o
parent_by n None number e low = tt
parent_by n (Some p) number e low = ltb-true p.0 n (subst (λ (x : Option ℕ). is_below n x ≡ true) (sym e) low)

interfaces_by : (n : ℕ) (interfaces : List ClassId) → list_all (is_below n) (map (λ (c : ClassId). Some c.0) interfaces) ≡ true
    → AllByRecursion (IsBelow n) interfaces
interfaces_by n [] low = tt
interfaces_by n (i ∷ interfaces) low =
    let parts = and_parts (nat_lt i.0 n) (list_all (is_below n) (map (λ (c : ClassId). Some c.0) interfaces)) low in
    (ltb-true i.0 n parts.0, interfaces_by n interfaces parts.1)

module _ (classes : List ClassRecord) (system : AreSystemRecords classes) where
  pub entry-of : (c : ClassId) (r : ClassRecord) → record_of classes c ≡ Some r
      → (entry : SystemClass) × (slice_get system_classes c.0 ≡ Some entry) × IsSystemRecord c.0 entry r
  entry-of c r is =
      let entry = item_there system_classes c.0 (omega (arith, slice_get_within classes c.0 r is, system.as_many)) in
      (entry.0, entry.1, system.each c.0 entry.0 r entry.1 is)

  method-of : (m : MemberId) (method : MethodRecord) → MethodIs classes m method
      → (number : ℕ) × (entry : SystemMethod) × IsSystemMethodAt number entry method
  method-of m method (r, is, at) =
      let of = entry-of m.class r is in
      let entry = item_there of.0.methods m.index (omega (arith, slice_get_within r.methods m.index method at, of.2.method_count)) in
      (method_number m.class.0 m.index, entry.0, of.2.methods m.index entry.0 method entry.1 at)

  pub never_scope : (m : MemberId) (s : CodeScope) → IsScopeOf classes m s → ⊥
  never_scope m s scope =
      let of = method-of m s.method (scope.class, scope.class_is, scope.method) in
      system_has_none of.0 s.code (sym of.2.body ∙ scope.body)

  in_order : AreOrdered classes
  in_order c r is =
      let of = entry-of c r is in
      let low = after c.0 of.0 of.1 in (
        parent_by c.0 r.parent (parent_number of.0) of.2.parent low.0,
        interfaces_by c.0 r.interfaces (subst (λ (xs : List (Option ℕ)). list_all (is_below c.0) xs ≡ true) (sym of.2.interfaces) low.1),
      )

  all_front : take (length system_classes) classes ≡ classes
  all_front = take_all (length system_classes) classes (omega (arith, system.as_many))

  pub first-sound : AreSoundClasses classes []
  first-sound =
      record {
        ordered = in_order;
        system = subst AreSystemRecords (sym all_front) system;
        homed = λ c r is foreign. absurd (foreign (entry-of c r is).2.home);
        of_system = λ c r is home. ap (λ (xs : List ClassRecord). slice_get xs c.0) all_front ∙ is;
        described = λ m method is. (system_meaning, (method-of m method is).2.params);
        typed = λ m s scope. absurd (never_scope m s scope);
        statics = λ m member s i method scope on op names. absurd (never_scope m s scope);
        static_fields = λ m member s i field scope on op names. absurd (never_scope m s scope);
        initialisers = λ m s scope named. absurd (never_scope m s scope);
        closed = λ table on. absurd (Contains-none table on);
      }

  pub first-linked : AreLinked classes []
  first-linked =
      record {
        closed = system-closed classes system;
        around = λ c r is foreign. absurd (foreign (entry-of c r is).2.home);
        names = λ c r is begins.
            let of = entry-of c r is in
            system_no_array c.0 of.0 of.1 (subst BeginsArray of.2.name begins);
        knows_system = λ table on c low. absurd (Contains-none table on);
        own_names = λ table on. absurd (Contains-none table on);
        types = λ table on. absurd (Contains-none table on);
      }

-- ---- The same name tables.

module _ (classes : List ClassRecord) (old tables : List (List NamedClass)) (same : HaveNamesOf tables old) where
  pub same-sound : AreSoundClasses classes old → AreSoundClasses classes tables
  same-sound sound =
      record {
        ordered = sound.ordered;
        system = sound.system;
        homed = sound.homed;
        of_system = sound.of_system;
        described = sound.described;
        typed = sound.typed;
        statics = sound.statics;
        static_fields = sound.static_fields;
        initialisers = sound.initialisers;
        closed = λ table on. sound.closed table (same table on);
      }

  pub same-linked : AreLinked classes old → AreLinked classes tables
  same-linked linked =
      record {
        closed = linked.closed;
        around = linked.around;
        names = linked.names;
        knows_system = λ table on. linked.knows_system table (same table on);
        own_names = λ table on. linked.own_names table (same table on);
        types = λ table on. linked.types table (same table on);
      }
