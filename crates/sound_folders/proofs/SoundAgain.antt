-- The classes and the names with those of an accepted folder are sound and linked as before.
use Rattle.std.proofs.Common.{◌≡◌, ◌≢◌, ℕ, ◌<◌, ◌≤◌, ◌⊎◌, inl, inr, min, IsTrue, List, [], ◌∷◌, ◌++◌, length, take, Option, Some, None, slice_get, Contains, refl, sym, ap, subst, ◌∙◌, arith}
use Rattle.std.proofs.lemmas.Bool.{cases_lt}
use Rattle.std.proofs.lemmas.List.{take-append-le, take_all, take_min}
use Rattle.std.proofs.lemmas.List.Elements.{Contains-push_cases}
use Rattle.std.proofs.lemmas.Option.{slice_get_within}
use Rattle.list_lemmas.proofs.ItemsByPlace.{item_there}
use Rattle.jk_model.specs.Flags.{STATIC, has}
use Rattle.jk_model.specs.declared.identifiers.ClassId.{ClassId}
use Rattle.jk_model.specs.declared.identifiers.MemberId.{MemberId}
use Rattle.jk_model.specs.declared.instructions.Instr.{Instr}
use Rattle.jk_model.specs.SystemTable.{system_classes}
use Rattle.jk_model_classes.specs.declared.records.ClassRecord.{ClassRecord}
use Rattle.jk_model_classes.specs.declared.records.FieldRecord.{FieldRecord}
use Rattle.jk_model_classes.specs.declared.records.Link.{Link}
use Rattle.jk_model_classes.specs.declared.records.Link.TheVariants as To
use Rattle.jk_model_classes.specs.declared.records.MethodRecord.{MethodRecord}
use Rattle.jk_model_classes.specs.declared.sharing.Offer.{Offer}
use Rattle.jk_model_classes.specs.declared.sharing.Stub.{Stub}
use Rattle.jk_model_classes.specs.Classes.{AreOrdered, record_of}
use Rattle.jk_model_classes.specs.Lookups.{FieldIs, MethodIs}
use Rattle.jk_model_classes.specs.Members.{CLINIT}
use Rattle.jk_model_classes.specs.SystemRecords.{AreSystemRecords, AreTypesFor}
use Rattle.jk_model_classes.specs.Worlds.{IsNamed, NamedClass, WorldRecord}
use Rattle.jk_model_typing.specs.declared.frames.FrameType.{FrameType}
use Rattle.jk_model_typing.specs.Scopes.{CodeScope, IsScopeOf, is_static}
use Rattle.jk_model_typing.specs.Typing.{IsLeastTyping}
use Rattle.jk_model_folders.specs.declared.files.FolderFiles.{FolderFiles}
use Rattle.jk_model_folders.specs.Loads.{Loads, MayLoad}
use Rattle.jk_model_sound_classes.specs.NamedMembers.{NamesField, NamesMethod}
use Rattle.jk_model_sound_classes.specs.SoundClasses.{AreSoundClasses, IsClosedTable}
use Rattle.jk_model_sound_classes.specs.VerifiedMethods.{IsVerified}
use Rattle.class_growth.specs.ClosedClasses.{IsClosed}
use Rattle.class_growth.specs.ScopesOver.{among}
use Rattle.class_growth.proofs.ItemsOfLists.{slice_get-append_cases}
use Rattle.class_growth.proofs.MoreClasses.{field-before, field_walk-kept, method-before, method_walk-kept, record-still}
use Rattle.class_growth.proofs.ScopesKept.{closed-scope, scope-before}
use Rattle.class_growth.proofs.TypingsKept.{typing-still}
use Rattle.sound_folders.specs.LinkedWorlds.{Accepts, AreLinked, RefersAround}
use Rattle.sound_folders.specs.NamesAndTypes.{HasOwnNames, IsCalled, SayTypes}
use Rattle.sound_folders.proofs.ArraysHaveNoNames.{own_no_array}
use Rattle.sound_folders.proofs.NamesSayTypes.{new_own_names, new_say_types}
use Rattle.sound_folders.proofs.NewClasses.{added, all, closed-more, meaning, system_few, own_of, own_at}
use Rattle.sound_folders.proofs.ReferencesAround.{refers-around}
use Rattle.sound_folders.proofs.StaticMembers.{calls_static, reads_static}
use Rattle.sound_folders.proofs.TablesAgain.{new_table_closed, system_known}

-- each method with code of the classes from this one on has a least typing
abbrev pub AreTyped : ClassId → List ClassRecord → Type 0
AreTyped first classes =
    (member : MemberId) (s : CodeScope) → IsScopeOf classes member s → first.0 ≤ member.class.0
    → (frames : List (Option FrameType)) × IsLeastTyping classes member frames

-- and none is a class initialiser
abbrev pub NoInitialisers : ClassId → List ClassRecord → Type 0
NoInitialisers first classes =
    (member : MemberId) (method : MethodRecord) → MethodIs classes member method → first.0 ≤ member.class.0 → method.name ≢ CLINIT

module _ {f : FolderFiles} {w : WorldRecord} {into : List ℕ} {first : ClassId} {table : List NamedClass} {offers : List Offer} {stubs : List Stub}
    {new : WorldRecord} (l : Loads f w into first table offers stubs new) (may : MayLoad w) (tables : List (List NamedClass))
    (sound : AreSoundClasses w.classes tables) (linked : AreLinked w.classes tables) (ordered : AreOrdered (all l)) where
  front_same : take (length system_classes) (all l) ≡ take (length system_classes) w.classes
  front_same = take-append-le (length system_classes) w.classes (added l) (system_few l may)

  homed-again : (c : ClassId) (r : ClassRecord) → record_of (all l) c ≡ Some r → (r.home ≡ None → ⊥) → (p : ClassId) × (r.parent ≡ Some p)
  homed-again c r is foreign = elim (slice_get-append_cases w.classes (added l) c.0 r is) [
    | inl old ↦ sound.homed c r old foreign
    | inr later ↦ let parent = (own_of l r later).1.is_record.parent in (parent.0, parent.2)
  ]

  of_system-again : (c : ClassId) (r : ClassRecord) → record_of (all l) c ≡ Some r → r.home ≡ None
      → slice_get (take (length system_classes) (all l)) c.0 ≡ Some r
  of_system-again c r is none = elim (slice_get-append_cases w.classes (added l) c.0 r is) [
    | inl old ↦ ap (λ (xs : List ClassRecord). slice_get xs c.0) front_same ∙ sound.of_system c r old none
    | inr later ↦ let at_home = (own_of l r later).1.is_record.at_home in absurd (cc (none, at_home))
  ]

  described-again : (m : MemberId) (method : MethodRecord) → MethodIs (all l) m method
      → (of : List ℕ → Option ClassId) × AreTypesFor of method.kind.params method.params
  described-again m method (r, is, at) = elim (slice_get-append_cases w.classes (added l) m.class.0 r is) [
    | inl old ↦ sound.described m method (r, old, at)
    | inr later ↦
        let own = (own_of l r later).1 in
        let told = item_there own.file.methods m.index (omega (arith, slice_get_within r.methods m.index method at, own.is_record.methods.as_many)) in
        (meaning l, (own.is_record.methods.each m.index told.0 method told.1 at).params)
  ]

  closed-before : (n : ℕ) → (n ≡ length w.classes) ⊎ IsClosed (take n w.classes) → IsClosed (take n w.classes)
  closed-before n (inl whole) = subst IsClosed (sym (take_all n w.classes (omega (arith, whole)))) linked.closed
  closed-before n (inr some) = some

  typed-again : AreTyped first (all l) → (m : MemberId) (s : CodeScope) → IsScopeOf (all l) m s
      → (frames : List (Option FrameType)) × IsVerified (all l) m frames
  typed-again typed m s scope = elim (cases_lt m.class.0 (length w.classes)) [
    | inl low ↦
        let before = sound.typed m (among s w.classes) (scope-before w.classes (added l) m s low scope) in
        let stood : ℕ = min before.1.stood (length w.classes) in
        let same : take (min before.1.stood (length w.classes)) (all l) ≡ take before.1.stood w.classes =
        take-append-le (min before.1.stood (length w.classes)) w.classes (added l) (omega arith) ∙ take_min before.1.stood w.classes in (
          before.0,
          record {
            typing = typing-still w.classes (added l) may.world.ordered linked.closed m before.0 before.1.typing;
            stood = stood;
            enough = inr (subst IsClosed (sym same) (closed-before before.1.stood before.1.enough));
            is_least = subst (λ (xs : List ClassRecord). IsLeastTyping xs m before.0) (sym same) before.1.is_least;
          },
        )
    | inr high ↦
        let least = typed m s scope (omega (arith, high, l.first_is)) in
        let same : take (length (all l)) (all l) ≡ all l = take_all (length (all l)) (all l) (omega arith) in (
          least.0,
          record {
            typing = least.1.typing;
            stood = length (all l);
            enough = inl refl;
            is_least = subst (λ (xs : List ClassRecord). IsLeastTyping xs m least.0) (sym same) least.1;
          },
        )
  ]

  statics-again : (m member : MemberId) (s : CodeScope) (i : Instr) (method : MethodRecord) → IsScopeOf (all l) m s
      → Contains s.code.instrs i → i.op ≡ 0xb8 → NamesMethod s i member method → IsTrue (is_static method)
  statics-again m member s i method scope on op (class, (n, operand, leads), is) =
      let found : MethodIs (all l) member method = subst (λ (xs : List ClassRecord). MethodIs xs member method) scope.all is in
      elim (cases_lt m.class.0 (length w.classes)) [
        | inl low ↦
            let before = scope-before w.classes (added l) m s low scope in
            let there = (closed-scope w.classes linked.closed m (among s w.classes) before).links n (To.Method class member) leads in
            let was = method-before w.classes (added l) member method there.1 found in
            sound.statics m member (among s w.classes) i method before on op (class, (n, operand, leads), was)
        | inr high ↦
            let own = own_at l m.class scope.class high scope.class_is in
            let link = subst (λ (xs : List Link). slice_get xs n ≡ Some (To.Method class member)) scope.links leads in
            calls_static l own.0 scope.class own.1 m.index s.method scope.method s.code scope.body i on n operand class member op link method found
      ]

  static_fields-again : (m member : MemberId) (s : CodeScope) (i : Instr) (field : FieldRecord) → IsScopeOf (all l) m s
      → Contains s.code.instrs i → i.op ≡ 0xb2 → NamesField s i member field → IsTrue (has field.flags STATIC)
  static_fields-again m member s i field scope on op (class, (n, operand, leads), is) =
      let found : FieldIs (all l) member field = subst (λ (xs : List ClassRecord). FieldIs xs member field) scope.all is in
      elim (cases_lt m.class.0 (length w.classes)) [
        | inl low ↦
            let before = scope-before w.classes (added l) m s low scope in
            let there = (closed-scope w.classes linked.closed m (among s w.classes) before).links n (To.Field class member) leads in
            let was = field-before w.classes (added l) member field there.1 found in
            sound.static_fields m member (among s w.classes) i field before on op (class, (n, operand, leads), was)
        | inr high ↦
            let own = own_at l m.class scope.class high scope.class_is in
            let link = subst (λ (xs : List Link). slice_get xs n ≡ Some (To.Field class member)) scope.links leads in
            reads_static l own.0 scope.class own.1 m.index s.method scope.method s.code scope.body i on n operand class member op link field found
      ]

  initialisers-again : NoInitialisers first (all l) → (m : MemberId) (s : CodeScope) → IsScopeOf (all l) m s → s.method.name ≡ CLINIT
      → IsTrue (is_static s.method) × (s.method.params ≡ []) × (s.method.result ≡ None)
  initialisers-again never m s scope named = elim (cases_lt m.class.0 (length w.classes)) [
    | inl low ↦ sound.initialisers m (among s w.classes) (scope-before w.classes (added l) m s low scope) named
    | inr high ↦ absurd (never m s.method (scope.class, scope.class_is, scope.method) (omega (arith, high, l.first_is)) named)
  ]

  -- ---- The name tables.

  pub closed-again : (t : List NamedClass) → Contains (tables ++ table ∷ []) t → IsClosedTable (all l) t
  closed-again t on = elim (Contains-push_cases tables table t on) [
    | inl old ↦ λ c named.
        let known = sound.closed t old c named in
        (known.0, record-still w.classes (added l) c known.0 known.1, known.2)
    | inr same ↦
        subst (IsClosedTable (all l)) (sym l.table_is ∙ same)
        (new_table_closed l may linked.closed sound.of_system linked.around ordered)
  ]

  pub sound-again : AreTyped first (all l) → NoInitialisers first (all l) → AreSoundClasses (all l) (tables ++ table ∷ [])
  sound-again typed never =
      record {
        ordered = ordered;
        system = subst AreSystemRecords (sym front_same) sound.system;
        homed = homed-again;
        of_system = of_system-again;
        described = described-again;
        typed = typed-again typed;
        statics = statics-again;
        static_fields = static_fields-again;
        initialisers = initialisers-again never;
        closed = closed-again;
      }

  knows_system-again : (t : List NamedClass) → Contains (tables ++ table ∷ []) t → (c : ClassId) → c.0 < length system_classes → IsNamed t c
  knows_system-again t on c low = elim (Contains-push_cases tables table t on) [
    | inl old ↦ linked.knows_system t old c low
    | inr same ↦ subst (λ (x : List NamedClass). IsNamed x c) (sym l.table_is ∙ same) (system_known l may c low)
  ]

  called-still : (c : ClassId) (name : List ℕ) → IsCalled w.classes c name → IsCalled (all l) c name
  called-still c name (r, is, e) = (r, record-still w.classes (added l) c r is, e)

  around-still : (c : ClassId) (r : ClassRecord) → record_of w.classes c ≡ Some r → RefersAround w.classes r → RefersAround (all l) r
  around-still c r is around =
      let there = (linked.closed.each c r is).links in
      record {
        parent = around.parent;
        interfaces = around.interfaces;
        entries = around.entries;
        fields = λ class m on.
            let found = around.fields class m on in
            let has = (there (To.Field class m) on).0 in (
              found.0,
              subst (λ (walk : List ClassId). Contains walk m.class) (sym (field_walk-kept w.classes (added l) may.world.ordered class has)) found.1,
            );
        methods = λ class m on.
            let found = around.methods class m on in
            let has = (there (To.Method class m) on).0 in (
              found.0,
              subst (λ (walk : List ClassId). Contains walk m.class) (sym (method_walk-kept w.classes (added l) may.world.ordered class has)) found.1,
            );
        types = λ method on.
            let says = around.types method on in
            record {
              meaning = says.meaning;
              is_said = says.is_said;
              refers = λ name d named meant. let so = says.refers name d named meant in (so.0, called-still d name so.1);
            };
      }

  own_names-again : (t : List NamedClass) → Contains (tables ++ table ∷ []) t → HasOwnNames (all l) t
  own_names-again t on = elim (Contains-push_cases tables table t on) [
    | inl old ↦
        let names = linked.own_names t old in
        record { own = λ name c has. called-still c name (names.own name c has); once = names.once }
    | inr same ↦ subst (HasOwnNames (all l)) (sym l.table_is ∙ same) (new_own_names l may)
  ]

  types-again : (t : List NamedClass) → Contains (tables ++ table ∷ []) t → SayTypes (all l) t
  types-again t on = elim (Contains-push_cases tables table t on) [
    | inl old ↦ λ m method is named.
        let known = sound.closed t old m.class named in
        let low = slice_get_within w.classes m.class.0 known.0 known.1 in
        linked.types t old m method (method-before w.classes (added l) m method low is) named
    | inr same ↦ subst (SayTypes (all l)) (sym l.table_is ∙ same) (new_say_types l may sound.of_system linked.around)
  ]

  pub linked-again : AreLinked (all l) (tables ++ table ∷ [])
  linked-again =
      record {
        closed = closed-more l may linked.closed;
        around = λ c r is foreign. elim (slice_get-append_cases w.classes (added l) c.0 r is) [
          | inl old ↦ around-still c r old (linked.around c r old foreign)
          | inr later ↦ let own = own_of l r later in refers-around l may linked.names ordered own.0 r own.1
        ];
        names = λ c r is. elim (slice_get-append_cases w.classes (added l) c.0 r is) [
          | inl old ↦ linked.names c r old
          | inr later ↦ let own = own_of l r later in own_no_array l own.1.place own.1.file own.1.listed r.name own.1.is_record.name
        ];
        knows_system = knows_system-again;
        own_names = own_names-again;
        types = types-again;
      }

-- ---- With what an accepted folder gives.

module _ {f : FolderFiles} {old : WorldRecord} {into : List ℕ} {first : ClassId} {table : List NamedClass} {offers : List Offer}
    {stubs : List Stub} {new : WorldRecord} (a : Accepts f old into first table offers stubs new) (tables : List (List NamedClass))
    (sound : AreSoundClasses old.classes tables) (linked : AreLinked old.classes tables) (ordered : AreOrdered new.classes) where
  same : new.classes ≡ all a.loads
  same = ap (λ (x : WorldRecord). x.classes) a.loads.world ∙ a.loads.is_placed.classes

  pub accepted-sound : AreSoundClasses new.classes (tables ++ table ∷ [])
  accepted-sound =
      subst (λ (xs : List ClassRecord). AreSoundClasses xs (tables ++ table ∷ [])) (sym same)
      (sound-again a.loads a.may tables sound linked (subst AreOrdered same ordered)
      (subst (λ (xs : List ClassRecord). AreTyped first xs) same a.typed) (subst (λ (xs : List ClassRecord). NoInitialisers first xs) same a.no_initialisers))

  pub accepted-linked : AreLinked new.classes (tables ++ table ∷ [])
  accepted-linked =
      subst (λ (xs : List ClassRecord). AreLinked xs (tables ++ table ∷ [])) (sym same)
      (linked-again a.loads a.may tables sound linked (subst AreOrdered same ordered))
