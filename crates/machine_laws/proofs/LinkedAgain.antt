-- The classes and the names with those of an accepted folder are linked as before, and its names are sound.
use Rattle.std.proofs.Common.{◌≡◌, ℕ, inl, IsTrue, List, [], ◌∷◌, ◌++◌, length, take, Option, Some, None, Contains, refl, sym, subst, ◌∙◌, arith, take_all}
use Rattle.std.proofs.lemmas.Option.{none-some, slice_get_within}
use Rattle.list_lemmas.proofs.ItemsByPlace.{item_there, slice_get-in_take}
use Rattle.list_lemmas.proofs.ItemsOfLists.{Contains-at}
use Rattle.jk_model.specs.SystemTable.{system_classes}
use Rattle.jk_model.specs.declared.identifiers.ClassId.{ClassId}
use Rattle.jk_model.specs.declared.identifiers.DomainId.{DomainId}
use Rattle.jk_model.specs.declared.identifiers.MemberId.{MemberId}
use Rattle.jk_model_classes.specs.Classes.{AreOrdered}
use Rattle.jk_model_classes.specs.Lookups.{MethodIs}
use Rattle.jk_model_classes.specs.SystemRecords.{AreTypesFor, system_meaning}
use Rattle.jk_model_classes.specs.Worlds.{NamedClass, WorldRecord, class_named}
use Rattle.jk_model_classes.specs.declared.records.ClassRecord.{ClassRecord}
use Rattle.jk_model_classes.specs.declared.records.MethodRecord.{MethodRecord}
use Rattle.jk_model_classes.specs.declared.sharing.Offer.{Offer}
use Rattle.jk_model_classes.specs.declared.sharing.Stub.{Stub}
use Rattle.jk_model_typing.specs.Scopes.{CodeScope, IsScopeOf}
use Rattle.jk_model_typing.specs.Typing.{IsLeastTyping}
use Rattle.jk_model_typing.specs.declared.frames.FrameType.{FrameType}
use Rattle.jk_model_folders.specs.Loads.{Loads, MayLoad}
use Rattle.jk_model_folders.specs.declared.files.FolderFiles.{FolderFiles}
use Rattle.jk_model_sound_classes.specs.SoundClasses.{AreSoundClasses}
use Rattle.jk_model_sound_classes.specs.VerifiedMethods.{IsVerified}
use Rattle.heap_laws.specs.NamedWell.{uses_static_field}
use Rattle.heap_laws.specs.SoundTables.{IsSoundTable}
use Rattle.sound_folders.proofs.NewClasses.{all}
use Rattle.sound_folders.proofs.SoundAgain.{closed-again, linked-again}
use Rattle.sound_folders.proofs.TypesByNames.{said-one}
use Rattle.sound_folders.specs.LinkedWorlds.{AreLinked}
use Rattle.machine_laws.specs.SoundFolders.{AreSound}

-- ---- What stood, as the laws of linked classes know it.

module _ (classes : List ClassRecord) (tables : List (List NamedClass)) (sound : AreSound classes tables) (linked : AreLinked classes tables) where
  described : (m : MemberId) (method : MethodRecord) → MethodIs classes m method
      → (of : List ℕ → Option ClassId) × AreTypesFor of method.kind.params method.params
  described m method (r, is, at) = by r.home refl
    where
      by : (home : Option DomainId) → r.home ≡ home → (of : List ℕ → Option ClassId) × AreTypesFor of method.kind.params method.params
      by None e =
          let low = sound.codes.of_system m.class r is e in
          let entry = item_there system_classes m.class.0 low in
          let said = sound.codes.system.each m.class.0 entry.0 r entry.1 (slice_get-in_take classes (length system_classes) m.class.0 r low is) in
          let own = item_there entry.0.methods m.index (omega (arith, slice_get_within r.methods m.index method at, said.method_count)) in
          (system_meaning, (said.methods m.index own.0 method own.1 at).params)
      by (Some d) e =
          let says = (linked.around m.class r is (λ none. none-some d (sym none ∙ e))).types method (Contains-at r.methods m.index method at) in
          (says.meaning, says.is_said.0)

  verified : (m : MemberId) (s : CodeScope) → IsScopeOf classes m s → (frames : List (Option FrameType)) × IsVerified classes m frames
  verified m s scope =
      let least = sound.codes.typed m s scope in
      let same : take (length classes) classes ≡ classes = take_all (length classes) classes (omega arith) in (
        least.0,
        record {
          typing = least.1.typing;
          stood = length classes;
          enough = inl refl;
          is_least = subst (λ (xs : List ClassRecord). IsLeastTyping xs m least.0) (sym same) least.1;
        },
      )

  pub older : AreSoundClasses classes tables
  older =
      record {
        ordered = sound.codes.ordered;
        system = sound.codes.system;
        homed = sound.codes.homed;
        of_system = λ c r is home. slice_get-in_take classes (length system_classes) c.0 r (sound.codes.of_system c r is home) is;
        described = described;
        typed = verified;
        statics = λ m member s i method scope on op named. (sound.codes.names m s i scope on).static_method member method op named;
        static_fields = λ m member s i field scope on op named.
            (sound.codes.names m s i scope on).static_field member field (subst (λ (o : ℕ). IsTrue (uses_static_field o)) (sym op) refl) named;
        initialisers = λ m s scope named.
            let is = sound.codes.initialisers m s.method (scope.class, scope.class_is, scope.method) named in
            (is.1, is.2, is.3);
        closed = λ table on. (sound.each table on).closed;
      }

-- ---- With the folder's.

module _ {f : FolderFiles} {w : WorldRecord} {into : List ℕ} {first : ClassId} {table : List NamedClass} {offers : List Offer} {stubs : List Stub}
    {new : WorldRecord} (l : Loads f w into first table offers stubs new) (may : MayLoad w) (tables : List (List NamedClass))
    (sound : AreSound w.classes tables) (linked : AreLinked w.classes tables) (ordered : AreOrdered (all l)) where
  pub linked_new : AreLinked (all l) (tables ++ table ∷ [])
  linked_new = linked-again l may tables (older w.classes tables sound linked) linked ordered

  pub sound_table : (t : List NamedClass) → Contains (tables ++ table ∷ []) t → IsSoundTable (all l) t
  sound_table t on =
      record {
        closed = closed-again l may tables (older w.classes tables sound linked) linked ordered t on;
        knows_system = linked_new.knows_system t on;
        agrees = λ m n a b is_a is_b named_m named_n same.
            said-one (class_named t) a b same (linked_new.types t on m a is_a named_m) (linked_new.types t on n b is_b named_n);
      }
