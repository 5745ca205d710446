-- In the domain of an accepted folder each class stands under its own name, and methods take and answer what their descriptors say
-- by the domain's names: those of system classes, of classes that lines bring in, and of the folder's own classes.
use Rattle.std.proofs.Common.{◌≡◌, ◌≢◌, ℕ, ◌<◌, inl, inr, List, length, take, Option, Some, None, slice_get, Contains, refl, sym, ap, ◌∙◌, arith}
use Rattle.std.proofs.lemmas.Option.{none-some, slice_get_within}
use Rattle.list_lemmas.proofs.ItemsOfLists.{Contains-at, place_of}
use Rattle.list_lemmas.proofs.ItemsByPlace.{item_there, slice_get-in_take, slice_get-behind}
use Rattle.jk_model.specs.declared.identifiers.ClassId.{ClassId}
use Rattle.jk_model.specs.declared.identifiers.DomainId.{DomainId}
use Rattle.jk_model.specs.SystemTable.{system_classes}
use Rattle.jk_model_classes.specs.declared.records.ClassRecord.{ClassRecord}
use Rattle.jk_model_classes.specs.declared.records.MethodRecord.{MethodRecord}
use Rattle.jk_model_classes.specs.declared.sharing.Offer.{Offer}
use Rattle.jk_model_classes.specs.declared.sharing.ResolverLine.{ResolverLine}
use Rattle.jk_model_classes.specs.declared.sharing.Stub.{Stub}
use Rattle.jk_model_classes.specs.Classes.{record_of}
use Rattle.jk_model_classes.specs.ResolverRules.{ImportsClass, IsReached}
use Rattle.jk_model_classes.specs.SystemRecords.{system_meaning}
use Rattle.jk_model_classes.specs.Worlds.{NamedClass, WorldRecord}
use Rattle.class_lemmas.proofs.ReachedByReferences.{reached_further}
use Rattle.jk_model_folders.specs.declared.files.FolderFiles.{FolderFiles}
use Rattle.jk_model_folders.specs.Loads.{Loads, MayLoad}
use Rattle.class_lemmas.proofs.OneText.{one_class}
use Rattle.class_growth.proofs.ItemsOfLists.{slice_get-append_cases}
use Rattle.class_growth.proofs.MoreClasses.{record-still}
use Rattle.sound_folders.specs.LinkedWorlds.{RefersAround}
use Rattle.sound_folders.specs.NamesAndTypes.{HasOwnNames, IsCalled, IsSaidBy, SayTypes, SaysReferences}
use Rattle.sound_folders.proofs.NamesOfTables.{meant-from, system_meant}
use Rattle.sound_folders.proofs.NewClasses.{OwnFile, added, all, meaning, own_file, system_few}
use Rattle.sound_folders.proofs.TypesByNames.{said-by}

module _ {f : FolderFiles} {w : WorldRecord} {into : List ℕ} {first : ClassId} {table : List NamedClass} {offers : List Offer} {stubs : List Stub}
    {new : WorldRecord} (l : Loads f w into first table offers stubs new) (may : MayLoad w) where
  abbrev front : List ClassRecord
  front = take (length system_classes) w.classes

  -- ---- Names.

  meant_called : (name : List ℕ) (c : ClassId) → meaning l name ≡ Some c → IsCalled (all l) c name
  meant_called name c meant = elim ((l.is_placed.table name c).0 meant) [
    | inl outer ↦ elim ((l.are_outer name c).0 outer) [
      | inl system ↦
          let entry = system_meant name c system in
          let low = slice_get_within system_classes c.0 entry.0 entry.1 in
          let r = item_there w.classes c.0 (omega (arith, low, system_few l may)) in
          let of = may.system.each c.0 entry.0 r.0 entry.1 (slice_get-in_take w.classes (length system_classes) c.0 r.0 low r.1) in
          (r.0, record-still w.classes (added l) c r.0 r.1, of.name ∙ entry.2)
      | inr (line, listed, (imported, imports, reached, (r, is, named))) ↦ (r, record-still w.classes (added l) c r is, named)
    ]
    | inr (i, file, at, called, (k, order, number)) ↦
        let low : k < length (added l) = omega (arith, slice_get_within l.placed.order k i order, l.is_placed.as_many, l.is_placed.order.as_many) in
        let r = item_there (added l) k low in
        let of = (l.is_placed.records k i file r.0 order at r.1).0 in (
          r.0,
          ap (slice_get (all l)) number ∙ slice_get-behind w.classes (added l) k ∙ r.1,
          one_class file.pool file.this_class r.0.name name of.name called,
        )
  ]

  pub new_own_names : HasOwnNames (all l) l.placed.table
  new_own_names =
      record {
        own = λ name c on. meant_called name c (meant-from l.placed.table l.is_placed.names_differ name c on);
        once = l.is_placed.names_differ;
      }

  -- ---- A method of a system class.

  front_said : (c : ClassId) (r : ClassRecord) → slice_get front c.0 ≡ Some r → (j : ℕ) (method : MethodRecord) → slice_get r.methods j ≡ Some method
      → IsSaidBy (meaning l) method
  front_said c r is j method at =
      let entry = item_there system_classes c.0 (omega (arith, slice_get_within front c.0 r is, may.system.as_many)) in
      let of = may.system.each c.0 entry.0 r entry.1 is in
      let told = item_there entry.0.methods j (omega (arith, slice_get_within r.methods j method at, of.method_count)) in
      let said = of.methods j told.0 method told.1 at in
      said-by system_meaning (meaning l) method
      (λ name d named meant. (l.is_placed.table name d).1 (inl ((l.are_outer name d).1 (inl meant)))) (said.params, said.result)

  -- ---- A method of a class of the folder.

  module _ (k : ℕ) (r : ClassRecord) (own : OwnFile (length w.classes) l.files l.placed k r) (j : ℕ) (method : MethodRecord)
      (at : slice_get r.methods j ≡ Some method) where
    pub own_refers : SaysReferences (all l) r method
    own_refers =
        let told = item_there own.file.methods j (omega (arith, slice_get_within r.methods j method at, own.is_record.methods.as_many)) in
        let of = own.is_record.methods.each j told.0 method told.1 at in
        let (units, there, text) = of.kind in
        record {
          meaning = meaning l;
          is_said = (of.params, of.result);
          refers = λ name c named meant. (
            own.is_record.references.all told.0.descriptor name c
                (inr (units, inr (inl (j, told.0, told.1, refl)), there, inr (method.kind, text, named))) meant,
            meant_called name c meant,
          );
        }

    own_said : IsSaidBy (meaning l) method
    own_said =
        let told = item_there own.file.methods j (omega (arith, slice_get_within r.methods j method at, own.is_record.methods.as_many)) in
        let of = own.is_record.methods.each j told.0 method told.1 at in
        (of.params, of.result)

  -- ---- All of them.

  module _ (of_system : (c : ClassId) (r : ClassRecord) → record_of w.classes c ≡ Some r → r.home ≡ None → slice_get front c.0 ≡ Some r)
      (around : (c : ClassId) (r : ClassRecord) → record_of w.classes c ≡ Some r → r.home ≢ None → RefersAround w.classes r) where
    reached_said : (line : ResolverLine) → Contains l.lines line → (imported : ClassId) → ImportsClass w into line imported → (c : ClassId)
        → IsReached w.classes imported c → (r : ClassRecord) → record_of w.classes c ≡ Some r → (method : MethodRecord)
        → SaysReferences w.classes r method → IsSaidBy (meaning l) method
    reached_said line listed imported imports c reached r is method says =
        said-by says.meaning (meaning l) method
        (λ name d named meant.
        let so = says.refers name d named meant in
        let further = reached_further w.classes imported c d r reached is so.0 in
        (l.is_placed.table name d).1 (inl ((l.are_outer name d).1 (inr (line, listed, (imported, imports, further, so.1))))))
        says.is_said

    import_said : (line : ResolverLine) → Contains l.lines line → (imported : ClassId) → ImportsClass w into line imported → (c : ClassId)
        → IsReached w.classes imported c → (r : ClassRecord) → record_of w.classes c ≡ Some r → (j : ℕ) (method : MethodRecord)
        → slice_get r.methods j ≡ Some method → (home : Option DomainId) → r.home ≡ home → IsSaidBy (meaning l) method
    import_said line listed imported imports c reached r is j method at None e = front_said c r (of_system c r is e) j method at
    import_said line listed imported imports c reached r is j method at (Some d) e =
        reached_said line listed imported imports c reached r is method
        ((around c r is (λ none. none-some d (sym none ∙ e))).types method (Contains-at r.methods j method at))

    pub new_say_types : SayTypes (all l) l.placed.table
    new_say_types m method (r, is, at) (name, on) = elim (slice_get-append_cases w.classes (added l) m.class.0 r is) [
      | inr later ↦ let place = place_of (added l) r later in own_said place.0 r (own_file l place.0 r place.1) m.index method at
      | inl old ↦ elim ((l.is_placed.table name m.class).0 (meant-from l.placed.table l.is_placed.names_differ name m.class on)) [
        | inl outer ↦ elim ((l.are_outer name m.class).0 outer) [
          | inl system ↦
              let entry = system_meant name m.class system in
              let low = slice_get_within system_classes m.class.0 entry.0 entry.1 in
              front_said m.class r (slice_get-in_take w.classes (length system_classes) m.class.0 r low old) m.index method at
          | inr (line, listed, (imported, imports, reached, called)) ↦
              import_said line listed imported imports m.class reached r old m.index method at r.home refl
        ]
        | inr (i, file, there, called, (k, order, number)) ↦ absurd (omega (arith, number, slice_get_within w.classes m.class.0 r old))
      ]
    ]
