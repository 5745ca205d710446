-- What a name of the new domain means: a system class is meant by its own name, and the flags of what a name means are those that C19 reads.
use Rattle.std.proofs.Common.{◌≡◌, ℕ, ◌+◌, ◌<◌, ◌≤◌, inl, inr, List, length, Some, slice_get, refl, sym, ap, ◌∙◌, arith}
use Rattle.std.proofs.lemmas.Option.{same_Some, slice_get_within}
use Rattle.list_lemmas.proofs.ItemsByPlace.{slice_get-in_take, slice_get-front}
use Rattle.jk_model.specs.SystemTable.{SystemClass, system_classes}
use Rattle.jk_model.specs.declared.class_file.ClassFile.{ClassFile}
use Rattle.jk_model.specs.declared.identifiers.ClassId.{ClassId}
use Rattle.jk_model_classes.specs.Classes.{record_of}
use Rattle.jk_model_classes.specs.Items.{HasItem}
use Rattle.jk_model_classes.specs.References.{FlagsOfNamed, IsCalledClass, FolderScope}
use Rattle.jk_model_classes.specs.SystemRecords.{system_meaning}
use Rattle.jk_model_classes.specs.Worlds.{NamedClass, WorldRecord, class_named}
use Rattle.jk_model_classes.specs.declared.records.ClassRecord.{ClassRecord}
use Rattle.jk_model_classes.specs.declared.sharing.Offer.{Offer}
use Rattle.jk_model_classes.specs.declared.sharing.Stub.{Stub}
use Rattle.jk_model_folders.specs.FolderRules.{IsOwnNamed}
use Rattle.jk_model_folders.specs.Loads.{Loads, MayLoad}
use Rattle.jk_model_folders.specs.declared.files.FolderFiles.{FolderFiles}
use Rattle.sound_folders.proofs.NamesOfTables.{system_meant}
use Rattle.sound_folders.proofs.NewClasses.{meaning, all, added, system_few}
use Rattle.machine_laws.proofs.FilesHaveClasses.{has_place}
use Rattle.machine_laws.proofs.NewMembers.{new_class, IsNew}

module _ {f : FolderFiles} {w : WorldRecord} {into : List ℕ} {first : ClassId} {table : List NamedClass} {offers : List Offer} {stubs : List Stub}
    {new : WorldRecord} (l : Loads f w into first table offers stubs new) where
  pub system_means : (name : List ℕ) (c : ClassId) → system_meaning name ≡ Some c → meaning l name ≡ Some c
  system_means name c e = (l.is_placed.table name c).1 (inl ((l.are_outer name c).1 (inl e)))

  abbrev pub scope : FolderScope
  scope = record { files = l.files; names = l.names; classes = w.classes }

  abbrev Own : List ℕ → ClassId → Type 0
  Own name c = IsOwnNamed (length w.classes) l.files l.placed name c

  own_high : (name : List ℕ) (c : ClassId) → Own name c → length w.classes ≤ c.0
  own_high name c (i, file, at, called, (k, order, number)) = omega (arith, number)

  -- a file of this name gives it the number of its class
  own_of_file : (name : List ℕ) → HasItem (λ (c : ClassFile). IsCalledClass c name) l.files
      → (c : ClassId) × (meaning l name ≡ Some c) × (length w.classes ≤ c.0)
  own_of_file name (j, file, at, called) =
      let place = has_place l.files l.placed.order l.is_placed.order j (slice_get_within l.files j file at) in (
        record { 0 = length w.classes + place.0 },
        (l.is_placed.table name (record { 0 = length w.classes + place.0 })).1 (inr (j, file, at, called, (place.0, place.1, refl))),
        omega arith,
      )

  no_file_called : (name : List ℕ) (c : ClassId) → meaning l name ≡ Some c → c.0 < length w.classes
      → HasItem (λ (file : ClassFile). IsCalledClass file name) l.files → ⊥
  no_file_called name c meant low has =
      let own = own_of_file name has in
      let same : c ≡ own.0 = same_Some c own.0 (sym meant ∙ own.1) in
      omega (arith, low, own.2, ap (λ (x : ClassId). x.0) same)

  same_flags : (c : ClassId) (q : ClassRecord) (i k : ℕ) (file : ClassFile) → IsNew l c q → slice_get l.placed.order k ≡ Some i
      → c.0 ≡ length w.classes + k → slice_get l.files i ≡ Some file → q.flags ≡ file.flags
  same_flags c q i k file of order number at =
      let places : of.k ≡ k = omega (arith, of.number, number) in
      let place : of.own.place ≡ i = same_Some of.own.place i (sym of.own.ordered ∙ ap (slice_get l.placed.order) places ∙ order) in
      let one : of.own.file ≡ file = same_Some of.own.file file (sym of.own.listed ∙ ap (slice_get l.files) place ∙ at) in
      of.own.is_record.flags ∙ ap (λ (x : ClassFile). x.flags) one

  module _ (may : MayLoad w) where
    outer_low : (name : List ℕ) (c : ClassId) → class_named l.names name ≡ Some c → c.0 < length w.classes
    outer_low name c e = elim ((l.are_outer name c).0 e) [
      | inl of_system ↦
          let meant = system_meant name c of_system in
          omega (arith, slice_get_within system_classes c.0 meant.0 meant.1, system_few l may)
      | inr (line, on, (imported, imports, reached, (r, is, named))) ↦ slice_get_within w.classes c.0 r is
    ]

    pub flags_of : (name : List ℕ) (c : ClassId) (q : ClassRecord) → meaning l name ≡ Some c → record_of (all l) c ≡ Some q
        → FlagsOfNamed scope name q.flags
    flags_of name c q meant is = elim ((l.is_placed.table name c).0 meant) [
      | inl outer ↦
          let low = outer_low name c outer in
          let old : record_of w.classes c ≡ Some q = sym (slice_get-front w.classes (added l) c.0 low) ∙ is in
          inr (no_file_called name c meant low, (c, q, outer, old, refl))
      | inr (i, file, at, called, (k, order, number)) ↦
          let of = new_class l c q (omega (arith, number)) is in
          inl (i, file, at, (called, same_flags c q i k file of order number at))
    ]

    -- what means a system class is that class's name
    pub system_named : (name : List ℕ) (c : ClassId) (entry : SystemClass) → meaning l name ≡ Some c → slice_get system_classes c.0 ≡ Some entry
        → entry.name ≡ name
    system_named name c entry meant listed =
        let few = slice_get_within system_classes c.0 entry listed in
        elim ((l.is_placed.table name c).0 meant) [
          | inl outer ↦ elim ((l.are_outer name c).0 outer) [
            | inl of_system ↦
                let said = system_meant name c of_system in
                ap (λ (x : SystemClass). x.name) (same_Some entry said.0 (sym listed ∙ said.1)) ∙ said.2
            | inr (line, on, (imported, imports, reached, (r, is, named))) ↦
                sym (may.system.each c.0 entry r listed (slice_get-in_take w.classes (length system_classes) c.0 r few is)).name ∙ named
          ]
          | inr own ↦ absurd (omega (arith, few, system_few l may, own_high name c own))
        ]
