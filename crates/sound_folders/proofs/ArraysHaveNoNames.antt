-- No name of a domain is an array's, and so a Class entry whose name means a class refers to that class.
use Rattle.std.proofs.Common.{◌≡◌, ℕ, ◌<◌, inl, inr, List, length, Some, slice_get, Contains, refl, sym, subst, arith}
use Rattle.std.proofs.lemmas.Option.{slice_get_within}
use Rattle.list_lemmas.proofs.ItemsOfLists.{Contains-at}
use Rattle.list_lemmas.proofs.ItemsByPlace.{item_there}
use Rattle.jk_model.specs.declared.class_file.ClassFile.{ClassFile}
use Rattle.jk_model.specs.declared.identifiers.ClassId.{ClassId}
use Rattle.jk_model.specs.declared.output.Rule.TheVariants.{C13, C7}
use Rattle.jk_model_classes.specs.declared.records.ClassRecord.{ClassRecord}
use Rattle.jk_model_classes.specs.declared.sharing.Offer.{Offer}
use Rattle.jk_model_classes.specs.declared.sharing.Stub.{Stub}
use Rattle.jk_model_classes.specs.Classes.{record_of}
use Rattle.jk_model_classes.specs.ClassNames.{BeginsArray, HasBadName}
use Rattle.jk_model_classes.specs.Items.{Entry, Member, Spot}
use Rattle.jk_model_classes.specs.MemberCode.{IsNative}
use Rattle.jk_model_classes.specs.Members.{ClassAt}
use Rattle.jk_model_classes.specs.OneClassRules.{one_class_rules}
use Rattle.jk_model_classes.specs.References.{IsCalledClass}
use Rattle.jk_model_classes.specs.Worlds.{NamedClass, WorldRecord}
use Rattle.model_lemmas.proofs.ClassesInLists.{in_or_not}
use Rattle.class_lemmas.proofs.ArraysHaveNoNames.{array_begins}
use Rattle.jk_model_folders.specs.declared.files.FolderFiles.{FolderFiles}
use Rattle.jk_model_folders.specs.FolderRules.{link_scope}
use Rattle.jk_model_folders.specs.LinkedClasses.{AreReferences}
use Rattle.jk_model_folders.specs.Loads.{Loads}
use Rattle.class_lemmas.proofs.OneText.{one_class}
use Rattle.sound_folders.proofs.NamesOfTables.{system_meant, system_no_array}
use Rattle.sound_folders.proofs.NewClasses.{meaning}

-- ---- A folder that breaks no rule.

module _ {f : FolderFiles} {w : WorldRecord} {into : List ℕ} {first : ClassId} {table : List NamedClass} {offers : List Offer} {stubs : List Stub}
    {new : WorldRecord} (l : Loads f w into first table offers stubs new) where
  module _ (i : ℕ) (c : ClassFile) (at : slice_get l.files i ≡ Some c) where
    low : i < length f.classes
    low = omega (arith, slice_get_within l.files i c at, l.are_classes.as_many)

    good_names : (spot : Spot) → HasBadName c spot → ⊥
    good_names spot bad =
        let file = item_there f.classes i low in
        l.none_alone C7 i spot (Contains-at one_class_rules 1 C7 refl) (file.0, c, file.1, at, bad)

    pub not_native : (spot : Spot) → IsNative c spot → ⊥
    not_native spot bad =
        let file = item_there f.classes i low in
        l.none_alone C13 i spot (Contains-at one_class_rules 7 C13 refl) (file.0, c, file.1, at, bad)

    pub own_no_array : (name : List ℕ) → IsCalledClass c name → BeginsArray name → ⊥
    own_no_array name called begins =
        good_names (Member 0)
        (inl (refl, inl (λ (units, there, plain). plain (subst BeginsArray (one_class c.pool c.this_class name units called there) begins))))

  module _ (plain : (c : ClassId) (r : ClassRecord) → record_of w.classes c ≡ Some r → BeginsArray r.name → ⊥) where
    pub no_array : (name : List ℕ) (c : ClassId) → meaning l name ≡ Some c → BeginsArray name → ⊥
    no_array name c e begins = elim ((l.is_placed.table name c).0 e) [
      | inl outer ↦ elim ((l.are_outer name c).0 outer) [
        | inl of_system ↦
            let meant = system_meant name c of_system in
            system_no_array c.0 meant.0 meant.1 (subst BeginsArray (sym meant.2) begins)
        | inr (line, on, (imported, imports, reached, (r, is, named))) ↦ plain c r is (subst BeginsArray (sym named) begins)
      ]
      | inr (i, file, at, called, own) ↦ own_no_array i file at name called begins
    ]

    -- the class is among those to which the file refers
    pub entry_refers : (i : ℕ) (c : ClassFile) → slice_get l.files i ≡ Some c → (self : ClassId) (references : List ClassId)
        → AreReferences (link_scope l.placed self) c references → (j : ℕ) (name : List ℕ) (class : ClassId) → ClassAt c.pool j name
        → meaning l name ≡ Some class → Contains references class
    entry_refers i c at self references refs j name class there meant = elim (in_or_not references class) [
      | inl listed ↦ listed
      | inr never ↦ absurd (good_names i c at (Entry j) (inl (
        name,
        there,
        λ of. elim of [
          | inl simple ↦ never (refs.all j name class (inl (name, there, inl (simple, refl))) meant)
          | inr array ↦ no_array name class meant (array_begins name array)
        ],
      )))
    ]
