-- What C19 asks of the parent and the interfaces of a folder's class.
use Rattle.std.proofs.Common.{◌≡◌, ℕ, ◌⊎◌, inl, inr, IsTrue, List, Some, Contains, refl, sym, subst, ◌∙◌, arith, codes}
use Rattle.std.proofs.lemmas.Bool.{cases_Bool}
use Rattle.std.proofs.lemmas.Option.{slice_get_within}
use Rattle.std.specs.Prelude.{not}
use Rattle.list_lemmas.proofs.ItemsByPlace.{item_there}
use Rattle.list_lemmas.proofs.ItemsOfLists.{place_of, Contains-at}
use Rattle.jk_model.specs.Flags.{has, INTERFACE}
use Rattle.jk_model.specs.declared.identifiers.ClassId.{ClassId}
use Rattle.jk_model.specs.declared.output.Rule.TheVariants.{C19}
use Rattle.jk_model_classes.specs.Classes.{IsInterface, OBJECT}
use Rattle.jk_model_classes.specs.Items.{Member}
use Rattle.jk_model_classes.specs.Members.{ClassAt}
use Rattle.jk_model_classes.specs.References.{HasBadParent, HasBadInterface}
use Rattle.jk_model_classes.specs.Worlds.{NamedClass, WorldRecord}
use Rattle.jk_model_classes.specs.declared.records.ClassRecord.{ClassRecord}
use Rattle.jk_model_classes.specs.declared.sharing.Offer.{Offer}
use Rattle.jk_model_classes.specs.declared.sharing.Stub.{Stub}
use Rattle.jk_model_folders.specs.FolderRules.{name_rules}
use Rattle.jk_model_folders.specs.Loads.{Loads, MayLoad}
use Rattle.jk_model_folders.specs.declared.files.FolderFiles.{FolderFiles}
use Rattle.system_facts.specs.ClosedClasses.{IsClosedClass}
use Rattle.sound_folders.proofs.NewClasses.{meaning, all, meant_there}
use Rattle.machine_laws.proofs.MeaningsOfNames.{scope, flags_of, system_means, system_named}
use Rattle.machine_laws.proofs.NewMembers.{IsNew}
use Rattle.machine_laws.proofs.TypesOfMethods.{text_or_not}

module _ {f : FolderFiles} {w : WorldRecord} {into : List ℕ} {first : ClassId} {table : List NamedClass} {offers : List Offer} {stubs : List Stub}
    {new : WorldRecord} (l : Loads f w into first table offers stubs new) (c : ClassId) (r : ClassRecord) (n : IsNew l c r) where
  no_fault : HasBadParent (scope l) n.own.file ⊎ HasBadInterface (scope l) n.own.file → ⊥
  no_fault bad =
      l.none_of_names C19 n.own.place (Member 0) (Contains-at name_rules 1 C19 refl) (n.own.file, n.own.listed, (refl, inr bad))

  parent_named : (p : ClassId) → r.parent ≡ Some p → (name : List ℕ) × ClassAt n.own.file.pool n.own.file.super_class name × (meaning l name ≡ Some p)
  parent_named p is =
      let (q, (name, at, meant), has_q) = n.own.is_record.parent in
      (name, at, meant ∙ (sym has_q ∙ is))

  pub has_parent : (p : ClassId) × (r.parent ≡ Some p)
  has_parent = (n.own.is_record.parent.0, n.own.is_record.parent.2)

  pub class_parent : MayLoad w → (p : ClassId) → r.parent ≡ Some p → IsInterface (all l) p → ⊥
  class_parent may p is (q, is_q, flag) =
      let named = parent_named p is in
      no_fault (inl (named.0, named.1, inr (inl (q.flags, flags_of l may named.0 p q named.2 is_q, inl flag))))

  pub open_parent : MayLoad w → (p : ClassId) → r.parent ≡ Some p → IsClosedClass p → ⊥
  open_parent may p is (entry, listed, closed) =
      let named = parent_named p is in
      no_fault (inl (named.0, named.1, inl (p.0, entry, listed, (system_named l may named.0 p entry named.2 listed, closed))))

  pub interface_parent : IsTrue (has r.flags INTERFACE) → r.parent ≡ Some OBJECT
  interface_parent flag =
      let named = parent_named has_parent.0 has_parent.1 in
      let over : IsTrue (has n.own.file.flags INTERFACE) = subst (λ (x : ℕ). IsTrue (has x INTERFACE)) n.own.is_record.flags flag in
      elim (text_or_not named.0 (codes "java/lang/Object")) [
        | inl object ↦
            let meant : meaning l named.0 ≡ Some OBJECT =
            subst (λ (x : List ℕ). meaning l x ≡ Some OBJECT) (sym object) (system_means l (codes "java/lang/Object") OBJECT refl) in
            has_parent.1 ∙ sym named.2 ∙ meant
        | inr other ↦ absurd (no_fault (inl (named.0, named.1, inr (inr (over, other)))))
      ]

  pub listed_interface : MayLoad w → (i : ClassId) → Contains r.interfaces i → IsInterface (all l) i
  listed_interface may i on =
      let place = place_of r.interfaces i on in
      let low = slice_get_within r.interfaces place.0 i place.1 in
      let told = item_there n.own.file.interfaces place.0 (omega (arith, low, n.own.is_record.interfaces.as_many)) in
      let (name, at, meant) = n.own.is_record.interfaces.each place.0 told.0 i told.1 place.1 in
      let q = item_there (all l) i.0 (meant_there l may name i meant) in
      elim (cases_Bool (has q.0.flags INTERFACE)) [
        | inl flag ↦ (q.0, q.1, flag)
        | inr fails ↦
            let never : IsTrue (not (has q.0.flags INTERFACE)) = rw fails refl in
            absurd (no_fault (inr (name, q.0.flags, (place.0, told.0, told.1, at), flags_of l may name i q.0 meant q.1, never)))
      ]
