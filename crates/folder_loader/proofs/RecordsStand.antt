-- The record of a class file may stand behind what it extends and lists, and has few members.
use Rattle.std.proofs.Common.{◌≡◌, ℕ, suc, ◌≤◌, List, [], ◌∷◌, length, get_or, Option, Some, slice_get, inl, inr, refl, sym, subst, arith}
use Rattle.std.specs.List.{AllByRecursion}
use Rattle.std.proofs.lemmas.Option.{slice_get-get_or, slice_get_within}
use Rattle.list_lemmas.proofs.ItemsOfLists.{each-by_place as all_items}
use Rattle.jk_model.specs.declared.class_file.ClassFile.{ClassFile}
use Rattle.jk_model.specs.declared.identifiers.ClassId.{ClassId}
use Rattle.jk_model.specs.declared.identifiers.DomainId.{DomainId}
use Rattle.jk_model.specs.ReadFaults.{IsWritable}
use Rattle.jk_model_classes.specs.declared.records.ClassRecord.{ClassRecord}
use Rattle.jk_model_classes.specs.Classes.{IsBelow, ParentIsBelow, StandsAbove}
use Rattle.jk_model_classes.specs.LinkRules.{LinkScope}
use Rattle.jk_model_classes.specs.Worlds.{NamedClass, class_named}
use Rattle.jk_model_folders.specs.LinkedClasses.{IsRecordFor}
use Rattle.class_linker.specs.LinkedFiles.{HasNames}
use Rattle.folder_loader.specs.ClassesInOrder.{IsAbove}

module _ (c : ClassFile) (table : List NamedClass) (home : DomainId) (r : ClassRecord) (is : (s : LinkScope) → HasNames table s → IsRecordFor s home c r) where
  abbrev scope : LinkScope
  scope = record { meaning = class_named table; classes = []; self = record { 0 = 0 } }

  here : IsRecordFor scope home c r
  here = is scope (λ name. refl)

  pub stands : (n : ℕ) → IsAbove table n c → StandsAbove n r
  stands n above = (
    subst (λ (p : Option ClassId). ParentIsBelow n p) (sym here.parent.2)
        (above r.name here.parent.1.0 here.parent.0 here.name (inl here.parent.1.1) here.parent.1.2),
    all_items (λ class. IsBelow n class) r.interfaces (λ i class at.
        let many = here.interfaces.as_many in
        let listed : slice_get c.interfaces i ≡ Some (get_or c.interfaces i 0) =
        slice_get-get_or c.interfaces i 0 (omega (arith, slice_get_within r.interfaces i class at, many)) in
        let its = here.interfaces.each i (get_or c.interfaces i 0) class listed at in
        above r.name its.0 class here.name (inr (i, get_or c.interfaces i 0, listed, its.1)) its.2),
  )

  pub few_fields : IsWritable c → length r.fields ≤ 65535
  few_fields written = omega (arith, here.fields.as_many, written.is_class.layout.fields.0)

  pub few_methods : IsWritable c → length r.methods ≤ 65535
  few_methods written = omega (arith, here.methods.as_many, written.is_class.layout.methods.0)
