-- In the system table no class has an interface for its parent.
use Rattle.std.proofs.Common.{◌≡◌, ℕ, Bool, true, not, List, Option, Some, slice_get, refl, sym, ap, ◌∙◌, arith}
use Rattle.std.specs.Prelude.{option_map}
use Rattle.std.specs.Option.{option_map_or}
use Rattle.std.proofs.lemmas.Bool.{false≢true}
use Rattle.std.proofs.lemmas.Option.{slice_get_within}
use Rattle.jk_model.specs.Flags.{has, INTERFACE}
use Rattle.list_lemmas.proofs.ItemsByPlace.{item_there}
use Rattle.list_lemmas.proofs.ItemsOfLists.{passed_at}
use Rattle.jk_model.specs.declared.identifiers.ClassId.{ClassId}
use Rattle.jk_model.specs.SystemTable.{SystemClass, parent_number, system_classes}
use Rattle.jk_model_classes.specs.declared.records.ClassRecord.{ClassRecord}
use Rattle.jk_model_classes.specs.Classes.{record_of}
use Rattle.jk_model_classes.specs.SystemRecords.{AreSystemRecords, IsSystemRecord}
use Rattle.erased_typings.specs.ErasedFrames.{HaveClassParents}

abbrev is_plain_class : Option SystemClass → Bool
is_plain_class o = option_map_or (λ (class : SystemClass). not (has class.flags INTERFACE)) o true

abbrev has_plain_parent : SystemClass → Bool
has_plain_parent class = option_map_or (λ (p : ℕ). is_plain_class (slice_get system_classes p)) (parent_number class) true

-- a system class's record, and its entry in the table
record HasEntry (c : ClassId) (r : ClassRecord) : Type 0 where
  class : SystemClass
  listed : slice_get system_classes c.0 ≡ Some class
  said : IsSystemRecord c.0 class r

module _ (classes : List ClassRecord) (system : AreSystemRecords classes) where
  entry_of : (c : ClassId) (r : ClassRecord) → record_of classes c ≡ Some r → HasEntry c r
  entry_of c r is =
      let entry = item_there system_classes c.0 (omega (arith, slice_get_within classes c.0 r is, system.as_many)) in
      record { class = entry.0; listed = entry.1; said = system.each c.0 entry.0 r entry.1 is }

  pub system_parents : HaveClassParents classes
  system_parents c p r is parent (q, is_parent, flagged) =
      let below = entry_of c r is in
      let above = entry_of p q is_parent in
      let number : parent_number below.class ≡ Some p.0 =
      sym below.said.parent ∙ ap (λ (o : Option ClassId). option_map (λ (d : ClassId). d.0) o) parent in
      let passed : has_plain_parent below.class ≡ true = passed_at has_plain_parent system_classes c.0 below.class refl below.listed in
      let found : has_plain_parent below.class ≡ not (has above.class.flags INTERFACE) =
      ap (λ (o : Option ℕ). option_map_or (λ (n : ℕ). is_plain_class (slice_get system_classes n)) o true) number ∙ ap is_plain_class above.listed in
      let is_interface : has above.class.flags INTERFACE ≡ true = ap (λ (flags : ℕ). has flags INTERFACE) (sym above.said.flags) ∙ flagged in
      false≢true (sym (ap not is_interface) ∙ sym found ∙ passed)
