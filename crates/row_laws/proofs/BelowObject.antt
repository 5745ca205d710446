-- Each class stands below java/lang/Object, and some system classes are interfaces.
use Rattle.std.proofs.Common.{◌≡◌, ℕ, zero, suc, ◌+◌, ◌<◌, Bool, true, List, [], ◌∷◌, length, take, drop, Contains, Option, Some, None, slice_get, refl, sym, ap, subst, ◌∙◌, arith}
use Rattle.std.specs.Prelude.{is_some, option_map}
use Rattle.std.specs.Option.{option_map_or}
use Rattle.std.proofs.lemmas.Bool.{false≢true}
use Rattle.std.proofs.lemmas.Option.{none-some, slice_get_within}
use Rattle.list_lemmas.proofs.ItemsByPlace.{item_there, slice_get-from_take}
use Rattle.list_lemmas.proofs.ItemsOfLists.{Contains-here, passed_at}
use Rattle.model_lemmas.proofs.SameNumbers.{same_class}
use Rattle.jk_model.specs.Flags.{has, INTERFACE}
use Rattle.jk_model.specs.SystemTable.{SystemClass, parent_number, system_classes}
use Rattle.jk_model.specs.declared.identifiers.ClassId.{ClassId}
use Rattle.jk_model.specs.declared.identifiers.DomainId.{DomainId}
use Rattle.jk_model_classes.specs.declared.records.ClassRecord.{ClassRecord}
use Rattle.jk_model_classes.specs.Classes.{HasClass, IsSubclass, OBJECT, is_interface_record, parents_of, record_of}
use Rattle.jk_model_classes.specs.SystemRecords.{IsSystemRecord}
use Rattle.class_table.proofs.StandingAbove.{is-own_superclass, parent-lower, superclasses-of_parent}
use Rattle.heap_laws.specs.SoundCodes.{AreSoundCodes}

-- ---- The system table.

abbrev has_parent : SystemClass → Bool
has_parent class = is_some (parent_number class)

next_place : {X : Type 0} (xs : List X) (k : ℕ) (x : X) → slice_get xs (suc k) ≡ Some x → slice_get (drop 1 xs) k ≡ Some x
next_place [] k x at = absurd cc
next_place (y ∷ xs) k x at = at

-- the class at each place but the first has a parent
listed_parent : (n : ℕ) (class : SystemClass) → slice_get system_classes (suc n) ≡ Some class → has_parent class ≡ true
listed_parent n class at = passed_at has_parent (drop 1 system_classes) n class refl (next_place system_classes n class at)

-- a class's record, and its entry in the table
record HasEntry (classes : List ClassRecord) (c : ClassId) (class : SystemClass) : Type 0 where
  of : ClassRecord
  is : record_of classes c ≡ Some of
  said : IsSystemRecord c.0 class of

module _ (classes : List ClassRecord) (sound : AreSoundCodes classes) where
  entry_of : (c : ClassId) (class : SystemClass) → slice_get system_classes c.0 ≡ Some class → HasEntry classes c class
  entry_of c class at =
      let front : List ClassRecord = take (length system_classes) classes in
      let low : c.0 < length front = omega (arith, slice_get_within system_classes c.0 class at, sound.system.as_many) in
      let found = item_there front c.0 low in
      record {
        of = found.0;
        is = slice_get-from_take classes (length system_classes) c.0 found.0 found.1;
        said = sound.system.each c.0 class found.0 at found.1;
      }

  pub system_there : (c : ClassId) → c.0 < length system_classes → HasClass classes c
  system_there c low =
      let class = item_there system_classes c.0 low in
      let e = entry_of c class.0 class.1 in
      slice_get_within classes c.0 e.of e.is

  -- ---- Interfaces of the system.

  flags_by : (c : ClassId) (o : Option SystemClass) → slice_get system_classes c.0 ≡ o
      → option_map_or (λ (class : SystemClass). has class.flags INTERFACE) o Bool.false ≡ true → is_interface_record (record_of classes c) ≡ true
  flags_by c None at flagged = absurd cc
  flags_by c (Some class) at flagged =
      let e = entry_of c class at in
      ap (λ (o : Option ClassRecord). is_interface_record o) e.is ∙ ap (λ (flags : ℕ). has flags INTERFACE) e.said.flags ∙ flagged

  pub system_interface : (c : ClassId) → option_map_or (λ (class : SystemClass). has class.flags INTERFACE) (slice_get system_classes c.0) Bool.false ≡ true
      → is_interface_record (record_of classes c) ≡ true
  system_interface c flagged = flags_by c (slice_get system_classes c.0) refl flagged

  -- ---- Parents.

  parents_by : (r : ClassRecord) (c p : ClassId) → record_of classes c ≡ Some r → r.parent ≡ Some p → parents_of classes c ≡ p ∷ []
  parents_by r c p is parent =
      ap (λ (o : Option ClassRecord). option_map_or (λ (x : ClassRecord). option_map_or (λ q. q ∷ []) x.parent []) o []) is
      ∙ ap (λ (o : Option ClassId). option_map_or (λ q. q ∷ []) o []) parent

  numbered : (o : Option ClassId) (n : Option ℕ) → option_map (λ (d : ClassId). d.0) o ≡ n → is_some n ≡ true → (p : ClassId) × (o ≡ Some p)
  numbered None n e some = absurd (false≢true (ap is_some e ∙ some))
  numbered (Some p) n e some = (p, refl)

  system_parent : (c : ClassId) (n : ℕ) (r : ClassRecord) (class : SystemClass) → c.0 ≡ suc n → record_of classes c ≡ Some r
      → slice_get system_classes c.0 ≡ Some class → (p : ClassId) × (parents_of classes c ≡ p ∷ [])
  system_parent c n r class place is at =
      let e = entry_of c class at in
      let some : has_parent class ≡ true = listed_parent n class (subst (λ (k : ℕ). slice_get system_classes k ≡ Some class) place at) in
      let p = numbered e.of.parent (parent_number class) e.said.parent some in
      (p.0, parents_by e.of c p.0 e.is p.1)

  parent_by : (c : ClassId) (n : ℕ) (r : ClassRecord) (home : Option DomainId) → c.0 ≡ suc n → record_of classes c ≡ Some r → r.home ≡ home
      → (p : ClassId) × (parents_of classes c ≡ p ∷ [])
  parent_by c n r None place is at =
      let entry = item_there system_classes c.0 (sound.of_system c r is at) in system_parent c n r entry.0 place is entry.1
  parent_by c n r (Some d) place is at =
      let p = sound.homed c r is (λ none. none-some d (sym none ∙ at)) in (p.0, parents_by r c p.0 is p.1)

  -- every class but java/lang/Object has a parent
  pub has_a_parent : (c : ClassId) (n : ℕ) → c.0 ≡ suc n → HasClass classes c → (p : ClassId) × (parents_of classes c ≡ p ∷ [])
  has_a_parent c n place there = let r = item_there classes c.0 there in parent_by c n r.0 r.0.home place r.1 refl

  -- ---- The way up.

  below_within : (h n : ℕ) (c : ClassId) → c.0 ≡ n → n < h → HasClass classes c → IsSubclass classes c OBJECT
  below_within zero n c place low there = absurd (omega (arith, low))
  below_within (suc h) zero c place low there =
      subst (λ (d : ClassId). IsSubclass classes d OBJECT) (same_class OBJECT c (sym place)) (is-own_superclass classes sound.ordered OBJECT)
  below_within (suc h) (suc n) c place low there =
      let p = has_a_parent c n place there in
      let lower : p.0.0 < c.0 = parent-lower classes sound.ordered c p.0 p.1 in
      superclasses-of_parent classes sound.ordered c p.0 OBJECT
      (subst (λ (ps : List ClassId). Contains ps p.0) (sym p.1) (Contains-here p.0 []))
      (below_within h p.0.0 p.0 refl (omega (arith, lower, place, low)) (omega (arith, lower, there)))

  pub below_object : (c : ClassId) → HasClass classes c → IsSubclass classes c OBJECT
  below_object c there = below_within (c.0 + 1) c.0 c refl (omega arith) there
