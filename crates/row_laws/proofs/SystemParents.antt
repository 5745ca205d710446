-- Which system classes stand below which, by the table of system classes.
use Rattle.std.proofs.Common.{inl, inr, ◌≢◌, ◌≤◌, ◌≡◌, ℕ, zero, suc, ◌==◌, ◌||◌, Bool, true, false, List, [], ◌∷◌, Contains, Option, Some, None, slice_get, refl, sym, ap, subst, ◌∙◌, arith}
use Rattle.std.specs.Prelude.{option_and_then, option_map}
use Rattle.std.specs.Option.{option_map_or}
use Rattle.std.proofs.lemmas.Bool.{eqb-true}
use Rattle.std.proofs.lemmas.Option.{same_Some, slice_get_within}
use Rattle.list_lemmas.proofs.ItemsByPlace.{item_there}
use Rattle.list_lemmas.proofs.ItemsOfLists.{Contains-here}
use Rattle.jk_model.specs.SystemTable.{SystemClass, parent_number, system_classes}
use Rattle.jk_model.specs.declared.identifiers.ClassId.{ClassId}
use Rattle.jk_model_classes.specs.declared.records.ClassRecord.{ClassRecord}
use Rattle.jk_model_classes.specs.Classes.{IsSubclass, parents_of}
use Rattle.jk_model_typing.specs.FrameTypes.{STRING, THROWABLE}
use Rattle.jk_model_domains.specs.Objects.{CAPABILITY, TASK}
use Rattle.jk_model_heaps.specs.SystemClasses.{REMOTE}
use Rattle.class_table.proofs.StandingAbove.{is-own_superclass, superclasses-cases, superclasses-lower, superclasses-of_parent}
use Rattle.heap_laws.specs.SoundCodes.{AreSoundCodes}
use Rattle.system_facts.proofs.SystemEntries.{entry_of}
use Rattle.row_laws.proofs.BelowObject.{system_there}

abbrev pub numbered : ℕ → ClassId
numbered n = record { 0 = n }

-- the number of the parent of the class with this number
abbrev pub listed_parent : ℕ → Option ℕ
listed_parent n = option_and_then parent_number (slice_get system_classes n)

-- the one stands below the other, so many parents up or fewer
abbrev pub is_listed_below : ℕ → ℕ → ℕ → Bool
is_listed_below zero n above = false
is_listed_below (suc height) n above = n == above || option_map_or (λ (p : ℕ). is_listed_below height p above) (listed_parent n) false

parent_numbered : (o : Option ClassId) (p : ℕ) → option_map (λ (d : ClassId). d.0) o ≡ Some p → o ≡ Some (numbered p)
parent_numbered None p e = absurd cc
parent_numbered (Some q) p e =
    let same : q.0 ≡ p = same_Some q.0 p e in
    ap (λ (n : ℕ). Some (numbered n)) same

module _ (classes : List ClassRecord) (sound : AreSoundCodes classes) where
  parents_by : (n p : ℕ) (class : SystemClass) → slice_get system_classes n ≡ Some class → parent_number class ≡ Some p
      → parents_of classes (numbered n) ≡ numbered p ∷ []
  parents_by n p class at parent =
      let r = item_there classes n (system_there classes sound (numbered n) (slice_get_within system_classes n class at)) in
      let said = entry_of classes sound.system (numbered n) class r.0 at r.1 in
      ap (λ (o : Option ClassRecord). option_map_or (λ (x : ClassRecord). option_map_or (λ q. q ∷ []) x.parent []) o []) r.1
      ∙ ap (λ (o : Option ClassId). option_map_or (λ q. q ∷ []) o []) (parent_numbered r.0.parent p (said.parent ∙ parent))

  parents_found : (n p : ℕ) (o : Option SystemClass) → slice_get system_classes n ≡ o → option_and_then parent_number o ≡ Some p
      → parents_of classes (numbered n) ≡ numbered p ∷ []
  parents_found n p None at parent = absurd cc
  parents_found n p (Some class) at parent = parents_by n p class at parent

  pub parents_listed : (n p : ℕ) → listed_parent n ≡ Some p → parents_of classes (numbered n) ≡ numbered p ∷ []
  parents_listed n p parent = parents_found n p (slice_get system_classes n) refl parent

  below_by : (height n above : ℕ) (b : Bool) → (n == above) ≡ b → (o : Option ℕ) → listed_parent n ≡ o
      → ((p : ℕ) → is_listed_below height p above ≡ true → IsSubclass classes (numbered p) (numbered above))
      → (b || option_map_or (λ (p : ℕ). is_listed_below height p above) o false) ≡ true → IsSubclass classes (numbered n) (numbered above)
  below_by height n above true same o parent rest listed =
      subst (λ (k : ℕ). IsSubclass classes (numbered n) (numbered k)) (eqb-true n above same) (is-own_superclass classes sound.ordered (numbered n))
  below_by height n above false same None parent rest listed = absurd cc
  below_by height n above false same (Some p) parent rest listed =
      superclasses-of_parent classes sound.ordered (numbered n) (numbered p) (numbered above)
      (subst (λ (ps : List ClassId). Contains ps (numbered p)) (sym (parents_listed n p parent)) (Contains-here (numbered p) []))
      (rest p listed)

  pub below_listed : (height n above : ℕ) → is_listed_below height n above ≡ true → IsSubclass classes (numbered n) (numbered above)
  below_listed zero n above listed = absurd cc
  below_listed (suc height) n above listed =
      below_by height n above (n == above) refl (listed_parent n) refl (λ p more. below_listed height p above more) listed

  -- a child of java/lang/Object is no throwable, unless it is java/lang/Throwable
  no_throwable : (n : ℕ) → n ≢ 9 → parents_of classes (numbered n) ≡ numbered 0 ∷ [] → IsSubclass classes (numbered n) THROWABLE → ⊥
  no_throwable n other parents below = elim (superclasses-cases classes sound.ordered (numbered n) THROWABLE below) [
    | inl same ↦ other (ap (λ (c : ClassId). c.0) same)
    | inr (p, only, above) ↦
        let one : numbered 0 ∷ [] ≡ p ∷ [] = sym parents ∙ only in
        let object : numbered 0 ≡ p = cc in
        let lower : 9 ≤ p.0 = superclasses-lower classes sound.ordered p THROWABLE above in
        let zero : 0 ≡ p.0 = ap (λ (c : ClassId). c.0) object in
        omega (arith, lower, zero)
  ]

  pub no_text : (c : ClassId) → IsSubclass classes c THROWABLE → c ≢ STRING
  no_text c below is =
      no_throwable 3 (λ e. absurd cc) (parents_listed 3 0 refl) (subst (λ (d : ClassId). IsSubclass classes d THROWABLE) is below)

  pub no_task : (c : ClassId) → IsSubclass classes c THROWABLE → c ≢ TASK
  no_task c below is =
      no_throwable 14 (λ e. absurd cc) (parents_listed 14 0 refl) (subst (λ (d : ClassId). IsSubclass classes d THROWABLE) is below)

  pub no_capability : (c : ClassId) → IsSubclass classes c THROWABLE → c ≢ CAPABILITY
  no_capability c below is =
      no_throwable 11 (λ e. absurd cc) (parents_listed 11 0 refl) (subst (λ (d : ClassId). IsSubclass classes d THROWABLE) is below)

  pub no_remote : (c : ClassId) → IsSubclass classes c THROWABLE → c ≢ REMOTE
  no_remote c below is =
      no_throwable 10 (λ e. absurd cc) (parents_listed 10 0 refl) (subst (λ (d : ClassId). IsSubclass classes d THROWABLE) is below)
