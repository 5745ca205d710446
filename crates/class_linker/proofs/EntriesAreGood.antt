-- What the entries of a class file that is linked name, and what Class entries are called.
use Rattle.std.proofs.Common.{◌≡◌, ℕ, inl, inr, List, refl, sym, subst}
use Rattle.std.specs.Prelude.{IsSome}
use Rattle.std.specs.List.{AllByRecursion}
use Rattle.jk_model.specs.declared.class_file.ClassFile.{ClassFile}
use Rattle.jk_model.specs.declared.class_file.PoolEntry.{PoolEntry}
use Rattle.jk_model.specs.declared.class_file.PoolEntry.TheVariants.{Str}
use Rattle.jk_model.specs.declared.output.Rule.TheVariants.{C7}
use Rattle.jk_model.specs.ClassFile.{IsGoodEntry}
use Rattle.jk_model.specs.Descriptors.{IsClassName}
use Rattle.jk_model.proofs.EachItem.{all_at}
use Rattle.jk_model_classes.specs.ClassNames.{BeginsArray, IsArrayDescriptor, IsClassEntryName}
use Rattle.jk_model_classes.specs.Items.{Entry}
use Rattle.jk_model_classes.specs.Members.{TextAt, ClassAt}
use Rattle.jk_model_classes.specs.Worlds.{NamedClass, class_named}
use Rattle.model_lemmas.proofs.ClassNamesDecided.{class_or_not}
use Rattle.class_lemmas.proofs.EntriesAreGood.{text_there}
use Rattle.class_lemmas.proofs.ArraysHaveNoNames.{array_begins}
use Rattle.class_linker.specs.LinkedFiles.{IsLinkable}
use Rattle.class_linker.specs.ThrownClasses.{IsItemOf}

abbrev AreGood : List PoolEntry → Type 0
AreGood pool = AllByRecursion (IsGoodEntry pool) pool

module _ (c : ClassFile) (names : List NamedClass) (linkable : IsLinkable c names) where
  pub good_entries : AreGood c.pool
  good_entries = linkable.writable.is_class.entries

  -- a Class entry that is of no array has the name of a class
  pub class_by_name : (i : ℕ) (units : List ℕ) → ClassAt c.pool i units → (IsArrayDescriptor units → ⊥) → IsClassName units
  class_by_name i units at no_array = elim (class_or_not units) [
    | inl h ↦ h
    | inr never ↦
        let bad : IsClassEntryName units → ⊥ = λ h. elim h [ inl name ↦ never name | inr array ↦ no_array array ] in
        absurd (linkable.alone C7 (Entry i) (inl (units, at, bad)))
  ]

  pub class_by_front : (i : ℕ) (units : List ℕ) → ClassAt c.pool i units → (BeginsArray units → ⊥) → IsClassName units
  class_by_front i units at other = class_by_name i units at (λ array. other (array_begins units array))

  -- and that name is known
  pub class_known : (i : ℕ) (units : List ℕ) → ClassAt c.pool i units → IsClassName units → IsSome (class_named names units)
  class_known i units at name = linkable.known i units (inl (units, at, inl (name, refl)))

  pub front_known : (i : ℕ) (pool : List PoolEntry) (name units : List ℕ) → pool ≡ c.pool → units ≡ name → ClassAt pool i name
      → (BeginsArray units → ⊥) → IsClassName units × IsSome (class_named names units)
  front_known i pool name units same e at other =
      let there : ClassAt c.pool i units = subst (λ (us : List ℕ). ClassAt c.pool i us) (sym e) (subst (λ (p : List PoolEntry). ClassAt p i name) same at) in
      let own = class_by_front i units there other in
      (own, class_known i units there own)

-- the text of a Str entry is there
pub text_entry : (c : ClassFile) (names : List NamedClass) (pool : List PoolEntry) (text : ℕ) → IsLinkable c names → pool ≡ c.pool
    → IsItemOf c.pool (Str text) → (units : List ℕ) × TextAt pool text units
text_entry c names pool text linkable own (i, at) =
    let good : IsGoodEntry c.pool (Str text) = all_at (IsGoodEntry c.pool) c.pool i (Str text) (good_entries c names linkable) at in
    let there = text_there c.pool text (good_entries c names linkable) good in
    (there.0, subst (λ (w : List PoolEntry). TextAt w text there.0) (sym own) there.1)
