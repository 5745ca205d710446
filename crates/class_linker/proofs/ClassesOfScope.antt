-- The class of a Class entry is the one that its name's text names.
use Rattle.std.proofs.Common.{◌≡◌, ℕ, List, Option, Some, None, IsSome, refl, sym, ◌∙◌, subst}
use Rattle.std.specs.Prelude.{slice_get}
use Rattle.jk_model.specs.declared.class_file.ClassFile.{ClassFile}
use Rattle.jk_model.specs.declared.class_file.PoolEntry.{PoolEntry}
use Rattle.jk_model.specs.declared.class_file.PoolEntry.TheVariants.{Class}
use Rattle.jk_model.specs.declared.identifiers.ClassId.{ClassId}
use Rattle.jk_model_classes.specs.ClassNames.{NamesClass}
use Rattle.jk_model_classes.specs.Members.{TextAt}
use Rattle.jk_model_classes.specs.Worlds.{NamedClass, class_named}
use Rattle.class_linker.specs.LinkedFiles.{IsLinkable}
use Rattle.class_linker.specs.TextsSaid.{NamesClassBy, SaysClass}
use Rattle.class_linker.proofs.GoodMembers.{class_known}

some_item : {T : Type 0} (o : Option T) → IsSome o → (x : T) × (o ≡ Some x)
some_item None h = absurd cc
some_item (Some x) h = (x, refl)

module _ (c : ClassFile) (names : List NamedClass) (i : ℕ) (pool : List PoolEntry) (same : pool ≡ c.pool) where
  -- the name of an entry that is of no array can't but name a class
  pub name_says : (name : ℕ) → IsLinkable c names → slice_get pool i ≡ Some (Class name) → ((NamesClass c.pool i → ⊥) → ⊥)
      → ((class : ClassId) → SaysClass names c.pool name class → ⊥) → ⊥
  name_says name h at named none = named (λ (units, (n, own, text), plain).
      let here : slice_get c.pool i ≡ Some (Class name) = subst (λ (es : List PoolEntry). slice_get es i ≡ Some (Class name)) same at in
      let e : Some (Class n) ≡ Some (Class name) = sym own ∙ here in
      let one : n ≡ name = cc in
      let known = some_item (class_named names units) (class_known c names h i units named (n, own, text)) in
      none known.0 (units, subst (λ (k : ℕ). TextAt c.pool k units) one text, known.1))

  -- and there is such an entry
  pub has_name : ((n : ℕ) → slice_get pool i ≡ Some (Class n) → ⊥) → ((NamesClass c.pool i → ⊥) → ⊥) → ⊥
  has_name none named = named (λ (units, (n, own, text), plain).
      none n (subst (λ (es : List PoolEntry). slice_get es i ≡ Some (Class n)) (sym same) own))

  pub class_by_text : (name : ℕ) (class : ClassId) → slice_get pool i ≡ Some (Class name) → SaysClass names c.pool name class
      → NamesClassBy names c.pool i class
  class_by_text name class at (units, text, means) =
      (units, (name, subst (λ (es : List PoolEntry). slice_get es i ≡ Some (Class name)) same at, text), means)
