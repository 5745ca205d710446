-- Where no name is missing and no class stands above itself, each class file of a folder can be linked by what names mean in the domain.
use Rattle.std.proofs.Common.{◌≡◌, ℕ, ◌+◌, ◌⊎◌, List, Option, Some, None, refl, slice_get, inl, inr, sym, ap, subst, ◌∙◌, arith}
use Rattle.std.specs.Prelude.{IsSome}
use Rattle.std.proofs.lemmas.Option.{none-some, slice_get_within}
use Rattle.jk_model.specs.declared.class_file.ClassFile.{ClassFile}
use Rattle.jk_model.specs.declared.identifiers.ClassId.{ClassId}
use Rattle.jk_model.specs.declared.output.Rule.TheVariants.{C18, C19}
use Rattle.jk_model_classes.specs.Items.{Entry, Member}
use Rattle.jk_model_classes.specs.References.{IsCalledClass, StandsOver}
use Rattle.jk_model_classes.specs.References.StandsOver.{higher, next}
use Rattle.jk_model_classes.specs.Worlds.{NamedClass, WorldRecord, class_named}
use Rattle.jk_model_folders.specs.ClassOrder.{IsClassOrder}
use Rattle.jk_model_folders.specs.FolderRules.{BreaksNames, NoneBroken, name_rules}
use Rattle.class_files.specs.declared.folder_class.FolderClass.{FolderClass}
use Rattle.class_files.specs.FolderClasses.{AreReadClasses, IsReadClass, files_of}
use Rattle.class_linker.specs.LinkedFiles.{IsLinkable}
use Rattle.folder_loader.specs.FolderTables.{IsFolderTable}
use Rattle.folder_loader.proofs.FilesRead.{class_at}
use Rattle.folder_loader.proofs.OrderOfClasses.{has_place}

is_some_or : {X : Type 0} (o : Option X) → IsSome o ⊎ (o ≡ None)
is_some_or None = inr refl
is_some_or (Some x) = inl refl

from_some : {X : Type 0} (o : Option X) (x : X) → o ≡ None → o ≡ Some x → ⊥
from_some o x none is = none-some x (sym none ∙ is)

module _ (w : WorldRecord) (cs : List ClassFile) (names : List NamedClass) (none : NoneBroken name_rules (BreaksNames w cs names)) where
  ring_at : (name b : List ℕ) (i : ℕ) (c : ClassFile) → slice_get cs i ≡ Some c → IsCalledClass c name → StandsOver cs name name → ⊥
  ring_at name b i c at called over = none C19 i (Member 0) (1, omega arith, refl) (c, at, (refl, inl (name, called, over)))

  pub no_ring : (name : List ℕ) → StandsOver cs name name → ⊥
  no_ring name over = on name name over over
    where
      on : (a b : List ℕ) → StandsOver cs a b → StandsOver cs a a → ⊥
      on a b (next x y up) over = ring_at a b up.0 up.1 up.2 up.3.0 over
      on a b (higher x m y up rest) over = ring_at a b up.0 up.1 up.2 up.3.0 over

  module _ (order : List ℕ) (is : IsClassOrder cs order) (first : ℕ) (table : List NamedClass) (means : IsFolderTable cs order first names table) where
    pub is_linkable : (i : ℕ) (f : FolderClass) → slice_get cs i ≡ Some f.file → IsReadClass f → IsLinkable f.file table
    is_linkable i f at read = record {
      writable = read.writable;
      path = read.path;
      alone = read.alone;
      known = λ j name refers. elim (is_some_or (class_named table name)) [
        | inl some ↦ some
        | inr lacks ↦ absurd (none C18 i (Entry j) (0, omega arith, refl) (
          f.file,
          at,
          (
            name,
            refers,
            λ known. elim known [
              | inl own ↦
                  let place = has_place cs order is own.0 (slice_get_within cs own.0 own.1 own.2) in
                  let class : ClassId = record { 0 = first + place.0 } in
                  from_some (class_named table name) class lacks
                  ((means name class).1 (inr (place.0, own.0, own.1, slice_get_within order place.0 own.0 place.1, place.1, own.2, own.3, refl)))
              | inr outer ↦ from_some (class_named table name) outer.0 lacks ((means name outer.0).1 (inl outer.1))
            ],
          ),
        ))
      ];
    }

    -- the same of each of the class files that were read
    pub all_linkable : (classes : List FolderClass) → cs ≡ files_of classes → AreReadClasses classes → (i : ℕ) (c : ClassFile) → slice_get cs i ≡ Some c
        → IsLinkable c table
    all_linkable classes same read i c at =
        let its = class_at classes i c read (subst (λ (xs : List ClassFile). slice_get xs i ≡ Some c) same at) in
        subst (λ (x : ClassFile). IsLinkable x table) its.2 (is_linkable i its.0 (at ∙ ap Some (sym its.2)) its.3)
