-- A told tree has one folder at a path, with one list of files that count; so a folder that loads has no fault, and another has one.
use Rattle.std.proofs.Common.{◌≡◌, ◌≢◌, ℕ, zero, suc, ◌<◌, ◌⊎◌, inl, inr, Bool, true, false, List, [], ◌∷◌, ◌++◌, Some, slice_get, refl, sym, ap, subst, ◌∙◌, arith}
use Rattle.std.specs.Prelude.{⊤, bytes_eq}
use Rattle.std.specs.List.{AllByRecursion}
use Rattle.std.proofs.lemmas.Option.{same_Some, none-some}
use Rattle.std.proofs.lemmas.Slice.Eq.{bytes_eq-Decides}
use Rattle.jk_model.specs.declared.output.Place.{Place}
use Rattle.jk_model.specs.declared.output.Rule.{Rule}
use Rattle.jk_model.specs.Outside.{Tree, ◌/-◌}
use Rattle.jk_model_classes.specs.SharedRules.{IsBeforeInOrder}
use Rattle.jk_model_classes.specs.Worlds.{WorldRecord}
use Rattle.jk_model_folders.specs.declared.files.FolderFile.{FolderFile}
use Rattle.jk_model_folders.specs.declared.files.FolderFiles.{FolderFiles}
use Rattle.jk_model_folders.specs.FolderRules.{IsFilesFault, IsFolderFault, files, name_is_live, no_folder, too_large}
use Rattle.jk_model_folders.specs.FolderTrees.{AreFiles, AreFilesOf, HasFileAt, IsThatFile, RESOLVER}
use Rattle.one_verdict.specs.Verdicts.{Brings, Brought}
use Rattle.one_verdict.proofs.OneVerdict.{loaded_has_no_fault, one_fault}
use Rattle.one_verdict.proofs.RisingLists.{IsIn, in_list, rising_same}

-- ---- Of two lists one at most comes before the other.

abbrev Precedes : List ℕ → List ℕ → Type 0
Precedes [] [] = ⊥
Precedes [] (y ∷ ys) = ⊤
Precedes (x ∷ xs) [] = ⊥
Precedes (x ∷ xs) (y ∷ ys) = (x < y) ⊎ ((x ≡ y) × Precedes xs ys)

before_longer : (xs : List ℕ) (y : ℕ) (more : List ℕ) → Precedes xs (xs ++ y ∷ more)
before_longer [] y more = tt
before_longer (x ∷ xs) y more = inr (refl, before_longer xs y more)

before_greater : (front : List ℕ) (x y : ℕ) (xs ys : List ℕ) → x < y → Precedes (front ++ x ∷ xs) (front ++ y ∷ ys)
before_greater [] x y xs ys less = inl less
before_greater (z ∷ front) x y xs ys less = inr (refl, before_greater front x y xs ys less)

precedes : (xs ys : List ℕ) → IsBeforeInOrder xs ys → Precedes xs ys
precedes xs ys (inl (y, more, e)) = subst (λ (l : List ℕ). Precedes xs l) (sym e) (before_longer xs y more)
precedes xs ys (inr (front, x, y, after_x, after_y, e, f, less)) =
    subst (λ (l : List ℕ). Precedes l ys) (sym e)
    (subst (λ (l : List ℕ). Precedes (front ++ x ∷ after_x) l) (sym f) (before_greater front x y after_x after_y less))

not_both : (xs ys : List ℕ) → Precedes xs ys → Precedes ys xs → ⊥
not_both [] [] h k = h
not_both [] (y ∷ ys) h k = k
not_both (x ∷ xs) [] h k = h
not_both (x ∷ xs) (y ∷ ys) (inl less) (inl more) = omega (arith, less, more)
not_both (x ∷ xs) (y ∷ ys) (inl less) (inr (same, more)) = omega (arith, less, same)
not_both (x ∷ xs) (y ∷ ys) (inr (same, less)) (inl more) = omega (arith, same, more)
not_both (x ∷ xs) (y ∷ ys) (inr (same, less)) (inr (also, more)) = not_both xs ys less more

abbrev StandsBefore : FolderFile → FolderFile → Type 0
StandsBefore a b = IsBeforeInOrder a.path b.path

never_both : (a b : FolderFile) → StandsBefore a b → StandsBefore b a → ⊥
never_both a b h k = not_both a.path b.path (precedes a.path b.path h) (precedes b.path a.path k)

-- ---- The files of a told folder.

each_at : {X : Type 0} (P : X → Type 0) (xs : List X) → AllByRecursion P xs → (i : ℕ) (x : X) → slice_get xs i ≡ Some x → P x
each_at P [] all i x at = absurd (none-some x at)
each_at P (y ∷ xs) all zero x at = subst P (same_Some y x at) all.0
each_at P (y ∷ xs) all (suc i) x at = each_at P xs all.1 i x at

-- lists that can't but be equal are
by_test : (xs ys : List ℕ) (b : Bool) → bytes_eq xs ys ≡ b → (xs ≢ ys → ⊥) → xs ≡ ys
by_test xs ys true test h = (bytes_eq-Decides xs ys).0 test
by_test xs ys false test h =
    absurd (h (λ e.
    let yes : bytes_eq xs ys ≡ true = (bytes_eq-Decides xs ys).1 e in
    let no : false ≡ true = sym test ∙ yes in
    cc))

module _ (t : Tree) (root : List ℕ) where
  file_there : (f g : FolderFiles) → AreFilesOf t root f → AreFilesOf t root g → (z : FolderFile) → IsIn z f.classes → IsIn z g.classes
  file_there f g of_f of_g z (i, at) =
      let own = each_at (IsThatFile t root) f.classes of_f.each i z at in
      let (c, there, path) = of_g.all z.path z.bytes own in
      let place = in_list g.classes c there in
      let also = each_at (IsThatFile t root) g.classes of_g.each place.0 c place.1 in
      let here : t.file (root /- z.path) ≡ Some c.bytes = subst (λ (p : List ℕ). t.file (root /- p) ≡ Some c.bytes) path also.1.1 in
      let bytes : c.bytes ≡ z.bytes = same_Some c.bytes z.bytes (sym here ∙ own.1.1) in
      let same : c ≡ z = λ d. record { path = path d; bytes = bytes d } in
      (place.0, place.1 ∙ ap (λ (x : FolderFile). Some x) same)

  one_resolver : (f g : FolderFiles) → AreFilesOf t root f → AreFilesOf t root g → f.resolver ≡ g.resolver
  one_resolver f g of_f of_g = by_test f.resolver g.resolver (bytes_eq f.resolver g.resolver) refl wrong
    where
      wrong : (f.resolver ≢ g.resolver) → ⊥
      wrong other =
          let none : (bytes : List ℕ) → HasFileAt t root RESOLVER bytes → ⊥ =
          λ bytes there. other (of_f.resolver bytes there ∙ sym (of_g.resolver bytes there)) in
          other (of_f.no_resolver none ∙ sym (of_g.no_resolver none))

  pub one_told_folder : (f g : FolderFiles) → AreFiles f → AreFiles g → AreFilesOf t root f → AreFilesOf t root g → f ≡ g
  one_told_folder f g are_f are_g of_f of_g =
      let classes : f.classes ≡ g.classes =
      rising_same StandsBefore never_both f.classes g.classes are_f.rising are_g.rising (file_there f g of_f of_g) (file_there g f of_g of_f) in
      let resolver : f.resolver ≡ g.resolver = one_resolver f g of_f of_g in
      λ d. record { classes = classes d; resolver = resolver d }

-- ---- The verdict of a told folder.

module _ (t : Tree) (root : List ℕ) (w : WorldRecord) (name : List ℕ) where
  pub told_has_no_fault : (f : FolderFiles) (b : Brought) (rule : Rule) (place : Place) → AreFiles f → AreFilesOf t (root /- name) f → Brings f w name b
      → IsFolderFault t root w name rule place → ⊥
  told_has_no_fault f b _ _ are of loads (name_is_live live) = loads.not_live live
  told_has_no_fault f b _ _ are of loads (no_folder dead none) = none-some of.folder.0 (sym none ∙ of.folder.1)
  told_has_no_fault f b _ _ are of loads (too_large dead there large) = of.not_large large
  told_has_no_fault f b _ _ are of loads (files g rule place dead are_g of_g fault) =
      let same : g ≡ f = one_told_folder t (root /- name) g f are_g are of_g of in
      loaded_has_no_fault f w name b rule place loads (subst (λ (x : FolderFiles). IsFilesFault x w name rule place) same fault)

  pub one_told_fault : (rule other : Rule) (place spot : Place) → IsFolderFault t root w name rule place → IsFolderFault t root w name other spot
      → (rule ≡ other) × (place ≡ spot)
  one_told_fault _ _ _ _ (name_is_live live) (name_is_live also) = (refl, refl)
  one_told_fault _ _ _ _ (name_is_live live) (no_folder dead none) = absurd (dead live)
  one_told_fault _ _ _ _ (name_is_live live) (too_large dead there large) = absurd (dead live)
  one_told_fault _ _ _ _ (name_is_live live) (files g rule place dead are of fault) = absurd (dead live)
  one_told_fault _ _ _ _ (no_folder dead none) (name_is_live live) = absurd (dead live)
  one_told_fault _ _ _ _ (no_folder dead none) (no_folder gone also) = (refl, refl)
  one_told_fault _ _ _ _ (no_folder dead none) (too_large gone there large) = absurd (there none)
  one_told_fault _ _ _ _ (no_folder dead none) (files g rule place gone are of fault) = absurd (none-some of.folder.0 (sym none ∙ of.folder.1))
  one_told_fault _ _ _ _ (too_large dead there large) (name_is_live live) = absurd (dead live)
  one_told_fault _ _ _ _ (too_large dead there large) (no_folder gone none) = absurd (there none)
  one_told_fault _ _ _ _ (too_large dead there large) (too_large gone here wide) = (refl, refl)
  one_told_fault _ _ _ _ (too_large dead there large) (files g rule place gone are of fault) = absurd (of.not_large large)
  one_told_fault _ _ _ _ (files f rule place dead are of fault) (name_is_live live) = absurd (dead live)
  one_told_fault _ _ _ _ (files f rule place dead are of fault) (no_folder gone none) = absurd (none-some of.folder.0 (sym none ∙ of.folder.1))
  one_told_fault _ _ _ _ (files f rule place dead are of fault) (too_large gone there large) = absurd (of.not_large large)
  one_told_fault _ _ _ _ (files f rule place dead are of fault) (files g other spot gone are_g of_g bad) =
      let same : g ≡ f = one_told_folder t (root /- name) g f are_g are of_g of in
      one_fault f w name rule other place spot fault (subst (λ (x : FolderFiles). IsFilesFault x w name other spot) same bad)
