-- What is made of a folder's files in their order, one file after another.
use Rattle.std.proofs.Common.{◌≡◌, ℕ, zero, suc, ◌+◌, ◌<◌, ◌≤◌, List, [], ◌∷◌, ◌++◌, length, take, get_or, Some, slice_get, refl, sym, ap, subst, ◌∙◌, arith}
use Rattle.std.specs.List.{AllZip}
use Rattle.std.specs.Prelude.{flat_map}
use Rattle.std.proofs.lemmas.List.{append-nil, append_assoc, length-append, length-take, take_all, take_more}
use Rattle.std.proofs.lemmas.List.Concat.{flat_map-append}
use Rattle.std.proofs.lemmas.Option.{get_or_from_slice_get, same_Some, slice_get_within}
use Rattle.std.proofs.lemmas.Slice.Zip.{AllZip-long, all_zipped_more}
use Rattle.jk_model.specs.declared.class_file.ClassFile.{ClassFile}
use Rattle.jk_model.specs.declared.identifiers.ClassId.{ClassId}
use Rattle.jk_model.specs.declared.identifiers.DomainId.{DomainId}
use Rattle.jk_model_classes.specs.declared.records.ClassRecord.{ClassRecord}
use Rattle.jk_model_classes.specs.Worlds.{NamedClass, WorldRecord}
use Rattle.folder_loader.specs.ClassesInOrder.{AreDeclared, AreListsOf, AreOfFiles, HasRecords, IsOfFileAt, IsRecordYet}
use Rattle.folder_loader.specs.LinkedFolders.{HasMoreClasses}

-- ---- Lists that go along with the order.

pub one_more : {X : Type 0} (Is : ClassFile → X → Type 0) (files : List ClassFile) (order : List ℕ) (n i : ℕ) (c : ClassFile) (xs ys : List X) (x : X)
    → slice_get order n ≡ Some i → slice_get files i ≡ Some c → AreOfFiles Is files (take n order) xs → Is c x → ys ≡ xs ++ x ∷ []
    → AreOfFiles Is files (take (n + 1) order) ys
one_more {X = X} Is files order n i c xs ys x at of_c h k longer =
    let below : n < length order = slice_get_within order n i at in
    let R : ℕ → X → Type 0 = IsOfFileAt Is files in
    let here : R i x = λ d of_d. subst (λ (z : ClassFile). Is z x) (same_Some c d (sym of_c ∙ of_d)) k in
    let last : R (get_or order n i) x = subst (λ (m : ℕ). R m x) (sym (get_or_from_slice_get order n i i at)) here in
    let all : AllZip R (take n order ++ get_or order n i ∷ []) (xs ++ x ∷ []) = all_zipped_more R (take n order) xs (get_or order n i) x h last in
    let grown : AllZip R (take (n + 1) order) (xs ++ x ∷ []) = subst (λ (ws : List ℕ). AllZip R ws (xs ++ x ∷ [])) (sym (take_more order n i below)) all in
    subst (λ (ws : List X). AllZip R (take (n + 1) order) ws) (sym longer) grown

-- all are made
pub all_made : {X : Type 0} (Is : ClassFile → X → Type 0) (files : List ClassFile) (order : List ℕ) (n : ℕ) (xs : List X) → length order ≤ n
    → AreOfFiles Is files (take n order) xs → AreOfFiles Is files order xs
all_made {X = X} Is files order n xs all h = subst (λ (ws : List ℕ). AreOfFiles Is files ws xs) (take_all n order all) h

pub made_at : {X : Type 0} (Is : ClassFile → X → Type 0) (files : List ClassFile) (order : List ℕ) (xs : List X) → AreOfFiles Is files order xs
    → (k i : ℕ) (c : ClassFile) (x : X) → slice_get order k ≡ Some i → slice_get files i ≡ Some c → slice_get xs k ≡ Some x → Is c x
made_at Is files [] [] h k i c x at of_c of_x = absurd cc
made_at Is files [] (y ∷ xs) h k i c x at of_c of_x = absurd h
made_at Is files (j ∷ order) [] h k i c x at of_c of_x = absurd h
made_at Is files (j ∷ order) (y ∷ xs) h zero i c x at of_c of_x =
    let place : Some j ≡ Some i = at in
    let item : Some y ≡ Some x = of_x in
    let same_place : j ≡ i = cc in
    let same_item : y ≡ x = cc in
    subst (λ z. Is c z) same_item (h.0 c (subst (λ (m : ℕ). slice_get files m ≡ Some c) (sym same_place) of_c))
made_at Is files (j ∷ order) (y ∷ xs) h (suc k) i c x at of_c of_x = made_at Is files order xs h.1 k i c x at of_c of_x

pub as_many_made : {X : Type 0} (Is : ClassFile → X → Type 0) (files : List ClassFile) (order : List ℕ) (xs : List X) → AreOfFiles Is files order xs
    → length xs ≡ length order
as_many_made Is files order xs h = AllZip-long (IsOfFileAt Is files) order xs h

-- ---- Classes behind the others.

module _ (table : List NamedClass) (home : DomainId) (files : List ClassFile) where
  pub no_records : (w : WorldRecord) → HasRecords table home files [] w w
  no_records w = ([], ap (λ (xs : List ClassRecord). let v : WorldRecord = record w { classes = xs } in v) (sym (append-nil w.classes)), tt)

  pub record_more : (order : List ℕ) (n i : ℕ) (c : ClassFile) (old mid new : WorldRecord) → slice_get order n ≡ Some i
      → slice_get files i ≡ Some c → HasRecords table home files (take n order) old mid
      → (r : ClassRecord) × IsRecordYet table home c r × (new ≡ record mid { classes = mid.classes ++ r ∷ [] })
      → HasRecords table home files (take (n + 1) order) old new
  record_more order n i c old mid new at of_c h one =
      let Grow : WorldRecord → WorldRecord = λ (v : WorldRecord). record v { classes = v.classes ++ one.0 ∷ [] } in (
        h.0 ++ one.0 ∷ [],
        one.2 ∙ ap Grow h.1 ∙ ap (λ (xs : List ClassRecord). let v : WorldRecord = record old { classes = xs } in v)
            (append_assoc old.classes h.0 (one.0 ∷ [])),
        one_more (IsRecordYet table home) files order n i c h.0 (h.0 ++ one.0 ∷ []) one.0 at of_c h.2 one.1 refl,
      )

  pub all_records : (order : List ℕ) (n : ℕ) (old new : WorldRecord) → length order ≤ n → HasRecords table home files (take n order) old new
      → HasRecords table home files order old new
  all_records order n old new all h = (h.0, h.1, all_made (IsRecordYet table home) files order n h.0 all h.2)

  pub records_count : (order : List ℕ) (n : ℕ) (old mid : WorldRecord) → n ≤ length order → HasRecords table home files (take n order) old mid
      → length mid.classes ≡ length old.classes + n
  records_count order n old mid most h =
      let many = as_many_made (IsRecordYet table home) files (take n order) h.0 h.2 in
      let all : length mid.classes ≡ length (old.classes ++ h.0) = ap (λ (v : WorldRecord). length v.classes) h.1 in
      omega (arith, all, length-append old.classes h.0, many, length-take n order, most)

  pub only_more : (order : List ℕ) (old new : WorldRecord) → HasRecords table home files order old new → HasMoreClasses old new
  only_more order old new h = (h.0, h.1)

-- ---- What methods throw.

pub declared_more : (table : List NamedClass) (files : List ClassFile) (order : List ℕ) (n i : ℕ) (c : ClassFile) (old new lists : List (List ClassId))
    → slice_get order n ≡ Some i → slice_get files i ≡ Some c → AreDeclared table files (take n order) old → AreListsOf table c lists
    → new ≡ old ++ lists → AreDeclared table files (take (n + 1) order) new
declared_more table files order n i c old new lists at of_c h k longer =
    let join : List (List (List ClassId)) → List (List ClassId) = flat_map (λ (g : List (List ClassId)). g) in
    let last : join (lists ∷ []) ≡ lists = append-nil lists in (
      h.0 ++ lists ∷ [],
      one_more (AreListsOf table) files order n i c h.0 (h.0 ++ lists ∷ []) lists at of_c h.1 k refl,
      longer ∙ ap (λ (xs : List (List ClassId)). xs ++ lists) h.2 ∙ ap (λ (xs : List (List ClassId)). join h.0 ++ xs) (sym last)
          ∙ sym (flat_map-append (λ (g : List (List ClassId)). g) h.0 (lists ∷ [])),
    )

pub all_declared : (table : List NamedClass) (files : List ClassFile) (order : List ℕ) (n : ℕ) (declared : List (List ClassId)) → length order ≤ n
    → AreDeclared table files (take n order) declared → AreDeclared table files order declared
all_declared table files order n declared all h = (h.0, all_made (AreListsOf table) files order n h.0 all h.1, h.2)
