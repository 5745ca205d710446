-- The methods of the classes of a folder are counted class by class.
use Rattle.std.proofs.Common.{◌≡◌, ℕ, ◌+◌, ◌-◌, ◌<◌, ◌≤◌, List, length, Some, sym, ◌∙◌, ap, get_or, sum_by, take, drop, take_all, arith, length-drop, get_or-drop}
use Rattle.std.proofs.lemmas.List.Sums.{sum_by_more, sum_by_more_le}
use Rattle.std.proofs.lemmas.Option.{slice_get_within, get_or_from_slice_get}
use Rattle.jk_model.specs.declared.identifiers.ClassId.{ClassId}
use Rattle.jk_model_classes.specs.declared.records.ClassRecord.{ClassRecord}
use Rattle.jk_model_classes.specs.Classes.{record_of}
use Rattle.jk_model_classes.specs.SharedRules.{methods_before, folder_methods}

count : ClassRecord → ℕ
count r = length r.methods

module _ (classes : List ClassRecord) (first c : ClassId) (r : ClassRecord) (at : record_of classes c ≡ Some r) (low : first.0 ≤ c.0) where
  -- the class's place in the folder
  place : ℕ
  place = c.0 - first.0

  folder : List ClassRecord
  folder = drop first.0 classes

  in_folder : place < length folder
  unfolding place folder
  in_folder = omega (arith, slice_get_within classes c.0 r at, length-drop first.0 classes)

  there : get_or folder place r ≡ r
  unfolding place folder
  there =
      let here : first.0 + (c.0 - first.0) ≡ c.0 = omega arith in
      get_or-drop first.0 classes (c.0 - first.0) r ∙ ap (λ (n : ℕ). get_or classes n r) here ∙ get_or_from_slice_get classes c.0 r r at

  pub counted_on : methods_before classes first (c.0 + 1) ≡ methods_before classes first c.0 + length r.methods
  unfolding count place folder
  counted_on =
      let next : c.0 + 1 - first.0 ≡ c.0 - first.0 + 1 = omega arith in
      ap (λ (n : ℕ). sum_by count (take n folder)) next
      ∙ sum_by_more count folder place r in_folder
      ∙ ap (λ (x : ClassRecord). sum_by count (take place folder) + count x) there

  -- those of the class are among those of the folder
  pub counted_within : methods_before classes first c.0 + length r.methods ≤ folder_methods classes first
  unfolding count place folder
  counted_within =
      let all : folder_methods classes first ≡ sum_by count folder =
      ap (sum_by count) (take_all (length classes - first.0) (drop first.0 classes) (omega (arith, length-drop first.0 classes))) in
      let within : sum_by count (take place folder) + count (get_or folder place r) ≤ sum_by count folder = sum_by_more_le count folder place r in_folder in
      let same : count (get_or folder place r) ≡ count r = ap count there in
      omega arith

pub none_counted : (classes : List ClassRecord) (first : ClassId) → methods_before classes first first.0 ≡ 0
unfolding count
none_counted classes first =
    let none : first.0 - first.0 ≡ 0 = omega arith in
    ap (λ (n : ℕ). sum_by count (take n (drop first.0 classes))) none

-- from the last class on all are counted
pub all_counted : (classes : List ClassRecord) (first : ClassId) (n : ℕ) → length classes ≤ n → methods_before classes first n ≡ folder_methods classes first
all_counted classes first n all =
    let rest : List ClassRecord = drop first.0 classes in
    let long : length rest ≡ length classes - first.0 = length-drop first.0 classes in
    ap (sum_by (λ (r : ClassRecord). length r.methods))
    (take_all (n - first.0) rest (omega (arith, long)) ∙ sym (take_all (length classes - first.0) rest (omega (arith, long))))
