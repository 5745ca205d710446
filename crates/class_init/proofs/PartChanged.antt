-- One part is read, or changed alone; and parts that are restored in turn.
use Rattle.std.proofs.Common.{◌≡◌, ℕ, Bool, true, false, List, [], ◌∷◌, ◌++◌, length, map, set, refl, sym, ◌∙◌, ap, Option, Some, None, get_or}
use Rattle.std.specs.Prelude.{◌==◌, if◌then◌else◌}
use Rattle.std.specs.Option.{option_map}
use Rattle.std.proofs.lemmas.List.{map-set}
use Rattle.std.proofs.Math.Seq.{map-set_same}
use Rattle.std.proofs.lemmas.Option.{get_or_from_slice_get, same_Some}
use Rattle.list_lemmas.proofs.ItemsByPlace.{comes_from}
use Rattle.jk_model.specs.declared.identifiers.ClassId.{ClassId}
use Rattle.jk_model_domains.specs.declared.states.OwnClass.{OwnClass}
use Rattle.jk_model_domains.specs.OwnStates.{ClassPart, with_part}
use Rattle.class_init.specs.declared.class_parts.Part.{Part}
use Rattle.class_init.specs.Parts.{AreNumbered, IsPartAt, FitsAll, class_part, class_number, part_in, restored, restored_all}
use Rattle.class_init.proofs.ByKey.{unchanged, changed_at, none_lacks}
use Rattle.class_init.proofs.PartOfAClass.{number, parts_differ}
use Rattle.class_init.proofs.FieldOfAnIndex.{length-with_values}

-- what was read at the place is the class's part
pub read_part : (ps : List Part) (c : ClassId) (place : ℕ) (p : Part) (at : IsPartAt (map class_part ps) c place) → p ≡ get_or ps place p
    → at.part ≡ class_part p
read_part ps c place p at e =
    let x = comes_from class_part ps place at.part at.there in
    let same : p ≡ x.from = e ∙ get_or_from_slice_get ps place x.from p x.there in
    sym x.gives ∙ ap class_part (sym same)

pub found_part : (ps : List Part) (c : ClassId) (place : ℕ) (p : Part) → IsPartAt (map class_part ps) c place → p ≡ get_or ps place p
    → part_in (map class_part ps) c ≡ Some (class_part p)
found_part ps c place p at e = at.found ∙ ap Some (read_part ps c place p at e)

pub part_set : (ps : List Part) (numbers : List ℕ) (c : ClassId) (place : ℕ) (p q : Part) (f : ClassPart → ClassPart) → AreNumbered ps numbers
    → IsPartAt (map class_part ps) c place → p ≡ get_or ps place p → class_part q ≡ f (class_part p)
    → map class_part (set ps place q) ≡ with_part c f (map class_part ps)
part_set ps numbers c place p q f h at e new =
    let parts = map class_part ps in
    let same : at.part ≡ class_part p = read_part ps c place p at e in
    let done = changed_at number f parts place c.0 at.part (parts_differ ps numbers h) at.there (ap (λ (x : ClassId). x.0) at.is) in
    map-set class_part ps place q ∙ ap (set parts place) (new ∙ ap f (sym same)) ∙ sym done

pub part_same : (parts : List ClassPart) (c : ClassId) (f : ClassPart → ClassPart) → part_in parts c ≡ None → parts ≡ with_part c f parts
part_same parts c f none = sym (unchanged number f parts c.0 (none_lacks number parts c.0 none))

pub numbered_set : (ps : List Part) (numbers : List ℕ) (place : ℕ) (p q : Part) → AreNumbered ps numbers → p ≡ get_or ps place p → q.class ≡ p.class
    → AreNumbered (set ps place q) numbers
numbered_set ps numbers place p q h e same = record {
  are = h.are ∙ sym (map-set_same class_number ps place q p (ap (λ (x : ClassId). x.0) same ∙ ap class_number e));
  apart = h.apart;
}

-- ---- Parts that are restored in turn.

pub restored_more : (list : List OwnClass) (o : OwnClass) (parts : List ClassPart)
    → restored_all (list ++ o ∷ []) parts ≡ with_part o.class (restored o) (restored_all list parts)
restored_more [] o parts = refl
restored_more (x ∷ list) o parts = restored_more list o (with_part x.class (restored x) parts)

-- a change that keeps the class changes what is found
pub found_changed : (f : ClassPart → ClassPart) (c d : ClassId) (parts : List ClassPart) → ((e : ClassPart) → number (f e) ≡ number e)
    → part_in (with_part c f parts) d ≡ option_map (λ (e : ClassPart). if e.class.0 == c.0 then f e else e) (part_in parts d)
found_changed f c d [] keeps = refl
found_changed f c d (e ∷ parts) keeps = by_tests (e.class.0 == c.0) (e.class.0 == d.0) refl refl (found_changed f c d parts keeps)
  where
    by_tests : (a b : Bool) → e.class.0 == c.0 ≡ a → e.class.0 == d.0 ≡ b
        → part_in (with_part c f parts) d ≡ option_map (λ (e : ClassPart). if e.class.0 == c.0 then f e else e) (part_in parts d)
        → part_in (with_part c f (e ∷ parts)) d ≡ option_map (λ (e : ClassPart). if e.class.0 == c.0 then f e else e) (part_in (e ∷ parts) d)
    by_tests true true p q rest =
        let there : (f e).class.0 == d.0 ≡ true = ap (λ n. n == d.0) (keeps e) ∙ q in rw (p, there, q) (rw p refl)
    by_tests true false p q rest =
        let there : (f e).class.0 == d.0 ≡ false = ap (λ n. n == d.0) (keeps e) ∙ q in rw (p, there, q) rest
    by_tests false true p q rest = rw (p, q) (rw p refl)
    by_tests false false p q rest = rw (p, q) rest

pub fits_kept : (list : List OwnClass) (o : OwnClass) (parts : List ClassPart) → FitsAll list parts → FitsAll list (with_part o.class (restored o) parts)
fits_kept list o parts h x has e found = by_found (part_in parts x.class) refl (sym (found_changed (restored o) o.class x.class parts (λ y. refl)) ∙ found)
  where
    by_test : (y : ClassPart) (b : Bool) → y.class.0 == o.class.0 ≡ b → length (if y.class.0 == o.class.0 then restored o y else y).statics ≡ length y.statics
    by_test y true t = rw t (length-with_values y.statics o.statics)
    by_test y false t = rw t refl

    by_found : (r : Option ClassPart) → part_in parts x.class ≡ r
        → option_map (λ (y : ClassPart). if y.class.0 == o.class.0 then restored o y else y) (part_in parts x.class) ≡ Some e
        → length x.statics ≡ length e.statics
    by_found None at is = cc
    by_found (Some y) at is =
        let some : Some (if y.class.0 == o.class.0 then restored o y else y) ≡ Some e = rw at at is in
        let same = same_Some (if y.class.0 == o.class.0 then restored o y else y) e some in
        h x has y at ∙ sym (by_test y (y.class.0 == o.class.0) refl) ∙ ap (λ (z : ClassPart). length z.statics) same
