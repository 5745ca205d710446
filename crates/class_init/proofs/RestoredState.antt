-- A first state that gets the parts of a state of the same domain has these parts.
use Rattle.std.proofs.Common.{◌≡◌, ℕ, suc, ◌⊎◌, inl, inr, Bool, true, false, true≢false, List, [], ◌∷◌, length, map, refl, sym, ◌∙◌, ap, subst, arith, Some, slice_get, nat_eq, if◌then◌else◌}
use Rattle.std.specs.Prelude.{Contains, ◌==◌, bytes_eq}
use Rattle.std.specs.Option.{option_map}
use Rattle.std.proofs.lemmas.Bool.{eqb-true, eq-eqb}
use Rattle.std.proofs.lemmas.List.{length-map}
use Rattle.std.proofs.lemmas.List.Sorted.{Contains-permutation, IsPermutation-refl, IsPermutation-sym}
use Rattle.std.proofs.lemmas.Option.{same_Some}
use Rattle.std.proofs.lemmas.Slice.Eq.{bytes_eq-Decides}
use Rattle.list_lemmas.proofs.ItemsByPlace.{comes_from, mapped_at}
use Rattle.list_lemmas.proofs.ItemsOfLists.{Contains-none, Contains-at, Contains-here}
use Rattle.jk_model.specs.declared.identifiers.ClassId.{ClassId}
use Rattle.jk_model.specs.declared.values.Value.{Value}
use Rattle.jk_model_classes.specs.declared.records.ClassRecord.{ClassRecord}
use Rattle.jk_model_classes.specs.Classes.{record_of}
use Rattle.jk_model_classes.specs.Worlds.{NamedClass}
use Rattle.jk_model_domains.specs.declared.states.LiteralImage.{LiteralImage}
use Rattle.jk_model_domains.specs.declared.states.OwnClass.{OwnClass}
use Rattle.jk_model_domains.specs.declared.states.OwnParts.{OwnParts}
use Rattle.jk_model_domains.specs.OwnStates.{OwnState, ClassPart, StaticField, Literal, HasPart, IsPartFor, IsOwnState, ArePartsOf, own_class, literal_image, with_part, first_statics}
use Rattle.class_init.specs.KeptStates.{HasRooms, KeptState}
use Rattle.class_init.specs.Literals.{literal_from}
use Rattle.class_init.specs.Parts.{FitsAll, HasPartOf, part_in, restored, restored_all}
use Rattle.class_init.specs.Statics.{with_values}
use Rattle.class_init.proofs.ByKey.{found_at, found_stands}
use Rattle.class_init.proofs.PartChanged.{found_changed}
use Rattle.class_init.proofs.PartOfAClass.{number, same_class}
use Rattle.class_init.proofs.PlacesInLists.{stands_at}
use Rattle.class_init.proofs.SameElements.{all_differ, an_other, first_or_other, permuted, still_differ}

abbrev listed : OwnClass → ℕ
listed o = o.class.0

abbrev DifferentClasses : List OwnClass → Type 0
DifferentClasses list = (i j : ℕ) (a b : OwnClass) → slice_get list i ≡ Some a → slice_get list j ≡ Some b → a.class.0 ≡ b.class.0 → i ≡ j

abbrev pub DifferentTexts : List LiteralImage → Type 0
DifferentTexts images = (i j : ℕ) (a b : LiteralImage) → slice_get images i ≡ Some a → slice_get images j ≡ Some b → a.text ≡ b.text → i ≡ j

-- ---- The listed parts.

classes_of_parts_differ : (own : OwnState) (parts : OwnParts)
    → ((i j : ℕ) (a b : ClassPart) → slice_get own.classes i ≡ Some a → slice_get own.classes j ≡ Some b → a.class ≡ b.class → i ≡ j)
    → ArePartsOf own parts → DifferentClasses parts.classes
classes_of_parts_differ own parts h are =
    still_differ listed nat_eq (λ a b e. eqb-true a b e) (λ a b e. eq-eqb a b e) (map own_class own.classes) parts.classes are.classes before
  where
    before : (i j : ℕ) (a b : OwnClass) → slice_get (map own_class own.classes) i ≡ Some a → slice_get (map own_class own.classes) j ≡ Some b
        → a.class.0 ≡ b.class.0 → i ≡ j
    before i j a b p q e =
        let x = comes_from own_class own.classes i a p in
        let y = comes_from own_class own.classes j b q in
        h i j x.from y.from x.there y.there (same_class x.from.class y.from.class (ap listed x.gives ∙ e ∙ sym (ap listed y.gives)))

pub texts_of_parts_differ : (own : OwnState) (parts : OwnParts)
    → ((i j : ℕ) (a b : Literal) → slice_get own.literals i ≡ Some a → slice_get own.literals j ≡ Some b → a.text ≡ b.text → i ≡ j)
    → ArePartsOf own parts → DifferentTexts parts.literals
texts_of_parts_differ own parts h are =
    still_differ (λ (l : LiteralImage). l.text) bytes_eq (λ a b e. (bytes_eq-Decides a b).0 e) (λ a b e. (bytes_eq-Decides a b).1 e)
    (map literal_image own.literals) parts.literals are.literals before
  where
    before : (i j : ℕ) (a b : LiteralImage) → slice_get (map literal_image own.literals) i ≡ Some a
        → slice_get (map literal_image own.literals) j ≡ Some b → a.text ≡ b.text → i ≡ j
    before i j a b p q e =
        let x = comes_from literal_image own.literals i a p in
        let y = comes_from literal_image own.literals j b q in
        h i j x.from y.from x.there y.there (ap (λ (l : LiteralImage). l.text) x.gives ∙ e ∙ sym (ap (λ (l : LiteralImage). l.text) y.gives))

-- a listed part is of a part of the state
record IsListed (own : OwnState) (o : OwnClass) : Type 0 where
  part : ClassPart
  has : Contains own.classes part
  is : own_class part ≡ o

is_listed : (own : OwnState) (parts : OwnParts) (o : OwnClass) → ArePartsOf own parts → Contains parts.classes o → IsListed own o
is_listed own parts o are has =
    let back = Contains-permutation parts.classes (map own_class own.classes) o (IsPermutation-sym _ _ are.classes) has in
    let s = stands_at (map own_class own.classes) o back in
    let x = comes_from own_class own.classes s.place o s.there in
    record { part = x.from; has = Contains-at own.classes s.place x.from x.there; is = x.gives }

lists : (own : OwnState) (parts : OwnParts) (e : ClassPart) → ArePartsOf own parts → Contains own.classes e → Contains parts.classes (own_class e)
lists own parts e are has =
    let s = stands_at own.classes e has in
    Contains-permutation (map own_class own.classes) parts.classes (own_class e) are.classes
    (Contains-at (map own_class own.classes) s.place (own_class e) (mapped_at own_class own.classes s.place e s.there))

-- the texts of the listed literals have rooms
abbrev pub AreKnown : List (List ℕ) → OwnParts → Type 0
AreKnown rooms parts = (l : LiteralImage) → Contains parts.literals l → Contains rooms l.text

-- ---- The values fit.

abbrev indices : ClassPart → List ℕ
indices e = map (λ (f : StaticField). f.index) e.statics

-- parts of one class in two states have the same places
same_indices : (classes : List ClassRecord) (table : List NamedClass) (first own : OwnState) → IsOwnState classes table first → IsOwnState classes table own
    → (a b : ClassPart) → Contains first.classes a → Contains own.classes b → a.class ≡ b.class → indices a ≡ indices b
same_indices classes table first own f s a b ha hb e =
    let x = f.each a ha in
    let y = s.each b hb in
    let same : x.0 ≡ y.0 = same_Some x.0 y.0 (sym x.1.1 ∙ ap (record_of classes) e ∙ y.1.1) in
    x.2 ∙ ap (λ (r : ClassRecord). map (λ (g : StaticField). g.index) (first_statics r)) same ∙ sym y.2

size_of : (e : ClassPart) → length e.statics ≡ length (indices e)
size_of e = sym (length-map e.statics (λ (f : StaticField). f.index))

pub parts_fit : (classes : List ClassRecord) (table : List NamedClass) (first own : OwnState) (parts : OwnParts) → IsOwnState classes table first
    → IsOwnState classes table own → ArePartsOf own parts → FitsAll parts.classes first.classes
parts_fit classes table first own parts f s are o has e found =
    let l = is_listed own parts o are has in
    let at = found_stands number first.classes o.class.0 e found in
    let here : Contains first.classes e = Contains-at first.classes at.place e at.there in
    let classed : e.class.0 ≡ l.part.class.0 = at.is ∙ sym (ap listed l.is) in
    let same = same_indices classes table first own f s e l.part here l.has (same_class e.class l.part.class classed) in
    let sizes : length e.statics ≡ length l.part.statics = size_of e ∙ ap length same ∙ sym (size_of l.part) in
    let values : length (own_class l.part).statics ≡ length l.part.statics = length-map l.part.statics (λ (g : StaticField). g.value) in
    sym (ap (λ (x : OwnClass). length x.statics) l.is) ∙ values ∙ sym sizes

-- ---- What stands at a place once all are restored.

-- it was restored from a listed part, or none of its class is listed
pub record RestoredAt (list : List OwnClass) (parts : List ClassPart) (k : ℕ) (e : ClassPart) : Type 0 where
  pub old : ClassPart
  pub there : slice_get parts k ≡ Some old
  pub class : e.class ≡ old.class
  pub from : ((o : OwnClass) × Contains list o × (o.class ≡ old.class) × (e ≡ restored o old))
      ⊎ (((o : OwnClass) → Contains list o → o.class ≡ old.class → ⊥) × (e ≡ old))

differ_tail : (o : OwnClass) (list : List OwnClass) → DifferentClasses (o ∷ list) → DifferentClasses list
differ_tail o list d i j a b p q e = let s : suc i ≡ suc j = d (suc i) (suc j) a b p q e in omega (arith, s)

once : (o : OwnClass) (list : List OwnClass) → DifferentClasses (o ∷ list) → (x : OwnClass) → Contains list x → o.class ≡ x.class → ⊥
once o list d x has e =
    let s = stands_at list x has in
    let same : 0 ≡ suc s.place = d 0 (suc s.place) o x refl s.there (ap (λ (c : ClassId). c.0) e) in omega (arith, same)

pub restored_at : (list : List OwnClass) (parts : List ClassPart) (k : ℕ) (e : ClassPart) → DifferentClasses list
    → slice_get (restored_all list parts) k ≡ Some e → RestoredAt list parts k e
restored_at [] parts k e d at = record { old = e; there = at; class = refl; from = inr (λ o has. absurd (Contains-none o has), refl) }
restored_at (o ∷ list) parts k e d at =
    let later = restored_at list (with_part o.class (restored o) parts) k e (differ_tail o list d) at in
    let change : ClassPart → ClassPart = λ x. if x.class.0 == o.class.0 then restored o x else x in
    let x = comes_from change parts k later.old later.there in
    by_test x.from x.there later (x.from.class.0 == o.class.0) refl x.gives
  where
    by_test : (x : ClassPart) → slice_get parts k ≡ Some x → (later : RestoredAt list (with_part o.class (restored o) parts) k e)
        → (b : Bool) → x.class.0 == o.class.0 ≡ b → (if x.class.0 == o.class.0 then restored o x else x) ≡ later.old → RestoredAt (o ∷ list) parts k e
    by_test x there later true t gives =
        let is : restored o x ≡ later.old = rw t at gives in
        let mine : o.class ≡ x.class = same_class o.class x.class (sym (eqb-true x.class.0 o.class.0 t)) in
        let classed : x.class ≡ later.old.class = ap (λ (y : ClassPart). y.class) is in
        record {
          old = x;
          there = there;
          class = later.class ∙ sym classed;
          from = inl (o, Contains-here o list, mine, by_side is (mine ∙ classed) later.from);
        }
      where
        by_side : restored o x ≡ later.old → o.class ≡ later.old.class
            → ((p : OwnClass) × Contains list p × (p.class ≡ later.old.class) × (e ≡ restored p later.old))
            ⊎ (((p : OwnClass) → Contains list p → p.class ≡ later.old.class → ⊥) × (e ≡ later.old))
            → e ≡ restored o x
        by_side is mine (inl (p, has, classed, new)) = absurd (once o list d p has (mine ∙ sym classed))
        by_side is mine (inr (none, same)) = same ∙ sym is
    by_test x there later false t gives =
        let is : x ≡ later.old = rw t at gives in
        record { old = x; there = there; class = later.class ∙ sym (ap (λ (y : ClassPart). y.class) is); from = by_side is later.from }
      where
        other : o.class ≡ x.class → ⊥
        other e = true≢false (sym (eq-eqb x.class.0 o.class.0 (sym (ap (λ (c : ClassId). c.0) e))) ∙ t)

        none_more : ((p : OwnClass) → Contains list p → p.class ≡ x.class → ⊥) → (p : OwnClass) → (o ≡ p) ⊎ Contains list p → p.class ≡ x.class → ⊥
        none_more none p (inl same) classed = other (ap (λ (y : OwnClass). y.class) same ∙ classed)
        none_more none p (inr has) classed = none p has classed

        by_side : x ≡ later.old → ((p : OwnClass) × Contains list p × (p.class ≡ later.old.class) × (e ≡ restored p later.old))
            ⊎ (((p : OwnClass) → Contains list p → p.class ≡ later.old.class → ⊥) × (e ≡ later.old))
            → ((p : OwnClass) × Contains (o ∷ list) p × (p.class ≡ x.class) × (e ≡ restored p x))
            ⊎ (((p : OwnClass) → Contains (o ∷ list) p → p.class ≡ x.class → ⊥) × (e ≡ x))
        by_side is (inl (p, has, classed, new)) =
            inl (p, an_other o list p has, classed ∙ sym (ap (λ (y : ClassPart). y.class) is), new ∙ ap (restored p) (sym is))
        by_side is (inr (none, same)) =
            let before : (p : OwnClass) → Contains list p → p.class ≡ x.class → ⊥ =
            λ p has classed. none p has (classed ∙ ap (λ (y : ClassPart). y.class) is) in
            inr (λ p has classed. none_more before p (first_or_other o list p has) classed, same ∙ sym is)

-- a class that has a part keeps one
pub still_has : (list : List OwnClass) (parts : List ClassPart) (c : ClassId) → HasPartOf parts c → HasPartOf (restored_all list parts) c
still_has [] parts c h = h
still_has (o ∷ list) parts c (e, found) =
    let change : ClassPart → ClassPart = λ x. if x.class.0 == o.class.0 then restored o x else x in
    still_has list (with_part o.class (restored o) parts) c
    (change e, found_changed (restored o) o.class c parts (λ x. refl) ∙ ap (option_map change) found)

-- ---- Restored parts.

indices-with_values : (fs : List StaticField) (vs : List Value)
    → map (λ (f : StaticField). f.index) (with_values fs vs) ≡ map (λ (f : StaticField). f.index) fs
indices-with_values [] vs = refl
indices-with_values (f ∷ fs) [] = refl
indices-with_values (f ∷ fs) (v ∷ vs) = ap (λ (ns : List ℕ). f.index ∷ ns) (indices-with_values fs vs)

values-with_values : (fs : List StaticField) (vs : List Value) → length vs ≡ length fs → map (λ (f : StaticField). f.value) (with_values fs vs) ≡ vs
values-with_values [] [] e = refl
values-with_values [] (v ∷ vs) e = absurd (omega arith)
values-with_values (f ∷ fs) [] e = absurd (omega arith)
values-with_values (f ∷ fs) (v ∷ vs) e = ap (λ (ws : List Value). v ∷ ws) (values-with_values fs vs (omega arith))

restored_lists : (o : OwnClass) (e : ClassPart) → o.class ≡ e.class → length o.statics ≡ length e.statics → own_class (restored o e) ≡ o
restored_lists o e classed size =
    let of : ClassId → List Value → OwnClass = λ c vs. record { class = c; state = o.state; statics = vs } in
    ap (λ c. of c (map (λ (f : StaticField). f.value) (with_values e.statics o.statics))) (sym classed)
    ∙ ap (of o.class) (values-with_values e.statics o.statics size)

same_indices_restored : (list : List OwnClass) (parts : List ClassPart) (k : ℕ) (e : ClassPart) (h : RestoredAt list parts k e) → indices e ≡ indices h.old
same_indices_restored list parts k e h = by_side h.from
  where
    by_side : ((o : OwnClass) × Contains list o × (o.class ≡ h.old.class) × (e ≡ restored o h.old))
        ⊎ (((o : OwnClass) → Contains list o → o.class ≡ h.old.class → ⊥) × (e ≡ h.old)) → indices e ≡ indices h.old
    by_side (inl (o, has, classed, is)) = ap indices is ∙ indices-with_values h.old.statics o.statics
    by_side (inr (none, is)) = ap indices is

-- ---- The state.

-- the first state with the parts
abbrev pub with_parts : OwnState → OwnParts → OwnState
with_parts first parts = record {
  classes = restored_all parts.classes first.classes;
  literals = map literal_from parts.literals;
  out = parts.out;
  standing = parts.standing;
}

pub restored_is_state : (classes : List ClassRecord) (table : List NamedClass) (first own : OwnState) (parts : OwnParts) → IsOwnState classes table first
    → IsOwnState classes table own → ArePartsOf own parts → IsOwnState classes table (with_parts first parts)
restored_is_state classes table first own parts f s are = record {
  each = λ e has. let at = stands_at (restored_all parts.classes first.classes) e has in each_is e at.place at.there;
  all = λ c r h. still_has parts.classes first.classes c (f.all c r h);
  classes_differ =
      λ i j a b p q e.
      let x = restored_at parts.classes first.classes i a differ p in
      let y = restored_at parts.classes first.classes j b differ q in
      f.classes_differ i j x.old y.old x.there y.there (sym x.class ∙ e ∙ y.class);
  literals_differ =
      λ i j a b p q e.
      let x = comes_from literal_from parts.literals i a p in
      let y = comes_from literal_from parts.literals j b q in
      texts_of_parts_differ own parts s.literals_differ are i j x.from y.from x.there y.there
      (ap (λ (l : Literal). l.text) x.gives ∙ e ∙ sym (ap (λ (l : Literal). l.text) y.gives));
  standing = ap length are.standing ∙ s.standing;
}
  where
    differ : DifferentClasses parts.classes
    differ = classes_of_parts_differ own parts s.classes_differ are

    each_is : (e : ClassPart) (k : ℕ) → slice_get (restored_all parts.classes first.classes) k ≡ Some e
        → (r : ClassRecord) × HasPart classes table e.class r × IsPartFor r e
    each_is e k at =
        let h = restored_at parts.classes first.classes k e differ at in
        let x = f.each h.old (Contains-at first.classes k h.old h.there) in
        let of : ClassId → Type 0 = λ c. HasPart classes table c x.0 in
        (x.0, subst of (sym h.class) x.1, same_indices_restored parts.classes first.classes k e h ∙ x.2)

-- the rooms that were there are kept
pub restored_has_rooms : (classes : List ClassRecord) (table : List NamedClass) (first : KeptState) (parts : OwnParts) → HasRooms classes table first
    → AreKnown first.rooms parts → HasRooms classes table (record { state = with_parts first.state parts; rooms = first.rooms })
restored_has_rooms classes table first parts has known = record {
  texts = has.texts;
  rooms_differ = has.rooms_differ;
  literals =
      λ l on.
      let at = stands_at (map literal_from parts.literals) l on in
      let x = comes_from literal_from parts.literals at.place l at.there in
      rw (ap (λ (y : Literal). y.text) x.gives) at (known x.from (Contains-at parts.literals at.place x.from x.there));
}

images_again : (images : List LiteralImage) → map literal_image (map literal_from images) ≡ images
images_again [] = refl
images_again (l ∷ images) = ap (λ (xs : List LiteralImage). l ∷ xs) (images_again images)

-- a restored part lists a listed part
record ListsOne (parts : OwnParts) (e : ClassPart) : Type 0 where
  from : OwnClass
  has : Contains parts.classes from
  is : own_class e ≡ from

found_first : (first : OwnState)
    → ((i j : ℕ) (a b : ClassPart) → slice_get first.classes i ≡ Some a → slice_get first.classes j ≡ Some b → a.class ≡ b.class → i ≡ j)
    → (k : ℕ) (e : ClassPart) (c : ClassId) → slice_get first.classes k ≡ Some e → c ≡ e.class → part_in first.classes c ≡ Some e
found_first first differ k e c at same =
    found_at number first.classes k c.0 e (λ i j a b p q d. differ i j a b p q (same_class a.class b.class d)) at (sym (ap (λ (x : ClassId). x.0) same))

lists_one : (classes : List ClassRecord) (table : List NamedClass) (first own : OwnState) (parts : OwnParts) → IsOwnState classes table first
    → IsOwnState classes table own → ArePartsOf own parts → (e : ClassPart) (k : ℕ) → slice_get (restored_all parts.classes first.classes) k ≡ Some e
    → ListsOne parts e
lists_one classes table first own parts f s are e k at =
    let h = restored_at parts.classes first.classes k e (classes_of_parts_differ own parts s.classes_differ are) at in
    by_side h.old h.there h.from
  where
    no_part : (old : ClassPart) → Contains first.classes old → ((o : OwnClass) → Contains parts.classes o → o.class ≡ old.class → ⊥) → ⊥
    no_part old has none =
        let x = f.each old has in
        let y = s.all old.class x.0 x.1 in
        let at = found_stands number own.classes old.class.0 y.0 y.1 in
        none (own_class y.0) (lists own parts y.0 are (Contains-at own.classes at.place y.0 at.there)) (same_class y.0.class old.class at.is)

    by_side : (old : ClassPart) → slice_get first.classes k ≡ Some old
        → ((o : OwnClass) × Contains parts.classes o × (o.class ≡ old.class) × (e ≡ restored o old))
        ⊎ (((o : OwnClass) → Contains parts.classes o → o.class ≡ old.class → ⊥) × (e ≡ old)) → ListsOne parts e
    by_side old there (inl (o, has, classed, is)) =
        let found = found_first first f.classes_differ k old o.class there classed in
        let size : length o.statics ≡ length old.statics = parts_fit classes table first own parts f s are o has old found in
        record { from = o; has = has; is = ap own_class is ∙ restored_lists o old classed size }
    by_side old there (inr (none, is)) = absurd (no_part old (Contains-at first.classes k old there) none)

same_listed : (list : List OwnClass) (a b : OwnClass) → DifferentClasses list → Contains list a → Contains list b → a.class ≡ b.class → a ≡ b
same_listed list a b d ha hb e =
    let x = stands_at list a ha in
    let y = stands_at list b hb in
    let here : x.place ≡ y.place = d x.place y.place a b x.there y.there (ap (λ (c : ClassId). c.0) e) in
    same_Some a b (sym x.there ∙ ap (slice_get list) here ∙ y.there)

each_listed : (classes : List ClassRecord) (table : List NamedClass) (first own : OwnState) (parts : OwnParts) → IsOwnState classes table first
    → IsOwnState classes table own → ArePartsOf own parts → (o : OwnClass) → Contains parts.classes o
    → Contains (map own_class (restored_all parts.classes first.classes)) o
each_listed classes table first own parts f s are o has =
    let new = restored_all parts.classes first.classes in
    let l = is_listed own parts o are has in
    let x = s.each l.part l.has in
    let y = still_has parts.classes first.classes l.part.class (f.all l.part.class x.0 x.1) in
    let at = found_stands number new l.part.class.0 y.0 y.1 in
    let one = lists_one classes table first own parts f s are y.0 at.place at.there in
    let classed : one.from.class ≡ o.class =
    sym (ap (λ (z : OwnClass). z.class) one.is) ∙ same_class y.0.class l.part.class at.is ∙ ap (λ (z : OwnClass). z.class) l.is in
    let same : one.from ≡ o = same_listed parts.classes one.from o (classes_of_parts_differ own parts s.classes_differ are) one.has has classed in
    Contains-at (map own_class new) at.place o (mapped_at own_class new at.place y.0 at.there ∙ ap Some (one.is ∙ same))

each_lists : (classes : List ClassRecord) (table : List NamedClass) (first own : OwnState) (parts : OwnParts) → IsOwnState classes table first
    → IsOwnState classes table own → ArePartsOf own parts → (o : OwnClass) → Contains (map own_class (restored_all parts.classes first.classes)) o
    → Contains parts.classes o
each_lists classes table first own parts f s are o has =
    let new = restored_all parts.classes first.classes in
    let at = stands_at (map own_class new) o has in
    let x = comes_from own_class new at.place o at.there in
    let one = lists_one classes table first own parts f s are x.from at.place x.there in
    rw (sym one.is ∙ x.gives) at one.has

pub restored_has_parts : (classes : List ClassRecord) (table : List NamedClass) (first own : OwnState) (parts : OwnParts) → IsOwnState classes table first
    → IsOwnState classes table own → ArePartsOf own parts → ArePartsOf (with_parts first parts) parts
restored_has_parts classes table first own parts f s are =
    let new = restored_all parts.classes first.classes in
    let state = restored_is_state classes table first own parts f s are in
    let differ = classes_of_parts_differ own parts s.classes_differ are in
    record {
      classes =
          permuted (map own_class new) parts.classes (all_differ (map own_class new) (new_differ new state.classes_differ))
          (all_differ parts.classes (λ i j o p q. differ i j o o p q refl)) (each_lists classes table first own parts f s are)
          (each_listed classes table first own parts f s are);
      literals = rw images_again (IsPermutation-refl parts.literals);
      out = refl;
      standing = refl;
    }
  where
    new_differ : (new : List ClassPart) → ((i j : ℕ) (a b : ClassPart) → slice_get new i ≡ Some a → slice_get new j ≡ Some b → a.class ≡ b.class → i ≡ j)
        → (i j : ℕ) (o : OwnClass) → slice_get (map own_class new) i ≡ Some o → slice_get (map own_class new) j ≡ Some o → i ≡ j
    new_differ new h i j o p q =
        let x = comes_from own_class new i o p in
        let y = comes_from own_class new j o q in
        h i j x.from y.from x.there y.there (ap (λ (z : OwnClass). z.class) (x.gives ∙ sym y.gives))
