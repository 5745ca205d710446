-- The static fields of a class with constant texts, with one field more: all literals have their objects.
use Rattle.std.proofs.Common.{◌≡◌, ℕ, zero, suc, ◌==◌, Bool, true, false, List, [], ◌∷◌, ◌++◌, length, map, Contains, Option, Some, None, slice_get, refl, sym, ap, ◌∙◌}
use Rattle.std.specs.Prelude.{if◌then◌else◌, option_and_then}
use Rattle.std.specs.Option.{option_map_or}
use Rattle.std.proofs.lemmas.Bool.{eq-eqb, eqb-true}
use Rattle.std.proofs.lemmas.List.{map-id}
use Rattle.list_lemmas.proofs.ItemsOfLists.{Contains-here, Contains-there}
use Rattle.model_lemmas.proofs.SameNumbers.{same_class}
use Rattle.jk_model.specs.declared.identifiers.ClassId.{ClassId}
use Rattle.jk_model.specs.declared.identifiers.MemberId.{MemberId}
use Rattle.jk_model.specs.declared.values.Value.TheVariants as Held
use Rattle.jk_model_classes.specs.declared.records.ClassRecord.{ClassRecord}
use Rattle.jk_model_classes.specs.declared.records.FieldRecord.{FieldRecord}
use Rattle.jk_model_classes.specs.declared.records.Link.{Link}
use Rattle.jk_model_classes.specs.declared.records.Link.TheVariants as To
use Rattle.jk_model_domains.specs.OwnStates.{ClassPart, OwnState, StaticField, literal_named, with_field, with_static}
use Rattle.jk_model_heap_rows.specs.Constants.{constant_text, with_constant, with_constants}
use Rattle.row_laws.proofs.ConstantsWritten.{index_by}
use Rattle.heap_ops.proofs.TextsInTurn.{of_fields}

-- ---- The field at the end of a list.

none_at_end : {X : Type 0} (xs : List X) → slice_get xs (length xs) ≡ None
none_at_end [] = refl
none_at_end (x ∷ xs) = none_at_end xs

at_end : {X : Type 0} (xs : List X) (x : X) → slice_get (xs ++ x ∷ []) (length xs) ≡ Some x
at_end [] x = refl
at_end (y ∷ xs) x = at_end xs x

elsewhere : {X : Type 0} (xs : List X) (x : X) (k : ℕ) → (k ≡ length xs → ⊥) → slice_get (xs ++ x ∷ []) k ≡ slice_get xs k
elsewhere [] x zero other = absurd (other refl)
elsewhere [] x (suc k) other = refl
elsewhere (y ∷ xs) x zero other = refl
elsewhere (y ∷ xs) x (suc k) other = elsewhere xs x k (λ e. other (ap suc e))

map_same : {X : Type 0} (f g : X → X) (xs : List X) → ((x : X) → f x ≡ g x) → map f xs ≡ map g xs
map_same f g [] h = refl
map_same f g (x ∷ xs) h = ap (λ (y : _). y ∷ map f xs) (h x) ∙ ap (λ (l : List _). g x ∷ l) (map_same f g xs h)

map_same_among : {X : Type 0} (f g : X → X) (xs : List X) → ((x : X) → Contains xs x → f x ≡ g x) → map f xs ≡ map g xs
map_same_among f g [] h = refl
map_same_among f g (x ∷ xs) h =
    ap (λ (y : _). y ∷ map f xs) (h x (Contains-here x xs))
    ∙ ap (λ (l : List _). g x ∷ l) (map_same_among f g xs (λ y has. h y (Contains-there y x xs has)))

map_twice : {X : Type 0} (f g h : X → X) (xs : List X) → ((x : X) → f (g x) ≡ h x) → map f (map g xs) ≡ map h xs
map_twice f g h [] e = refl
map_twice f g h (x ∷ xs) e = ap (λ (y : _). y ∷ map f (map g xs)) (e x) ∙ ap (λ (l : List _). h x ∷ l) (map_twice f g h xs e)

-- ---- Nothing is set before the first field.

pub index_stays : (own : OwnState) (r : ClassRecord) (g : StaticField) → (with_constant own r g).index ≡ g.index
index_stays own r g = index_by g (option_and_then (literal_named own) (constant_text r g.index))

module _ (c : ClassId) (own : OwnState) (r : ClassRecord) where
  abbrev none : ClassRecord
  none = of_fields r []

  none_in_part : (e : ClassPart) (b : Bool) → (let x : ClassPart = record e { statics = map (with_constant own none) e.statics } in if b then x else e) ≡ e
  none_in_part e true =
      ap (λ (l : List StaticField). let x : ClassPart = record e { statics = l } in x)
      (map_same (with_constant own none) (λ g. g) e.statics (λ g. refl) ∙ map-id e.statics)
  none_in_part e false = refl

  pub constants_none : with_constants c none own ≡ own
  constants_none =
      ap (λ (l : List ClassPart). let o : OwnState = record own { classes = l } in o)
      (map_same (λ e. let x : ClassPart = record e { statics = map (with_constant own none) e.statics } in if e.class.0 == c.0 then x else e) (λ e. e)
      own.classes (λ e. none_in_part e (e.class.0 == c.0)) ∙ map-id own.classes)

-- ---- One field more.

abbrev pub text_said : Link → Option (List ℕ)
text_said (To.Text text) = Some text
text_said link = None

abbrev said : Option FieldRecord → Option (List ℕ)
said o = option_and_then (λ (g : FieldRecord). text_said g.constant) o

module _ (c : ClassId) (own : OwnState) (r : ClassRecord) (fs : List FieldRecord) (f : FieldRecord) where
  abbrev n : ℕ
  n = length fs

  abbrev less : ClassRecord
  less = of_fields r fs

  abbrev more : ClassRecord
  more = of_fields r (fs ++ f ∷ [])

  abbrev valued : StaticField → Option (List ℕ) → StaticField
  valued g o = option_map_or (λ (a : ℕ). record g { value = Held.Obj a }) (option_and_then (literal_named own) o) g

  other_text : (k : ℕ) → (k ≡ n → ⊥) → constant_text more k ≡ constant_text less k
  other_text k other = ap said (elsewhere fs f k other)

  no_text_yet : constant_text less n ≡ None
  no_text_yet = ap said (none_at_end fs)

  its_text : constant_text more n ≡ text_said f.constant
  its_text = ap said (at_end fs f)

  differs : (k : ℕ) → (k == n) ≡ false → k ≡ n → ⊥
  differs k e same = let both : true ≡ false = sym (eq-eqb k n same) ∙ e in cc

  -- ---- Its constant is no text.

  module _ (no_text : text_said f.constant ≡ None) where
    same_text : (k : ℕ) (b : Bool) → (k == n) ≡ b → constant_text more k ≡ constant_text less k
    same_text k true e =
        let same = eqb-true k n e in
        ap (constant_text more) same ∙ its_text ∙ no_text ∙ sym no_text_yet ∙ sym (ap (constant_text less) same)
    same_text k false e = other_text k (differs k e)

    same_part : (e : ClassPart) (b : Bool) → (let x : ClassPart = record e { statics = map (with_constant own more) e.statics } in if b then x else e)
        ≡ (let x : ClassPart = record e { statics = map (with_constant own less) e.statics } in if b then x else e)
    same_part e true =
        ap (λ (l : List StaticField). let x : ClassPart = record e { statics = l } in x)
        (map_same (with_constant own more) (with_constant own less) e.statics (λ g. ap (valued g) (same_text g.index (g.index == n) refl)))
    same_part e false = refl

    pub constants_same : with_constants c more own ≡ with_constants c less own
    constants_same =
        ap (λ (l : List ClassPart). let o : OwnState = record own { classes = l } in o)
        (map_same (λ e. let x : ClassPart = record e { statics = map (with_constant own more) e.statics } in if e.class.0 == c.0 then x else e)
        (λ e. let x : ClassPart = record e { statics = map (with_constant own less) e.statics } in if e.class.0 == c.0 then x else e) own.classes
        (λ e. same_part e (e.class.0 == c.0)))

  -- ---- No static field of the class has its place.

  module _ (absent : (e : ClassPart) (g : StaticField) → Contains own.classes e → e.class ≡ c → Contains e.statics g → g.index ≡ n → ⊥) where
    same_there : (e : ClassPart) → Contains own.classes e → (b : Bool) → e.class.0 == c.0 ≡ b
        → (let x : ClassPart = record e { statics = map (with_constant own more) e.statics } in if b then x else e)
        ≡ (let x : ClassPart = record e { statics = map (with_constant own less) e.statics } in if b then x else e)
    same_there e among true is =
        ap (λ (l : List StaticField). let x : ClassPart = record e { statics = l } in x)
        (map_same_among (with_constant own more) (with_constant own less) e.statics
        (λ g has. ap (valued g) (other_text g.index (absent e g among (same_class e.class c (eqb-true e.class.0 c.0 is)) has))))
    same_there e among false is = refl

    pub constants_same_without : with_constants c more own ≡ with_constants c less own
    constants_same_without =
        ap (λ (l : List ClassPart). let o : OwnState = record own { classes = l } in o)
        (map_same_among (λ e. let x : ClassPart = record e { statics = map (with_constant own more) e.statics } in if e.class.0 == c.0 then x else e)
        (λ e. let x : ClassPart = record e { statics = map (with_constant own less) e.statics } in if e.class.0 == c.0 then x else e) own.classes
        (λ e among. same_there e among (e.class.0 == c.0) refl))

  -- ---- Its constant is a text.

  module _ (t : List ℕ) (a : ℕ) (says : text_said f.constant ≡ Some t) (named : literal_named own t ≡ Some a) where
    abbrev set : StaticField → StaticField
    set g = if g.index == n then (let x : StaticField = record g { value = Held.Obj a } in x) else g

    one_by : (g : StaticField) (b : Bool) → (g.index == n) ≡ b → set (with_constant own less g) ≡ with_constant own more g
    one_by g true e =
        let same = eqb-true g.index n e in
        let left : with_constant own less g ≡ g = ap (valued g) (ap (constant_text less) same ∙ no_text_yet) in
        let is : constant_text more g.index ≡ Some t = ap (constant_text more) same ∙ its_text ∙ says in
        let right : with_constant own more g ≡ (let x : StaticField = record g { value = Held.Obj a } in x) =
        ap (valued g) is ∙ ap (λ (o : Option ℕ). option_map_or (λ (b : ℕ). let x : StaticField = record g { value = Held.Obj b } in x) o g) named in
        ap set left ∙ ap (λ (b : Bool). if b then (let x : StaticField = record g { value = Held.Obj a } in x) else g) e ∙ sym right
    one_by g false e =
        let x : StaticField = with_constant own less g in
        let index : (x.index == n) ≡ false = ap (λ (k : ℕ). k == n) (index_by g (option_and_then (literal_named own) (constant_text less g.index))) ∙ e in
        ap (λ (b : Bool). if b then (let y : StaticField = record x { value = Held.Obj a } in y) else x) index
        ∙ ap (valued g) (sym (other_text g.index (differs g.index e)))

    part_set : (e : ClassPart) (b : Bool) → e.class.0 == c.0 ≡ b
        → (let x : ClassPart = record e { statics = map (with_constant own less) e.statics } in let y : ClassPart = if b then x else e in
        let z : ClassPart = record y { statics = with_field n (Held.Obj a) y.statics } in if y.class.0 == c.0 then z else y)
        ≡ (let x : ClassPart = record e { statics = map (with_constant own more) e.statics } in if b then x else e)
    part_set e true is =
        let x : ClassPart = record e { statics = map (with_constant own less) e.statics } in
        ap (λ (b : Bool). let z : ClassPart = record x { statics = with_field n (Held.Obj a) x.statics } in if b then z else x) is
        ∙ ap (λ (l : List StaticField). let z : ClassPart = record e { statics = l } in z)
        (map_twice set (with_constant own less) (with_constant own more) e.statics (λ g. one_by g (g.index == n) refl))
    part_set e false is =
        ap (λ (b : Bool). let z : ClassPart = record e { statics = with_field n (Held.Obj a) e.statics } in if b then z else e) is

    abbrev member : MemberId
    member = record { class = c; index = n }

    pub constant_set : with_static (with_constants c less own) member (Held.Obj a) ≡ with_constants c more own
    constant_set =
        ap (λ (l : List ClassPart). let o : OwnState = record own { classes = l } in o)
        (map_twice (λ e. let z : ClassPart = record e { statics = with_field n (Held.Obj a) e.statics } in if e.class.0 == c.0 then z else e)
        (λ e. let x : ClassPart = record e { statics = map (with_constant own less) e.statics } in if e.class.0 == c.0 then x else e)
        (λ e. let x : ClassPart = record e { statics = map (with_constant own more) e.statics } in if e.class.0 == c.0 then x else e) own.classes
        (λ e. part_set e (e.class.0 == c.0) refl))
