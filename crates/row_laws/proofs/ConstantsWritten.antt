-- A domain stays sealed inside where the static fields of a class that have constant texts get the objects of those texts.
use Rattle.std.proofs.Common.{inl, inr, ◌≡◌, ◌⊎◌, ℕ, ◌==◌, Bool, true, false, cond, List, [], ◌∷◌, map, find, Option, Some, None, slice_get, option_map, refl, sym, ap, subst, ◌∙◌}
use Rattle.std.specs.Prelude.{if◌then◌else◌, option_and_then}
use Rattle.std.specs.Option.{option_map_or}
use Rattle.std.proofs.lemmas.Bool.{eqb-true}
use Rattle.std.proofs.lemmas.Option.{same_Some}
use Rattle.list_lemmas.proofs.FoundItems.{Finds, finds}
use Rattle.list_lemmas.proofs.ItemsByPlace.{comes_from}
use Rattle.list_lemmas.proofs.ItemsOfLists.{Contains-at, stands_at}
use Rattle.model_lemmas.proofs.SameNumbers.{same_class}
use Rattle.jk_model.specs.declared.identifiers.ClassId.{ClassId}
use Rattle.jk_model.specs.declared.identifiers.MemberId.{MemberId}
use Rattle.jk_model.specs.declared.values.Value.{Value}
use Rattle.jk_model.specs.declared.values.Value.TheVariants as Held
use Rattle.jk_model_classes.specs.declared.records.ClassRecord.{ClassRecord}
use Rattle.jk_model_classes.specs.declared.records.FieldRecord.{FieldRecord}
use Rattle.jk_model_classes.specs.declared.records.Link.{Link}
use Rattle.jk_model_classes.specs.declared.records.Link.TheVariants as To
use Rattle.jk_model_classes.specs.declared.records.TypeRef.{TypeRef}
use Rattle.jk_model_classes.specs.Classes.{record_of}
use Rattle.jk_model_classes.specs.Lookups.{FieldIs}
use Rattle.jk_model_classes.specs.Worlds.{NamedClass}
use Rattle.jk_model_typing.specs.FrameTypes.{STRING}
use Rattle.jk_model_domains.specs.declared.states.ClassState.TheVariants as State
use Rattle.jk_model_domains.specs.Objects.{Text, class_type}
use Rattle.jk_model_domains.specs.OwnStates.{ClassPart, HasPart, IsOwnState, OwnState, StaticField, literal_named, state_of, static_in, static_of}
use Rattle.jk_model_heaps.specs.Workings.{Inside, with_own}
use Rattle.jk_model_heap_rows.specs.Constants.{constant_text, with_constant, with_constants}
use Rattle.jk_model_sealing.specs.SealedInsides.{IsSealedInside, Surroundings}
use Rattle.row_laws.proofs.LiteralsLoaded.{found_literal}
use Rattle.heap_laws.specs.FittingOutcomes.{IsOfType}
use Rattle.heap_laws.specs.SoundCodes.{AreSoundCodes, SuitsType}
use Rattle.row_laws.proofs.InstancesFitTypes.{instance_fits}

-- ---- Items that are changed, but for what a test asks of them.

module _ {X : Type 0} (f : X → X) (p : X → Bool) (same : (x : X) → p (f x) ≡ p x) where
  found_by : (x : X) (o q : Option X) (a b : Bool) → a ≡ b → q ≡ option_map f o → cond a (Some (f x)) q ≡ option_map f (cond b (Some x) o)
  found_by x o q a true e rest = ap (λ (t : Bool). cond t (Some (f x)) q) e
  found_by x o q a false e rest = ap (λ (t : Bool). cond t (Some (f x)) q) e ∙ rest

  find_mapped : (xs : List X) → find p (map f xs) ≡ option_map f (find p xs)
  find_mapped [] = refl
  find_mapped (x ∷ xs) = found_by x (find p xs) (find p (map f xs)) (p (f x)) (p x) (same x) (find_mapped xs)

-- ---- Parts that keep their classes and the places of their static fields.

abbrev indices : List StaticField → List ℕ
indices statics = map (λ (f : StaticField). f.index) statics

module _ (f : ClassPart → ClassPart) (class : (e : ClassPart) → (f e).class ≡ e.class)
    (places : (e : ClassPart) → indices (f e).statics ≡ indices e.statics) where
  part_mapped : (ps : List ClassPart) (d : ClassId)
      → find (λ (e : ClassPart). e.class.0 == d.0) (map f ps) ≡ option_map f (find (λ (e : ClassPart). e.class.0 == d.0) ps)
  part_mapped ps d = find_mapped f (λ (e : ClassPart). e.class.0 == d.0) (λ e. ap (λ (k : ClassId). k.0 == d.0) (class e)) ps

  class_from : (x e : ClassPart) → f x ≡ e → x.class ≡ e.class
  class_from x e gives = sym (class x) ∙ ap (λ (y : ClassPart). y.class) gives

  own_mapped : (classes : List ClassRecord) (table : List NamedClass) (own : OwnState) → IsOwnState classes table own
      → IsOwnState classes table (record own { classes = map f own.classes })
  own_mapped classes table own h = record {
    each = λ e has.
        let at = stands_at (map f own.classes) e has in
        let from = comes_from f own.classes at.0 e at.2 in
        let old = h.each from.from (Contains-at own.classes at.0 from.from from.there) in (
          old.0,
          subst (λ (d : ClassId). HasPart classes table d old.0) (class_from from.from e from.gives) old.1,
          sym (ap (λ (y : ClassPart). indices y.statics) from.gives) ∙ places from.from ∙ old.2,
        );
    all = λ d r part. let x = h.all d r part in (f x.0, part_mapped own.classes d ∙ ap (option_map f) x.1);
    classes_differ = λ i j a b first second e.
        let x = comes_from f own.classes i a first in
        let y = comes_from f own.classes j b second in
        h.classes_differ i j x.from y.from x.there y.there (class_from x.from a x.gives ∙ e ∙ sym (class_from y.from b y.gives));
    literals_differ = h.literals_differ;
    standing = h.standing;
  }

-- ---- A class's static fields with constant texts.

pub index_by : (f : StaticField) (o : Option ℕ) → (option_map_or (λ (a : ℕ). record f { value = Held.Obj a }) o f).index ≡ f.index
index_by f None = refl
index_by f (Some a) = refl

module _ (own : OwnState) (c : ClassId) (r : ClassRecord) where
  abbrev constant_of : StaticField → Option ℕ
  constant_of f = option_and_then (literal_named own) (constant_text r f.index)

  index_stays : (f : StaticField) → (with_constant own r f).index ≡ f.index
  index_stays f = index_by f (constant_of f)

  indices_stay : (fs : List StaticField) → indices (map (with_constant own r) fs) ≡ indices fs
  indices_stay [] = refl
  indices_stay (f ∷ fs) =
      ap (λ (n : ℕ). n ∷ indices (map (with_constant own r) fs)) (index_stays f) ∙ ap (λ (ns : List ℕ). f.index ∷ ns) (indices_stay fs)

  abbrev part_then : Bool → ClassPart → ClassPart
  part_then b e = if b then (record e { statics = map (with_constant own r) e.statics }) else e

  abbrev changed : ClassPart → ClassPart
  changed e = part_then (e.class.0 == c.0) e

  class_by : (e : ClassPart) (b : Bool) → (part_then b e).class ≡ e.class
  class_by e true = refl
  class_by e false = refl

  state_by : (e : ClassPart) (b : Bool) → (part_then b e).state ≡ e.state
  state_by e true = refl
  state_by e false = refl

  places_by : (e : ClassPart) (b : Bool) → indices (part_then b e).statics ≡ indices e.statics
  places_by e true = indices_stay e.statics
  places_by e false = refl

  constants_own : (classes : List ClassRecord) (table : List NamedClass) → IsOwnState classes table own
      → IsOwnState classes table (with_constants c r own)
  constants_own classes table h =
      own_mapped changed (λ e. class_by e (e.class.0 == c.0)) (λ e. places_by e (e.class.0 == c.0)) classes table own h

  -- each class stays as far initialised as it was
  pub states_stay : (d : ClassId) → state_of (with_constants c r own) d ≡ state_of own d
  states_stay d =
      ap (λ (o : Option ClassPart). option_map_or (λ (e : ClassPart). e.state) o State.Done)
      (part_mapped changed (λ e. class_by e (e.class.0 == c.0)) (λ e. places_by e (e.class.0 == c.0)) own.classes d)
      ∙ by_part (find (λ (e : ClassPart). e.class.0 == d.0) own.classes)
    where
      by_part : (o : Option ClassPart) → option_map_or (λ (e : ClassPart). e.state) (option_map changed o) State.Done
          ≡ option_map_or (λ (e : ClassPart). e.state) o State.Done
      by_part None = refl
      by_part (Some e) = state_by e (e.class.0 == c.0)

  -- ---- What a static field holds then: what it held, or the object of its text.

  record IsConstant (m : MemberId) (w : Value) : Type 0 where
    class : m.class ≡ c
    text : List ℕ
    object : ℕ
    said : constant_text r m.index ≡ Some text
    named : literal_named own text ≡ Some object
    holds : w ≡ Held.Obj object

  abbrev Told : MemberId → Value → Type 0
  Told m w = (static_of own m ≡ Some w) ⊎ IsConstant m w

  module _ (m : MemberId) (w : Value) where
    text_by : (f : StaticField) (a : ℕ) (o : Option (List ℕ)) → m.class ≡ c → f.index ≡ m.index → constant_text r f.index ≡ o
        → option_and_then (literal_named own) o ≡ Some a → w ≡ Held.Obj a → IsConstant m w
    text_by f a None class index is named holds = absurd cc
    text_by f a (Some text) class index is named holds = record {
      class = class;
      text = text;
      object = a;
      said = subst (λ (n : ℕ). constant_text r n ≡ Some text) index is;
      named = named;
      holds = holds;
    }

    abbrev value_there : ClassPart → StaticField → Type 0
    value_there e f = (m.class ≡ c) × (f.index ≡ m.index) × (f.value ≡ w → static_of own m ≡ Some w)

    constant_by : (e : ClassPart) (f : StaticField) (o : Option ℕ) → value_there e f → constant_of f ≡ o
        → (option_map_or (λ (a : ℕ). record f { value = Held.Obj a }) o f).value ≡ w → Told m w
    constant_by e f None (class, index, held) is gives = inl (held gives)
    constant_by e f (Some a) (class, index, held) is gives = inr (text_by f a (constant_text r f.index) class index refl is (sym gives))

    abbrev at_index : StaticField → Bool
    at_index f = f.index == m.index

    field_by : (e : ClassPart) (o : Option StaticField) → m.class ≡ c → find (λ (x : ClassPart). x.class.0 == m.class.0) own.classes ≡ Some e
        → find at_index e.statics ≡ o → option_map (λ (f : StaticField). f.value) (option_map (with_constant own r) o) ≡ Some w → Told m w
    field_by e None class part found is = absurd cc
    field_by e (Some f) class part found is =
        let gives : (with_constant own r f).value ≡ w = same_Some (with_constant own r f).value w is in
        let at = subst (Finds at_index e.statics) found (finds at_index e.statics) in
        let held : f.value ≡ w → static_of own m ≡ Some w =
        (λ same. ap (λ (o : Option ClassPart). option_and_then (static_in m.index) o) part
        ∙ ap (λ (o : Option StaticField). option_map (λ (y : StaticField). y.value) o) found ∙ ap (λ (v : Value). Some v) same) in
        constant_by e f (constant_of f) (class, eqb-true f.index m.index at.2, held) refl gives

    class_told : (e : ClassPart) → find (λ (x : ClassPart). x.class.0 == m.class.0) own.classes ≡ Some e → e.class.0 == c.0 ≡ true → m.class ≡ c
    class_told e part is =
        let at = subst (Finds (λ (x : ClassPart). x.class.0 == m.class.0) own.classes) part
        (finds (λ (x : ClassPart). x.class.0 == m.class.0) own.classes) in
        same_class m.class c (sym (eqb-true e.class.0 m.class.0 at.2) ∙ eqb-true e.class.0 c.0 is)

    part_by : (e : ClassPart) (b : Bool) → e.class.0 == c.0 ≡ b → find (λ (x : ClassPart). x.class.0 == m.class.0) own.classes ≡ Some e
        → static_in m.index (part_then b e) ≡ Some w → Told m w
    part_by e false test part is = inl (ap (λ (o : Option ClassPart). option_and_then (static_in m.index) o) part ∙ is)
    part_by e true test part is =
        field_by e (find at_index e.statics) (class_told e part test) part refl
        (sym (ap (λ (o : Option StaticField). option_map (λ (f : StaticField). f.value) o)
        (find_mapped (with_constant own r) at_index (λ f. ap (λ (n : ℕ). n == m.index) (index_stays f)) e.statics)) ∙ is)

    told_by : (o : Option ClassPart) → find (λ (x : ClassPart). x.class.0 == m.class.0) own.classes ≡ o
        → option_and_then (static_in m.index) (option_map changed o) ≡ Some w → Told m w
    told_by None part is = absurd cc
    told_by (Some e) part is = part_by e (e.class.0 == c.0) refl part is

    told : static_of (with_constants c r own) m ≡ Some w → Told m w
    told is =
        told_by (find (λ (x : ClassPart). x.class.0 == m.class.0) own.classes) refl
        (sym (ap (λ (o : Option ClassPart). option_and_then (static_in m.index) o)
        (part_mapped changed (λ e. class_by e (e.class.0 == c.0)) (λ e. places_by e (e.class.0 == c.0)) own.classes m.class)) ∙ is)

-- ---- The domain's inside.

abbrev text_said : Link → Option (List ℕ)
text_said (To.Text text) = Some text
text_said link = None

said_by : (text : List ℕ) (link : Link) → text_said link ≡ Some text → link ≡ To.Text text
said_by text (To.Text other) e = ap To.Text (same_Some other text e)
said_by text link e = absurd cc

module _ (around : Surroundings) (sound : AreSoundCodes around.classes) (quota : ℕ) (inside : Inside) (sealed : IsSealedInside around quota inside)
    (c : ClassId) (r : ClassRecord) (is_class : record_of around.classes c ≡ Some r) where
  constant_fits : (m : MemberId) (w : Value) (field : FieldRecord) → FieldIs around.classes m field → IsConstant inside.own c r m w
      → IsOfType around inside.heap field.kind w
  constant_fits m w field (q, is_q, at) k =
      let one : q ≡ r = same_Some q r (sym is_q ∙ ap (λ (d : ClassId). record_of around.classes d) k.class ∙ is_class) in
      let here : slice_get r.fields m.index ≡ Some field = subst (λ (y : ClassRecord). slice_get y.fields m.index ≡ Some field) one at in
      let said : text_said field.constant ≡ Some k.text =
      sym (ap (λ (o : Option FieldRecord). option_and_then (λ (f : FieldRecord). text_said f.constant) o) here) ∙ k.said in
      let suits = sound.constants m field (q, is_q, at) in
      let kind : field.kind ≡ class_type STRING = subst (SuitsType field.kind) (said_by k.text field.constant said) suits in
      let there = found_literal around quota inside sealed k.text k.object k.named in
      let fits : IsOfType around inside.heap (class_type STRING) (Held.Obj k.object) = (
        (Text k.text, there, instance_fits around.classes sound (class_type STRING) (class_type STRING) (inl refl)),
        (Text k.text, there),
      ) in
      subst (λ (t : TypeRef). IsOfType around inside.heap t w) (sym kind)
      (subst (λ (y : Value). IsOfType around inside.heap (class_type STRING) y) (sym k.holds) fits)

  pub constants_sealed : IsSealedInside around quota (with_own inside (with_constants c r inside.own))
  constants_sealed = record {
    names_differ = sealed.names_differ;
    own = constants_own inside.own c r around.classes around.table sealed.own;
    objects = sealed.objects;
    out = sealed.out;
    standing = sealed.standing;
    literals = sealed.literals;
    statics = λ m v field is of. elim (told inside.own c r m v is) [
      | inl was ↦ sealed.statics m v field was of
      | inr constant ↦ constant_fits m v field of constant
    ];
    words = sealed.words;
  }
