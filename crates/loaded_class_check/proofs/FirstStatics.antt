-- A domain that begins has each static field of its own classes, and rooms for their texts. A name that is given keeps the classes
-- of all names there.
use Rattle.std.proofs.Common.{◌≡◌, ◌∙◌, ℕ, zero, suc, ◌+◌, inl, inr, Bool, true, false, List, [], ◌∷◌, map, filter, find, Some, slice_get, refl, ap, arith}
use Rattle.std.specs.Prelude.{Contains, IsTrue, ◌==◌}
use Rattle.std.specs.List.{enumerate_from}
use Rattle.std.specs.Option.{option_map}
use Rattle.std.proofs.lemmas.Bool.{eq-eqb, eqb-true, ne_eqb}
use Rattle.std.proofs.lemmas.List.Elements.{Contains-push_cases}
use Rattle.std.proofs.lemmas.Option.{same_Some}
use Rattle.list_lemmas.proofs.FoundItems.{Finds, finds}
use Rattle.list_lemmas.proofs.ItemsOfLists.{Contains-at}
use Rattle.jk_model.specs.Flags.{has, STATIC}
use Rattle.jk_model.specs.declared.identifiers.ClassId.{ClassId}
use Rattle.jk_model.specs.declared.values.Value.{Value}
use Rattle.jk_model_classes.specs.declared.records.ClassRecord.{ClassRecord}
use Rattle.jk_model_classes.specs.declared.records.FieldRecord.{FieldRecord}
use Rattle.jk_model_classes.specs.declared.records.Link.TheVariants as To
use Rattle.jk_model_classes.specs.Classes.{HasClass, record_of}
use Rattle.jk_model_classes.specs.Worlds.{Gives, IsNamed, NamedClass}
use Rattle.class_init.specs.KeptStates.{HasFirstRooms, KeptState}
use Rattle.class_init.specs.MissingTexts.{HasTextConstant}
use Rattle.jk_model_domains.specs.OwnStates.{ClassPart, HasPart, HasStatic, IsFirstState, OwnState, StaticField, first_statics, first_value, is_static_field}

-- ---- Names.

-- where a name is given for a class that is there, the classes of all names stay there
pub given_is_there : (classes : List ClassRecord) (old new : List NamedClass) (name : List ℕ) (c : ClassId) (given : Bool)
    → Gives old name c given new → HasClass classes c → ((d : ClassId) → IsNamed old d → HasClass classes d)
    → (d : ClassId) → IsNamed new d → HasClass classes d
given_is_there classes old new name c given (inl (free, told, is)) there before d (n, named) =
    elim (Contains-push_cases old (record { name = name; class = c }) (record { name = n; class = d }) (rw is at named)) [
      | inl has ↦ before d (n, has)
      | inr same ↦ (let e : c ≡ d = ap (λ (x : NamedClass). x.class) same in rw (← e) there)
    ]
given_is_there classes old new name c given (inr (inl (taken, told, is))) there before d (n, named) = before d (n, rw is at named)
given_is_there classes old new name c given (inr (inr (other, taken, differ, told, is))) there before d (n, named) = before d (n, rw is at named)

-- ---- Static fields.

abbrev first_static : ℕ × FieldRecord → StaticField
first_static p = record { index = p.0; value = first_value p.1.kind p.1.constant }

abbrev statics_after : ℕ → List FieldRecord → List StaticField
statics_after n fields = map first_static (filter is_static_field (enumerate_from n fields))

-- a static field among these, of which the first has the place n, has a value at its place
abbrev HasValue : List StaticField → ℕ → Type 0
HasValue statics i = (v : Value) × (option_map (λ (f : StaticField). f.value) (find (λ (f : StaticField). f.index == i) statics) ≡ Some v)

static_there : (n : ℕ) (fields : List FieldRecord) (k : ℕ) (f : FieldRecord) → slice_get fields k ≡ Some f → IsTrue (has f.flags STATIC)
    → HasValue (statics_after n fields) (n + k)
static_there n [] k f at is = absurd cc
static_there n (g ∷ fields) zero f at is =
    let on : is_static_field (n, g) ≡ true = ap (λ (x : FieldRecord). has x.flags STATIC) (same_Some g f at) ∙ is in
    let here : n == (n + 0) ≡ true = eq-eqb n (n + 0) (omega arith) in
    rw (on, here) (first_value g.kind g.constant, refl)
static_there n (g ∷ fields) (suc k) f at is =
    let later : HasValue (statics_after (n + 1) fields) ((n + 1) + k) = static_there (n + 1) fields k f at is in
    let same : (n + 1) + k ≡ n + suc k = omega arith in
    let other : n == (n + suc k) ≡ false = ne_eqb n (n + suc k) (λ e. omega arith) in
    by_test (is_static_field (n, g)) refl other (rw same at later)
  where
    by_test : (b : Bool) → is_static_field (n, g) ≡ b → n == (n + suc k) ≡ false → HasValue (statics_after (n + 1) fields) (n + suc k)
        → HasValue (statics_after n (g ∷ fields)) (n + suc k)
    by_test true t other later = rw (t, other) later
    by_test false t other later = rw t later

same_class : (a b : ClassId) → a.0 ≡ b.0 → a ≡ b
same_class a b e = ap (λ (n : ℕ). let c : ClassId = record { 0 = n } in c) e

pub has_first_static : (classes : List ClassRecord) (table : List NamedClass) (own : OwnState) (c : ClassId) (r : ClassRecord) (index : ℕ)
    (f : FieldRecord) → IsFirstState classes table own → HasPart classes table c r → slice_get r.fields index ≡ Some f
    → IsTrue (has f.flags STATIC) → HasStatic own (record { class = c; index = index })
has_first_static classes table own c r index f h part at is =
    let e = (h.state.all c r part).0 in
    let found : find (λ (x : ClassPart). x.class.0 == c.0) own.classes ≡ Some e = (h.state.all c r part).1 in
    let stands : Finds (λ (x : ClassPart). x.class.0 == c.0) own.classes (Some e) = rw found at (finds (λ (x : ClassPart). x.class.0 == c.0) own.classes) in
    let same : e.class ≡ c = same_class e.class c (eqb-true e.class.0 c.0 stands.2) in
    let begins : e.statics ≡ first_statics r =
    h.statics e r (Contains-at own.classes stands.0 e stands.1) (ap (record_of classes) same ∙ part.1) in
    let from_none : 0 + index ≡ index = omega arith in
    let there : HasValue (statics_after 0 r.fields) index = rw from_none at (static_there 0 r.fields index f at is) in
    let v : HasValue e.statics index = rw begins there in
    (v.0, rw found v.1)

-- ---- Texts.

pub link_has_room : (classes : List ClassRecord) (table : List NamedClass) (kept : KeptState) (c : ClassId) (r : ClassRecord) (k : ℕ) (text : List ℕ)
    → HasFirstRooms classes table kept → HasPart classes table c r → slice_get r.links k ≡ Some (To.Text text) → Contains kept.rooms text
link_has_room classes table kept c r k text h part at =
    h.rooms.texts text (c, r, part.0, part.1, inl (Contains-at r.links k (To.Text text) at))

pub constant_has_room : (classes : List ClassRecord) (table : List NamedClass) (kept : KeptState) (c : ClassId) (r : ClassRecord)
    → HasFirstRooms classes table kept → HasPart classes table c r
    → (f : FieldRecord) (text : List ℕ) → Contains r.fields f → HasTextConstant f text → Contains kept.rooms text
constant_has_room classes table kept c r h part f text has constant =
    h.rooms.texts text (c, r, part.0, part.1, inr (f, has, constant.is))
