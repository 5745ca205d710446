-- A domain has each static field that the code of its classes names; a system class has System.out alone, which no code puts.
use Rattle.std.proofs.Common.{inl, inr, ◌≡◌, ◌≢◌, ℕ, zero, suc, ◌+◌, ◌==◌, ◌||◌, Bool, true, false, not, cond, List, [], ◌∷◌, map, filter, find, Contains, Option, Some, None, slice_get, refl, sym, ap, subst, ◌∙◌, arith}
use Rattle.std.specs.Prelude.{IsTrue, option_and_then, option_map}
use Rattle.std.specs.List.{enumerate_from, list_all}
use Rattle.std.proofs.lemmas.Bool.{eq-eqb, eqb-true}
use Rattle.std.proofs.lemmas.Option.{same_Some, slice_get_within}
use Rattle.list_lemmas.proofs.ItemsByPlace.{item_there}
use Rattle.list_lemmas.proofs.ItemsOfLists.{Contains-cases, Contains-here, Contains-none, Contains-there, passed_at}
use Rattle.model_lemmas.proofs.SameNumbers.{same_class}
use Rattle.jk_model.specs.Flags.{has, FINAL, STATIC}
use Rattle.jk_model.specs.SystemTable.{SystemClass, SystemField, system_classes}
use Rattle.jk_model.specs.declared.identifiers.ClassId.{ClassId}
use Rattle.jk_model.specs.declared.identifiers.DomainId.{DomainId}
use Rattle.jk_model.specs.declared.identifiers.MemberId.{MemberId}
use Rattle.jk_model.specs.declared.values.Value.{Value}
use Rattle.jk_model.specs.declared.values.Value.TheVariants as Held
use Rattle.jk_model_classes.specs.declared.records.Body.TheVariants as Does
use Rattle.jk_model_classes.specs.declared.records.ClassRecord.{ClassRecord}
use Rattle.jk_model_classes.specs.declared.records.FieldRecord.{FieldRecord}
use Rattle.jk_model_classes.specs.declared.records.LinkedCode.{LinkedCode}
use Rattle.jk_model_classes.specs.declared.records.MethodRecord.{MethodRecord}
use Rattle.jk_model_classes.specs.Classes.{record_of}
use Rattle.jk_model_classes.specs.Lookups.{FieldIs}
use Rattle.jk_model_classes.specs.SystemRecords.{IsSystemRecord}
use Rattle.jk_model_classes.specs.Worlds.{IsNamed}
use Rattle.jk_model_domains.specs.OwnStates.{ClassPart, HasStatic, StaticField, first_statics, first_value, is_static_field, static_in}
use Rattle.jk_model_heaps.specs.Workings.{Inside}
use Rattle.jk_model_heap_rows.specs.FieldRows.{IsStaticValue}
use Rattle.jk_model_sealing.specs.SealedInsides.{IsSealedInside, Surroundings}
use Rattle.heap_laws.specs.SoundCodes.{AreSoundCodes}
use Rattle.system_facts.proofs.SystemEntries.{entry_of}

-- ---- Static fields by their places.

abbrev places : List StaticField → List ℕ
places fs = map (λ (f : StaticField). f.index) fs

abbrev as_static : ℕ × FieldRecord → StaticField
as_static p = record { index = p.0; value = first_value p.1.kind p.1.constant }

place_here : (n : ℕ) (f : FieldRecord) (ps : List (ℕ × FieldRecord)) (b : Bool) → b ≡ true
    → Contains (places (map as_static (cond b ((n, f) ∷ ps) ps))) n
place_here n f ps true e = Contains-here n (places (map as_static ps))
place_here n f ps false e = absurd cc

place_later : (n : ℕ) (p : ℕ × FieldRecord) (ps : List (ℕ × FieldRecord)) (b : Bool) → Contains (places (map as_static ps)) n
    → Contains (places (map as_static (cond b (p ∷ ps) ps))) n
place_later n p ps true has = Contains-there n p.0 (places (map as_static ps)) has
place_later n p ps false has = has

place_listed : (fs : List FieldRecord) (k j : ℕ) (f : FieldRecord) → slice_get fs j ≡ Some f → has f.flags STATIC ≡ true
    → Contains (places (map as_static (filter is_static_field (enumerate_from k fs)))) (k + j)
place_listed [] k j f at static = absurd cc
place_listed (e ∷ fs) k zero f at static =
    let same : e ≡ f = same_Some e f at in
    let number : k ≡ k + 0 = omega arith in
    subst (λ (n : ℕ). Contains (places (map as_static (filter is_static_field (enumerate_from k (e ∷ fs))))) n) number
    (place_here k e (filter is_static_field (enumerate_from (k + 1) fs)) (has e.flags STATIC)
    (ap (λ (x : FieldRecord). has x.flags STATIC) same ∙ static))
place_listed (e ∷ fs) k (suc j) f at static =
    let number : k + 1 + j ≡ k + suc j = omega arith in
    place_later (k + suc j) (k, e) (filter is_static_field (enumerate_from (k + 1) fs)) (has e.flags STATIC)
    (subst (λ (n : ℕ). Contains (places (map as_static (filter is_static_field (enumerate_from (k + 1) fs)))) n) number
    (place_listed fs (k + 1) j f at static))

-- a field of a place has a value
value_by : (f : StaticField) (fs : List StaticField) (n : ℕ) (b : Bool) → (f.index == n) ≡ b → Contains (places (f ∷ fs)) n
    → (Contains (places fs) n → (v : Value) × (option_map (λ (g : StaticField). g.value) (find (λ (g : StaticField). g.index == n) fs) ≡ Some v))
    → (v : Value) × (option_map (λ (g : StaticField). g.value) (cond b (Some f) (find (λ (g : StaticField). g.index == n) fs)) ≡ Some v)
value_by f fs n true e has rest = (f.value, refl)
value_by f fs n false e has rest = elim (Contains-cases n f.index (places fs) has) [
  | inl same ↦
      let both : true ≡ false = sym (eq-eqb f.index n same) ∙ e in
      absurd cc
  | inr later ↦ rest later
]

value_there : (fs : List StaticField) (n : ℕ) → Contains (places fs) n
    → (v : Value) × (option_map (λ (g : StaticField). g.value) (find (λ (g : StaticField). g.index == n) fs) ≡ Some v)
value_there [] n has = absurd (Contains-none n has)
value_there (f ∷ fs) n has = value_by f fs n (f.index == n) refl has (value_there fs n)

-- ---- Parts.

part_by : (e p : ClassPart) (ps : List ClassPart) (c : ClassId) (b : Bool) → (e.class.0 == c.0) ≡ b
    → (find (λ (x : ClassPart). x.class.0 == c.0) ps ≡ Some p → Contains ps p × (p.class.0 ≡ c.0))
    → cond b (Some e) (find (λ (x : ClassPart). x.class.0 == c.0) ps) ≡ Some p → Contains (e ∷ ps) p × (p.class.0 ≡ c.0)
part_by e p ps c true t rest found =
    let same : e ≡ p = same_Some e p found in
    (subst (Contains (e ∷ ps)) same (Contains-here e ps), subst (λ (x : ClassPart). x.class.0 ≡ c.0) same (eqb-true e.class.0 c.0 t))
part_by e p ps c false t rest found = let more = rest found in (Contains-there p e ps more.0, more.1)

part_there : (ps : List ClassPart) (c : ClassId) (p : ClassPart) → find (λ (x : ClassPart). x.class.0 == c.0) ps ≡ Some p
    → Contains ps p × (p.class.0 ≡ c.0)
part_there [] c p found = absurd cc
part_there (e ∷ ps) c p found = part_by e p ps c (e.class.0 == c.0) refl (part_there ps c p) found

-- ---- A class that isn't of the system.

module _ (around : Surroundings) (quota : ℕ) (inside : Inside) (sealed : IsSealedInside around quota inside) (m : MemberId) (field : FieldRecord) where
  own_static : (r : ClassRecord) → record_of around.classes m.class ≡ Some r → slice_get r.fields m.index ≡ Some field
      → has field.flags STATIC ≡ true
      → IsNamed around.table m.class → r.home ≢ None → HasStatic inside.own m
  own_static r is at static named homed =
      let state = sealed.own.all m.class r (named, is, homed) in
      let part = part_there inside.own.classes m.class state.0 state.1 in
      let of = sealed.own.each state.0 part.0 in
      let class : state.0.class ≡ m.class = same_class state.0.class m.class part.1 in
      let other : of.0 ≡ r = same_Some of.0 r (sym of.1.1 ∙ ap (λ (c : ClassId). record_of around.classes c) class ∙ is) in
      let number : 0 + m.index ≡ m.index = omega arith in
      let listed : Contains (places (first_statics r)) m.index =
      subst (λ (n : ℕ). Contains (places (first_statics r)) n) number (place_listed r.fields 0 m.index field at static) in
      let there : Contains (places state.0.statics) m.index =
      subst (λ (ns : List ℕ). Contains ns m.index) (sym of.2)
      (subst (λ (x : ClassRecord). Contains (places (first_statics x)) m.index) (sym other) listed) in
      let value = value_there state.0.statics m.index there in
      (value.0, ap (λ (o : Option ClassPart). option_and_then (static_in m.index) o) state.1 ∙ value.1)

  value_by_home : (r : ClassRecord) (home : Option DomainId) → r.home ≡ home → record_of around.classes m.class ≡ Some r
      → slice_get r.fields m.index ≡ Some field → has field.flags STATIC ≡ true → IsNamed around.table m.class
      → (v : Value) × IsStaticValue around.classes inside.own m v
  value_by_home r None at_home is at static named = (Held.Obj inside.own.out, inl ((r, is, at_home), refl))
  value_by_home r (Some d) at_home is at static named =
      let homed : r.home ≢ None = (λ none. let both : None ≡ Some d = sym none ∙ at_home in absurd cc) in
      let there = own_static r is at static named homed in (
        there.0,
        inr (
          (λ (other, is_other, none).
              let same : other ≡ r = same_Some other r (sym is_other ∙ is) in
              homed (subst (λ (x : ClassRecord). x.home ≡ None) same none)),
          there.1,
        ),
      )

  pub static_value : FieldIs around.classes m field → has field.flags STATIC ≡ true → IsNamed around.table m.class
      → (v : Value) × IsStaticValue around.classes inside.own m v
  static_value (r, is, at) static named = value_by_home r r.home refl is at static named

-- ---- No code puts a static field of the system.

abbrev is_final_or_plain : SystemField → Bool
is_final_or_plain f = not (has f.flags STATIC) || has f.flags FINAL

abbrev keeps_finals : SystemClass → Bool
keeps_finals class = list_all is_final_or_plain class.fields

finals_kept : list_all keeps_finals system_classes ≡ true
finals_kept = refl

module _ (classes : List ClassRecord) (sound : AreSoundCodes classes) where
  pub system_entry : (c : ClassId) (r : ClassRecord) → record_of classes c ≡ Some r → r.home ≡ None
      → (entry : SystemClass) × (slice_get system_classes c.0 ≡ Some entry) × IsSystemRecord c.0 entry r
  system_entry c r is none =
      let entry = item_there system_classes c.0 (sound.of_system c r is none) in
      (entry.0, entry.1, entry_of classes sound.system c entry.0 r entry.1 is)

  final_by : (a b : Bool) → a ≡ true → (not a || b) ≡ true → b ≡ true
  final_by true b e h = h
  final_by false b e h = absurd cc

  system_final : (m : MemberId) (field : FieldRecord) (r : ClassRecord) → record_of classes m.class ≡ Some r → slice_get r.fields m.index ≡ Some field
      → r.home ≡ None → has field.flags STATIC ≡ true → has field.flags FINAL ≡ true
  system_final m field r is at none static =
      let entry = system_entry m.class r is none in
      let listed = item_there entry.0.fields m.index (let low = slice_get_within r.fields m.index field at in omega (arith, low, entry.2.field_count)) in
      let said = entry.2.fields m.index listed.0 field listed.1 at in
      let all : keeps_finals entry.0 ≡ true = passed_at keeps_finals system_classes m.class.0 entry.0 finals_kept entry.1 in
      let one : is_final_or_plain listed.0 ≡ true = passed_at is_final_or_plain entry.0.fields m.index listed.0 all listed.1 in
      let flags : has listed.0.flags STATIC ≡ true = ap (λ (n : ℕ). has n STATIC) (sym said.flags) ∙ static in
      ap (λ (n : ℕ). has n FINAL) said.flags ∙ final_by (has listed.0.flags STATIC) (has listed.0.flags FINAL) flags one

  -- a method with code isn't of the system
  no_system_code : (m : MemberId) (r : ClassRecord) (method : MethodRecord) (code : LinkedCode) → record_of classes m.class ≡ Some r
      → slice_get r.methods m.index ≡ Some method → method.body ≡ Does.Linked code → r.home ≢ None
  no_system_code m r method code is at body none =
      let entry = system_entry m.class r is none in
      let listed = item_there entry.0.methods m.index (let low = slice_get_within r.methods m.index method at in omega (arith, low, entry.2.method_count)) in
      let said = entry.2.methods m.index listed.0 method listed.1 at in
      let both = sym body ∙ said.body in
      cc

pub put_static : (around : Surroundings) (sound : AreSoundCodes around.classes) (quota : ℕ) (inside : Inside) → IsSealedInside around quota inside
    → (m : MemberId) (field : FieldRecord) → FieldIs around.classes m field → has field.flags STATIC ≡ true → IsNamed around.table m.class
    → (own : MemberId) (r : ClassRecord) (method : MethodRecord) (code : LinkedCode) → record_of around.classes own.class ≡ Some r
    → slice_get r.methods own.index ≡ Some method → method.body ≡ Does.Linked code
    → (IsTrue (has field.flags FINAL) → m.class ≡ own.class) → HasStatic inside.own m
put_static around sound quota inside sealed m field (q, is, at) static named own r method code is_own at_method body finals =
    own_static around quota inside sealed m field q is at static named
    (λ none.
    let same : m.class ≡ own.class = finals (system_final around.classes sound m field q is at none static) in
    let one : q ≡ r = same_Some q r (sym is ∙ ap (λ (c : ClassId). record_of around.classes c) same ∙ is_own) in
    no_system_code around.classes sound own r method code is_own at_method body (subst (λ (x : ClassRecord). x.home ≡ None) one none))
