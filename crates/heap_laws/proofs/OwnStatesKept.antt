-- Another state of a class, and another value of a static field, leave a state of the same domain.
use Rattle.std.proofs.Common.{◌≡◌, ℕ, zero, suc, Bool, true, false, ◌==◌, List, [], ◌∷◌, map, find, Option, Some, slice_get, refl, sym, ap, subst, ◌∙◌}
use Rattle.std.specs.Prelude.{if◌then◌else◌}
use Rattle.std.proofs.lemmas.Bool.{cond-false, cond-true}
use Rattle.std.proofs.lemmas.Option.{get_or_from_slice_get, same_Some, slice_get-get_or, slice_get_within}
use Rattle.jk_model.specs.declared.identifiers.ClassId.{ClassId}
use Rattle.jk_model.specs.declared.identifiers.MemberId.{MemberId}
use Rattle.jk_model.specs.declared.values.Value.{Value}
use Rattle.jk_model_classes.specs.declared.records.ClassRecord.{ClassRecord}
use Rattle.jk_model_classes.specs.Worlds.{NamedClass}
use Rattle.jk_model_domains.specs.declared.states.ClassState.{ClassState}
use Rattle.jk_model_domains.specs.OwnStates.{ClassPart, HasPart, IsOwnState, IsPartFor, OwnState, StaticField, with_field, with_part, with_state, with_static}

-- ---- Items of a mapped list.

from-map : {X Y : Type 0} (f : X → Y) (xs : List X) (k : ℕ) (y : Y) → slice_get (map f xs) k ≡ Some y → (x : X) × (slice_get xs k ≡ Some x) × (f x ≡ y)
from-map f [] k y e = absurd cc
from-map f (x ∷ xs) zero y e = (x, refl, same_Some (f x) y e)
from-map f (x ∷ xs) (suc k) y e = from-map f xs k y e

-- ---- One part is changed, but not its class, nor the places of its static fields.

abbrev indices : List StaticField → List ℕ
indices statics = map (λ (f : StaticField). f.index) statics

record KeepsParts (change : ClassPart → ClassPart) : Type 0 where
  class : (e : ClassPart) → (change e).class ≡ e.class
  places : (e : ClassPart) → indices (change e).statics ≡ indices e.statics

abbrev part_in : List ClassPart → ClassId → Option ClassPart
part_in ps c = find (λ (e : ClassPart). e.class.0 == c.0) ps

module _ (c : ClassId) (change : ClassPart → ClassPart) (keeps : KeepsParts change) where
  abbrev changed : ClassPart → ClassPart
  changed e = if e.class.0 == c.0 then change e else e

  changed-class : (e : ClassPart) → (changed e).class ≡ e.class
  changed-class e = by_test (e.class.0 == c.0) refl
    where
      by_test : (b : Bool) → e.class.0 == c.0 ≡ b → (changed e).class ≡ e.class
      by_test true t = rw t (keeps.class e)
      by_test false t = rw t refl

  changed-places : (e : ClassPart) → indices (changed e).statics ≡ indices e.statics
  changed-places e = by_test (e.class.0 == c.0) refl
    where
      by_test : (b : Bool) → e.class.0 == c.0 ≡ b → indices (changed e).statics ≡ indices e.statics
      by_test true t = rw t (keeps.places e)
      by_test false t = rw t refl

  -- a part that was found is found still
  found-changed : (ps : List ClassPart) (d : ClassId) (e : ClassPart) → part_in ps d ≡ Some e → part_in (map changed ps) d ≡ Some (changed e)
  found-changed [] d e h = absurd cc
  found-changed (p ∷ ps) d e h = by_test (p.class.0 == d.0) refl h (found-changed ps d e)
    where
      same : (changed p).class.0 == d.0 ≡ (p.class.0 == d.0)
      same = ap (λ (x : ClassId). x.0 == d.0) (changed-class p)

      by_test : (b : Bool) → p.class.0 == d.0 ≡ b → part_in (p ∷ ps) d ≡ Some e → (part_in ps d ≡ Some e → part_in (map changed ps) d ≡ Some (changed e))
          → part_in (map changed (p ∷ ps)) d ≡ Some (changed e)
      by_test true t found rest =
          let here : Some p ≡ Some e = rw t at found in
          cond-true ((changed p).class.0 == d.0) (Some (changed p)) (part_in (map changed ps) d) (same ∙ t)
          ∙ ap (λ (x : ClassPart). Some (changed x)) (same_Some p e here)
      by_test false t found rest =
          let later : part_in ps d ≡ Some e = rw t at found in
          cond-false ((changed p).class.0 == d.0) (Some (changed p)) (part_in (map changed ps) d) (same ∙ t) ∙ rest later

  module _ (classes : List ClassRecord) (table : List NamedClass) (own : OwnState) (h : IsOwnState classes table own) where
    each-kept : (e : ClassPart) (k : ℕ) → slice_get (map changed own.classes) k ≡ Some e → (r : ClassRecord) × HasPart classes table e.class r × IsPartFor r e
    each-kept e k is =
        let x = from-map changed own.classes k e is in
        let old = h.each x.0 (k, slice_get_within own.classes k x.0 x.1, get_or_from_slice_get own.classes k x.0 x.0 x.1) in
        let class : x.0.class ≡ e.class = sym (changed-class x.0) ∙ ap (λ (y : ClassPart). y.class) x.2 in
        let places : indices e.statics ≡ indices x.0.statics = sym (ap (λ (y : ClassPart). indices y.statics) x.2) ∙ changed-places x.0 in
        (old.0, subst (λ (d : ClassId). HasPart classes table d old.0) class old.1, places ∙ old.2)

    part-kept : IsOwnState classes table (record own { classes = with_part c change own.classes })
    part-kept = record {
      each = λ e has. each-kept e has.0 (slice_get-get_or (map changed own.classes) has.0 e has.1 ∙ ap Some has.2);
      all = λ d r part. let x = h.all d r part in (changed x.0, found-changed own.classes d x.0 x.1);
      classes_differ = λ i j a b p q e.
          let x = from-map changed own.classes i a p in
          let y = from-map changed own.classes j b q in
          h.classes_differ i j x.0 y.0 x.1 y.1 (class_of x.0 a x.2 ∙ e ∙ sym (class_of y.0 b y.2));
      literals_differ = h.literals_differ;
      standing = h.standing;
    }
      where
        class_of : (x e : ClassPart) → changed x ≡ e → x.class ≡ e.class
        class_of x e gives = sym (changed-class x) ∙ ap (λ (y : ClassPart). y.class) gives

-- ---- The two changes.

pub state_kept : (classes : List ClassRecord) (table : List NamedClass) (own : OwnState) (c : ClassId) (s : ClassState) → IsOwnState classes table own
    → IsOwnState classes table (with_state own c s)
state_kept classes table own c s h =
    part-kept c (λ (e : ClassPart). record e { state = s }) (record { class = λ e. refl; places = λ e. refl }) classes table own h

indices-with : (n : ℕ) (v : Value) (statics : List StaticField) → indices (with_field n v statics) ≡ indices statics
indices-with n v [] = refl
indices-with n v (f ∷ statics) = by_test (f.index == n) refl (indices-with n v statics)
  where
    by_test : (b : Bool) → f.index == n ≡ b → indices (with_field n v statics) ≡ indices statics
        → indices (with_field n v (f ∷ statics)) ≡ indices (f ∷ statics)
    by_test true t rest = rw t (ap (λ (ns : List ℕ). f.index ∷ ns) rest)
    by_test false t rest = rw t (ap (λ (ns : List ℕ). f.index ∷ ns) rest)

pub static_kept : (classes : List ClassRecord) (table : List NamedClass) (own : OwnState) (m : MemberId) (v : Value) → IsOwnState classes table own
    → IsOwnState classes table (with_static own m v)
static_kept classes table own m v h =
    part-kept m.class (λ (e : ClassPart). record e { statics = with_field m.index v e.statics })
    (record { class = λ e. refl; places = λ e. indices-with m.index v e.statics }) classes table own h
