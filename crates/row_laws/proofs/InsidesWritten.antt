-- What is stored in a field or an element still is of its type, and a domain's inside keeps what is kept where an object gets contents that
-- fit, or a static field gets a value that fits.
use Rattle.std.proofs.Common.{inl, inr, ◌≡◌, ℕ, zero, suc, ◌==◌, Bool, true, false, ℤ, List, [], ◌∷◌, find, Some, refl, sym, subst, ◌∙◌}
use Rattle.std.specs.Option.{option_map_or}
use Rattle.std.proofs.lemmas.Bool.Decides.{eqb_tells}
use Rattle.std.proofs.lemmas.Option.{same_Some}
use Rattle.jk_model.specs.declared.identifiers.ClassId.{ClassId}
use Rattle.jk_model.specs.declared.identifiers.MemberId.{MemberId}
use Rattle.jk_model.specs.declared.identifiers.SegmentNo.{SegmentNo}
use Rattle.jk_model.specs.declared.values.Value.{Value}
use Rattle.jk_model.specs.declared.values.Value.TheVariants as Held
use Rattle.jk_model_classes.specs.declared.records.BaseRef.{BaseRef}
use Rattle.jk_model_classes.specs.declared.records.BaseRef.TheVariants as Base
use Rattle.jk_model_classes.specs.declared.records.ClassRecord.{ClassRecord}
use Rattle.jk_model_classes.specs.declared.records.FieldRecord.{FieldRecord}
use Rattle.jk_model_classes.specs.declared.records.TypeRef.{TypeRef}
use Rattle.jk_model_classes.specs.Lookups.{FieldIs}
use Rattle.jk_model_typing.specs.FrameTypes.{array_type}
use Rattle.jk_model_domains.specs.declared.states.ClassState.{ClassState}
use Rattle.jk_model_domains.specs.declared.states.ClassState.TheVariants as State
use Rattle.jk_model_domains.specs.Objects.{NamedObject, Object, Task, object_named}
use Rattle.jk_model_domains.specs.OwnStates.{ClassPart, state_of, with_field, with_part, with_static}
use Rattle.jk_model_domains.specs.ValueTypes.{HoldsDeclared}
use Rattle.jk_model_heaps.specs.Capabilities.{CapRange}
use Rattle.jk_model_heaps.specs.Heaps.{IsAlike, with_object}
use Rattle.jk_model_heaps.specs.StoredValues.{stored, stored_int}
use Rattle.jk_model_heaps.specs.Workings.{Inside, Setting, with_heap, with_own}
use Rattle.object_store.proofs.ObjectsByName.{named_beside, named_in_place}
use Rattle.jk_model_sealing.specs.SealedInsides.{IsKnownValue, IsSealedInside, IsSealedObject, Surroundings}
use Rattle.heap_laws.proofs.GrownHeaps.{grown_self, writing_grows}
use Rattle.heap_laws.proofs.SealedStill.{static_sealed, written_sealed}
use Rattle.heap_laws.specs.FittingOutcomes.{IsOfType}
use Rattle.heap_laws.specs.KeptInsides.{KeepsInside}

-- ---- What is stored of a value.

module _ (classes : List ClassRecord) (heap : List NamedObject) where
  -- of ints, the type takes all or none
  int_held : (n m : ℤ) (dims : ℕ) (base : BaseRef) → HoldsDeclared classes heap (Held.Int n) (array_type dims base)
      → HoldsDeclared classes heap (Held.Int m) (array_type dims base)
  int_held n m zero (Base.Class c) h = h
  int_held n m zero Base.Long h = h
  int_held n m zero base h = h
  int_held n m (suc dims) base h = h

  stored_held : (t : TypeRef) (v : Value) → HoldsDeclared classes heap v t → HoldsDeclared classes heap (stored t v) t
  stored_held t (Held.Int n) h = int_held n (stored_int t n) t.dims t.base h
  stored_held t (Held.Long n) h = h
  stored_held t Held.Null h = h
  stored_held t (Held.Obj a) h = h
  stored_held t (Held.Cap k) h = h
  stored_held t Held.Unset h = h

pub stored_known : (caps : List CapRange) (heap : List NamedObject) (t : TypeRef) (v : Value) → IsKnownValue caps heap v → IsKnownValue caps heap (stored t v)
stored_known caps heap t (Held.Int n) h = tt
stored_known caps heap t (Held.Long n) h = tt
stored_known caps heap t Held.Null h = tt
stored_known caps heap t (Held.Obj a) h = h
stored_known caps heap t (Held.Cap k) h = h
stored_known caps heap t Held.Unset h = tt

pub stored_fits : (around : Surroundings) (heap : List NamedObject) (t : TypeRef) (v : Value) → IsOfType around heap t v
    → IsOfType around heap t (stored t v)
stored_fits around heap t v (held, known) = (stored_held around.classes heap t v held, stored_known around.caps heap t v known)

-- ---- An object gets other contents.

module _ (around : Surroundings) (x : Setting) (inside : Inside) (a : ℕ) (old new : Object) (sealed : IsSealedInside around x.quota inside)
    (there : object_named inside.heap a ≡ Some old) (alike : IsAlike old new)
    (fits : IsSealedObject around (with_object a new inside.heap) new) (no_task : (n : SegmentNo) → new ≡ Task n → ⊥) where
  abbrev written : List NamedObject
  written = with_object a new inside.heap

  old_task : (b : ℕ) (n : SegmentNo) → object_named written b ≡ Some (Task n) → object_named inside.heap b ≡ Some (Task n)
  old_task b n is = elim (eqb_tells b a) [
    | inl h ↦
        let here : object_named written a ≡ Some (Task n) = subst (λ (k : ℕ). object_named written k ≡ Some (Task n)) h.1 is in
        absurd (no_task n (same_Some new (Task n) (sym (named_in_place a new old inside.heap there) ∙ here)))
    | inr h ↦ sym (named_beside a b new inside.heap h.1) ∙ is
  ]

  pub written_keeps : KeepsInside around x inside (with_heap inside written)
  written_keeps = record {
    sealed = written_sealed around x.quota inside a old new sealed there alike fits;
    grown = writing_grows inside.heap a old new there alike;
    tasks = λ b n is. inl (old_task b n is);
    pages = (refl, refl);
  }

-- ---- A static field gets a value.

abbrev valued : MemberId → Value → ClassPart → ClassPart
valued m v e = record e { statics = with_field m.index v e.statics }

abbrev state_in : List ClassPart → ClassId → ClassState
state_in ps c = option_map_or (λ (e : ClassPart). e.state) (find (λ (e : ClassPart). e.class.0 == c.0) ps) State.Done

state-unvalued : (ps : List ClassPart) (m : MemberId) (v : Value) (c : ClassId) → state_in (with_part m.class (valued m v) ps) c ≡ state_in ps c
state-unvalued [] m v c = refl
state-unvalued (e ∷ ps) m v c = by_tests (e.class.0 == m.class.0) (e.class.0 == c.0) refl refl (state-unvalued ps m v c)
  where
    by_tests : (a b : Bool) → e.class.0 == m.class.0 ≡ a → e.class.0 == c.0 ≡ b
        → state_in (with_part m.class (valued m v) ps) c ≡ state_in ps c
        → state_in (with_part m.class (valued m v) (e ∷ ps)) c ≡ state_in (e ∷ ps) c
    by_tests true true p q rest = rw (p, q) refl
    by_tests true false p q rest = rw (p, q) rest
    by_tests false true p q rest = rw (p, q) refl
    by_tests false false p q rest = rw (p, q) rest

module _ (around : Surroundings) (x : Setting) (inside : Inside) (sealed : IsSealedInside around x.quota inside) (m : MemberId) (v : Value) where
  pub states_stay : (c : ClassId) → state_of (with_static inside.own m v) c ≡ state_of inside.own c
  states_stay c = state-unvalued inside.own.classes m v c

  pub static_put_keeps : (field : FieldRecord) → FieldIs around.classes m field → IsOfType around inside.heap field.kind v
      → KeepsInside around x inside (with_own inside (with_static inside.own m v))
  static_put_keeps field of fits = record {
    sealed = static_sealed around x.quota inside sealed m field v of fits;
    grown = grown_self inside.heap;
    tasks = λ b n is. inl is;
    pages = (refl, refl);
  }
