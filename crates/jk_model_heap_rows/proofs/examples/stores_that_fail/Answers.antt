-- The row of stores, by the case that applies.
use Rattle.std.proofs.Common.{◌≡◌, ℕ, IsTrue, List, [], ◌∷◌, Some, refl, inl, inr, sym, subst}
use Rattle.std.specs.Prelude.{⊤, pos}
use Rattle.jk_model.specs.declared.opcodes.TheConstants.{AASTORE}
use Rattle.jk_model.specs.declared.values.Value.{Value}
use Rattle.jk_model.specs.declared.values.Value.TheVariants as Held
use Rattle.jk_model_typing.specs.FrameTypes.{STRING}
use Rattle.jk_model_domains.specs.Objects.{Array, NamedObject, class_type, object_named}
use Rattle.jk_model_heaps.specs.References.{IsHeapArray}
use Rattle.jk_model_heap_rows.specs.ElementRows.{is_element_store}
use Rattle.jk_model_heap_rows.specs.HeapRows.{stores_element}
use Rattle.jk_model_heap_rows.proofs.examples.stores_that_fail.Goals as goal

by_aastore : (op : ℕ) → op ≡ AASTORE → IsTrue (is_element_store op)
by_aastore op e = subst (λ (n : ℕ). IsTrue (is_element_store n)) (sym e) refl

abbrev one_text : (heap : List NamedObject) → object_named heap 7 ≡ Some (Array (class_type STRING) (Held.Null ∷ [])) → IsHeapArray heap (Held.Obj 7)
one_text heap stands = record { name = 7; refers = refl; element = class_type STRING; items = Held.Null ∷ []; object = stands }

not_null : (a : ℕ) → Held.Obj a ≡ Held.Null → ⊥
not_null a e = absurd (subst (λ (v : Value). elim v as (λ _. Type 0) [ Held.Null ↦ ⊥ | _ ↦ ⊤ ]) e tt)

pub returns-clause-index : goal.returns-clause-index
returns-clause-index c = λ x s i w v op on_top stands. stores_element (record {
  op = by_aastore i.op op;
  array = Held.Obj 7;
  index = pos 5;
  value = v;
  on_top = on_top;
  does = inr (inl (one_text w.inside.heap stands, (refl, (refl, refl))));
})

pub returns-clause-value : goal.returns-clause-value
returns-clause-value c = λ x s i w a op on_top stands no_text. stores_element (record {
  op = by_aastore i.op op;
  array = Held.Obj 7;
  index = pos 0;
  value = Held.Obj a;
  on_top = on_top;
  does = inr (inr (inl (
    one_text w.inside.heap stands,
    0,
    refl,
    op,
    (λ h. elim h [ inl e ↦ not_null a e | inr is ↦ no_text is ]),
    (refl, refl),
  )));
})
