-- How the constant texts of a class's static fields are set: those that have no object yet get one, and then the fields hold the objects.
use Rattle.std.specs.Prelude.{◌≡◌, ℕ, ◌+◌, IsTrue, List, ◌++◌, map, Contains, Some, slice_get}
use Rattle.jk_model.specs.Flags.{has, STATIC}
use Rattle.jk_model.specs.declared.identifiers.ClassId.{ClassId}
use Rattle.jk_model.specs.declared.identifiers.DomainId.{DomainId}
use Rattle.jk_model.specs.declared.identifiers.MemberId.{MemberId}
use Rattle.jk_model_classes.specs.declared.records.ClassRecord.{ClassRecord}
use Rattle.jk_model_classes.specs.declared.records.FieldRecord.{FieldRecord}
use Rattle.jk_model_domains.specs.OwnStates.{ClassPart, HasStatic, Literal, OwnState, StaticField}
use Rattle.jk_model_heaps.specs.Heaps.{heap_words}
use Rattle.jk_model_heap_rows.specs.Constants.{text_object}
use Rattle.class_init.specs.KeptStates.{KeptState}
use Rattle.object_store.specs.HeapContents.{HeapBecomes, HeapContent}

-- ---- Objects that are made.

-- a state with these literals more
abbrev pub with_literals : KeptState → List Literal → KeptState
with_literals own more =
    let state : OwnState = record own.state { literals = own.state.literals ++ more } in
    record own { state = state }

-- What a call finds and leaves: the heaps and the own state, before and after.
pub record TextsCall : Type 0 where
  pub heaps : HeapContent
  pub new_heaps : HeapContent
  pub own : KeptState
  pub new_own : KeptState
  pub domain : DomainId

-- An object of each of these texts is made, and becomes its literal.
pub record MakesTexts (x : TextsCall) (classes : List ClassRecord) (texts : List (List ℕ)) : Type 0 where
  pub more : List Literal
  pub are : map (λ (l : Literal). l.text) more ≡ texts
  pub becomes : HeapBecomes x.heaps x.new_heaps x.domain (x.heaps.heap x.domain ++ map text_object more)
      (x.heaps.used x.domain + heap_words classes (map text_object more))
  pub kept : x.new_own ≡ with_literals x.own more

-- ---- Static fields.

-- The static fields that a state has of a class are those of its record.
pub record HasStaticsOf (own : OwnState) (c : ClassId) (r : ClassRecord) : Type 0 where
  pub each : (i : ℕ) (f : FieldRecord) → slice_get r.fields i ≡ Some f → IsTrue (has f.flags STATIC)
      → (let m : MemberId = record { class = c; index = i } in HasStatic own m)
  pub no_other : (e : ClassPart) (g : StaticField) (f : FieldRecord) → Contains own.classes e → e.class ≡ c → Contains e.statics g
      → slice_get r.fields g.index ≡ Some f → IsTrue (has f.flags STATIC)
