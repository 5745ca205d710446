-- What an instruction on objects finds: what its operand leads to, and which values are on top of the stack.
use Rattle.std.specs.Prelude.{◌≡◌, ◌≤◌, ◌⊎◌, IsTrue, ℤ, ℕ, pos, List, [], ◌∷◌, length, map, Some}
use Rattle.jk_model.specs.declared.identifiers.CapId.{CapId}
use Rattle.jk_model.specs.declared.identifiers.ClassId.{ClassId}
use Rattle.jk_model.specs.declared.identifiers.MemberId.{MemberId}
use Rattle.jk_model.specs.declared.instructions.Instr.{Instr}
use Rattle.jk_model.specs.declared.opcodes.TheConstants.{ARRAYLENGTH, ATHROW, CHECKCAST, GETFIELD, GETSTATIC, INSTANCEOF, LDC_W, MULTIANEWARRAY, NEW, PUTFIELD, PUTSTATIC}
use Rattle.jk_model.specs.declared.values.Value.{Value}
use Rattle.jk_model.specs.declared.values.Value.TheVariants as Held
use Rattle.jk_model_classes.specs.declared.records.FieldRecord.{FieldRecord}
use Rattle.jk_model_classes.specs.declared.records.Link.TheVariants as To
use Rattle.jk_model_classes.specs.declared.records.TypeRef.{TypeRef}
use Rattle.jk_model_typing.specs.Scopes.{CodeScope, LeadsToLink, NamesClass}
use Rattle.jk_model_domains.specs.NumberRows.{IsOnTop}
use Rattle.jk_model_domains.specs.Objects.{NamedObject, Object, object_named}
use Rattle.jk_model_domains.specs.OwnStates.{HasStatic}
use Rattle.jk_model_heaps.specs.Capabilities.{IsGivenOut}
use Rattle.jk_model_heaps.specs.References.{IsHeapArray}
use Rattle.jk_model_heaps.specs.RunningCode.{NamesField}
use Rattle.jk_model_heaps.specs.Workings.{Setting, Working}
use Rattle.jk_model_heap_rows.specs.ElementRows.{is_element_load, is_element_store}
use Rattle.jk_model_heap_rows.specs.FieldRows.{HasField, IsStaticValue}
use Rattle.jk_model_heap_rows.specs.NewObjectRows.{MakesArrayOf}

-- an array, or null
abbrev pub IsArrayOrNull : List NamedObject → Value → Type 0
IsArrayOrNull heap v = (v ≡ Held.Null) ⊎ IsHeapArray heap v

-- an object that has the field, or null
abbrev pub HasFieldOrIsNull : Setting → List NamedObject → Value → MemberId → Type 0
HasFieldOrIsNull x heap v m = (v ≡ Held.Null) ⊎ HasField x.classes heap v m

-- an object of the heap, or null
abbrev pub IsObjectOrNull : List NamedObject → Value → Type 0
IsObjectOrNull heap v = (v ≡ Held.Null) ⊎ ((a : ℕ) × (object : Object) × (v ≡ Held.Obj a) × (object_named heap a ≡ Some object))

-- an object of the heap, a capability that was given out, or null
abbrev pub IsReferenceOrNull : Setting → List NamedObject → Value → Type 0
IsReferenceOrNull x heap v = IsObjectOrNull heap v ⊎ ((k : CapId) × (v ≡ Held.Cap k) × IsGivenOut x.caps.ranges k)

pub data HeapOperands (x : Setting) (s : CodeScope) (i : Instr) (w : Working) : Type 0 where
  of_text : (text : List ℕ) → i.op ≡ LDC_W → LeadsToLink s i (To.Text text) → HeapOperands x s i w
  of_get_static : (m : MemberId) (field : FieldRecord) (v : Value) → i.op ≡ GETSTATIC → NamesField s i m field
      → IsStaticValue x.classes w.inside.own m v → HeapOperands x s i w
  of_put_static : (m : MemberId) (field : FieldRecord) (v : Value) → i.op ≡ PUTSTATIC → NamesField s i m field → HasStatic w.inside.own m
      → IsOnTop w.frame (v ∷ []) → HeapOperands x s i w
  of_get_field : (m : MemberId) (field : FieldRecord) (receiver : Value) → i.op ≡ GETFIELD → NamesField s i m field
      → IsOnTop w.frame (receiver ∷ []) → HasFieldOrIsNull x w.inside.heap receiver m → HeapOperands x s i w
  of_put_field : (m : MemberId) (field : FieldRecord) (receiver v : Value) → i.op ≡ PUTFIELD → NamesField s i m field
      → IsOnTop w.frame (receiver ∷ v ∷ []) → HasFieldOrIsNull x w.inside.heap receiver m → HeapOperands x s i w
  of_load : (array : Value) (index : ℤ) → IsTrue (is_element_load i.op) → IsOnTop w.frame (array ∷ Held.Int index ∷ [])
      → IsArrayOrNull w.inside.heap array → HeapOperands x s i w
  of_store : (array v : Value) (index : ℤ) → IsTrue (is_element_store i.op) → IsOnTop w.frame (array ∷ Held.Int index ∷ v ∷ [])
      → IsArrayOrNull w.inside.heap array → HeapOperands x s i w
  of_length : (array : Value) → i.op ≡ ARRAYLENGTH → IsOnTop w.frame (array ∷ []) → IsArrayOrNull w.inside.heap array
      → HeapOperands x s i w
  of_new : (c : ClassId) → i.op ≡ NEW → NamesClass s i c → HeapOperands x s i w
  of_new_array : (element : TypeRef) (count : ℤ) → MakesArrayOf s i element → IsOnTop w.frame (Held.Int count ∷ []) → HeapOperands x s i w
  of_new_arrays : (kind : TypeRef) (counts : List ℤ) → i.op ≡ MULTIANEWARRAY → LeadsToLink s i (To.Class kind) → i.b ≡ pos (length counts)
      → 1 ≤ length counts → IsOnTop w.frame (map Held.Int counts) → HeapOperands x s i w
  of_cast : (kind : TypeRef) (v : Value) → i.op ≡ CHECKCAST → LeadsToLink s i (To.Class kind) → IsOnTop w.frame (v ∷ [])
      → IsReferenceOrNull x w.inside.heap v → HeapOperands x s i w
  of_test : (kind : TypeRef) (v : Value) → i.op ≡ INSTANCEOF → LeadsToLink s i (To.Class kind) → IsOnTop w.frame (v ∷ [])
      → IsReferenceOrNull x w.inside.heap v → HeapOperands x s i w
  of_throw : (v : Value) → i.op ≡ ATHROW → IsOnTop w.frame (v ∷ []) → IsObjectOrNull w.inside.heap v → HeapOperands x s i w
