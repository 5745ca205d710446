-- Values of one declared type are of one kind: that of the type's zero.
use Rattle.std.proofs.Common.{ℕ, zero, suc, List}
use Rattle.jk_model.specs.declared.values.Value.{Value}
use Rattle.jk_model.specs.declared.values.Value.TheVariants as Held
use Rattle.jk_model_classes.specs.declared.records.BaseRef.{BaseRef}
use Rattle.jk_model_classes.specs.declared.records.BaseRef.TheVariants as Base
use Rattle.jk_model_classes.specs.declared.records.ClassRecord.{ClassRecord}
use Rattle.jk_model_classes.specs.declared.records.TypeRef.{TypeRef}
use Rattle.jk_model_typing.specs.FrameTypes.{array_type}
use Rattle.jk_model_domains.specs.Objects.{NamedObject}
use Rattle.jk_model_domains.specs.OwnStates.{zero_of}
use Rattle.jk_model_domains.specs.ValueTypes.{HoldsDeclared}
use Rattle.object_store.specs.HeapContents.{AreOfKind}

module _ (classes : List ClassRecord) (heap : List NamedObject) where
  zero_by : (dims : ℕ) (base : BaseRef) (v : Value) → HoldsDeclared classes heap v (array_type dims base)
      → AreOfKind (zero_of (array_type dims base)) v
  zero_by zero Base.Long (Held.Long n) h = tt
  zero_by zero Base.Long v h = absurd h
  zero_by zero (Base.Class c) Held.Null h = (tt, tt)
  zero_by zero (Base.Class c) (Held.Obj a) h = (tt, tt)
  zero_by zero (Base.Class c) (Held.Cap k) h = (tt, tt)
  zero_by zero (Base.Class c) v h = absurd h
  zero_by zero base (Held.Int n) h = tt
  zero_by zero base v h = absurd h
  zero_by (suc dims) base Held.Null h = (tt, tt)
  zero_by (suc dims) base (Held.Obj a) h = (tt, tt)
  zero_by (suc dims) base (Held.Cap k) h = (tt, tt)
  zero_by (suc dims) base v h = absurd h

  -- a value of a type is of the kind of the type's zero
  pub kind_of_zero : (t : TypeRef) (v : Value) → HoldsDeclared classes heap v t → AreOfKind (zero_of t) v
  kind_of_zero t v h = zero_by t.dims t.base v h
