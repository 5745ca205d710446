-- What fits a declared type on the stack, a field of the type holds, and the other way round.
use Rattle.std.proofs.Common.{ℕ, zero, suc, List}
use Rattle.jk_model.specs.declared.values.Value.{Value}
use Rattle.jk_model.specs.declared.values.Value.TheVariants as Held
use Rattle.jk_model_classes.specs.declared.records.BaseRef.{BaseRef}
use Rattle.jk_model_classes.specs.declared.records.BaseRef.TheVariants as Base
use Rattle.jk_model_classes.specs.declared.records.TypeRef.{TypeRef}
use Rattle.jk_model_typing.specs.FrameTypes.{array_type, value_of}
use Rattle.jk_model_typing.specs.Scopes.{CodeScope}
use Rattle.jk_model_domains.specs.Objects.{NamedObject}
use Rattle.jk_model_domains.specs.ValueTypes.{HoldsDeclared, ValueFits}

module _ (s : CodeScope) (heap : List NamedObject) where
  held-by : (v : Value) (dims : ℕ) (base : BaseRef) → ValueFits s heap v (value_of s.classes (array_type dims base))
      → HoldsDeclared s.classes heap v (array_type dims base)
  held-by (Held.Obj a) zero (Base.Class c) h = h
  held-by (Held.Obj a) (suc dims) base h = h
  held-by (Held.Obj a) zero base h = absurd h.2
  held-by (Held.Cap k) zero (Base.Class c) h = h
  held-by (Held.Cap k) (suc dims) base h = h
  held-by (Held.Int n) zero (Base.Class c) h = h
  held-by (Held.Int n) zero base h = h
  held-by (Held.Int n) (suc dims) base h = h
  held-by (Held.Long n) zero (Base.Class c) h = h
  held-by (Held.Long n) zero base h = h
  held-by (Held.Long n) (suc dims) base h = h
  held-by Held.Null zero (Base.Class c) h = h
  held-by Held.Null zero base h = h
  held-by Held.Null (suc dims) base h = h
  held-by v zero (Base.Class c) h = h
  held-by v zero base h = h
  held-by v (suc dims) base h = h

  pub held_here : (v : Value) (t : TypeRef) → ValueFits s heap v (value_of s.classes t) → HoldsDeclared s.classes heap v t
  held_here v t h = held-by v t.dims t.base h

  fitting-by : (v : Value) (dims : ℕ) (base : BaseRef) → HoldsDeclared s.classes heap v (array_type dims base)
      → ValueFits s heap v (value_of s.classes (array_type dims base))
  fitting-by (Held.Obj a) zero (Base.Class c) h = h
  fitting-by (Held.Obj a) (suc dims) base h = h
  fitting-by (Held.Obj a) zero base h = absurd h
  fitting-by (Held.Cap k) zero (Base.Class c) h = h
  fitting-by (Held.Cap k) (suc dims) base h = h
  fitting-by (Held.Int n) zero (Base.Class c) h = h
  fitting-by (Held.Int n) zero base h = h
  fitting-by (Held.Int n) (suc dims) base h = h
  fitting-by (Held.Long n) zero (Base.Class c) h = h
  fitting-by (Held.Long n) zero base h = h
  fitting-by (Held.Long n) (suc dims) base h = h
  fitting-by Held.Null zero (Base.Class c) h = h
  fitting-by Held.Null zero base h = h
  fitting-by Held.Null (suc dims) base h = h
  fitting-by v zero (Base.Class c) h = h
  fitting-by v zero base h = h
  fitting-by v (suc dims) base h = h

  -- and the other way round
  pub fits_here : (v : Value) (t : TypeRef) → HoldsDeclared s.classes heap v t → ValueFits s heap v (value_of s.classes t)
  fits_here v t h = fitting-by v t.dims t.base h
