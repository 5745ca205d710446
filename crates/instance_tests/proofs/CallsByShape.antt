-- The class at which a call on an object begins follows from its shape.
use Rattle.std.proofs.Common.{◌≡◌, ℕ, refl, sym, ap, ◌∙◌, subst}
use Rattle.jk_model.specs.declared.identifiers.ClassId.{ClassId}
use Rattle.jk_model.specs.declared.identifiers.DomainId.{DomainId}
use Rattle.jk_model.specs.declared.values.Value.{Value}
use Rattle.jk_model.specs.declared.values.Value.TheVariants as Held
use Rattle.jk_model_classes.specs.Classes.{OBJECT}
use Rattle.jk_model_typing.specs.FrameTypes.{STRING}
use Rattle.jk_model_domains.specs.Objects.{Array, Object, Plain, Task, Text, TASK}
use Rattle.jk_model_heaps.specs.declared.shapes.Shape.{Shape}
use Rattle.jk_model_heaps.specs.declared.shapes.Shape.TheVariants as Of
use Rattle.jk_model_heaps.specs.Heaps.{shape_of}
use Rattle.jk_model_heaps.specs.Instances.{RunsAs, run_class}
use Rattle.object_store.specs.HeapContents.{HeapContent, IsLive, IsName}
use Rattle.instance_tests.specs.Tested.{Refers}

abbrev pub shape_class : Shape → ClassId
shape_class (Of.Plain c) = c
shape_class (Of.Array t n) = OBJECT
shape_class (Of.Text n) = STRING
shape_class (Of.Task s) = TASK

by_shape : (object : Object) → shape_class (shape_of object) ≡ run_class object
by_shape (Plain c fields) = refl
by_shape (Array t items) = refl
by_shape (Text units) = refl
by_shape (Task s) = refl

pub runs_by_shape : (c : HeapContent) (d : DomainId) (a : ℕ) (v : Value) (shape : Shape) → v ≡ Held.Obj a → Refers c d v
    → ((object : Object) → IsLive c d a object → shape ≡ shape_of object) → RunsAs (c.heap d) v (shape_class shape)
runs_by_shape c d a v shape is refers told =
    let name : IsName c d a = subst (Refers c d) is refers in
    subst (λ (w : Value). RunsAs (c.heap d) w (shape_class shape)) (sym is)
    (name.0, name.1, ap shape_class (told name.0 name.1) ∙ by_shape name.0)
