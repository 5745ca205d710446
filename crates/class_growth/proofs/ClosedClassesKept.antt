-- Closed classes stay closed where each class that a new record mentions is there too.
use Rattle.std.proofs.Common.{List, ◌++◌, Contains, inl, inr}
use Rattle.jk_model_classes.specs.declared.records.BaseRef.{BaseRef}
use Rattle.jk_model_classes.specs.declared.records.BaseRef.TheVariants as Base
use Rattle.jk_model_classes.specs.declared.records.ClassRecord.{ClassRecord}
use Rattle.jk_model_classes.specs.declared.records.Link.{Link}
use Rattle.jk_model_classes.specs.declared.records.Link.TheVariants as To
use Rattle.jk_model_classes.specs.declared.records.MethodRecord.{MethodRecord}
use Rattle.jk_model_classes.specs.declared.records.TypeRef.{TypeRef}
use Rattle.class_growth.specs.ClosedClasses.{HasBase, HasType, HasLink, HasClassesOfMethod, HasClassesOf, IsClosed}
use Rattle.class_growth.proofs.ItemsOfLists.{slice_get-append_cases}
use Rattle.class_growth.proofs.MoreClasses.{has_class-still}

module _ (classes more : List ClassRecord) where
  has_base-still : (base : BaseRef) → HasBase classes base → HasBase (classes ++ more) base
  has_base-still (Base.Class c) there = has_class-still classes more c there
  has_base-still base there = tt

  pub has_type-still : (t : TypeRef) → HasType classes t → HasType (classes ++ more) t
  has_type-still t there = has_base-still t.base there

  pub has_link-still : (link : Link) → HasLink classes link → HasLink (classes ++ more) link
  has_link-still (To.Class t) there = has_type-still t there
  has_link-still (To.Field named m) there = (has_class-still classes more named there.0, has_class-still classes more m.class there.1)
  has_link-still (To.Method named m) there = (has_class-still classes more named there.0, has_class-still classes more m.class there.1)
  has_link-still link there = tt

  has_classes_of_method-still : (method : MethodRecord) → HasClassesOfMethod classes method → HasClassesOfMethod (classes ++ more) method
  has_classes_of_method-still method there =
      record {
        params = λ t on. has_type-still t (there.params t on);
        result = λ t is. has_type-still t (there.result t is);
        handlers = λ code h is on c catches. has_class-still classes more c (there.handlers code h is on c catches);
      }

  pub has_classes_of-still : (r : ClassRecord) → HasClassesOf classes r → HasClassesOf (classes ++ more) r
  has_classes_of-still r there =
      record {
        parent = λ p is. has_class-still classes more p (there.parent p is);
        interfaces = λ i on. has_class-still classes more i (there.interfaces i on);
        fields = λ field on. has_type-still field.kind (there.fields field on);
        methods = λ method on. has_classes_of_method-still method (there.methods method on);
        links = λ link on. has_link-still link (there.links link on);
      }

  pub closed-still : IsClosed classes → ((r : ClassRecord) → Contains more r → HasClassesOf (classes ++ more) r) → IsClosed (classes ++ more)
  closed-still closed new =
      record {
        each = λ c r is. elim (slice_get-append_cases classes more c.0 r is) [
          | inl old ↦ has_classes_of-still r (closed.each c r old)
          | inr later ↦ new r later
        ];
      }
