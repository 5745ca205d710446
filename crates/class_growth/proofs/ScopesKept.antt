-- The scope of a method's code stays its scope with more classes behind, and of a class that was there it was its scope before.
-- Among closed classes, whatever class a scope mentions is there.
use Rattle.std.proofs.Common.{◌≡◌, ℕ, List, ◌++◌, Some, slice_get, Contains, refl, sym, subst, ◌∙◌}
use Rattle.list_lemmas.proofs.ItemsOfLists.{Contains-at}
use Rattle.jk_model.specs.declared.identifiers.MemberId.{MemberId}
use Rattle.jk_model_classes.specs.declared.records.Caught.{Caught}
use Rattle.jk_model_classes.specs.declared.records.ClassRecord.{ClassRecord}
use Rattle.jk_model_classes.specs.declared.records.FieldRecord.{FieldRecord}
use Rattle.jk_model_classes.specs.declared.records.Link.{Link}
use Rattle.jk_model_classes.specs.declared.records.MethodRecord.{MethodRecord}
use Rattle.jk_model_classes.specs.Classes.{HasClass}
use Rattle.jk_model_classes.specs.Lookups.{FieldIs, MethodIs}
use Rattle.jk_model_typing.specs.Scopes.{CodeScope, IsScopeOf}
use Rattle.class_growth.specs.ClosedClasses.{HasType, HasLink, HasCaught, HasClassesOfMethod, IsClosed}
use Rattle.class_growth.specs.ScopesOver.{among}
use Rattle.class_growth.proofs.MoreClasses.{record-kept, record-still, has_class-by_record}

module _ (classes more : List ClassRecord) (m : MemberId) (s : CodeScope) where
  pub scope-still : IsScopeOf classes m s → IsScopeOf (classes ++ more) m (among s (classes ++ more))
  scope-still scope =
      record {
        all = refl;
        self = scope.self;
        class = scope.class;
        class_is = record-still classes more m.class scope.class scope.class_is;
        links = scope.links;
        method = scope.method;
        body = scope.body;
      }

  pub scope-before : HasClass classes m.class → IsScopeOf (classes ++ more) m s → IsScopeOf classes m (among s classes)
  scope-before there scope =
      record {
        all = refl;
        self = scope.self;
        class = scope.class;
        class_is = sym (record-kept classes more m.class there) ∙ scope.class_is;
        links = scope.links;
        method = scope.method;
        body = scope.body;
      }

-- ---- Closed classes.

module _ (classes : List ClassRecord) (closed : IsClosed classes) (m : MemberId) where
  pub field-closed : (field : FieldRecord) → FieldIs classes m field → HasType classes field.kind
  field-closed field (r, is, at) = (closed.each m.class r is).fields field (Contains-at r.fields m.index field at)

  pub method-closed : (method : MethodRecord) → MethodIs classes m method → HasClassesOfMethod classes method
  method-closed method (r, is, at) = (closed.each m.class r is).methods method (Contains-at r.methods m.index method at)

-- What a scope mentions is there.
pub record IsClosedScope (s : CodeScope) : Type 0 where
  pub classes : IsClosed s.classes
  pub self : HasClass s.classes s.self
  pub links : (n : ℕ) (link : Link) → slice_get s.links n ≡ Some link → HasLink s.classes link
  pub method : HasClassesOfMethod s.classes s.method
  pub handlers : (h : Caught) → Contains s.code.handlers h → HasCaught s.classes h

closed_among : (classes : List ClassRecord) → IsClosed classes → (m : MemberId) (s : CodeScope) → IsScopeOf classes m s
    → IsClosedScope (among s classes)
closed_among classes closed m s scope =
    let here = closed.each m.class scope.class scope.class_is in
    let method = here.methods s.method (Contains-at scope.class.methods m.index s.method scope.method) in
    record {
      classes = closed;
      self = rw (scope.self) (has_class-by_record classes m.class scope.class scope.class_is);
      links = λ n link at. here.links link (Contains-at scope.class.links n link (subst (λ links. slice_get links n ≡ Some link) scope.links at));
      method = method;
      handlers = λ h on. method.handlers s.code h scope.body on;
    }

pub closed-scope : (classes : List ClassRecord) → IsClosed classes → (m : MemberId) (s : CodeScope) → IsScopeOf classes m s → IsClosedScope s
closed-scope classes closed m s scope =
    subst (λ all. IsClosedScope (among s all)) (sym scope.all) (closed_among classes closed m s scope)
