-- A method's code is judged in one scope, a method with code has one, and an operand leads to one link.
use Rattle.std.proofs.Common.{◌≡◌, ℕ, List, Some, slice_get, refl, sym, subst, ap, ◌∙◌}
use Rattle.std.proofs.lemmas.Option.{same_Some}
use Rattle.list_lemmas.proofs.TestsAndOrders.{same_pos}
use Rattle.jk_model.specs.declared.identifiers.ClassId.{ClassId}
use Rattle.jk_model.specs.declared.identifiers.MemberId.{MemberId}
use Rattle.jk_model.specs.declared.instructions.Instr.{Instr}
use Rattle.jk_model_classes.specs.declared.records.Body.TheVariants as Does
use Rattle.jk_model_classes.specs.declared.records.ClassRecord.{ClassRecord}
use Rattle.jk_model_classes.specs.declared.records.Link.{Link}
use Rattle.jk_model_classes.specs.declared.records.LinkedCode.{LinkedCode}
use Rattle.jk_model_classes.specs.declared.records.MethodRecord.{MethodRecord}
use Rattle.jk_model_classes.specs.Lookups.{MethodIs}
use Rattle.jk_model_typing.specs.Scopes.{CodeScope, IsScopeOf, LeadsToLink}
use Rattle.class_lemmas.proofs.CodeOfMethods.{same_code}
use Rattle.class_lemmas.proofs.OneRecord.{one_method}

pub one-scope : (classes : List ClassRecord) (m : MemberId) (s t : CodeScope) → IsScopeOf classes m s → IsScopeOf classes m t → s ≡ t
one-scope classes m s t a b =
    let all : s.classes ≡ t.classes = a.all ∙ sym b.all in
    let self : s.self ≡ t.self = a.self ∙ sym b.self in
    let class : a.class ≡ b.class = same_Some a.class b.class (sym a.class_is ∙ b.class_is) in
    let links : s.links ≡ t.links = a.links ∙ ap (λ (c : ClassRecord). c.links) class ∙ sym b.links in
    let method : s.method ≡ t.method =
    one_method classes m s.method t.method (a.class, a.class_is, a.method) (b.class, b.class_is, b.method) in
    let code : s.code ≡ t.code = same_code s.code t.code (sym a.body ∙ ap (λ (r : MethodRecord). r.body) method ∙ b.body) in
    λ j. record { classes = all j; self = self j; links = links j; method = method j; code = code j }

pub one_link : (s : CodeScope) (i : Instr) (a b : Link) → LeadsToLink s i a → LeadsToLink s i b → a ≡ b
one_link s i a b h k =
    let same = same_pos h.0 k.0 (sym h.1 ∙ k.1) in
    same_Some a b (sym h.2 ∙ subst (λ (n : ℕ). slice_get s.links n ≡ Some b) (sym same) k.2)

abbrev pub scope : List ClassRecord → ClassId → List Link → MethodRecord → LinkedCode → CodeScope
scope classes self links method code = record { classes = classes; self = self; links = links; method = method; code = code }

-- the method of a class with code has a scope
pub scope_of : (classes : List ClassRecord) (m : MemberId) (method : MethodRecord) (code : LinkedCode) (h : MethodIs classes m method)
    → method.body ≡ Does.Linked code → IsScopeOf classes m (scope classes m.class h.0.links method code)
scope_of classes m method code h body = record {
  all = refl;
  self = refl;
  class = h.0;
  class_is = h.1;
  links = refl;
  method = h.2;
  body = body;
}
