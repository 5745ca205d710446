-- The code of the method that the frame runs is judged in one scope.
use Rattle.std.proofs.Common.{◌≡◌, List, Option, Some, None, sym, subst, ◌∙◌}
use Rattle.std.proofs.lemmas.Option.{same_Some}
use Rattle.jk_model.specs.declared.identifiers.MemberId.{MemberId}
use Rattle.jk_model_classes.specs.declared.records.ClassRecord.{ClassRecord}
use Rattle.jk_model_typing.specs.Scopes.{CodeScope, IsScopeOf}
use Rattle.typing_lemmas.proofs.OneScope.{one-scope}
use Rattle.number_ops.specs.Operands.{HasNumber, IsLinked}
use Rattle.number_ops.proofs.constants.linked.Goals as goal

same_scope : (classes there : List ClassRecord) (method : Option MemberId) (m k : MemberId) (s t : CodeScope) → method ≡ Some m
    → method ≡ Some k → there ≡ classes → IsScopeOf classes m s → IsScopeOf there k t → s ≡ t
same_scope classes there method m k s t em ek e a b =
    let same : k ≡ m = same_Some k m (sym ek ∙ em) in
    let on : IsScopeOf there m t = subst (λ (x : MemberId). IsScopeOf there x t) same b in
    one-scope classes m s t a (subst (λ (x : List ClassRecord). IsScopeOf x m t) e on)

moved : (classes there : List ClassRecord) (method : Option MemberId) (m k : MemberId) (s : CodeScope) → method ≡ Some m → method ≡ Some k
    → there ≡ classes → IsScopeOf classes m s → IsScopeOf there k s
moved classes there method m k s em ek e a =
    let same : m ≡ k = same_Some m k (sym em ∙ ek) in
    subst (λ (x : MemberId). IsScopeOf there x s) same (subst (λ (x : List ClassRecord). IsScopeOf x m s) (sym e) a)

pub number_in-requires : goal.number_in-requires
number_in-requires c =
    subst (λ (x : CodeScope). HasNumber x c.args.i.now)
    (same_scope _ _ _ _ _ _ _ c.requires.2 c.in-Some.is c.classes.ensures c.requires.3 c.in-Some-of.ensures.some) c.requires.4

pub unreachable-requires : goal.unreachable-requires
unreachable-requires c =
    c.in-None-of.ensures.none c.requires.1 (moved _ _ _ _ _ _ c.requires.2 c.in-Some.is c.classes.ensures c.requires.3)

pub unreachable-requires-in-None : goal.unreachable-requires-in-None
unreachable-requires-in-None c =
    let no : Some c.requires.0 ≡ None = sym c.requires.2 ∙ c.in-None.is in
    cc

pub returns : goal.returns
returns c = λ m scope e is.
    subst (λ (x : CodeScope). IsLinked x c.args.i.now c.number_in.result)
    (sym (same_scope _ _ _ _ _ _ _ e c.in-Some.is c.classes.ensures is c.in-Some-of.ensures.some)) c.number_in.ensures
