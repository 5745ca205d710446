-- Each constant is pushed as its row says.
use Rattle.std.proofs.Common.{◌≡◌, ℕ, ℤ, List, Option, [], ◌∷◌, Some, slice_get, rules, refl, sym, ap, subst, ◌∙◌, inl, inr}
use Rattle.std.proofs.lemmas.Option.{same_Some}
use Rattle.std.specs.Int.{cast_signed, cast_unsigned, w32, w64}
use Rattle.jk_model.specs.declared.identifiers.MemberId.{MemberId}
use Rattle.jk_model.specs.declared.instructions.Instr.{Instr}
use Rattle.jk_model.specs.declared.values.Value.{Value}
use Rattle.jk_model.specs.declared.values.Value.TheVariants as Held
use Rattle.jk_model_classes.specs.declared.records.ClassRecord.{ClassRecord}
use Rattle.jk_model_classes.specs.declared.records.Link.{Link}
use Rattle.jk_model_classes.specs.declared.records.Link.TheVariants as To
use Rattle.jk_model_domains.specs.NumberRows.{Pushes}
use Rattle.jk_model_typing.specs.Scopes.{CodeScope, IsScopeOf, LeadsToLink}
use Rattle.typing_lemmas.proofs.OneScope.{one-scope}
use Rattle.number_ops.specs.Operands.{HasConstant, IsLinked}
use Rattle.number_laws.proofs.FrameParts.{same_index}
use Rattle.number_ops.proofs.constants.constant.Goals as goal

one_link : (scope : CodeScope) (i : Instr) (a b : Link) → LeadsToLink scope i a → LeadsToLink scope i b → a ≡ b
one_link scope i a b h k =
    let same = same_index i.a h.0 k.0 h.1 k.1 in
    same_Some a b (sym (subst (λ (n : ℕ). slice_get scope.links n ≡ Some a) same h.2) ∙ k.2)

int_linked : (scope : CodeScope) (i : Instr) (v : Value) (n : ℤ) → LeadsToLink scope i (To.Int n) → IsLinked scope i v → v ≡ Held.Int n
int_linked scope i (Held.Int k) n h is = let same = one_link scope i (To.Int k) (To.Int n) is h in cc
int_linked scope i (Held.Long k) n h is = let same = one_link scope i (To.Long k) (To.Int n) is h in absurd cc
int_linked scope i Held.Null n h is = absurd is
int_linked scope i (Held.Obj a) n h is = absurd is
int_linked scope i (Held.Cap c) n h is = absurd is
int_linked scope i Held.Unset n h is = absurd is

long_linked : (scope : CodeScope) (i : Instr) (v : Value) (n : ℤ) → LeadsToLink scope i (To.Long n) → IsLinked scope i v → v ≡ Held.Long n
long_linked scope i (Held.Long k) n h is = let same = one_link scope i (To.Long k) (To.Long n) is h in cc
long_linked scope i (Held.Int k) n h is = let same = one_link scope i (To.Int k) (To.Long n) is h in absurd cc
long_linked scope i Held.Null n h is = absurd is
long_linked scope i (Held.Obj a) n h is = absurd is
long_linked scope i (Held.Cap c) n h is = absurd is
long_linked scope i Held.Unset n h is = absurd is

-- the scope that a constant is known in is any scope of the method
in_scope : (P : CodeScope → Type 0) (classes : List ClassRecord) (method : Option MemberId) (i : Instr) → (k : HasConstant classes method i)
    → P k.scope → (m : MemberId) (scope : CodeScope) → method ≡ Some m → IsScopeOf classes m scope → P scope
in_scope P classes method i k here m scope e is =
    let same : k.member ≡ m = same_Some k.member m (sym k.method_is ∙ e) in
    let there : IsScopeOf classes m k.scope = subst (λ (x : MemberId). IsScopeOf classes x k.scope) same k.scope_is in
    subst P (one-scope classes m k.scope scope there is) here

pub linked-requires : goal.linked-requires
linked-requires c =
    let k = c.requires.linked in
    (k.member, k.scope, k.method_is, k.scope_is, inl (k.int c.in-19.is))

pub linked-requires-in-20 : goal.linked-requires-in-20
linked-requires-in-20 c =
    let k = c.requires.linked in
    (k.member, k.scope, k.method_is, k.scope_is, inr (k.long c.in-20.is))

pub returns-in-1 : goal.returns-in-1
returns-in-1 c = λ m scope e is. inr (inl (c.in-1.is, refl))

pub returns-in-9 : goal.returns-in-9
returns-in-9 c = λ m scope e is.
    let round : cast_signed w64 (cast_unsigned w64 c.from.result) ≡ c.args.i.now.a = search rules in
    inr (inr (inr (inl (c.in-9.is, ap (λ (z : ℤ). Held.Long z ∷ []) round))))

pub returns-in-17 : goal.returns-in-17
returns-in-17 c = λ m scope e is.
    let round : cast_signed w32 (cast_unsigned w32 c.args.i.now.a) ≡ c.args.i.now.a = search rules in
    inr (inr (inl (c.in-17.is, ap (λ (z : ℤ). Held.Int z ∷ []) round)))

pub returns-in-19 : goal.returns-in-19
returns-in-19 c =
    let k = c.requires.linked in
    let n = k.int c.in-19.is in
    let value = int_linked k.scope c.args.i.now c.linked.result n.0 n.1 (c.linked.ensures k.member k.scope k.method_is k.scope_is) in
    in_scope (λ (scope : CodeScope). Pushes scope c.args.i.now (c.linked.result ∷ [])) _ _ _ k
    (inr (inr (inr (inr (inl (c.in-19.is, (n.0, n.1, ap (λ (v : Value). v ∷ []) value)))))))

pub returns-in-20 : goal.returns-in-20
returns-in-20 c =
    let k = c.requires.linked in
    let n = k.long c.in-20.is in
    let value = long_linked k.scope c.args.i.now c.linked-in-20.result n.0 n.1 (c.linked-in-20.ensures k.member k.scope k.method_is k.scope_is) in
    in_scope (λ (scope : CodeScope). Pushes scope c.args.i.now (c.linked-in-20.result ∷ [])) _ _ _ k
    (inr (inr (inr (inr (inr (c.in-20.is, (n.0, n.1, ap (λ (v : Value). v ∷ []) value)))))))
