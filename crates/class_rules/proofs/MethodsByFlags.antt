-- What is asked of a method's attributes hangs on the one value of the flags that count.
use Rattle.std.proofs.Common.{◌≡◌, ℕ, ◌⊎◌, inl, inr, ◌↔◌, Bool, false, IsTrue, List, ◌++◌, Result, Ok, Err, Some, None, sym, ◌∙◌, ap, subst, append-nil}
use Rattle.std.specs.Prelude.{IfOk}
use Rattle.std.specs.Int.{w16}
use Rattle.jk_model.specs.declared.class_file.ClassFile.{ClassFile}
use Rattle.jk_model.specs.declared.class_file.PoolEntry.{PoolEntry}
use Rattle.jk_model.specs.declared.class_file.MemberInfo.{MemberInfo}
use Rattle.jk_model.specs.declared.class_file.Attribute.{Attribute}
use Rattle.jk_model.specs.ClassFile.{interfaces_bytes, AreInterfaces}
use Rattle.jk_model_classes.specs.MemberAttributes.{MissesCode, AreThrown}
use Rattle.byte_fields.proofs.OneListRead.{read_again, one_list}
use Rattle.byte_fields.specs.Reading.{number_at, counted_at}
use Rattle.class_rules.specs.Attributes.{CountFlags, IsCodeMissed, AreClasses, AreAllClasses, HasWrongExceptions, HasWrongCode, HasBadMethodAttributes}

-- ---- Flags.

pub one_value : (pool : List PoolEntry) (method : MemberInfo) (f g : ℕ) → CountFlags pool method f → CountFlags pool method g → f ≡ g
one_value pool method f g (inl (t, e)) (inl (u, h)) = e ∙ sym h
one_value pool method f g (inl (t, e)) (inr (never, h)) = absurd (never t)
one_value pool method f g (inr (never, e)) (inl (u, h)) = absurd (never u)
one_value pool method f g (inr (never, e)) (inr (u, h)) = e ∙ sym h

pub missed : (c : ClassFile) (method : MemberInfo) (flags : ℕ) → CountFlags c.pool method flags → IsCodeMissed c.pool flags method.attributes
    → MissesCode c method
missed c method flags counted h = (flags, counted, h)

its_missed : (c : ClassFile) (method : MemberInfo) (flags : ℕ) → CountFlags c.pool method flags → MissesCode c method
    → IsCodeMissed c.pool flags method.attributes
its_missed c method flags counted (other, again, h) =
    subst (λ (n : ℕ). IsCodeMissed c.pool n method.attributes) (one_value c.pool method other flags again counted) h

-- ---- A method.

all_wrong : (c : ClassFile) (method : MemberInfo) (flags : ℕ) → CountFlags c.pool method flags
    → (HasWrongCode c.pool flags method.attributes ⊎ HasWrongExceptions c.pool method.attributes) → HasBadMethodAttributes c method
all_wrong c method flags counted (inl (inl h)) = inl h
all_wrong c method flags counted (inl (inr (inl h))) = inr (inl (missed c method flags counted h))
all_wrong c method flags counted (inl (inr (inr h))) = inr (inr (inl h))
all_wrong c method flags counted (inr h) = inr (inr (inr h))

some_wrong : (c : ClassFile) (method : MemberInfo) (flags : ℕ) → CountFlags c.pool method flags → HasBadMethodAttributes c method
    → HasWrongCode c.pool flags method.attributes ⊎ HasWrongExceptions c.pool method.attributes
some_wrong c method flags counted (inl h) = inl (inl h)
some_wrong c method flags counted (inr (inl h)) = inl (inr (inl (its_missed c method flags counted h)))
some_wrong c method flags counted (inr (inr (inl h))) = inl (inr (inr h))
some_wrong c method flags counted (inr (inr (inr h))) = inr h

pub method_answer : {E : Type 0} (c : ClassFile) (method : MemberInfo) (pool : List PoolEntry) (attributes : List Attribute) (flags : ℕ) (r : Result Bool E)
    → pool ≡ c.pool → attributes ≡ method.attributes → CountFlags pool method flags
    → IfOk r (λ b. IsTrue b ↔ (HasWrongCode pool flags attributes ⊎ HasWrongExceptions pool attributes))
    → IfOk r (λ b. IsTrue b ↔ HasBadMethodAttributes c method)
method_answer c method pool attributes flags (Ok b) e f counted (to, from) =
    let there : CountFlags c.pool method flags = subst (λ (p : List PoolEntry). CountFlags p method flags) e counted in
    let Wrong : List PoolEntry → List Attribute → Type 0 = λ p xs. HasWrongCode p flags xs ⊎ HasWrongExceptions p xs in (
      λ t. all_wrong c method flags there (subst (Wrong c.pool) f (subst (λ (p : List PoolEntry). Wrong p attributes) e (to t))),
      λ h. from (subst (λ (p : List PoolEntry). Wrong p attributes) (sym e) (subst (Wrong c.pool) (sym f) (some_wrong c method flags there h))),
    )
method_answer c method pool attributes flags (Err e) same also counted h = tt

-- ---- Exceptions.

pub none_thrown : (pool : List PoolEntry) (body : List ℕ) → counted_at (number_at w16) body ≡ None → IsTrue false ↔ AreThrown pool body
none_thrown pool body none = (λ t. absurd cc, λ (indices, fits, e, all). absurd (let again = read_again body indices fits e in cc))

pub thrown_answer : (r : Bool) (pool : List PoolEntry) (body indices listed rest : List ℕ) → counted_at (number_at w16) body ≡ Some (indices, rest)
    → body ≡ interfaces_bytes indices ++ rest → AreInterfaces indices → listed ≡ indices → (IsTrue r ↔ AreAllClasses pool listed rest)
    → IsTrue r ↔ AreThrown pool body
thrown_answer r pool body indices listed rest read e fits same (to, from) = (
  λ t. let (none, all) = to t in (
    indices,
    fits,
    e ∙ ap (λ (w : List ℕ). interfaces_bytes indices ++ w) none ∙ append-nil (interfaces_bytes indices),
    subst (AreClasses pool) same all,
  ),
  λ (others, these, f, all).
      let one = one_list body indices others rest read these f in
      from (one.1, subst (AreClasses pool) (sym (same ∙ one.0)) all),
)

-- ---- Two tests, one after the other.

pub or_else_answer : {E : Type 0} (A B : Type 0) (r : Result Bool E) → (A → ⊥) → IfOk r (λ b. IsTrue b ↔ B) → IfOk r (λ b. IsTrue b ↔ (A ⊎ B))
or_else_answer A B (Ok b) never (to, from) = (λ t. inr (to t), λ h. elim h [ inl a ↦ absurd (never a) | inr other ↦ from other ])
or_else_answer A B (Err e) never h = tt
